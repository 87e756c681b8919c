-- Words for the contracts of the inner functions: their tests and the form of their calls, over the lent lists. No contract of a C
-- function cites them. Assumes nothing.
use Rattle.std.specs.Prelude.{◌≡◌, Option, Some, None, Result, Ok, Err, Bool, true, false, not, ◌&&◌, ◌||◌, cond, List, [], ◌∷◌, ◌++◌, ℕ, ◌<◌, ◌^◌, min, eqb, leb, length}
use Rattle.wal_types.specs.declared.SharedReadMark.{SharedReadMark}
use Rattle.wal_types.specs.declared.SharedWalOwnershipMode.{SharedWalOwnershipMode}
use Rattle.wal_types.specs.Settings.{most_holders, is_fcntl}
use Rattle.wal_types.specs.declared.refusal.Refusal.{Refusal}
use Rattle.wal_types.specs.Refusal.{Test, ◌if◌, lowest, number, refused_number}
use Rattle.wal_types.specs.declared.refusal.Refusal.TheVariants.{NotHeld, OtherOwner, NoSuchMark, RegistryFull}
use Rattle.wal_types.specs.Call.{Call, Carried, Answer, after}
use Rattle.wal_types.specs.declared.settings.Reader.{Reader}
use Rattle.reader_slots.specs.declared.slots.SharedSlots.{SharedSlots}
use Rattle.reader_slots.specs.Inner.{SameSlots, registry_length_tests, registry_tests, reader_tests}
use Rattle.reader_marks.specs.declared.SharedSlot.{SharedSlot}
use Rattle.reader_marks.specs.declared.MarkInRegistry.{MarkInRegistry}
use Rattle.reader_marks.specs.InnerChange.{retained, published, released}
use Rattle.reader_marks.specs.InnerScan.{seen_of}
use Rattle.reader_shared.specs.declared.shared.RecordChange.{RecordChange}
use Rattle.reader_shared.specs.declared.shared.RecordChange.TheVariants.{Retained, Published}
use Rattle.reader_shared.specs.declared.shared.Release.{Release}
use Rattle.reader_shared.specs.declared.shared.Release.TheVariants.{Unregistered, Shared, Last}
use Rattle.reader_shared.specs.declared.shared.SharePlan.{SharePlan}
use Rattle.reader_shared.specs.Shared.{SharedCarried}

-- the plan for a mark whose record is found, and for a new one
abbrev pub shares_joined : ℕ → SharedReadMark → ℕ → SharePlan
shares_joined place item mark =
    record { taken = record { slot = item.slot; reader = record { owner = item.owner; mark = mark } }; change = Retained place }

abbrev pub shares_published : ℕ → ℕ → Reader → SharePlan
shares_published free slot reader = record { taken = record { slot = slot; reader = reader }; change = Published free }

-- the slot that register_checked has answered is a 32-bit number
abbrev pub SlotFits : Option ℕ → Type 0
SlotFits registered = (slot : ℕ) → registered ≡ Some slot → slot < 2 ^ 32

-- what a plan makes of the registry, and what a registration and a release do: one that takes no slot, or is refused, leaves it
-- as it is
abbrev pub changed : RecordChange → SharedSlot → List SharedReadMark → List SharedReadMark
changed (Retained i) taken registry = retained i registry
changed (Published i) taken registry = published i taken registry

abbrev pub share_change : Result (Option SharePlan) Refusal → List SharedReadMark → List SharedReadMark
share_change (Ok (Some plan)) registry = changed plan.change plan.taken registry
share_change (Ok None) registry = registry
share_change (Err r) registry = registry

abbrev pub unshare_change : Result ℕ Refusal → List SharedReadMark → List SharedReadMark
unshare_change (Ok place) registry = released place registry
unshare_change (Err r) registry = registry

-- the number of refusal 13 of a mark that has this record, 0 where it does not apply
abbrev pub room_refusal : SharedReadMark → ℕ
room_refusal item = lowest ((RegistryFull if leb most_holders item.holders) ∷ [])

-- the number of refusal 13 of a mark that has this record, else that of the card's refusal, 0 for neither
abbrev pub joined_refusal : SharedReadMark → Result Unit Refusal → ℕ
joined_refusal item card = cond (leb most_holders item.holders) (number RegistryFull) (refused_number card)

-- the number of refusal 1, 2, 9 or 10, 0 for none of them, by the lengths of the lists
unfoldable pub share_length_refusal : ℕ → ℕ → ℕ → ℕ → ℕ → ℕ → Reader → ℕ
share_length_refusal n words frames owners locals records reader =
    lowest (registry_length_tests n words frames owners locals records ++ reader_tests reader.owner.0 reader.mark)

-- the same of lent slots
abbrev pub four_tests : ℕ → SharedSlots → List ℕ → ℕ → Reader → List Test
four_tests n s l records reader = registry_tests n s l records ++ reader_tests reader.owner.0 reader.mark

unfoldable pub share_refusal : ℕ → SharedSlots → List ℕ → ℕ → Reader → ℕ
share_refusal n s l records reader = lowest (four_tests n s l records reader)

-- a release, by whether its slot and owner are the record's and whether one holder is left
abbrev pub release_by : Bool → Bool → Release
release_by false last = Unregistered
release_by true false = Shared
release_by true true = Last

abbrev pub release_of : SharedReadMark → ℕ → ℕ → Release
release_of item slot owner = release_by (eqb item.slot slot && eqb item.owner.0 owner) (eqb item.holders 1)

-- it is registered; it frees the slot
abbrev pub is_known : Release → Bool
is_known Unregistered = false
is_known Shared = true
is_known Last = true

abbrev pub frees : Release → Bool
frees Unregistered = false
frees Shared = false
frees Last = true

-- the number of refusal 7 or 8 of a release that frees the slot, by the slot's shared and local owners; 0 for neither
abbrev pub last_tests : SharedWalOwnershipMode → Bool → ℕ → ℕ → ℕ → List Test
last_tests mode frees_slot owner shared local =
    (NotHeld if (frees_slot && not (not (eqb local 0))))
    ∷ (OtherOwner if (frees_slot && (not (eqb owner shared) || (is_fcntl mode && not (eqb owner local)))))
    ∷ []

unfoldable pub last_refusal : SharedWalOwnershipMode → Bool → ℕ → ℕ → ℕ → ℕ
last_refusal mode frees_slot owner shared local = lowest (last_tests mode frees_slot owner shared local)

-- the number of refusal 9, 10 or 12, 0 for none of them; and of these and 7 and 8
abbrev pub mark_tests : ℕ → ℕ → Bool → List Test
mark_tests owner mark known = reader_tests owner mark ++ ((NoSuchMark if not known) ∷ [])

unfoldable pub mark_refusal : ℕ → ℕ → Bool → ℕ
mark_refusal owner mark known = lowest (mark_tests owner mark known)

unfoldable pub unshare_refusal : SharedWalOwnershipMode → Bool → Bool → ℕ → ℕ → ℕ → ℕ → ℕ
unshare_refusal mode known frees_slot owner mark shared local =
    lowest (last_tests mode frees_slot owner shared local ++ mark_tests owner mark known)

-- On any memory with the lent slots in it, by any process with the local owners l and a registry as told, it answers a, leaves the
-- slots as they are in s' and the local owners l', makes this change to the registry, and changes nothing else.
unfoldable pub PlanCarried : ℕ → ℕ → MarkInRegistry → Carried → SharedSlots → List ℕ → Answer → SharedSlots → List ℕ → (List SharedReadMark → List SharedReadMark) → Type 0
PlanCarried n mark told carried s l a s' l' change =
    (r : List SharedReadMark) → told.seen ≡ seen_of (min n (length r)) r mark → told.records ≡ length r →
    SharedCarried carried s.bitmap.now s.reader_frames.now s.reader_owners.now l r a s'.bitmap.now s'.reader_frames.now s'.reader_owners.now l' (change r)

abbrev pub PlanCall : ℕ → ℕ → MarkInRegistry → Call → SharedSlots → List ℕ → Answer → SharedSlots → List ℕ → (List SharedReadMark → List SharedReadMark) → Type 0
PlanCall n mark told call s l a s' l' change = SameSlots s s' × PlanCarried n mark told (after call) s l a s' l' change
