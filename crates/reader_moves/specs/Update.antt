-- update_reader (a move) and unregister_reader (a release). Assumes nothing.
use Rattle.std.specs.Prelude.{◌≡◌, ⊤, Result, Ok, Err, Bool, not, ◌&&◌, ◌||◌, List, [], ◌∷◌, ℕ, eqb, leb, ltb, length, get_or}
use Rattle.wal_types.specs.declared.SharedWalOwnershipMode.{SharedWalOwnershipMode}
use Rattle.wal_types.specs.Settings.{slots_in_limits, unused, is_fcntl}
use Rattle.wal_types.specs.Memory.{Memory, Process, to_reader_frame}
use Rattle.wal_types.specs.Store.{one}
use Rattle.wal_types.specs.declared.refusal.Refusal.{Refusal}
use Rattle.wal_types.specs.Refusal.{Test, ◌if◌, number}
use Rattle.wal_types.specs.declared.refusal.Refusal.TheVariants.{Settings, ShortMemory, SlotNumber, NotHeld, OtherOwner, NoOwner, UnusedMark, SharedSlot}
use Rattle.wal_types.specs.Call.{Call, Carried, Answer, refused, slot_taken, ok, does, unless, after, done}
use Rattle.reader_slots.specs.Slots.{short_slots, is_in_registry, held, with_local, empty_slot, slots_in, locals_in}

-- the owner given is not the slot's shared owner
abbrev pub not_shared_owner : ℕ → ℕ → Memory → Bool
not_shared_owner slot owner m = not (eqb owner (get_or m.reader_owners slot 0))

-- A move is lent slot frames, slot owners and the registry. It needs no hold here, and compares the shared owner only.
abbrev pub update_tests : ℕ → ℕ → ℕ → ℕ → Memory → Process → List Test
update_tests n slot owner mark m p =
    (Settings if not (slots_in_limits n))
    ∷ (ShortMemory if (ltb (length m.reader_frames) n || ltb (length m.reader_owners) n || ltb (length p.registry) n))
    ∷ (SlotNumber if leb n slot)
    ∷ (OtherOwner if not_shared_owner slot owner m)
    ∷ (NoOwner if eqb owner 0)
    ∷ (UnusedMark if eqb mark unused)
    ∷ (SharedSlot if is_in_registry n p.registry slot)
    ∷ []

unfoldable pub update_reader : ℕ → ℕ → ℕ → ℕ → Call
update_reader n slot owner mark =
    unless (update_tests n slot owner mark) (does (slot_taken slot owner mark) (one (to_reader_frame slot mark)))

-- the owner given is not the shared owner, or in Fcntl not the local one
abbrev pub not_owner : SharedWalOwnershipMode → ℕ → ℕ → Memory → Process → Bool
not_owner mode slot owner m p =
    not_shared_owner slot owner m || (is_fcntl mode && not (eqb owner (get_or p.local_readers slot 0)))

abbrev pub release_tests : ℕ → SharedWalOwnershipMode → ℕ → ℕ → Memory → Process → List Test
release_tests n mode slot owner m p =
    (Settings if not (slots_in_limits n))
    ∷ (ShortMemory if (short_slots n m p || ltb (length p.registry) n))
    ∷ (SlotNumber if leb n slot)
    ∷ (NotHeld if not (held p slot))
    ∷ (OtherOwner if not_owner mode slot owner m p)
    ∷ (NoOwner if eqb owner 0)
    ∷ (SharedSlot if is_in_registry n p.registry slot)
    ∷ []

-- The slot is emptied, and no longer held here.
abbrev pub releases_slot : SharedWalOwnershipMode → ℕ → Call
releases_slot mode slot m p = record { answer = ok; stores = empty_slot mode slot m; process = with_local p slot 0 }

unfoldable pub unregister_reader : ℕ → SharedWalOwnershipMode → ℕ → ℕ → Call
unregister_reader n mode slot owner = unless (release_tests n mode slot owner) (releases_slot mode slot)

-- what the answers tell
abbrev pub update_answer : ℕ → ℕ → ℕ → Result ⊤ Refusal → Answer
update_answer slot owner mark (Ok x) = slot_taken slot owner mark
update_answer slot owner mark (Err r) = refused (number r)

abbrev pub release_answer : Result ⊤ Refusal → Answer
release_answer (Ok x) = ok
release_answer (Err r) = refused (number r)

-- A call by any process whose registry has so many records, with the slot in it or not. A move is on any memory with the
-- slot frames f and the slot owners o in it: it answers a, leaves the slot frames f', and changes nothing else.
abbrev pub MoveCarried : ℕ → ℕ → Bool → ℕ → Carried → List ℕ → List ℕ → Answer → List ℕ → Type 0
MoveCarried n slot shared records carried f o a f' =
    (z : Memory) (p : Process) → is_in_registry n p.registry slot ≡ shared → length p.registry ≡ records →
    carried (slots_in z z.bitmap f o) p ≡ done a (slots_in z z.bitmap f' o) p

abbrev pub MoveCall : ℕ → ℕ → Bool → ℕ → Call → List ℕ → List ℕ → Answer → List ℕ → Type 0
MoveCall n slot shared records call = MoveCarried n slot shared records (after call)

-- A release is on any memory with the lists b, f and o in it, by a process with the local owners l: it answers a, leaves
-- the lists b', f', o' and l', and changes nothing else.
abbrev pub ReleaseCarried : ℕ → ℕ → Bool → ℕ → Carried → List ℕ → List ℕ → List ℕ → List ℕ → Answer → List ℕ → List ℕ → List ℕ → List ℕ → Type 0
ReleaseCarried n slot shared records carried b f o l a b' f' o' l' =
    (z : Memory) (p : Process) → is_in_registry n p.registry slot ≡ shared → length p.registry ≡ records →
    carried (slots_in z b f o) (locals_in p l) ≡ done a (slots_in z b' f' o') (locals_in p l')

abbrev pub ReleaseCall : ℕ → ℕ → Bool → ℕ → Call → List ℕ → List ℕ → List ℕ → List ℕ → Answer → List ℕ → List ℕ → List ℕ → List ℕ → Type 0
ReleaseCall n slot shared records call = ReleaseCarried n slot shared records (after call)
