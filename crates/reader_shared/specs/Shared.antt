-- register_reader_for_snapshot, register_db_file_reader and unregister_reader_for_snapshot (document 01, "Readers"). Assumes nothing.
use Rattle.std.specs.Prelude.{◌≡◌, Option, Some, None, is_some, is_none, Result, Ok, Err, Bool, false, not, ◌&&◌, ◌||◌, cond, List, [], ◌∷◌, ℕ, eqb, leb, ltb, length, get_or}
use Rattle.wal_types.specs.declared.SharedReadMark.{SharedReadMark}
use Rattle.wal_types.specs.declared.SharedWalOwnershipMode.{SharedWalOwnershipMode}
use Rattle.wal_types.specs.Settings.{slots_in_limits, unused, most_holders}
use Rattle.wal_types.specs.Memory.{Memory, Process, with_local_readers, with_registry, no_mark}
use Rattle.wal_types.specs.declared.refusal.Refusal.{Refusal}
use Rattle.wal_types.specs.Refusal.{Test, ◌if◌, number}
use Rattle.wal_types.specs.declared.refusal.Refusal.TheVariants.{Settings, ShortMemory, SlotNumber, NotHeld, OtherOwner, NoOwner, UnusedMark, NoSuchMark, RegistryFull, Card}
use Rattle.wal_types.specs.Call.{Call, Carried, Answer, refused, slot_taken, none, ok, unless, after, done}
use Rattle.reader_slots.specs.Slots.{short_slots, is_bad_card, held, slots_in}
use Rattle.reader_register.specs.Register.{chosen_slot, registers}
use Rattle.reader_moves.specs.Update.{not_owner, releases_slot}
use Rattle.reader_shared.specs.declared.shared.SharePlan.{SharePlan}
use Rattle.reader_marks.specs.Registry.{record_of, empty_record, one_more, one_less, with_record}

-- Refusal 2 of the calls on the registry.
abbrev pub short_shared : ℕ → Memory → Process → Bool
short_shared n m p = short_slots n m p || ltb (length p.registry) n

-- Refusal 13: the mark's record has 65,535 holders already; or there is none, a slot could be taken and no record is empty.
abbrev pub no_room : ℕ → SharedWalOwnershipMode → List ℕ → Memory → Process → Option ℕ → Bool
no_room n mode bytes m p (Some i) = leb most_holders (get_or p.registry i no_mark).holders
no_room n mode bytes m p None =
    not (is_bad_card n bytes) && is_some (chosen_slot n mode bytes m p) && is_none (empty_record n p.registry)

abbrev pub share_tests : ℕ → SharedWalOwnershipMode → ℕ → ℕ → List ℕ → Memory → Process → List Test
share_tests n mode owner mark bytes m p =
    (Settings if not (slots_in_limits n))
    ∷ (ShortMemory if short_shared n m p)
    ∷ (NoOwner if eqb owner 0)
    ∷ (UnusedMark if eqb mark unused)
    ∷ (RegistryFull if no_room n mode bytes m p (record_of n p.registry mark))
    ∷ (Card if is_bad_card n bytes)
    ∷ []

-- the new record of a slot just taken, in the first empty place
abbrev pub new_record : ℕ → ℕ → Option ℕ → Option ℕ → Process → Process
new_record owner mark (Some s) (Some e) p = with_record p e (record { mark = mark; slot = s; owner = record { 0 = owner }; holders = 1 })
new_record owner mark (Some s) None p = p
new_record owner mark None place p = p

-- A mark already shared gives the first holder's slot and owner, with a holder more; the second owner is not stored. A new mark
-- registers a reader and takes the first empty record.
abbrev pub shares : ℕ → SharedWalOwnershipMode → ℕ → ℕ → List ℕ → Option ℕ → Call
shares n mode owner mark bytes (Some i) m p =
    record {
      answer = slot_taken (get_or p.registry i no_mark).slot (get_or p.registry i no_mark).owner.0 mark;
      stores = [];
      process = with_record p i (one_more (get_or p.registry i no_mark));
    }
shares n mode owner mark bytes None m p =
    record {
      answer = (registers n mode owner mark bytes m p).answer;
      stores = (registers n mode owner mark bytes m p).stores;
      process = new_record owner mark (chosen_slot n mode bytes m p) (empty_record n p.registry) (registers n mode owner mark bytes m p).process;
    }

unfoldable pub register_reader_for_snapshot : ℕ → SharedWalOwnershipMode → ℕ → ℕ → List ℕ → Call
register_reader_for_snapshot n mode owner mark bytes =
    unless (share_tests n mode owner mark bytes) (λ m p. shares n mode owner mark bytes (record_of n p.registry mark) m p)

-- A reader of the database file alone: a shared registration at mark 0.
abbrev pub register_db_file_reader : ℕ → SharedWalOwnershipMode → ℕ → List ℕ → Call
register_db_file_reader n mode owner bytes = register_reader_for_snapshot n mode owner 0 bytes

-- the mark's record has this slot and owner
abbrev pub registered : ℕ → ℕ → Process → Option ℕ → Bool
registered slot owner p (Some i) = eqb (get_or p.registry i no_mark).slot slot && eqb (get_or p.registry i no_mark).owner.0 owner
registered slot owner p None = false

-- one holder is left
abbrev pub last_holder : Process → Option ℕ → Bool
last_holder p (Some i) = eqb (get_or p.registry i no_mark).holders 1
last_holder p None = false

-- 7 and 8 are tested only where 12 does not apply and the record has one holder left.
abbrev pub unshare_tests : ℕ → SharedWalOwnershipMode → ℕ → ℕ → ℕ → Memory → Process → List Test
unshare_tests n mode mark slot owner m p =
    (Settings if not (slots_in_limits n))
    ∷ (ShortMemory if short_shared n m p)
    ∷ (SlotNumber if leb n slot)
    ∷ (NotHeld if (registered slot owner p (record_of n p.registry mark) && last_holder p (record_of n p.registry mark) && not (held p slot)))
    ∷ (OtherOwner if (registered slot owner p (record_of n p.registry mark) && last_holder p (record_of n p.registry mark) && not_owner mode slot owner m p))
    ∷ (NoOwner if eqb owner 0)
    ∷ (UnusedMark if eqb mark unused)
    ∷ (NoSuchMark if not (registered slot owner p (record_of n p.registry mark)))
    ∷ []

-- A holder less; the last one's release frees the slot too.
abbrev pub unshares : SharedWalOwnershipMode → ℕ → Option ℕ → Call
unshares mode slot (Some i) m p =
    cond (last_holder p (Some i))
    (releases_slot mode slot m (with_record p i (one_less (get_or p.registry i no_mark))))
    (record { answer = ok; stores = []; process = with_record p i (one_less (get_or p.registry i no_mark)) })
unshares mode slot None m p = record { answer = ok; stores = []; process = p }

unfoldable pub unregister_reader_for_snapshot : ℕ → SharedWalOwnershipMode → ℕ → ℕ → ℕ → Call
unregister_reader_for_snapshot n mode mark slot owner =
    unless (unshare_tests n mode mark slot owner) (λ m p. unshares mode slot (record_of n p.registry mark) m p)

-- what the answer of a shared registration tells, and that of a shared release
abbrev pub share_answer : Result (Option SharePlan) Refusal → Answer
share_answer (Ok (Some plan)) = slot_taken plan.taken.slot plan.taken.reader.owner.0 plan.taken.reader.mark
share_answer (Ok None) = none
share_answer (Err r) = refused (number r)

abbrev pub unshare_answer : Result ℕ Refusal → Answer
unshare_answer (Ok place) = ok
unshare_answer (Err r) = refused (number r)

-- the process with these local owners and this registry
abbrev pub registry_in : Process → List ℕ → List SharedReadMark → Process
registry_in p l r = with_registry (with_local_readers p l) r

-- On any memory with the lists b, f and o in it, by any process with the local owners l and the registry r, it answers a,
-- leaves the lists b', f', o' and l' and the registry r', and changes nothing else.
abbrev pub SharedCarried : Carried → List ℕ → List ℕ → List ℕ → List ℕ → List SharedReadMark → Answer → List ℕ → List ℕ → List ℕ → List ℕ → List SharedReadMark → Type 0
SharedCarried carried b f o l r a b' f' o' l' r' =
    (z : Memory) (p : Process) → carried (slots_in z b f o) (registry_in p l r) ≡ done a (slots_in z b' f' o') (registry_in p l' r')

abbrev pub SharedCall : Call → List ℕ → List ℕ → List ℕ → List ℕ → List SharedReadMark → Answer → List ℕ → List ℕ → List ℕ → List ℕ → List SharedReadMark → Type 0
SharedCall call = SharedCarried (after call)
