-- register_reader (document 01, "Register"). Assumes nothing.
use Rattle.std.specs.Prelude.{Option, Some, None, Result, Ok, Err, Bool, not, ◌&&◌, List, [], ◌∷◌, ℕ, eqb, get_or}
use Rattle.wal_types.specs.declared.SharedWalOwnershipMode.{SharedWalOwnershipMode}
use Rattle.wal_types.specs.Settings.{slots_in_limits, unused, is_fcntl}
use Rattle.std.specs.Option.{option_or}
use Rattle.wal_types.specs.Memory.{Memory, Process}
use Rattle.wal_types.specs.Store.{Piece, apply, ◌then◌}
use Rattle.wal_types.specs.declared.refusal.Refusal.{Refusal}
use Rattle.wal_types.specs.Refusal.{Test, ◌if◌, number}
use Rattle.wal_types.specs.declared.refusal.Refusal.TheVariants.{Settings, ShortMemory, NoOwner, UnusedMark, Card}
use Rattle.wal_types.specs.Call.{Call, Answer, refused, slot_taken, none, unless}
use Rattle.reader_slots.specs.Slots.{short_slots, is_bad_card, held, is_free, granted, with_local, take_slot, empty_slots}
use Rattle.reader_slots.specs.Search.{lowest_slot}

-- a slot that can be taken: not held here, its bit 1, and its card 1
abbrev pub available : List ℕ → Process → Memory → ℕ → Bool
available bytes p m i = not (held p i) && is_free m i && granted bytes i

-- a slot that is reclaimed: its bit 0, not held here, its card 1, and in Fcntl an owner
abbrev pub reclaimable : SharedWalOwnershipMode → List ℕ → Process → Memory → ℕ → Bool
reclaimable mode bytes p m i =
    not (is_free m i) && not (held p i) && granted bytes i && not (is_fcntl mode && eqb (get_or m.reader_owners i 0) 0)

-- every such slot is emptied
abbrev pub reclaim_all : ℕ → SharedWalOwnershipMode → List ℕ → Process → Piece
reclaim_all n mode bytes p = empty_slots mode (reclaimable mode bytes p) n 0

-- what is done with the slot found; none writes nothing
abbrev pub take_found : ℕ → ℕ → Option ℕ → Piece
take_found owner mark (Some i) = take_slot i owner mark
take_found owner mark None = λ m. []

abbrev pub slot_answer : ℕ → ℕ → Option ℕ → Answer
slot_answer owner mark (Some i) = slot_taken i owner mark
slot_answer owner mark None = none

abbrev pub hold_found : ℕ → Process → Option ℕ → Process
hold_found owner p (Some i) = with_local p i owner
hold_found owner p None = p

-- the first attempt, and the second on the memory after every stale slot is reclaimed
abbrev pub first_slot : ℕ → List ℕ → Memory → Process → Option ℕ
first_slot n bytes m p = lowest_slot (available bytes p m) n 0

abbrev pub second_slot : ℕ → SharedWalOwnershipMode → List ℕ → Memory → Process → Option ℕ
second_slot n mode bytes m p = first_slot n bytes (apply (reclaim_all n mode bytes p m) m) p

abbrev pub chosen_slot : ℕ → SharedWalOwnershipMode → List ℕ → Memory → Process → Option ℕ
chosen_slot n mode bytes m p = option_or (first_slot n bytes m p) (second_slot n mode bytes m p)

-- slots are reclaimed only if the first attempt finds none
abbrev pub reclaim_unless : ℕ → SharedWalOwnershipMode → List ℕ → Process → Option ℕ → Piece
reclaim_unless n mode bytes p (Some i) = λ m. []
reclaim_unless n mode bytes p None = reclaim_all n mode bytes p

abbrev pub registers : ℕ → SharedWalOwnershipMode → ℕ → ℕ → List ℕ → Call
registers n mode owner mark bytes m p =
    record {
      answer = slot_answer owner mark (chosen_slot n mode bytes m p);
      stores = (reclaim_unless n mode bytes p (first_slot n bytes m p) then take_found owner mark (chosen_slot n mode bytes m p)) m;
      process = hold_found owner p (chosen_slot n mode bytes m p);
    }

abbrev pub register_tests : ℕ → ℕ → ℕ → List ℕ → Memory → Process → List Test
register_tests n owner mark bytes m p =
    (Settings if not (slots_in_limits n))
    ∷ (ShortMemory if short_slots n m p)
    ∷ (NoOwner if eqb owner 0)
    ∷ (UnusedMark if eqb mark unused)
    ∷ (Card if is_bad_card n bytes)
    ∷ []

unfoldable pub register_reader : ℕ → SharedWalOwnershipMode → ℕ → ℕ → List ℕ → Call
register_reader n mode owner mark bytes = unless (register_tests n owner mark bytes) (registers n mode owner mark bytes)

-- what register_reader's answer tells
abbrev pub register_answer : ℕ → ℕ → Result (Option ℕ) Refusal → Answer
register_answer owner mark (Ok found) = slot_answer owner mark found
register_answer owner mark (Err r) = refused (number r)
