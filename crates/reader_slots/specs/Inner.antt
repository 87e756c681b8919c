-- Words for the contracts of the inner functions: their tests and the form of their calls, over the lent lists. No contract of a C
-- function cites them. Assumes nothing.
use Rattle.std.specs.Prelude.{◌≡◌, Bool, not, ◌&&◌, ◌||◌, List, [], ◌∷◌, ℕ, suc, ◌+◌, ◌-◌, ◌/◌, ◌<◌, ◌≤◌, max, eqb, ltb, length, get_or, fold}
use Rattle.wal_types.specs.declared.SharedWalOwnershipMode.{SharedWalOwnershipMode}
use Rattle.wal_types.specs.Settings.{slots_in_limits, unused}
use Rattle.wal_types.specs.Memory.{Memory, Process, bit_at, slot_bit}
use Rattle.wal_types.specs.Store.{Piece, apply, when}
use Rattle.wal_types.specs.Call.{Call, Answer}
use Rattle.wal_types.specs.Refusal.{Test, ◌if◌, lowest}
use Rattle.wal_types.specs.declared.refusal.Refusal.TheVariants.{Settings, ShortMemory, NoOwner, UnusedMark, Card}
use Rattle.reader_slots.specs.declared.slots.SharedSlots.{SharedSlots}
use Rattle.reader_slots.specs.Slots.{shorter, is_bad_card, granted, empty_slot, slots_in, locals_in, ReaderCall}

-- each list has n cells, and so has a cell for each of n slots
abbrev pub AllHold : ℕ → List (List ℕ) → Type 0
AllHold n [] = Unit {0}
AllHold n (l ∷ lists) = (n ≤ length l) × AllHold n lists

-- the bitmap has a bit for each of n slots, of which there are at most 256
abbrev pub HoldBits : ℕ → List ℕ → Type 0
HoldBits n b = (n ≤ 256) × ((n + 63) / 64 ≤ length b)

-- the lent slots have the cells of n slots, at most 256, and so has each list
abbrev pub HoldSlots : ℕ → SharedSlots → List (List ℕ) → Type 0
HoldSlots n s lists = (n ≤ 256) × ((n + 63) / 64 ≤ length s.bitmap.now) × AllHold n (s.reader_frames.now ∷ s.reader_owners.now ∷ lists)

-- the lent slots have slot i's cells, and so has each list
abbrev pub HoldSlot : ℕ → SharedSlots → List (List ℕ) → Type 0
HoldSlot i s lists = (i / 64 < length s.bitmap.now) × AllHold (suc i) (s.reader_frames.now ∷ s.reader_owners.now ∷ lists)

-- the memory with the lent slots in it
abbrev pub lent_in : Memory → SharedSlots → Memory
lent_in z s = slots_in z s.bitmap.now s.reader_frames.now s.reader_owners.now

-- The same lists are lent, with as many cells, whatever is in them.
pub record SameSlots (s s' : SharedSlots) : Type 0 where
  pub bitmap_same : s'.bitmap.ghost_name ≡ s.bitmap.ghost_name
  pub frames_same : s'.reader_frames.ghost_name ≡ s.reader_frames.ghost_name
  pub owners_same : s'.reader_owners.ghost_name ≡ s.reader_owners.ghost_name
  pub words_kept : length s'.bitmap.now ≡ length s.bitmap.now
  pub frames_kept : length s'.reader_frames.now ≡ length s.reader_frames.now
  pub owners_kept : length s'.reader_owners.now ≡ length s.reader_owners.now

-- The lent slots become what these stores make of them, whatever memory they are in.
abbrev pub SlotsStored : Piece → SharedSlots → SharedSlots → Type 0
SlotsStored piece s s' = SameSlots s s' × ((z : Memory) → lent_in z s' ≡ apply (piece (lent_in z s)) (lent_in z s))

-- So they do for any process with the local owners l.
abbrev pub SlotsBecome : (Memory → Process → Memory) → SharedSlots → List ℕ → SharedSlots → Type 0
SlotsBecome to s l s' = SameSlots s s' × ((z : Memory) (p : Process) → lent_in z s' ≡ to (lent_in z s) (locals_in p l))

-- On any memory with the lent slots in it, by any process with the local owners l, the call answers a, leaves the slots as
-- they are in s' and the local owners l', and changes nothing else.
abbrev pub LentCall : Call → SharedSlots → List ℕ → Answer → SharedSlots → List ℕ → Type 0
LentCall call s l a s' l' =
    SameSlots s s' × ReaderCall call s.bitmap.now s.reader_frames.now s.reader_owners.now l a s'.bitmap.now s'.reader_frames.now s'.reader_owners.now l'

-- one of the lent lists is shorter than n slots need
abbrev pub short : ℕ → SharedSlots → List ℕ → Bool
short n s l = shorter n (length s.bitmap.now) (length s.reader_frames.now) (length s.reader_owners.now) (length l)

-- the number of refusal 1 or 2, 0 for neither, by the lengths of the lists
abbrev pub length_tests : ℕ → ℕ → ℕ → ℕ → ℕ → List Test
length_tests n words frames owners locals =
    (Settings if not (slots_in_limits n)) ∷ (ShortMemory if shorter n words frames owners locals) ∷ []

unfoldable pub length_refusal : ℕ → ℕ → ℕ → ℕ → ℕ → ℕ
length_refusal n words frames owners locals = lowest (length_tests n words frames owners locals)

-- the same where the registry is lent too
abbrev pub registry_length_tests : ℕ → ℕ → ℕ → ℕ → ℕ → ℕ → List Test
registry_length_tests n words frames owners locals records =
    (Settings if not (slots_in_limits n)) ∷ (ShortMemory if (shorter n words frames owners locals || ltb records n)) ∷ []

unfoldable pub registry_length_refusal : ℕ → ℕ → ℕ → ℕ → ℕ → ℕ → ℕ
registry_length_refusal n words frames owners locals records = lowest (registry_length_tests n words frames owners locals records)

-- the number of refusal 1 or 2 of lent slots, 0 for neither
abbrev pub slots_tests : ℕ → SharedSlots → List ℕ → List Test
slots_tests n s l = (Settings if not (slots_in_limits n)) ∷ (ShortMemory if short n s l) ∷ []

unfoldable pub slots_refusal : ℕ → SharedSlots → List ℕ → ℕ
slots_refusal n s l = lowest (slots_tests n s l)

-- the same where the registry is lent too
abbrev pub registry_tests : ℕ → SharedSlots → List ℕ → ℕ → List Test
registry_tests n s l records =
    (Settings if not (slots_in_limits n)) ∷ (ShortMemory if (short n s l || ltb records n)) ∷ []

unfoldable pub registry_refusal : ℕ → SharedSlots → List ℕ → ℕ → ℕ
registry_refusal n s l records = lowest (registry_tests n s l records)

-- the number of refusal 9 or 10, 0 for neither
abbrev pub reader_tests : ℕ → ℕ → List Test
reader_tests owner mark = (NoOwner if eqb owner 0) ∷ (UnusedMark if eqb mark unused) ∷ []

unfoldable pub reader_refusal : ℕ → ℕ → ℕ
reader_refusal owner mark = lowest (reader_tests owner mark)

-- the number of refusal 14, 0 where it does not apply
abbrev pub card_tests : ℕ → List ℕ → List Test
card_tests n bytes = (Card if is_bad_card n bytes) ∷ []

unfoldable pub card_refusal : ℕ → List ℕ → ℕ
card_refusal n bytes = lowest (card_tests n bytes)

-- the greatest byte of the card, 0 if it has none
unfoldable pub greatest : List ℕ → ℕ
greatest bytes = fold max 0 bytes

-- the memory with slot i emptied, if the test says so
abbrev pub emptied_if : SharedWalOwnershipMode → Bool → ℕ → Memory → Memory
emptied_if mode test i m = apply (when test (empty_slot mode i) m) m

-- a slot that can be taken, by the bitmap and the local owners alone; and by one word of the bitmap, whose first slot is given
abbrev pub available_by : List ℕ → List ℕ → List ℕ → ℕ → Bool
available_by words locals bytes i = not (not (eqb (get_or locals i 0) 0)) && eqb (slot_bit words i) 1 && granted bytes i

abbrev pub available_in : ℕ → ℕ → List ℕ → List ℕ → ℕ → Bool
available_in word first locals bytes i = not (not (eqb (get_or locals i 0) 0)) && eqb (bit_at word (i - first)) 1 && granted bytes i
