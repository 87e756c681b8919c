-- What all calls on reader slots share: their refusals, the tests of one slot, and the stores that take or free one. Assumes nothing.
use Rattle.std.specs.Prelude.{◌≡◌, Bool, false, not, ◌&&◌, ◌||◌, List, [], ◌∷◌, ℕ, zero, suc, ◌+◌, ◌/◌, ◌%◌, eqb, ltb, length, get_or, set}
use Rattle.wal_types.specs.declared.SharedReadMark.{SharedReadMark}
use Rattle.wal_types.specs.declared.SharedWalOwnershipMode.{SharedWalOwnershipMode}
use Rattle.wal_types.specs.declared.SharedWalOwnershipMode.TheVariants.{LinuxOfd, ProcessScopedFcntl}
use Rattle.wal_types.specs.Settings.{words_for, unused}
use Rattle.wal_types.specs.Memory.{Memory, Process, with_slots, with_local_readers, slot_bit, no_mark, to_bitmap, to_reader_frame, to_reader_owner}
use Rattle.wal_types.specs.Call.{Call, Carried, Answer, after, done}
use Rattle.wal_types.specs.Store.{Piece, one, when, ◌then◌}
use Rattle.word_bits.specs.Bit.{set_bit, clear_bit}

-- Refusal 2: fewer bitmap words, slot frames, slot owners or local owners than n slots have.
abbrev pub shorter : ℕ → ℕ → ℕ → ℕ → ℕ → Bool
shorter n words frames owners locals = ltb words (words_for n) || ltb frames n || ltb owners n || ltb locals n

abbrev pub short_slots : ℕ → Memory → Process → Bool
short_slots n m p = shorter n (length m.bitmap) (length m.reader_frames) (length m.reader_owners) (length p.local_readers)

-- some byte of the card is above 2
unfoldable pub byte_above : List ℕ → Bool
byte_above [] = false
byte_above (b ∷ rest) = ltb 2 b || byte_above rest

-- Refusal 14: the card's length is not n, or a byte is above 2.
abbrev pub is_bad_card : ℕ → List ℕ → Bool
is_bad_card n bytes = not (eqb (length bytes) n) || byte_above bytes

-- Refusal 11 looks for a record of the process's registry, among its first n, that is not empty and names the slot.
unfoldable pub is_in_registry : ℕ → List SharedReadMark → ℕ → Bool
is_in_registry zero registry slot = false
is_in_registry (suc n) registry slot =
    is_in_registry n registry slot
    || (not (eqb (get_or registry n no_mark).holders 0) && eqb (get_or registry n no_mark).slot slot)

-- slot i is held here
abbrev pub held : Process → ℕ → Bool
held p i = not (eqb (get_or p.local_readers i 0) 0)

-- slot i's bit is 1, free
abbrev pub is_free : Memory → ℕ → Bool
is_free m i = eqb (slot_bit m.bitmap i) 1

-- the card says 1, granted, for slot i; 2, error
abbrev pub granted : List ℕ → ℕ → Bool
granted bytes i = eqb (get_or bytes i 0) 1

abbrev pub failed : List ℕ → ℕ → Bool
failed bytes i = eqb (get_or bytes i 0) 2

-- the process with another local owner for slot i
abbrev pub with_local : Process → ℕ → ℕ → Process
with_local p i v = with_local_readers p (set p.local_readers i v)

-- Slot i's bit becomes 1, and 0.
abbrev pub free_bit : ℕ → Piece
free_bit i m = one (to_bitmap (i / 64) (set_bit (get_or m.bitmap (i / 64) 0) (i % 64))) m

abbrev pub take_bit : ℕ → Piece
take_bit i m = one (to_bitmap (i / 64) (clear_bit (get_or m.bitmap (i / 64) 0) (i % 64))) m

-- Slot i is taken for an owner at a mark.
abbrev pub take_slot : ℕ → ℕ → ℕ → Piece
take_slot i owner mark = take_bit i then one (to_reader_owner i owner) then one (to_reader_frame i mark)

-- Slot i is emptied, on release or when it is reclaimed: frame UNUSED, owner 0, bit 1, in the mode's order.
abbrev pub empty_slot : SharedWalOwnershipMode → ℕ → Piece
empty_slot LinuxOfd i = one (to_reader_frame i unused) then one (to_reader_owner i 0) then free_bit i
empty_slot ProcessScopedFcntl i = one (to_reader_owner i 0) then one (to_reader_frame i unused) then free_bit i

-- Of so many slots from this one on, those that the test picks are emptied, in order.
unfoldable pub empty_slots : SharedWalOwnershipMode → (Memory → ℕ → Bool) → ℕ → ℕ → Piece
empty_slots mode test zero i m = []
empty_slots mode test (suc left) i m = (when (test m i) (empty_slot mode i) then empty_slots mode test left (i + 1)) m

-- the memory with these bitmap words, slot frames and slot owners in it, and the process with these local owners
abbrev pub slots_in : Memory → List ℕ → List ℕ → List ℕ → Memory
slots_in z b f o = with_slots z b f o

abbrev pub locals_in : Process → List ℕ → Process
locals_in p l = with_local_readers p l

-- On any memory with the lists b, f and o in it, by any process with the local owners l, it answers a, leaves the lists b', f',
-- o' and l', and changes nothing else.
abbrev pub ReaderCarried : Carried → List ℕ → List ℕ → List ℕ → List ℕ → Answer → List ℕ → List ℕ → List ℕ → List ℕ → Type 0
ReaderCarried carried b f o l a b' f' o' l' =
    (z : Memory) (p : Process) → carried (slots_in z b f o) (locals_in p l) ≡ done a (slots_in z b' f' o') (locals_in p l')

abbrev pub ReaderCall : Call → List ℕ → List ℕ → List ℕ → List ℕ → Answer → List ℕ → List ℕ → List ℕ → List ℕ → Type 0
ReaderCall call = ReaderCarried (after call)
