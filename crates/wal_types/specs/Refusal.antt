-- The refusals (document 01's table): their numbers, and which of them a call gives. Assumes nothing.
use Rattle.std.specs.Prelude.{◌≡◌, Result, Ok, Err, Bool, true, false, ◌&&◌, cond, ℕ, ◌≤◌, ltb}
use mathlib.Core.List.{List, [], ◌∷◌, Memᴰ}
use Rattle.wal_types.specs.declared.refusal.Refusal.{Refusal}
use Rattle.wal_types.specs.declared.refusal.Refusal.TheVariants.{Settings, ShortMemory, FrameOrder, HashFull, ShortList, SlotNumber, NotHeld, OtherOwner, NoOwner, UnusedMark, SharedSlot, NoSuchMark, RegistryFull, Card, Probe}

-- the table's number
abbrev pub number : Refusal → ℕ
number Settings = 1
number ShortMemory = 2
number FrameOrder = 3
number HashFull = 4
number ShortList = 5
number SlotNumber = 6
number NotHeld = 7
number OtherOwner = 8
number NoOwner = 9
number UnusedMark = 10
number SharedSlot = 11
number NoSuchMark = 12
number RegistryFull = 13
number Card = 14
number Probe = 15

-- The number of the refusal in a result, 0 where it has none.
abbrev pub refused_number : {A : Type 0} → Result A Refusal → ℕ
refused_number (Ok x) = 0
refused_number (Err r) = number r

-- A refusal, and whether it applies to the call.
pub record Test : Type 0 where
  pub refusal : Refusal
  pub applies : Bool

infix 10 ◌if◌
abbrev pub ◌if◌ : Refusal → Bool → Test
r if b = record { refusal = r; applies = b }

-- The number of the first test that applies, 0 where none does. A call's tests stand by rising number (sequence: RefusalsInOrder), so it
-- is the lowest that applies.
abbrev pub lowest : List Test → ℕ
lowest [] = 0
lowest (t ∷ rest) = cond t.applies (number t.refusal) (lowest rest)

-- each test's number is above the one before it, and the first one's above n
abbrev pub rising_from : ℕ → List Test → Bool
rising_from n [] = true
rising_from n (t ∷ rest) = ltb n (number t.refusal) && rising_from (number t.refusal) rest

-- the tests stand by rising number
abbrev pub rising : List Test → Bool
rising tests = rising_from 0 tests

-- n is the lowest number that applies: no test with a lower number does; one with this number does, or n is 0 and none does.
pub record IsLowest (tests : List Test) (n : ℕ) : Type 0 where
  pub none_lower : (t : Test) → Memᴰ t tests → t.applies ≡ true → n ≤ number t.refusal
  pub is_of_one : (n ≡ 0 → ⊥) → (t : Test) × Memᴰ t tests × (t.applies ≡ true) × (number t.refusal ≡ n)
  pub is_none : n ≡ 0 → (t : Test) → Memᴰ t tests → t.applies ≡ false
