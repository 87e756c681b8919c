-- Refused and accepted calls. Assumes nothing.
use mathlib.Core.Path.{◌≡◌, refl, sym, ◌∙◌, ap}
use mathlib.Core.Bool.{Bool, true, false, false≢true, ◌&&◌, cond}
use mathlib.Core.List.Memᴰ
use mathlib.Core.List.{List, [], ◌∷◌, Memᴰ}
use mathlib.Core.Logic.{inl, inr}
use Prim.Native.Nat.{ℕ, zero, suc, ◌<◌}
use native.Mathlib.Nat.{not-suc-le-zero}
use native.Mathlib.Omega.{arith}
use Rattle.std.proofs.Math.Nat.{suc-ne-zero}
use lib.Dec.{ltb}
use borrow.Author.Tests.{ltb-true}
use Rattle.wal_types.specs.Memory.{Memory, Process}
use Rattle.wal_types.specs.Store.{apply}
use Rattle.wal_types.specs.declared.refusal.Refusal.{Refusal}
use Rattle.wal_types.specs.declared.refusal.Refusal.TheVariants.{Settings, ShortMemory, FrameOrder, HashFull, ShortList, SlotNumber, NotHeld, OtherOwner, NoOwner, UnusedMark, SharedSlot, NoSuchMark, RegistryFull, Card, Probe}
use Rattle.wal_types.specs.Refusal.{Test, number, lowest, rising_from, rising, IsLowest}
use Rattle.wal_types.specs.Call.{Call, Outcome, refused, refusal, accepted_or, unless, done, after}

-- a refusal's number is not 0
number_above_zero : (r : Refusal) → (k : ℕ) × (number r ≡ suc k)
number_above_zero Settings = (0, refl)
number_above_zero ShortMemory = (1, refl)
number_above_zero FrameOrder = (2, refl)
number_above_zero HashFull = (3, refl)
number_above_zero ShortList = (4, refl)
number_above_zero SlotNumber = (5, refl)
number_above_zero NotHeld = (6, refl)
number_above_zero OtherOwner = (7, refl)
number_above_zero NoOwner = (8, refl)
number_above_zero UnusedMark = (9, refl)
number_above_zero SharedSlot = (10, refl)
number_above_zero NoSuchMark = (11, refl)
number_above_zero RegistryFull = (12, refl)
number_above_zero Card = (13, refl)
number_above_zero Probe = (14, refl)

pub number_not_zero : (r : Refusal) → number r ≡ 0 → ⊥
number_not_zero r e = let k = number_above_zero r in suc-ne-zero k.0 (sym k.1 ∙ e)

-- a number that is not 0 refuses
pub refuses : (n : ℕ) (p : Process) (o : Outcome) → (n ≡ 0 → ⊥) → accepted_or n p o ≡ refusal n p
refuses zero p o h = absurd (h refl)
refuses (suc n) p o h = refl

-- calls with the same outcome do the same
pub same_outcome : (o o' : Outcome) (m : Memory) → o ≡ o' → done o.answer (apply o.stores m) o.process ≡ done o'.answer (apply o'.stores m) o'.process
same_outcome o o' m e = rw e

module _ (tests : Memory → Process → List Test) (call : Call) (m : Memory) (p : Process) where
  -- a call of which a test applies is refused, and changes nothing
  pub call_refused : (n : ℕ) → lowest (tests m p) ≡ n → (n ≡ 0 → ⊥) → after (unless tests call) m p ≡ done (refused n) m p
  call_refused n e h =
      same_outcome (unless tests call m p) _ m (ap (λ (x : ℕ). accepted_or x p (call m p)) e ∙ refuses n p (call m p) h)

  -- so is one that a check of its tests turns away
  pub call_turned_away : (r : Refusal) → number r ≡ lowest (tests m p) → after (unless tests call) m p ≡ done (refused (number r)) m p
  call_turned_away r e = call_refused (number r) (sym e) (number_not_zero r)

  -- one of which none applies is made
  pub call_accepted : lowest (tests m p) ≡ 0 → after (unless tests call) m p ≡ after call m p
  call_accepted e = same_outcome (unless tests call m p) _ m (ap (λ (x : ℕ). accepted_or x p (call m p)) e)

-- TESTS BY RISING NUMBER
-- the first of two tests that hold, and the second
both : (a b : Bool) → (a && b) ≡ true → (a ≡ true) × (b ≡ true)
both true true e = (refl, refl)
both true false e = absurd (false≢true e)
both false b e = absurd (false≢true e)

-- what tests that rise from k say of the first of them and of those after it
rises : (k : ℕ) (t : Test) (rest : List Test) → rising_from k (t ∷ rest) ≡ true → (k < number t.refusal) × (rising_from (number t.refusal) rest ≡ true)
rises k t rest e =
    let b = both (ltb k (number t.refusal)) (rising_from (number t.refusal) rest) e in
    (ltb-true k (number t.refusal) b.0, b.1)

-- each of them has a number above k
all_above : (k : ℕ) (tests : List Test) → rising_from k tests ≡ true → (t : Test) → Memᴰ t tests → k < number t.refusal
all_above k [] e t i = absurd (Memᴰ.not-nil i)
all_above k (u ∷ rest) e t i =
    let r = rises k u rest e in
    elim (Memᴰ.cases_cons i) [
      | inl s ↦ let q : number t.refusal ≡ number u.refusal = ap (λ (x : Test). number x.refusal) s in omega (arith, r.0)
      | inr j ↦ let l = all_above (number u.refusal) rest r.1 t j in omega (arith, r.0)
    ]

-- a test before others that rise from its number: it is the lowest if it applies, and else theirs is
before_others : (k : ℕ) (u : Test) (rest : List Test) → rising_from k (u ∷ rest) ≡ true → IsLowest rest (lowest rest)
    → (b : Bool) → u.applies ≡ b → IsLowest (u ∷ rest) (cond b (number u.refusal) (lowest rest))
before_others k u rest e below true a =
    let r = rises k u rest e in
    record {
      none_lower = λ t i b. elim (Memᴰ.cases_cons i) [
        | inl s ↦ let q : number t.refusal ≡ number u.refusal = ap (λ (x : Test). number x.refusal) s in omega arith
        | inr j ↦ let l = all_above (number u.refusal) rest r.1 t j in omega arith
      ];
      is_of_one = λ h. (u, Memᴰ.head refl, a, refl);
      is_none = λ z t i. absurd (not-suc-le-zero {n = 0} (omega (arith, r.0)));
    }
before_others k u rest e below false a =
    record {
      none_lower = λ t i b. elim (Memᴰ.cases_cons i) [
        | inl s ↦ absurd (false≢true (sym a ∙ (sym (ap (λ (x : Test). x.applies) s) ∙ b)))
        | inr j ↦ below.none_lower t j b
      ];
      is_of_one = λ h. let o = below.is_of_one h in (o.0, Memᴰ.tail o.1, o.2, o.3);
      is_none = λ z t i. elim (Memᴰ.cases_cons i) [
        | inl s ↦ ap (λ (x : Test). x.applies) s ∙ a
        | inr j ↦ below.is_none z t j
      ];
    }

first_is_lowest : (k : ℕ) (tests : List Test) → rising_from k tests ≡ true → IsLowest tests (lowest tests)
first_is_lowest k [] e =
    record {
      none_lower = λ t i a. absurd (Memᴰ.not-nil i);
      is_of_one = λ h. absurd (h refl);
      is_none = λ z t i. absurd (Memᴰ.not-nil i);
    }
first_is_lowest k (u ∷ rest) e =
    before_others k u rest e (first_is_lowest (number u.refusal) rest (rises k u rest e).1) u.applies refl

-- Of tests that stand by rising number, the number given is the lowest that applies.
pub lowest_is_lowest : (tests : List Test) → rising tests ≡ true → IsLowest tests (lowest tests)
lowest_is_lowest tests e = first_is_lowest 0 tests e
