-- Laws of tests that pass, of registries and of cells, for the calls on reader slots. Assumes nothing.
use Rattle.std.specs.Prelude.{None, Option, Some}
use mathlib.Core.Path.{◌≡◌, refl, sym, ap, ◌∙◌}
use mathlib.Core.Bool.{Bool, true, false, not, ◌&&◌, ◌||◌, cond}
use mathlib.Core.List.{List}
use Prim.Native.Nat.{ℕ, zero, suc, ◌+◌, ◌<◌}
use native.Mathlib.Decide.{ℕ_discrete}
use native.Mathlib.Omega.{arith}
use lib.Dec.{eqb}
use lib.ListN.{get_or}
use borrow.Author.Tests.{eqb-true, eqb-false, eq-eqb, ne_eqb, not-true}
use Rattle.wal_types.specs.declared.SharedReadMark.{SharedReadMark}
use Rattle.wal_types.specs.Memory.{Process, no_mark}
use Rattle.reader_slots.specs.Slots.{is_in_registry}
use Rattle.reader_slots.specs.Search.{lowest_slot}
use Rattle.reader_slots.proofs.Calls.{neither_true}
use Rattle.reader_slots.proofs.Lowest.{lowest_at, lowest_below, lowest_nothing}
use Rattle.reader_marks.specs.Registry.{is_empty, fits, first_record, record_of, empty_record}

pub not_both : (t : Bool) → t ≡ true → t ≡ false → ⊥
not_both true a b = let z : ◌≡◌ {A = ℕ} 0 1 = cc in omega arith
not_both false a b = let z : ◌≡◌ {A = ℕ} 0 1 = cc in omega arith

pub both_true : (a b : Bool) → (a && b) ≡ true → (a ≡ true) × (b ≡ true)
both_true true b e = (refl, e)
both_true false b e = absurd (not_both false e refl)

-- the registry's record j
abbrev pub rec_at : Process → ℕ → SharedReadMark
rec_at p j = get_or p.registry j no_mark

-- it has holders
abbrev pub Active : Process → ℕ → Type 0
Active p j = (rec_at p j).holders ≡ 0 → ⊥

-- the first record that a test picks is found as the lowest slot is
abbrev as_slot : Option ℕ → Option ℕ
as_slot (Some i) = Some i
as_slot None = None

first_turn : (t : Bool) (i : ℕ) (r : Option ℕ) (s : Option ℕ) → as_slot r ≡ s → as_slot (cond t (Some i) r) ≡ cond t (Some i) s
first_turn true i r s e = refl
first_turn false i r s e = e

module _ (test : SharedReadMark → Bool) (registry : List SharedReadMark) where
  first_is_lowest : (left i : ℕ) → as_slot (first_record test registry left i) ≡ lowest_slot (λ j. test (get_or registry j no_mark)) left i
  unfolding first_record lowest_slot
  first_is_lowest zero i = refl
  first_is_lowest (suc left) i = first_turn (test (get_or registry i no_mark)) i (first_record test registry left (i + 1)) (lowest_slot (λ j. test (get_or registry j no_mark)) left (i + 1)) (first_is_lowest left (i + 1))

  first_at : (n r : ℕ) → first_record test registry n 0 ≡ Some r → (r < n) × (test (get_or registry r no_mark) ≡ true)
  first_at n r e =
      let f = sym (first_is_lowest n 0) ∙ ap as_slot e in
      let b = lowest_below (λ j. test (get_or registry j no_mark)) n 0 r f in
      (omega arith, (lowest_at (λ j. test (get_or registry j no_mark)) n 0 r f).0)

  first_nothing : (n : ℕ) → first_record test registry n 0 ≡ None → (j : ℕ) → j < n → test (get_or registry j no_mark) ≡ false
  first_nothing n e j l = lowest_nothing (λ k. test (get_or registry k no_mark)) n 0 (sym (first_is_lowest n 0) ∙ ap as_slot e) j (omega arith) (omega arith)

-- the record of a mark, where there is one
pub record Fitting (n : ℕ) (p : Process) (k r : ℕ) : Type 0 where
  pub below : r < n
  pub active : Active p r
  pub mark_is : (rec_at p r).mark ≡ k

pub record_found : (n : ℕ) (p : Process) (k r : ℕ) → record_of n p.registry k ≡ Some r → Fitting n p k r
record_found n p k r e =
    let a = first_at (fits k) p.registry n r e in
    let b = both_true (not (is_empty (rec_at p r))) (eqb (rec_at p r).mark k) a.1 in
    record { below = a.0; active = eqb-false _ _ (not-true _ b.0); mark_is = eqb-true _ _ b.1 }

-- no record of the mark
abbrev pub NoRecord : ℕ → Process → ℕ → Type 0
NoRecord n p k = (j : ℕ) → j < n → Active p j → (rec_at p j).mark ≡ k → ⊥

pub record_missing : (n : ℕ) (p : Process) (k : ℕ) → record_of n p.registry k ≡ None → NoRecord n p k
record_missing n p k e j l a h =
    not_both (fits k (rec_at p j)) (rw (ne_eqb _ _ a, eq-eqb _ _ h)) (first_nothing (fits k) p.registry n e j l)

-- an empty record
pub empty_found : (n : ℕ) (p : Process) (e : ℕ) → empty_record n p.registry ≡ Some e → (e < n) × ((rec_at p e).holders ≡ 0)
empty_found n p e f = let a = first_at is_empty p.registry n e f in (a.0, eqb-true _ _ a.1)

-- a slot that refusal 11 does not find is named by no record
abbrev pub NotNamed : ℕ → Process → ℕ → Type 0
NotNamed n p t = (j : ℕ) → j < n → Active p j → (rec_at p j).slot ≡ t → ⊥

named_turn : (n : ℕ) (p : Process) (t : ℕ) → (is_in_registry n p.registry t || (not (eqb (rec_at p n).holders 0) && eqb (rec_at p n).slot t)) ≡ false → (j : ℕ) → (is_in_registry n p.registry t ≡ false → j < n → Active p j → (rec_at p j).slot ≡ t → ⊥) → j < suc n → Active p j → (rec_at p j).slot ≡ t → ⊥
named_turn n p t e j ih l a h = go (ℕ_discrete j n)
  where
    parts : (is_in_registry n p.registry t ≡ false) × ((not (eqb (rec_at p n).holders 0) && eqb (rec_at p n).slot t) ≡ false)
    parts = neither_true (is_in_registry n p.registry t) (not (eqb (rec_at p n).holders 0) && eqb (rec_at p n).slot t) e

    at_end : Active p n → (rec_at p n).slot ≡ t → ⊥
    at_end b q = not_both (not (eqb (rec_at p n).holders 0) && eqb (rec_at p n).slot t) (rw (ne_eqb _ _ b, eq-eqb _ _ q)) parts.1

    go : Dec (j ≡ n) → ⊥
    go (yes q) = at_end (rw q at a) (rw q at h)
    go (no f) = ih parts.0 (omega arith) a h

pub not_named : (n : ℕ) (p : Process) (t : ℕ) → is_in_registry n p.registry t ≡ false → NotNamed n p t
unfolding is_in_registry
not_named zero p t e j l a h = omega arith
not_named (suc n) p t e j l a h = named_turn n p t e j (λ f. not_named n p t f j) l a h
