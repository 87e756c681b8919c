-- Laws of a page's latest entry. Assumes nothing.
use mathlib.Core.Path.{◌≡◌, refl}
use mathlib.Core.List.{List}
use Prim.Native.Nat.{ℕ, zero, suc, ◌+◌, ◌<◌, ◌≤◌}
use mathlib.Core.Logic.{inl, inr}
use native.Mathlib.Nat.{eq-or-lt_of_le, le_of_suc-le-suc}
use native.Mathlib.Omega.{arith}
use lib.Dec.{eqb}
use lib.ListN.{get_or}
use borrow.Author.Tests.{eqb-true, eqb-false, eq-eqb, ne_eqb}
use Rattle.std.specs.Prelude.{Option, Some, None}
use Rattle.index_hash.specs.InnerLatest.{latest_below}
use Rattle.index_hash.proofs.Empty.{by_test}

-- a place with the page is the latest below the next
pub latest_here : (pages : List ℕ) (page v : ℕ) → get_or pages v 0 ≡ page → latest_below pages page (suc v) ≡ Some v
unfolding latest_below
latest_here pages page v e = rw (eq-eqb _ _ e)

-- one without it changes nothing
pub latest_other : (pages : List ℕ) (page v : ℕ) → (get_or pages v 0 ≡ page → ⊥) → latest_below pages page (suc v) ≡ latest_below pages page v
unfolding latest_below
latest_other pages page v e = rw (ne_eqb _ _ e)

-- only the first v pages matter
pub latest_agree : (pages pages' : List ℕ) (page v : ℕ) → ((i : ℕ) → i < v → get_or pages i 0 ≡ get_or pages' i 0) → latest_below pages page v ≡ latest_below pages' page v
unfolding latest_below
latest_agree pages pages' page zero same = refl
latest_agree pages pages' page (suc v) same = rw (same v (omega arith), latest_agree pages pages' page v (λ i l. same i (omega arith)))

-- no place from k on and below v has the page
abbrev pub NoneFrom : List ℕ → ℕ → ℕ → ℕ → Type 0
NoneFrom pages page v k = (i : ℕ) → k ≤ i → i < v → get_or pages i 0 ≡ page → ⊥

-- the greatest place below v with the page, or none has it
abbrev pub IsLatest : List ℕ → ℕ → ℕ → Option ℕ → Type 0
IsLatest pages page v (Some i) = (i < v) × ((get_or pages i 0 ≡ page) × NoneFrom pages page v (i + 1))
IsLatest pages page v None = NoneFrom pages page v 0

-- the definition gives just that
pub latest_is : (pages : List ℕ) (page v : ℕ) → IsLatest pages page v (latest_below pages page v)
unfolding latest_below
latest_is pages page zero = λ i k l. absurd (omega arith)
latest_is pages page (suc v) =
    by_test (IsLatest pages page (suc v)) (eqb (get_or pages v 0) page)
    (λ t. (omega arith, (eqb-true _ _ t, λ i k l. absurd (omega arith))))
    (λ t. wider (eqb-false _ _ t) (latest_below pages page v) (latest_is pages page v))
  where
    none_more : (k : ℕ) → (get_or pages v 0 ≡ page → ⊥) → NoneFrom pages page v k → NoneFrom pages page (suc v) k
    none_more k o none i b l = elim (eq-or-lt_of_le (le_of_suc-le-suc l)) [ inl e ↦ rw e o | inr s ↦ none i b s ]

    wider : (get_or pages v 0 ≡ page → ⊥) → (x : Option ℕ) → IsLatest pages page v x → IsLatest pages page (suc v) x
    wider o (Some i) f = (omega (arith, f.0), (f.1.0, none_more (i + 1) o f.1.1))
    wider o None f = none_more 0 o f
