-- The first entry of a page, and the named entries one at a time. Assumes nothing.
use mathlib.Core.Path.{◌≡◌, sym, ap, ◌∙◌}
use mathlib.Core.Bool.{true, false}
use mathlib.Core.List.{List, [], ◌∷◌, ◌++◌}
use Prim.Native.Nat.{ℕ, zero, suc, ◌-◌, ◌<◌}
use native.Mathlib.Omega.{arith}
use lib.ListN.{length, get_or}
use Rattle.list_sort.specs.InnerSorted.{page_of}
use Rattle.list_sort.proofs.Keys.{by_eqb, having_nil, having_same, having_other, having_append}
use Rattle.list_gather.specs.Named.{named}
use Rattle.list_gather.specs.InnerGathered.{down, head_of}

module _ (pages : List ℕ) where
  pub head_nil : (page : ℕ) → head_of pages page [] ≡ []
  unfolding head_of
  head_nil page = rw (having_nil (page_of pages) page)

  pub head_same : (page e : ℕ) (l : List ℕ) → get_or pages e 0 ≡ page → head_of pages page (e ∷ l) ≡ e ∷ []
  unfolding head_of
  head_same page e l p = rw (having_same (page_of pages) page e l p)

  pub head_other : (page e : ℕ) (l : List ℕ) → (get_or pages e 0 ≡ page → ⊥) → head_of pages page (e ∷ l) ≡ head_of pages page l
  unfolding head_of
  head_other page e l p = rw (having_other (page_of pages) page e l p)

  -- where the page has an entry, what comes behind does not matter
  head_there : (page : ℕ) (l : List ℕ) (j : ℕ) → j < length l → get_or pages (get_or l j 0) 0 ≡ page → (a b : List ℕ) → head_of pages page (l ++ a) ≡ head_of pages page (l ++ b)
  head_there page [] j r e a b = absurd (omega arith)
  head_there page (t ∷ l) zero r e a b = head_same page t (l ++ a) e ∙ sym (head_same page t (l ++ b) e)
  head_there page (t ∷ l) (suc j) r e a b =
      by_eqb _ (get_or pages t 0) page
      (λ p. head_same page t (l ++ a) p ∙ sym (head_same page t (l ++ b) p))
      (λ p. head_other page t (l ++ a) p ∙ head_there page l j (omega arith) e a b ∙ sym (head_other page t (l ++ b) p))

  -- an entry of another page does not matter
  head_without : (page : ℕ) (l : List ℕ) (n : ℕ) (d : List ℕ) → (get_or pages n 0 ≡ page → ⊥) → head_of pages page (l ++ d) ≡ head_of pages page (l ++ (n ∷ d))
  unfolding head_of
  head_without page l n d e =
      rw (having_append (page_of pages) page l d, having_append (page_of pages) page l (n ∷ d), having_other (page_of pages) page n d e)

  -- an entry behind one of its page may be left out
  pub head_skip : (page : ℕ) (l : List ℕ) (n : ℕ) (d : List ℕ) (j : ℕ) → j < length l → get_or pages (get_or l j 0) 0 ≡ get_or pages n 0 → head_of pages page (l ++ d) ≡ head_of pages page (l ++ (n ∷ d))
  head_skip page l n d j r e =
      by_eqb _ (get_or pages n 0) page (λ p. head_there page l j r (e ∙ p) d (n ∷ d)) (head_without page l n d)

-- the named entries from the last down, one at a time
module _ (hash : List ℕ) (n : ℕ) (some : 0 < n) where
  pub down_named : named hash (n - 1) ≡ true → down hash n ≡ (n - 1) ∷ down hash (n - 1)
  unfolding down
  down_named e = let s : n ≡ suc (n - 1) = omega arith in ap (down hash) s ∙ rw e

  pub down_unnamed : named hash (n - 1) ≡ false → down hash n ≡ down hash (n - 1)
  unfolding down
  down_unnamed e = let s : n ≡ suc (n - 1) = omega arith in ap (down hash) s ∙ rw e
