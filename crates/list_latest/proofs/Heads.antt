-- The first entry of each page. Assumes nothing.
use mathlib.Core.Path.{◌≡◌, refl, sym, ap, ap₂, ◌∙◌}
use mathlib.Core.List.{List, [], ◌∷◌, ◌++◌}
use Prim.Native.Nat.{ℕ, zero, suc, ◌^◌, ◌<◌, ◌≤◌}
use native.Mathlib.Omega.{arith}
use lib.ListN.{get_or}
use Rattle.list_sort.specs.InnerSorted.{having, by_key, by_page, page_of}
use Rattle.list_sort.proofs.Keys.{by_eqb, having_nil, having_same, having_other, by_key_none, by_key_next}
use Rattle.list_gather.specs.InnerGathered.{head_of}
use Rattle.list_gather.proofs.Gathered.{head_nil, head_same, head_other}
use Rattle.list_choose.specs.Chosen.{firsts_after, firsts}
use Rattle.list_choose.proofs.Chosen.{firsts_nil, firsts_skip, firsts_take}

-- the first entries of the pages below n, by rising page: how the code comes to the latest entries
unfoldable pub heads : List ℕ → ℕ → List ℕ → List ℕ
heads pages zero l = []
heads pages (suc n) l = heads pages n l ++ head_of pages n l

-- every entry's page is below n
pub data Below (pages : List ℕ) (n : ℕ) : List ℕ → Type 0 where
  none_below : Below pages n []
  more_below : (e : ℕ) (l : List ℕ) → get_or pages e 0 < n → Below pages n l → Below pages n (e ∷ l)

module _ (pages : List ℕ) where
  pub heads_none : (l : List ℕ) → heads pages 0 l ≡ []
  unfolding heads
  heads_none l = refl

  pub heads_next : (n : ℕ) (l : List ℕ) → heads pages (suc n) l ≡ heads pages n l ++ head_of pages n l
  unfolding heads
  heads_next n l = refl

  pub heads_nil : (n : ℕ) → heads pages n [] ≡ []
  heads_nil zero = heads_none []
  heads_nil (suc n) = heads_next n [] ∙ rw (heads_nil n, head_nil pages n)

  -- lists with the same first entries
  pub heads_agree : (n : ℕ) (a b : List ℕ) → ((page : ℕ) → head_of pages page a ≡ head_of pages page b) → heads pages n a ≡ heads pages n b
  heads_agree zero a b same = heads_none a ∙ sym (heads_none b)
  heads_agree (suc n) a b same =
      rw (heads_next n a, heads_next n b) (ap₂ (λ (x y : List ℕ). x ++ y) (heads_agree n a b same) (same n))

  pub heads_beyond : (n e : ℕ) (l : List ℕ) → n ≤ get_or pages e 0 → heads pages n (e ∷ l) ≡ heads pages n l
  heads_beyond zero e l b = heads_none (e ∷ l) ∙ sym (heads_none l)
  heads_beyond (suc n) e l b =
      rw (heads_next n (e ∷ l), heads_next n l)
      (ap₂ (λ (x y : List ℕ). x ++ y) (heads_beyond n e l (omega arith)) (head_other pages n e l (λ p. absurd (omega arith))))

  below_weaken : (n m : ℕ) {l : List ℕ} → n ≤ m → Below pages n l → Below pages m l
  below_weaken n m b none_below = none_below
  below_weaken n m b (more_below e l p r) = more_below e l (omega arith) (below_weaken n m b r)

  below_append : (n : ℕ) {a b : List ℕ} → Below pages n a → Below pages n b → Below pages n (a ++ b)
  below_append n none_below s = s
  below_append n (more_below e l p r) s = more_below e _ p (below_append n r s)

  below_having : (v : ℕ) (l : List ℕ) → Below pages (suc v) (having (page_of pages) v l)
  below_having v [] = rw (having_nil (page_of pages) v) none_below
  below_having v (e ∷ l) =
      by_eqb _ (get_or pages e 0) v
      (λ p. rw (having_same (page_of pages) v e l p) (more_below e _ (omega arith) (below_having v l)))
      (λ p. rw (having_other (page_of pages) v e l p) (below_having v l))

  below_by_key : (n : ℕ) (l : List ℕ) → Below pages n (by_key (page_of pages) n l)
  below_by_key zero l = rw (by_key_none (page_of pages) l) none_below
  below_by_key (suc n) l =
      rw (by_key_next (page_of pages) n l) (below_append (suc n) (below_weaken n (suc n) (omega arith) (below_by_key n l)) (below_having n l))

  below_head : (v : ℕ) (l : List ℕ) → Below pages (suc v) (head_of pages v l)
  below_head v [] = rw (head_nil pages v) none_below
  below_head v (e ∷ l) =
      by_eqb _ (get_or pages e 0) v
      (λ p. rw (head_same pages v e l p) (more_below e [] (omega arith) none_below))
      (λ p. rw (head_other pages v e l p) (below_head v l))

  pub below_heads : (n : ℕ) (l : List ℕ) → Below pages n (heads pages n l)
  below_heads zero l = rw (heads_none l) none_below
  below_heads (suc n) l = rw (heads_next n l) (below_append (suc n) (below_weaken n (suc n) (omega arith) (below_heads n l)) (below_head n l))

  -- runs of one page
  firsts_one : (v : ℕ) (l : List ℕ) → firsts_after pages v (having (page_of pages) v l) ≡ []
  firsts_one v [] = rw (having_nil (page_of pages) v) (firsts_nil pages v)
  firsts_one v (e ∷ l) =
      by_eqb _ (get_or pages e 0) v
      (λ p. rw (having_same (page_of pages) v e l p) (firsts_skip pages v e (having (page_of pages) v l) p ∙ firsts_one v l))
      (λ p. rw (having_other (page_of pages) v e l p) (firsts_one v l))

  firsts_having : (q v : ℕ) → (q ≡ v → ⊥) → (l : List ℕ) → firsts_after pages q (having (page_of pages) v l) ≡ head_of pages v l
  firsts_having q v n [] = rw (having_nil (page_of pages) v, head_nil pages v) (firsts_nil pages q)
  firsts_having q v n (e ∷ l) =
      by_eqb _ (get_or pages e 0) v
      (λ p. rw (having_same (page_of pages) v e l p, head_same pages v e l p, firsts_take pages q e (having (page_of pages) v l) (λ r. n (sym r ∙ p)))
      (ap (λ (x : List ℕ). e ∷ x) (ap (λ (w : ℕ). firsts_after pages w (having (page_of pages) v l)) p ∙ firsts_one v l)))
      (λ p. rw (having_other (page_of pages) v e l p, head_other pages v e l p) (firsts_having q v n l))

  firsts_append : (v : ℕ) (l : List ℕ) (q : ℕ) {a : List ℕ} → Below pages v a → (q ≡ v → ⊥) → firsts_after pages q (a ++ having (page_of pages) v l) ≡ firsts_after pages q a ++ head_of pages v l
  firsts_append v l q none_below n = firsts_having q v n l ∙ rw (firsts_nil pages q)
  firsts_append v l q (more_below e r b s) n =
      by_eqb _ (get_or pages e 0) q
      (λ p. rw (firsts_skip pages q e (r ++ having (page_of pages) v l) p, firsts_skip pages q e r p) (firsts_append v l q s n))
      (λ p. rw (firsts_take pages q e (r ++ having (page_of pages) v l) p, firsts_take pages q e r p) (ap (λ (x : List ℕ). e ∷ x) (firsts_append v l (get_or pages e 0) s (λ t. absurd (omega arith)))))

  firsts_by_key : (q n : ℕ) (l : List ℕ) → n ≤ q → firsts_after pages q (by_key (page_of pages) n l) ≡ heads pages n l
  firsts_by_key q zero l b = rw (by_key_none (page_of pages) l, heads_none l) (firsts_nil pages q)
  firsts_by_key q (suc n) l b =
      rw (by_key_next (page_of pages) n l, heads_next n l)
      (firsts_append n l q (below_by_key n l) (λ e. absurd (omega arith)) ∙ ap (λ (x : List ℕ). x ++ head_of pages n l) (firsts_by_key q n l (omega arith)))

  firsts_any : (q : ℕ) → ((e : ℕ) → get_or pages e 0 < q) → (l : List ℕ) → firsts pages l ≡ firsts_after pages q l
  unfolding firsts
  firsts_any q small [] = sym (firsts_nil pages q)
  firsts_any q small (e ∷ l) = sym (firsts_take pages q e l (λ p. let b = small e in absurd (omega arith)))

  -- the first of each run of the sorted entries is the first of each page
  pub firsts_by_page : ((e : ℕ) → get_or pages e 0 < 2 ^ 64) → (l : List ℕ) → firsts pages (by_page pages l) ≡ heads pages (2 ^ 64) l
  unfolding by_page
  firsts_by_page small l = firsts_any (2 ^ 64) small (by_key (page_of pages) (2 ^ 64) l) ∙ firsts_by_key (2 ^ 64) (2 ^ 64) l (omega arith)
