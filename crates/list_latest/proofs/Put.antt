-- The latest entries are the first ones of each page, from the last down. Assumes nothing.
use mathlib.Core.Path.{◌≡◌, refl, sym, ap, ◌∙◌}
use mathlib.Core.Bool.{Bool, true, false, cond}
use mathlib.Core.List.{List, [], ◌∷◌, ◌++◌}
use Prim.Native.Nat.{ℕ, zero, suc, ◌^◌, ◌<◌}
use native.Mathlib.Decide.{dec_lt}
use native.Mathlib.Omega.{arith}
use lib.ListN.{get_or}
use borrow.Author.Tests.{eq-eqb, ne_eqb, lt-ltb, le-ltb}
use Rattle.list_sort.proofs.Keys.{by_eqb}
use Rattle.list_sort.specs.InnerSorted.{by_page}
use Rattle.list_gather.specs.Named.{named}
use Rattle.list_gather.specs.InnerGathered.{down, head_of}
use Rattle.list_gather.proofs.Gathered.{head_nil, head_same, head_other}
use Rattle.list_choose.specs.Chosen.{firsts}
use Rattle.list_latest.specs.Latest.{put_entry, latest}
use Rattle.list_latest.proofs.Heads.{heads, Below, none_below, more_below, heads_next, heads_nil, heads_agree, heads_beyond, below_heads, firsts_by_page}

-- what holds for a below b, for a equal to b, and for a above b
pub by_order : (P : Type 0) (a b : ℕ) → (a < b → P) → (a ≡ b → P) → (b < a → P) → P
by_order P a b lt eq gt = go (dec_lt a b) (dec_lt b a)
  where
    go : Dec (a < b) → Dec (b < a) → P
    go (yes l) d = lt l
    go (no l) (yes g) = gt g
    go (no l) (no g) = eq (omega arith)

module _ (pages : List ℕ) (n : ℕ) where
  pub put_last : put_entry pages n [] ≡ n ∷ []
  unfolding put_entry
  put_last = refl

  pub put_before : (t : ℕ) (l : List ℕ) → get_or pages n 0 < get_or pages t 0 → put_entry pages n (t ∷ l) ≡ n ∷ t ∷ l
  unfolding put_entry
  put_before t l b = rw (lt-ltb _ _ b)

  pub put_over : (t : ℕ) (l : List ℕ) → get_or pages n 0 ≡ get_or pages t 0 → put_entry pages n (t ∷ l) ≡ n ∷ l
  unfolding put_entry
  put_over t l e = rw (le-ltb (get_or pages n 0) (get_or pages t 0) (omega arith), eq-eqb _ _ e)

  pub put_behind : (t : ℕ) (l : List ℕ) → get_or pages t 0 < get_or pages n 0 → put_entry pages n (t ∷ l) ≡ t ∷ put_entry pages n l
  unfolding put_entry
  put_behind t l b = rw (le-ltb (get_or pages n 0) (get_or pages t 0) (omega arith), ne_eqb (get_or pages n 0) (get_or pages t 0) (λ e. absurd (omega arith)))

  -- behind entries of lower pages
  put_past : {a : List ℕ} (b : List ℕ) → Below pages (get_or pages n 0) a → put_entry pages n (a ++ b) ≡ a ++ put_entry pages n b
  put_past b none_below = refl
  put_past b (more_below t l p r) = put_behind t (l ++ b) p ∙ ap (λ (x : List ℕ). t ∷ x) (put_past b r)

  -- in the place of its own page's
  put_at : (v : ℕ) (l : List ℕ) → get_or pages n 0 ≡ v → put_entry pages n (head_of pages v l) ≡ n ∷ []
  put_at v [] e = rw (head_nil pages v) put_last
  put_at v (t ∷ l) e =
      by_eqb _ (get_or pages t 0) v
      (λ p. rw (head_same pages v t l p) (put_over t [] (e ∙ sym p)))
      (λ p. rw (head_other pages v t l p) (put_at v l e))

  -- before one of a higher page
  put_head : (v : ℕ) (l : List ℕ) → get_or pages n 0 < v → put_entry pages n (head_of pages v l) ≡ n ∷ head_of pages v l
  put_head v [] b = rw (head_nil pages v) put_last
  put_head v (t ∷ l) b =
      by_eqb _ (get_or pages t 0) v
      (λ p. rw (head_same pages v t l p) (put_before t [] (omega arith)))
      (λ p. rw (head_other pages v t l p) (put_head v l b))

  put_low : (a : List ℕ) (v : ℕ) (l : List ℕ) → get_or pages n 0 < v → put_entry pages n (a ++ head_of pages v l) ≡ put_entry pages n a ++ head_of pages v l
  put_low [] v l b = put_head v l b ∙ rw put_last
  put_low (t ∷ a) v l b =
      by_order _ (get_or pages n 0) (get_or pages t 0)
      (λ p. rw (put_before t (a ++ head_of pages v l) p, put_before t a p))
      (λ p. rw (put_over t (a ++ head_of pages v l) p, put_over t a p))
      (λ p. rw (put_behind t (a ++ head_of pages v l) p, put_behind t a p) (ap (λ (x : List ℕ). t ∷ x) (put_low a v l b)))

  -- one entry more, before all others
  put_heads : (m : ℕ) (l : List ℕ) → get_or pages n 0 < m → put_entry pages n (heads pages m l) ≡ heads pages m (n ∷ l)
  put_heads zero l b = absurd (omega arith)
  put_heads (suc m) l b =
      by_eqb _ (get_or pages n 0) m
      (λ e. rw (heads_next pages m l, heads_next pages m (n ∷ l), head_same pages m n l e, heads_beyond pages m n l (omega arith))
      (put_past {a = heads pages m l} (head_of pages m l) (rw e (below_heads pages m l)) ∙ ap (λ (x : List ℕ). heads pages m l ++ x) (put_at m l e)))
      (λ e. rw (heads_next pages m l, heads_next pages m (n ∷ l), head_other pages m n l e)
      (put_low (heads pages m l) m l (omega arith) ∙ ap (λ (x : List ℕ). x ++ head_of pages m l) (put_heads m l (omega arith))))

-- the definition's list, by the first of each page
pub latest_heads : (pages hash : List ℕ) (m : ℕ) → ((e : ℕ) → get_or pages e 0 < m) → (v : ℕ) → latest pages hash v ≡ heads pages m (down hash v)
unfolding latest down
latest_heads pages hash m small zero = sym (heads_nil pages m)
latest_heads pages hash m small (suc v) = go (named hash v) (latest_heads pages hash m small v)
  where
    go : (t : Bool) → latest pages hash v ≡ heads pages m (down hash v) → cond t (put_entry pages v (latest pages hash v)) (latest pages hash v) ≡ heads pages m (cond t (v ∷ down hash v) (down hash v))
    go true h = ap (put_entry pages v) h ∙ put_heads pages v m (down hash v) (small v)
    go false h = h

-- of the sorted gathered entries, these are the latest
pub latest_chosen : (pages hash l : List ℕ) (v : ℕ) → ((e : ℕ) → get_or pages e 0 < 2 ^ 64) → ((page : ℕ) → head_of pages page l ≡ head_of pages page (down hash v)) → firsts pages (by_page pages l) ≡ latest pages hash v
latest_chosen pages hash l v small same =
    firsts_by_page pages small l ∙ heads_agree pages (2 ^ 64) l (down hash v) same ∙ sym (latest_heads pages hash (2 ^ 64) small v)
