-- What the latest entries are: by rising page, each page that a named entry has once, with its greatest. Assumes nothing.
use mathlib.Core.Path.{◌≡◌, refl, sym, ap, ◌∙◌}
use mathlib.Core.Bool.{Bool, true, false}
use mathlib.Core.List.{List, [], ◌∷◌}
use Prim.Native.Nat.{ℕ, zero, suc, ◌<◌, ◌≤◌}
use native.Mathlib.Decide.{dec_le}
use native.Mathlib.Omega.{arith}
use lib.ListN.{length, get_or}
use borrow.Author.Tests.{le-leb, lt-leb}
use Rattle.list_sort.proofs.Keys.{by_eqb}
use Rattle.list_gather.specs.Named.{named}
use Rattle.list_choose.specs.Chosen.{in_bounds}
use Rattle.list_choose.proofs.Chosen.{bounds_next, bounds_nil}
use Rattle.list_latest.specs.Latest.{put_entry, latest}
use Rattle.list_latest.proofs.Put.{by_order, put_last, put_before, put_over, put_behind}

-- an entry is in a list
pub data In (n : ℕ) : List ℕ → Type 0 where
  here : (l : List ℕ) → In n (n ∷ l)
  there : (t : ℕ) (l : List ℕ) → In n l → In n (t ∷ l)

-- pages rise, so no page is there twice
pub data Rises (pages : List ℕ) : List ℕ → Type 0 where
  rises_none : Rises pages []
  rises_more : (e : ℕ) (l : List ℕ) → ((n : ℕ) → In n l → get_or pages e 0 < get_or pages n 0) → Rises pages l → Rises pages (e ∷ l)

-- an entry of this page is in the list, and is n or later
pub record HasPage (pages l : List ℕ) (n : ℕ) : Type 0 where
  pub entry : ℕ
  pub listed : In entry l
  pub same_page : get_or pages entry 0 ≡ get_or pages n 0
  pub later : n ≤ entry

pub in_nil : (P : Type 0) (n : ℕ) → In n [] → P
in_nil P n = elim [ ]

pub in_cons : (P : Type 0) (n x : ℕ) (l : List ℕ) → In n (x ∷ l) → (n ≡ x → P) → (In n l → P) → P
in_cons P n x l (here r) f g = f refl
in_cons P n x l (there y r i) f g = g i

pub rises_once : (pages : List ℕ) {l : List ℕ} → Rises pages l → (a b : ℕ) → In a l → In b l → get_or pages a 0 ≡ get_or pages b 0 → a ≡ b
rises_once pages rises_none a b i j e = in_nil _ a i
rises_once pages (rises_more t l above r) a b i j e =
    in_cons _ a t l i
    (λ p. in_cons _ b t l j (λ q. p ∙ sym q) (λ q. let h = above b q in let s = ap (λ (n : ℕ). get_or pages n 0) p in absurd (omega arith)))
    (λ p. in_cons _ b t l j (λ q. let h = above a p in let s = ap (λ (n : ℕ). get_or pages n 0) q in absurd (omega arith)) (λ q. rises_once pages r a b p q e))

module _ (pages : List ℕ) (n : ℕ) where
  -- what is in the list after entry n is put: n, and others
  put_any : (P : Type 0) (l : List ℕ) (k : ℕ) → In k (put_entry pages n l) → (k ≡ n → P) → (In k l → P) → P
  put_any P [] k i f g = in_cons P k n [] (rw (put_last pages n) at i) f g
  put_any P (t ∷ l) k i f g =
      by_order P (get_or pages n 0) (get_or pages t 0)
      (λ p. in_cons P k n (t ∷ l) (rw (put_before pages n t l p) at i) f g)
      (λ p. in_cons P k n l (rw (put_over pages n t l p) at i) f (λ j. g (there t l j)))
      (λ p. in_cons P k t (put_entry pages n l) (rw (put_behind pages n t l p) at i) (λ e. g (rw e (here l))) (λ j. put_any P l k j f (λ s. g (there t l s))))

  put_rises : {l : List ℕ} → Rises pages l → Rises pages (put_entry pages n l)
  put_rises rises_none = rw (put_last pages n) (rises_more n [] (λ k i. in_nil _ k i) rises_none)
  put_rises (rises_more t l above r) =
      by_order _ (get_or pages n 0) (get_or pages t 0)
      (λ p. rw (put_before pages n t l p)
      (rises_more n (t ∷ l) (λ k i. in_cons _ k t l i (λ e. rw e p) (λ j. let h = above k j in omega arith)) (rises_more t l above r)))
      (λ p. rw (put_over pages n t l p) (rises_more n l (λ k i. let h = above k i in omega arith) r))
      (λ p. rw (put_behind pages n t l p) (rises_more t (put_entry pages n l) (λ k i. put_any _ l k i (λ e. rw e p) (above k)) (put_rises r)))

  -- the others have another page
  put_others : {l : List ℕ} → Rises pages l → (P : Type 0) (k : ℕ) → In k (put_entry pages n l) → (k ≡ n → P) → (In k l → (get_or pages k 0 ≡ get_or pages n 0 → ⊥) → P) → P
  put_others rises_none P k i f g = in_cons P k n [] (rw (put_last pages n) at i) f (λ j. in_nil P k j)
  put_others (rises_more t l above r) P k i f g =
      by_order P (get_or pages n 0) (get_or pages t 0)
      (λ p. in_cons P k n (t ∷ l) (rw (put_before pages n t l p) at i) f
      (λ j. g j (λ e. in_cons _ k t l j (λ s. let q = ap (λ (x : ℕ). get_or pages x 0) s in absurd (omega arith)) (λ s. let h = above k s in absurd (omega arith)))))
      (λ p. in_cons P k n l (rw (put_over pages n t l p) at i) f (λ j. g (there t l j) (λ e. let h = above k j in absurd (omega arith))))
      (λ p. in_cons P k t (put_entry pages n l) (rw (put_behind pages n t l p) at i)
      (λ s. g (rw s (here l)) (λ e. let q = ap (λ (x : ℕ). get_or pages x 0) s in absurd (omega arith)))
      (λ j. put_others r P k j f (λ s q. g (there t l s) q)))

  put_there : (l : List ℕ) → In n (put_entry pages n l)
  put_there [] = rw (put_last pages n) (here [])
  put_there (t ∷ l) =
      by_order _ (get_or pages n 0) (get_or pages t 0)
      (λ p. rw (put_before pages n t l p) (here (t ∷ l)))
      (λ p. rw (put_over pages n t l p) (here l))
      (λ p. rw (put_behind pages n t l p) (there t (put_entry pages n l) (put_there l)))

  put_keeps : (l : List ℕ) (k : ℕ) → In k l → (get_or pages k 0 ≡ get_or pages n 0 → ⊥) → In k (put_entry pages n l)
  put_keeps [] k i e = in_nil _ k i
  put_keeps (t ∷ l) k i e =
      by_order _ (get_or pages n 0) (get_or pages t 0)
      (λ p. rw (put_before pages n t l p) (there n (t ∷ l) i))
      (λ p. rw (put_over pages n t l p) (in_cons _ k t l i (λ s. let q = ap (λ (x : ℕ). get_or pages x 0) s in absurd (e (q ∙ sym p))) (there n l)))
      (λ p. rw (put_behind pages n t l p) (in_cons _ k t l i (λ s. rw s (here (put_entry pages n l))) (λ j. there t (put_entry pages n l) (put_keeps l k j e))))

-- a test, by its answer
by_bool : (P : Type 0) (t : Bool) → (t ≡ true → P) → (t ≡ false → P) → P
by_bool P true f g = f refl
by_bool P false f g = g refl

module _ (pages hash : List ℕ) where
  latest_none : latest pages hash 0 ≡ []
  unfolding latest
  latest_none = refl

  latest_put : (v : ℕ) → named hash v ≡ true → latest pages hash (suc v) ≡ put_entry pages v (latest pages hash v)
  unfolding latest
  latest_put v e = rw e

  latest_same : (v : ℕ) → named hash v ≡ false → latest pages hash (suc v) ≡ latest pages hash v
  unfolding latest
  latest_same v e = rw e

  -- by rising page
  pub latest_rises : (v : ℕ) → Rises pages (latest pages hash v)
  latest_rises zero = rw latest_none rises_none
  latest_rises (suc v) =
      by_bool _ (named hash v)
      (λ e. rw (latest_put v e) (put_rises pages v (latest_rises v)))
      (λ e. rw (latest_same v e) (latest_rises v))

  -- of the first v entries
  pub latest_below : (v n : ℕ) → In n (latest pages hash v) → n < v
  latest_below zero n i = in_nil _ n (rw latest_none at i)
  latest_below (suc v) n i =
      by_bool _ (named hash v)
      (λ e. put_any pages v _ (latest pages hash v) n (rw (latest_put v e) at i) (λ p. omega arith) (λ j. let h = latest_below v n j in omega arith))
      (λ e. let h = latest_below v n (rw (latest_same v e) at i) in omega arith)

  -- each of them named by the hash
  pub latest_named : (v n : ℕ) → In n (latest pages hash v) → named hash n ≡ true
  latest_named zero n i = in_nil _ n (rw latest_none at i)
  latest_named (suc v) n i =
      by_bool _ (named hash v)
      (λ e. put_any pages v _ (latest pages hash v) n (rw (latest_put v e) at i) (λ p. rw p e) (latest_named v n))
      (λ e. latest_named v n (rw (latest_same v e) at i))

  -- and no later one of its page is
  pub latest_last : (v n : ℕ) → In n (latest pages hash v) → (m : ℕ) → n < m → m < v → named hash m ≡ true → get_or pages m 0 ≡ get_or pages n 0 → ⊥
  latest_last zero n i m a b k s = in_nil _ n (rw latest_none at i)
  latest_last (suc v) n i m a b k s =
      by_bool _ (named hash v)
      (λ e. put_others pages v (latest_rises v) _ n (rw (latest_put v e) at i)
      (λ p. absurd (omega arith))
      (λ j q. by_eqb _ m v (λ t. q (sym s ∙ ap (λ (x : ℕ). get_or pages x 0) t)) (λ t. latest_last v n j m a (omega arith) k s)))
      (λ e. by_eqb _ m v
      (λ t. let z : ◌≡◌ {A = Bool} true false = sym k ∙ ap (named hash) t ∙ e in let o : ◌≡◌ {A = ℕ} 0 1 = cc in omega arith)
      (λ t. latest_last v n (rw (latest_same v e) at i) m a (omega arith) k s))

  -- every page that a named entry has is there
  pub latest_has : (v n : ℕ) → n < v → named hash n ≡ true → HasPage pages (latest pages hash v) n
  latest_has zero n b k = absurd (omega arith)
  latest_has (suc v) n b k =
      by_bool _ (named hash v)
      (λ e. by_eqb _ (get_or pages v 0) (get_or pages n 0)
      (λ p. record { entry = v; listed = rw (latest_put v e) (put_there pages v (latest pages hash v)); same_page = p; later = omega arith })
      (λ p. by_eqb _ n v
      (λ q. absurd (p (ap (λ (x : ℕ). get_or pages x 0) (sym q))))
      (λ q. let h = latest_has v n (omega arith) k in
      record { entry = h.entry; listed = rw (latest_put v e) (put_keeps pages v (latest pages hash v) h.entry h.listed (λ r. p (sym r ∙ h.same_page))); same_page = h.same_page; later = h.later })))
      (λ e. by_eqb _ n v
      (λ q. let z : ◌≡◌ {A = Bool} true false = sym k ∙ ap (named hash) q ∙ e in let o : ◌≡◌ {A = ℕ} 0 1 = cc in absurd (omega arith))
      (λ q. let h = latest_has v n (omega arith) k in
      record { entry = h.entry; listed = rw (latest_same v e) h.listed; same_page = h.same_page; later = h.later }))

-- Of the latest entries, those whose frame is within the bounds.
module _ (frames : List ℕ) (low high : ℕ) where
  pub bounds_in : (e : ℕ) → low ≤ get_or frames e 0 → get_or frames e 0 ≤ high → in_bounds frames low high (e ∷ []) ≡ e ∷ []
  unfolding in_bounds
  bounds_in e a b = rw (le-leb _ _ a, le-leb _ _ b)

  pub bounds_low : (e : ℕ) → get_or frames e 0 < low → in_bounds frames low high (e ∷ []) ≡ []
  unfolding in_bounds
  bounds_low e a = rw (lt-leb _ _ a)

  pub bounds_high : (e : ℕ) → low ≤ get_or frames e 0 → high < get_or frames e 0 → in_bounds frames low high (e ∷ []) ≡ []
  unfolding in_bounds
  bounds_high e a b = rw (le-leb _ _ a, lt-leb _ _ b)

  -- an entry is within the bounds, or is left out
  by_bounds : (P : Type 0) (t : ℕ) → (low ≤ get_or frames t 0 → get_or frames t 0 ≤ high → P) → (in_bounds frames low high (t ∷ []) ≡ [] → P) → P
  by_bounds P t f g = go (dec_le low (get_or frames t 0)) (dec_le (get_or frames t 0) high)
    where
      go : Dec (low ≤ get_or frames t 0) → Dec (get_or frames t 0 ≤ high) → P
      go (no a) d = g (bounds_low t (omega arith))
      go (yes a) (no b) = g (bounds_high t a (omega arith))
      go (yes a) (yes b) = f a b

  bounds_keep : (t : ℕ) (l : List ℕ) → low ≤ get_or frames t 0 → get_or frames t 0 ≤ high → in_bounds frames low high (t ∷ l) ≡ t ∷ in_bounds frames low high l
  bounds_keep t l a b = bounds_next frames low high t l ∙ rw (bounds_in t a b)

  bounds_leave : (t : ℕ) (l : List ℕ) → in_bounds frames low high (t ∷ []) ≡ [] → in_bounds frames low high (t ∷ l) ≡ in_bounds frames low high l
  bounds_leave t l e = bounds_next frames low high t l ∙ rw e

  -- what is listed is one of them, within the bounds
  pub bounded : (P : Type 0) (l : List ℕ) (n : ℕ) → In n (in_bounds frames low high l) → (In n l → low ≤ get_or frames n 0 → get_or frames n 0 ≤ high → P) → P
  bounded P [] n i f = in_nil P n (rw (bounds_nil frames low high) at i)
  bounded P (t ∷ l) n i f =
      by_bounds P t
      (λ a b. in_cons P n t (in_bounds frames low high l) (rw (bounds_keep t l a b) at i) (λ e. f (rw e (here l)) (rw e a) (rw e b)) (λ j. bounded P l n j (λ k. f (there t l k))))
      (λ o. bounded P l n (rw (bounds_leave t l o) at i) (λ k. f (there t l k)))

  -- and each one within them is listed
  pub bounded_has : (l : List ℕ) (n : ℕ) → In n l → low ≤ get_or frames n 0 → get_or frames n 0 ≤ high → In n (in_bounds frames low high l)
  bounded_has [] n i a b = in_nil _ n i
  bounded_has (t ∷ l) n i a b =
      by_bounds _ t
      (λ c d. rw (bounds_keep t l c d) (in_cons _ n t l i (λ e. rw e (here (in_bounds frames low high l))) (λ j. there t (in_bounds frames low high l) (bounded_has l n j a b))))
      (λ o. rw (bounds_leave t l o) (in_cons _ n t l i (λ e. absurd (never t (rw e at a) (rw e at b) o)) (λ j. bounded_has l n j a b)))
    where
      never : (s : ℕ) → low ≤ get_or frames s 0 → get_or frames s 0 ≤ high → in_bounds frames low high (s ∷ []) ≡ [] → ⊥
      never s c d o = let z = ap length (sym (bounds_in s c d) ∙ o) in omega arith

  -- still by rising page
  pub bounded_rises : (pages : List ℕ) {l : List ℕ} → Rises pages l → Rises pages (in_bounds frames low high l)
  bounded_rises pages rises_none = rw (bounds_nil frames low high) rises_none
  bounded_rises pages (rises_more t l above r) =
      by_bounds _ t
      (λ c d. rw (bounds_keep t l c d) (rises_more t (in_bounds frames low high l) (λ n i. bounded _ l n i (λ k a b. above n k)) (bounded_rises pages r)))
      (λ o. rw (bounds_leave t l o) (bounded_rises pages r))
