-- Laws of lists of pairs: what is taken off the end, and a page's greatest frame. Assumes nothing.
use mathlib.Core.Path.{◌≡◌, refl, sym, ◌∙◌, ap, ap₂}
use mathlib.Core.Bool.{Bool, true, false, ◌&&◌, cond}
use mathlib.Core.List.Memᴰ
use mathlib.Core.List.{List, [], ◌∷◌, ◌++◌, append-nil, Memᴰ}
use mathlib.Core.Logic.{◌⊎◌, inl, inr}
use Prim.Native.Nat.{ℕ, ◌<◌, ◌≤◌, min, max}
use native.Mathlib.Decide.{dec_le}
use native.Mathlib.Omega.{arith}
use lib.Dec.{eqb, leb}
use borrow.Author.Tests.{eq-eqb, ne_eqb, le-leb, lt-leb, eqb-true, leb-true}
use Rattle.std.specs.Prelude.{Option, Some, None}
use Rattle.wal_types.specs.Call.{Pair, pair}
use Rattle.index_grown.specs.Entries.{before_kept, taken_off, up_to, higher, frame_in, greatest}

-- each pair of a list has it
abbrev pub Each : (Pair → Type 0) → List Pair → Type 0
Each P l = (q : Pair) → Memᴰ q l → P q

-- the greater of frames
pub higher_none : (r : Option ℕ) → higher r None ≡ r
higher_none (Some f) = refl
higher_none None = refl

pub higher_assoc : (r s t : Option ℕ) → higher (higher r s) t ≡ higher r (higher s t)
higher_assoc (Some f) (Some g) (Some h) = let e : max (max f g) h ≡ max f (max g h) = omega arith in ap Some e
higher_assoc (Some f) (Some g) None = refl
higher_assoc (Some f) None t = refl
higher_assoc None s t = refl

-- a pair of another page, or out of bounds, gives no frame; else it gives its own
module _ (page low high : ℕ) (q : Pair) where
  pub frame_other : (q.page ≡ page → ⊥) → frame_in page low high q ≡ None
  frame_other o = rw (ne_eqb _ _ o)

  pub frame_below : q.frame < low → frame_in page low high q ≡ None
  frame_below l = rw (lt-leb _ _ l) (go (eqb q.page page))
    where
      go : (t : Bool) → cond (t && false) (Some q.frame) None ≡ None
      go true = refl
      go false = refl

  pub frame_above : high < q.frame → frame_in page low high q ≡ None
  frame_above l = rw (lt-leb _ _ l) (go (eqb q.page page) (leb low q.frame))
    where
      go : (t u : Bool) → cond (t && (u && false)) (Some q.frame) None ≡ None
      go true true = refl
      go true false = refl
      go false u = refl

  pub frame_here : q.page ≡ page → low ≤ q.frame → q.frame ≤ high → frame_in page low high q ≡ Some q.frame
  frame_here e l u = rw (eq-eqb _ _ e, le-leb _ _ l, le-leb _ _ u)

  -- what a frame that is given tells
  pub frame_given : (f : ℕ) → frame_in page low high q ≡ Some f → (q.page ≡ page) × ((q.frame ≡ f) × ((low ≤ f) × (f ≤ high)))
  frame_given f e = go (eqb q.page page) (leb low q.frame) (leb q.frame high) refl refl refl e
    where
      go : (t u v : Bool) → eqb q.page page ≡ t → leb low q.frame ≡ u → leb q.frame high ≡ v → cond (t && (u && v)) (Some q.frame) None ≡ Some f
          → (q.page ≡ page) × ((q.frame ≡ f) × ((low ≤ f) × (f ≤ high)))
      go true true true et eu ev e =
          let s : q.frame ≡ f = cc in
          let a : low ≤ q.frame = leb-true _ _ eu in
          let c : q.frame ≤ high = leb-true _ _ ev in
          (eqb-true _ _ et, (s, (omega arith, omega arith)))
      go true true false et eu ev e = let z : ◌≡◌ {A = ℕ} 0 1 = cc in absurd (omega arith)
      go true false v et eu ev e = let z : ◌≡◌ {A = ℕ} 0 1 = cc in absurd (omega arith)
      go false u v et eu ev e = let z : ◌≡◌ {A = ℕ} 0 1 = cc in absurd (omega arith)

module _ (page low high : ℕ) where
  -- of two lists, the greater of both
  pub greatest_append : (a b : List Pair) → greatest (a ++ b) page low high ≡ higher (greatest a page low high) (greatest b page low high)
  unfolding greatest
  greatest_append [] b = refl
  greatest_append (q ∷ a) b = ap (higher (frame_in page low high q)) (greatest_append a b) ∙ sym (higher_assoc (frame_in page low high q) (greatest a page low high) (greatest b page low high))

  -- one pair more
  pub greatest_more : (l : List Pair) (q : Pair) → greatest (l ++ (q ∷ [])) page low high ≡ higher (greatest l page low high) (frame_in page low high q)
  unfolding greatest
  greatest_more l q = greatest_append l (q ∷ []) ∙ ap (higher (greatest l page low high)) (higher_none (frame_in page low high q))

  -- pairs that give no frame have no greatest
  pub greatest_none : (l : List Pair) → Each (λ q. frame_in page low high q ≡ None) l → greatest l page low high ≡ None
  unfolding greatest
  greatest_none [] none = refl
  greatest_none (q ∷ l) none = rw (none q (Memᴰ.head refl)) (greatest_none l (λ r m. none r (Memᴰ.tail m)))

  -- BOUNDS: pairs above the upper bound, added at the end, change nothing
  pub greatest_past : (es more : List Pair) → Each (λ q. high < q.frame) more → greatest (es ++ more) page low high ≡ greatest es page low high
  greatest_past es more above =
      greatest_append es more ∙ (ap (higher (greatest es page low high)) (greatest_none more (λ q m. frame_above page low high q (above q m))) ∙ higher_none (greatest es page low high))

  -- bounds in the wrong order: none
  pub greatest_crossed : high < low → (l : List Pair) → greatest l page low high ≡ None
  greatest_crossed c l = greatest_none l (λ q m. go q (dec_le low q.frame))
    where
      go : (q : Pair) → Dec (low ≤ q.frame) → frame_in page low high q ≡ None
      go q (yes a) = frame_above page low high q (omega arith)
      go q (no a) = frame_below page low high q (omega arith)

  -- TAKEN OFF: with pairs above a bound taken off the end, the greatest frame up to that bound is the same
  pub greatest_taken : (bound : ℕ) → high ≤ bound → (l : List Pair) → greatest (taken_off bound l) page low high ≡ greatest l page low high
  unfolding taken_off greatest
  greatest_taken bound h [] = refl
  greatest_taken bound h (q ∷ l) = go (taken_off bound l) (greatest_taken bound h l)
    where
      one : Dec (q.frame ≤ bound) → greatest (cond (leb q.frame bound) (q ∷ []) []) page low high ≡ higher (frame_in page low high q) None
      one (yes l) = rw (le-leb _ _ l)
      one (no l) = rw (lt-leb q.frame bound (omega arith), frame_above page low high q (omega arith))

      go : (k : List Pair) → greatest k page low high ≡ greatest l page low high → greatest (before_kept bound q k) page low high ≡ higher (frame_in page low high q) (greatest l page low high)
      go [] e = one (dec_le q.frame bound) ∙ ap (higher (frame_in page low high q)) e
      go (r ∷ k) e = ap (higher (frame_in page low high q)) e

  -- UP TO: only the pairs up to a bound that is not below the upper one matter
  pub greatest_up_to : (bound : ℕ) → high ≤ bound → (l : List Pair) → greatest (up_to bound l) page low high ≡ greatest l page low high
  unfolding up_to greatest
  greatest_up_to bound h [] = refl
  greatest_up_to bound h (q ∷ l) = go (greatest_up_to bound h l) (dec_le q.frame bound)
    where
      go : greatest (up_to bound l) page low high ≡ greatest l page low high → Dec (q.frame ≤ bound) → greatest (up_to bound (q ∷ l)) page low high ≡ higher (frame_in page low high q) (greatest l page low high)
      go ih (yes b) = rw (le-leb _ _ b, ih)
      go ih (no b) = rw (lt-leb q.frame bound (omega arith), frame_above page low high q (omega arith)) ih

-- taken off from the end: the last pair stays, and all before it, or it goes, and the rest decides
module _ (bound : ℕ) where
  pub taken_stays : (l : List Pair) (q : Pair) → q.frame ≤ bound → taken_off bound (l ++ (q ∷ [])) ≡ l ++ (q ∷ [])
  unfolding taken_off
  taken_stays [] q l = rw (le-leb _ _ l)
  taken_stays (r ∷ []) q l = rw (le-leb _ _ l)
  taken_stays (r ∷ (s ∷ k)) q l = ap (before_kept bound r) (taken_stays (s ∷ k) q l)

  pub taken_goes : (l : List Pair) (q : Pair) → bound < q.frame → taken_off bound (l ++ (q ∷ [])) ≡ taken_off bound l
  unfolding taken_off
  taken_goes [] q l = rw (lt-leb _ _ l)
  taken_goes (r ∷ k) q l = ap (before_kept bound r) (taken_goes k q l)

  -- the pairs up to a bound, of one pair more
  pub up_to_append : (a b : List Pair) → up_to bound (a ++ b) ≡ up_to bound a ++ up_to bound b
  unfolding up_to
  up_to_append [] b = refl
  up_to_append (q ∷ a) b = rw (up_to_append a b) (go (leb q.frame bound))
    where
      go : (t : Bool) → cond t (q ∷ (up_to bound a ++ up_to bound b)) (up_to bound a ++ up_to bound b) ≡ cond t (q ∷ up_to bound a) (up_to bound a) ++ up_to bound b
      go true = refl
      go false = refl

  pub up_to_stays : (l : List Pair) (q : Pair) → q.frame ≤ bound → up_to bound (l ++ (q ∷ [])) ≡ up_to bound l ++ (q ∷ [])
  unfolding up_to
  up_to_stays l q b = up_to_append l (q ∷ []) ∙ rw (le-leb _ _ b)

  pub up_to_goes : (l : List Pair) (q : Pair) → bound < q.frame → up_to bound (l ++ (q ∷ [])) ≡ up_to bound l
  unfolding up_to
  up_to_goes l q b = up_to_append l (q ∷ []) ∙ rw (lt-leb _ _ b) (append-nil (up_to bound l))

  -- where no frame is above the bound, all stay
  pub up_to_all : (l : List Pair) → Each (λ q. q.frame ≤ bound) l → up_to bound l ≡ l
  unfolding up_to
  up_to_all [] all = refl
  up_to_all (q ∷ l) all = rw (le-leb _ _ (all q (Memᴰ.head refl))) (ap (λ (k : List Pair). q ∷ k) (up_to_all l (λ r m. all r (Memᴰ.tail m))))

  -- the pairs up to a bound are the pairs with a frame of at most that
  pub up_to_keeps : (l : List Pair) (q : Pair) → q.frame ≤ bound → Memᴰ q l → Memᴰ q (up_to bound l)
  unfolding up_to
  up_to_keeps [] q b m = absurd (Memᴰ.not-nil m)
  up_to_keeps (r ∷ l) q b m = go (dec_le r.frame bound) (Memᴰ.cases_cons m) (up_to_keeps l q b)
    where
      go : Dec (r.frame ≤ bound) → (q ≡ r) ⊎ Memᴰ q l → (Memᴰ q l → Memᴰ q (up_to bound l)) → Memᴰ q (up_to bound (r ∷ l))
      go (yes c) (inl e) ih = rw (le-leb _ _ c) (Memᴰ.head e)
      go (yes c) (inr i) ih = rw (le-leb _ _ c) (Memᴰ.tail (ih i))
      go (no c) (inl e) ih = let s : q.frame ≡ r.frame = ap (λ (x : Pair). x.frame) e in absurd (c (omega arith))
      go (no c) (inr i) ih = rw (lt-leb r.frame bound (omega arith)) (ih i)

  pub up_to_only : (l : List Pair) (q : Pair) → Memᴰ q (up_to bound l) → Memᴰ q l × (q.frame ≤ bound)
  unfolding up_to
  up_to_only [] q m = absurd (Memᴰ.not-nil m)
  up_to_only (r ∷ l) q m = go (dec_le r.frame bound) m (up_to_only l q)
    where
      deeper : Memᴰ q l × (q.frame ≤ bound) → Memᴰ q (r ∷ l) × (q.frame ≤ bound)
      deeper i = (Memᴰ.tail i.0, i.1)

      go : Dec (r.frame ≤ bound) → Memᴰ q (up_to bound (r ∷ l)) → (Memᴰ q (up_to bound l) → Memᴰ q l × (q.frame ≤ bound)) → Memᴰ q (r ∷ l) × (q.frame ≤ bound)
      go (yes c) m ih =
          elim (Memᴰ.cases_cons (rw (le-leb _ _ c) at m)) [
            | inl e ↦ let s : q.frame ≡ r.frame = ap (λ (x : Pair). x.frame) e in (Memᴰ.head e, omega arith)
            | inr i ↦ deeper (ih i)
          ]
      go (no c) m ih = deeper (ih (rw (lt-leb r.frame bound (omega arith)) at m))

-- up to one bound and then up to another is up to the lesser
pub up_to_twice : (a b : ℕ) (l : List Pair) → up_to b (up_to a l) ≡ up_to (min a b) l
unfolding up_to
up_to_twice a b [] = refl
up_to_twice a b (q ∷ l) = go (up_to_twice a b l) (dec_le q.frame a) (dec_le q.frame b)
  where
    go : up_to b (up_to a l) ≡ up_to (min a b) l → Dec (q.frame ≤ a) → Dec (q.frame ≤ b) → up_to b (up_to a (q ∷ l)) ≡ up_to (min a b) (q ∷ l)
    go ih (yes c) (yes d) = rw (le-leb _ _ c, le-leb _ _ d, le-leb q.frame (min a b) (omega arith), ih)
    go ih (yes c) (no d) = rw (le-leb _ _ c, lt-leb q.frame b (omega arith), lt-leb q.frame (min a b) (omega arith)) ih
    go ih (no c) d = rw (lt-leb q.frame a (omega arith), lt-leb q.frame (min a b) (omega arith)) ih

-- WHAT greatest MEANS: a frame of the page within the bounds, with no greater one; or there is none
abbrev pub IsGreatest : List Pair → ℕ → ℕ → ℕ → Option ℕ → Type 0
IsGreatest l page low high (Some f) =
    Memᴰ (pair page f) l × ((low ≤ f) × ((f ≤ high) × ((g : ℕ) → Memᴰ (pair page g) l → low ≤ g → g ≤ high → g ≤ f)))
IsGreatest l page low high None = (g : ℕ) → Memᴰ (pair page g) l → low ≤ g → g ≤ high → ⊥

-- a pair by its page and frame
pub here : (page low high : ℕ) (q : Pair) (f : ℕ) → (q.page ≡ page) × ((q.frame ≡ f) × ((low ≤ f) × (f ≤ high))) → pair page f ≡ q
here page low high q f given = sym (ap₂ pair given.0 given.1.0)

-- a pair that gives no frame is not of the page within the bounds
pub not_here : (page low high : ℕ) (q : Pair) (h : ℕ) → frame_in page low high q ≡ None → pair page h ≡ q → low ≤ h → h ≤ high → ⊥
not_here page low high q h e s c d =
    let a : page ≡ q.page = ap (λ (x : Pair). x.page) s in
    let b : h ≡ q.frame = ap (λ (x : Pair). x.frame) s in
    let g = frame_here page low high q (sym a) (omega arith) (omega arith) in
    let z : ◌≡◌ {A = ℕ} 0 1 = cc in
    omega arith

module _ (page low high : ℕ) where
  -- a list's first pair, by what it gives, and the rest
  with_first : (q : Pair) (l : List Pair) (x r : Option ℕ) → frame_in page low high q ≡ x → IsGreatest l page low high r → IsGreatest (q ∷ l) page low high (higher x r)
  with_first q l (Some f) (Some g) e is =
      let given = frame_given page low high q f e in
      go given (dec_le f g)
    where
      others : (n : ℕ) → f ≤ n → g ≤ n → (h : ℕ) → Memᴰ (pair page h) (q ∷ l) → low ≤ h → h ≤ high → h ≤ n
      others n a b h m c d =
          elim (Memᴰ.cases_cons m) [
            | inl s ↦ let t : h ≡ f = ap (λ (x : Pair). x.frame) s ∙ (frame_given page low high q f e).1.0 in omega arith
            | inr s ↦ omega (arith, is.1.1.1 h s c d)
          ]

      go : (q.page ≡ page) × ((q.frame ≡ f) × ((low ≤ f) × (f ≤ high))) → Dec (f ≤ g) → IsGreatest (q ∷ l) page low high (Some (max f g))
      go given (yes a) =
          let s : max f g ≡ g = omega arith in
          rw s (Memᴰ.tail is.0, (is.1.0, (is.1.1.0, others g a (omega arith))))
      go given (no a) =
          let s : max f g ≡ f = omega arith in
          rw s (Memᴰ.head (here page low high q f given), (given.1.1.0, (given.1.1.1, others f (omega arith) (omega arith))))
  with_first q l (Some f) None e none =
      let given = frame_given page low high q f e in
      (Memᴰ.head (here page low high q f given), (given.1.1.0, (given.1.1.1, others)))
    where
      others : (h : ℕ) → Memᴰ (pair page h) (q ∷ l) → low ≤ h → h ≤ high → h ≤ f
      others h m c d =
          elim (Memᴰ.cases_cons m) [
            | inl s ↦ let t : h ≡ f = ap (λ (x : Pair). x.frame) s ∙ (frame_given page low high q f e).1.0 in omega arith
            | inr s ↦ absurd (none h s c d)
          ]
  with_first q l None (Some g) e is =
      (Memᴰ.tail is.0, (is.1.0, (is.1.1.0, others)))
    where
      others : (h : ℕ) → Memᴰ (pair page h) (q ∷ l) → low ≤ h → h ≤ high → h ≤ g
      others h m c d =
          elim (Memᴰ.cases_cons m) [
            | inl s ↦ absurd (not_here page low high q h e s c d)
            | inr s ↦ is.1.1.1 h s c d
          ]
  with_first q l None None e none = λ h m c d.
      elim (Memᴰ.cases_cons m) [
        | inl s ↦ not_here page low high q h e s c d
        | inr s ↦ none h s c d
      ]

  pub greatest_is : (l : List Pair) → IsGreatest l page low high (greatest l page low high)
  unfolding greatest
  greatest_is [] = λ g m a b. absurd (Memᴰ.not-nil m)
  greatest_is (q ∷ l) = with_first q l (frame_in page low high q) (greatest l page low high) refl (greatest_is l)

  -- and nothing else is
  pub greatest_only : (l : List Pair) (r : Option ℕ) → IsGreatest l page low high r → r ≡ greatest l page low high
  greatest_only l r is = go r (greatest l page low high) is (greatest_is l)
    where
      go : (r s : Option ℕ) → IsGreatest l page low high r → IsGreatest l page low high s → r ≡ s
      go (Some f) (Some g) a b =
          let e : f ≡ g = omega (arith, a.1.1.1 g b.0 b.1.0 b.1.1.0, b.1.1.1 f a.0 a.1.0 a.1.1.0) in
          ap Some e
      go (Some f) None a b = absurd (b f a.0 a.1.0 a.1.1.0)
      go None (Some g) a b = absurd (a g b.0 b.1.0 b.1.1.0)
      go None None a b = refl
