-- Runs joined from parts, each seen by a test. Assumes nothing.
use mathlib.Core.Path.{◌≡◌, refl, sym, subst, ap, ◌∙◌}
use mathlib.Core.Bool.{Bool, true, false, false≢true, not, ◌&&◌}
use mathlib.Core.List.{List, [], ◌∷◌, ◌++◌}
use Prim.Native.Nat.{ℕ, zero, suc, ◌+◌, ◌-◌, ◌*◌, ◌<◌, ◌≤◌}
use native.Mathlib.Decide.{dec_lt}
use native.Mathlib.Omega.{arith}
use lib.Dec.{eqb, leb}
use lib.ListN.{length, get_or, take, drop}
use Rattle.std.proofs.lemmas.Bool.{leb-true}
use borrow.Author.Tests.{eqb-true, eqb-false, leb-false, not-true}
use lib.Seq.{get_or-take, get_or-drop, take-take, get_or-append_seam, take-append_seam}
use Rattle.std.specs.Prelude.{Option, Some}
use Rattle.std.specs.List.{fold}
use Rattle.std.specs.Iterator.{CallableAtEachTurn}
use Rattle.std.proofs.lemmas.Fn.{serves_by}
use Rattle.std.proofs.lemmas.Iterator.{YieldsList}
use Rattle.std.proofs.lemmas.Iterator.Consumers.{YieldsList-turn}
use Rattle.std.specs.Simd.{first_chunks}
use Rattle.index_search.specs.InnerRun.{All, Live, page_named, Other}

pub one_at_least : (x : ℕ) → (x ≡ 0 → ⊥) → 1 ≤ x
one_at_least zero f = absurd (f refl)
one_at_least (suc x) f = omega arith

-- a part, and the one behind it
pub all_join : (P : ℕ → Type 0) (from mid to : ℕ) → All P from mid → All P mid to → All P from to
all_join P from mid to a b c l u = go (dec_lt c mid)
  where
    go : Dec (c < mid) → P c
    go (yes e) = a c l e
    go (no e) = b c (omega arith) u

-- one number
pub all_one : (P : ℕ → Type 0) (c : ℕ) → P c → All P c (c + 1)
all_one P c p k l u = let e : k ≡ c = omega arith in rw e p

-- none
pub all_none : (P : ℕ → Type 0) (c : ℕ) → All P c c
all_none P c k l u = absurd (omega arith)

-- a part of it
pub all_within : (P : ℕ → Type 0) (from to from' to' : ℕ) → from ≤ from' → to' ≤ to → All P from to → All P from' to'
all_within P from to from' to' l u a c x y = a c (omega arith) (omega arith)

both : (a b : Bool) → (a && b) ≡ true → (a ≡ true) × (b ≡ true)
both true b e = (refl, e)
both false b e = absurd (false≢true e)

-- a fold that keeps whether all of a list pass a test
module _ (test : ℕ → Bool) (P : ℕ → Type 0) (tells : (x : ℕ) → test x ≡ true → P x) where
  before : (l : List ℕ) (all : Bool) → fold (λ a x. a && test x) all l ≡ true → all ≡ true
  before [] all e = e
  before (x ∷ l) all e = (both all _ (before l (all && test x) e)).0

  pub fold_all : (l : List ℕ) (all : Bool) → fold (λ a x. a && test x) all l ≡ true → (i : ℕ) → i < length l → P (get_or l i 0)
  fold_all [] all e i b = absurd (omega arith)
  fold_all (x ∷ l) all e zero b = tells x (both all _ (before l (all && test x) e)).1
  fold_all (x ∷ l) all e (suc i) b = fold_all l (all && test x) e i (omega arith)

-- a cell that is seen to be live
pub live_seen : (visible x : ℕ) → (not (eqb x 0) && leb x visible) ≡ true → (1 ≤ x) × (x ≤ visible)
live_seen visible zero e = absurd (false≢true e)
live_seen visible (suc x) e = let s = both (not (eqb (suc x) 0)) (leb (suc x) visible) e in (omega arith, leb-true (suc x) visible s.1)

-- and one seen not to be
pub live_unseen : (h : List ℕ) (visible c : ℕ) → (not (eqb (get_or h c 0) 0) && leb (get_or h c 0) visible) ≡ false → Live h visible c → ⊥
live_unseen h visible c e l = go (eqb (get_or h c 0) 0) (leb (get_or h c 0) visible) refl refl e
  where
    go : (a b : Bool) → eqb (get_or h c 0) 0 ≡ a → leb (get_or h c 0) visible ≡ b → (not a && b) ≡ false → ⊥
    go true b p q f = let z = eqb-true (get_or h c 0) 0 p in absurd (omega (arith, l.0))
    go false true p q f = false≢true (sym f)
    go false false p q f = let z = leb-false (get_or h c 0) visible q in absurd (omega (arith, l.1))

-- a cell seen to name another page's entry
pub other_seen : (h pages : List ℕ) (page c : ℕ) → not (eqb (page_named h pages c) page) ≡ true → Other h pages page c
other_seen h pages page c e = eqb-false _ _ (not-true _ e)

-- a fold may call its closure where the closure may be called at each of the list's items and changes nothing that it holds
pub callable_in_fold : {S A B F T : Type 0} {steps : S → Option A → S → Type 0} {v : A → B} {s : S} {all : List B} → YieldsList steps v s all → {R : F × T → A → F × T → Type 0} {Q : F × T → A → Type 0} {f : F} {a : T}
    → ((n : T) (x : A) (q : F × T) → R (f, n) x q → q.0 ≡ f) → ((n : T) (x : A) (k : ℕ) → k < length all → v x ≡ get_or all k (v x) → Q (f, n) x) → CallableAtEachTurn {P = F × T} steps R Q s (f, a)
callable_in_fold {F = F} {T = T} {steps = steps} {s = s} road {R = R} {Q = Q} {f = f} {a = a} stays h = serves_by R (λ _ q. q.0 ≡ f) (λ xs q x w j r. stays q.1 x w (subst (λ (g : F). R (g, q.1) x w) j r)) steps Q s (f, a) refl
    (λ xs t q x u y e j. let m = YieldsList-turn road xs t y (Some x) u x refl e in subst (λ (g : F). Q (g, q.1) x) (sym j) (h q.1 x (length xs) m.0 m.1))

-- cell j of look n
look_cell : (size m n j : ℕ) (xs : List ℕ) → n < m → j < size → get_or (get_or (first_chunks size m xs) n []) j 0 ≡ get_or xs (size * n + j) 0
look_cell size zero n j xs l b = absurd (omega arith)
look_cell size (suc m) zero j xs l b = get_or-take {A = ℕ} size xs j 0 b ∙ ap (λ (k : ℕ). get_or xs k 0) (omega arith)
look_cell size (suc m) (suc n) j xs l b =
    look_cell size m n j (drop size xs) (omega arith) b
    ∙ get_or-drop {A = ℕ} size xs (size * n + j) 0
    ∙ ap (λ (k : ℕ). get_or xs k 0) (omega arith)

-- one look more is live
pub look_live : (h : List ℕ) (looks : List (List ℕ)) (visible n m : ℕ) → looks ≡ first_chunks 16 m h → n < m → All (Live h visible) 0 (16 * n) → All (Live (get_or looks n []) visible) 0 16
    → All (Live h visible) 0 (16 * (n + 1))
look_live h looks visible n m e l before look = all_join (Live h visible) 0 (16 * n) (16 * (n + 1)) before here
  where
    here : All (Live h visible) (16 * n) (16 * (n + 1))
    here c x y =
        let k : 16 * n + (c - 16 * n) ≡ c = omega arith in
        let q : get_or (get_or looks n []) (c - 16 * n) 0 ≡ get_or h c 0 = rw e (rw k at (look_cell 16 m n (c - 16 * n) h l (omega arith))) in
        rw q at (look (c - 16 * n) (omega arith) (omega arith))

-- a cell of a part
pub cell_of_part : (h : List ℕ) (from n c : ℕ) → c < n → get_or (take n (drop from h)) c 0 ≡ get_or h (from + c) 0
cell_of_part h from n c l = get_or-take {A = ℕ} n (drop from h) c 0 l ∙ get_or-drop {A = ℕ} from h c 0

-- what is live in a part is live
pub part_live : (h : List ℕ) (visible from n p : ℕ) → p ≤ n → All (Live (take n (drop from h)) visible) 0 p → All (Live h visible) from (from + p)
part_live h visible from n p l live c x y =
    let k : from + (c - from) ≡ c = omega arith in
    rw k at (rw (cell_of_part h from n (c - from) (omega arith)) at (live (c - from) (omega arith) (omega arith)))

-- a cell of what is left of a run
pub kept_cell : (rest run : List ℕ) (c : ℕ) → rest ≡ take (length rest) run → c < length rest → get_or rest c 0 ≡ get_or run c 0
kept_cell rest run c e l = ap (λ (x : List ℕ). get_or x c 0) e ∙ get_or-take {A = ℕ} (length rest) run c 0 l

-- the last cell of what is left of a run, and what is before it
module _ (rest run front : List ℕ) (cell : ℕ) (kept : rest ≡ take (length rest) run) (parts : rest ≡ front ++ (cell ∷ [])) (size : length front + 1 ≡ length rest) where
  pub last_cell : get_or run (length front) 0 ≡ cell
  last_cell = sym (kept_cell rest run (length front) kept (omega arith)) ∙ ap (λ (x : List ℕ). get_or x (length front) 0) parts ∙ get_or-append_seam front cell [] 0

  pub front_kept : front ≡ take (length front) run
  front_kept = sym (take-append_seam front (cell ∷ [])) ∙ ap (take (length front)) (sym parts ∙ kept) ∙ take-take (length front) (length rest) run (omega arith)

-- the last look of what is left of a run
module _ (run rest before look : List ℕ) (kept : rest ≡ take (length rest) run) (within : length rest ≤ length run) (front : before ≡ take (length rest - 8) rest) (back : look ≡ drop (length rest - 8) rest) (size : length before + 8 ≡ length rest) where
  look_at : (c : ℕ) → length before ≤ c → c < length rest → get_or look (c - length before) 0 ≡ get_or run c 0
  look_at c l u =
      let n : length rest - 8 + (c - length before) ≡ c = omega arith in
      ap (λ (x : List ℕ). get_or x (c - length before) 0) back
      ∙ get_or-drop {A = ℕ} (length rest - 8) rest (c - length before) 0
      ∙ ap (λ (k : ℕ). get_or rest k 0) n
      ∙ ap (λ (x : List ℕ). get_or x c 0) kept
      ∙ get_or-take {A = ℕ} (length rest) run c 0 u

  before_kept : before ≡ take (length before) run
  before_kept =
      let n : length rest - 8 ≡ length before = omega arith in
      front ∙ ap (λ (k : ℕ). take k rest) n ∙ ap (take (length before)) kept ∙ take-take (length before) (length rest) run (omega arith)

  -- passed, if its cells name others
  pub look_passed : (pages : List ℕ) (page : ℕ) → All (Other run pages page) (length rest) (length run) → All (Other look pages page) 0 8
      → (length before ≤ length run) × ((before ≡ take (length before) run) × All (Other run pages page) (length before) (length run))
  look_passed pages page passed others = (omega arith, (before_kept, all_join (Other run pages page) (length before) (length rest) (length run) here passed))
    where
      here : All (Other run pages page) (length before) (length rest)
      here c l u e = others (c - length before) (omega arith) (omega arith) (rw (look_at c l u) e)
