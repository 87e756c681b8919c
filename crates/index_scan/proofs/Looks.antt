-- A look at entries tells of each of them. Assumes nothing.
use mathlib.Core.Path.{◌≡◌, refl, ◌∙◌}
use mathlib.Core.Bool.{Bool, true, false, false≢true, not, ◌&&◌}
use mathlib.Core.List.{List, [], ◌∷◌}
use Prim.Native.Nat.{ℕ, zero, suc, ◌+◌, ◌-◌, ◌<◌, ◌≤◌}
use native.Mathlib.Omega.{arith}
use lib.Dec.{eqb}
use lib.ListN.{length, get_or, take, drop, length-take, length-drop}
use lib.Seq.{get_or-take, get_or-drop}
use borrow.Author.Tests.{eqb-false, not-true}
use Rattle.std.specs.List.{fold}
use Rattle.index_search.specs.InnerRun.{All}
use Rattle.index_scan.specs.InnerScan.{OtherPage}

-- a page more that is another one
abbrev pub other_too : ℕ → Bool → ℕ → Bool
other_too page others p = others && not (eqb p page)

both : (a b : Bool) → (a && b) ≡ true → (a ≡ true) × (b ≡ true)
both true b e = (refl, e)
both false b e = absurd (false≢true e)

module _ (page : ℕ) where
  before : (l : List ℕ) (others : Bool) → fold (other_too page) others l ≡ true → others ≡ true
  before [] others e = e
  before (p ∷ l) others e = (both others _ (before l (other_too page others p) e)).0

  each : (l : List ℕ) (others : Bool) → fold (other_too page) others l ≡ true → (i : ℕ) → i < length l → get_or l i 0 ≡ page → ⊥
  each [] others e i b s = absurd (omega arith)
  each (p ∷ l) others e zero b s = eqb-false p page (not-true _ (both others _ (before l (other_too page others p) e)).1) s
  each (p ∷ l) others e (suc i) b s = each l (other_too page others p) e i (omega arith) s

-- eight entries, from one on
pub look_others : (pages : List ℕ) (page from : ℕ) → from + 8 ≤ length pages → fold (other_too page) true (take 8 (drop from pages)) ≡ true → All (OtherPage pages page) from (from + 8)
look_others pages page from fits e i l u s =
    let b : i - from < 8 = omega arith in
    let j : from + (i - from) ≡ i = omega arith in
    let at : get_or (take 8 (drop from pages)) (i - from) 0 ≡ get_or pages i 0 = get_or-take {A = ℕ} 8 (drop from pages) (i - from) 0 b ∙ rw j at (get_or-drop {A = ℕ} from pages (i - from) 0) in
    each page (take 8 (drop from pages)) true e (i - from) (simp (length-take, length-drop) (omega arith)) (at ∙ s)
