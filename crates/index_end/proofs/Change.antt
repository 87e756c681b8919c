-- Cells that do not differ from a header's leave it as it is. Assumes nothing.
use mathlib.Core.Path.{◌≡◌, refl, sym, ◌∙◌}
use mathlib.Core.Bool.{Bool, true, false, not, ◌||◌}
use Prim.Native.Nat.{ℕ}
use lib.Dec.{eqb}
use borrow.Author.Tests.{eqb-true, not-false}
use Rattle.wal_types.specs.declared.Header.{Header}
use Rattle.index_end.specs.declared.cells.IndexCells.{IndexCells}
use Rattle.index_end.specs.Cells.{with_cells}
use Rattle.index_end.specs.InnerChange.{cells_change}

neither : (a b : Bool) → (a || b) ≡ false → (a ≡ false) × (b ≡ false)
neither true true e = (e, e)
neither true false e = (e, refl)
neither false b e = (refl, e)

same : (x y : ℕ) → not (eqb x y) ≡ false → x ≡ y
same x y e = eqb-true x y (not-false (eqb x y) e)

unchanged : (cells : IndexCells) (h : Header) → cells_change cells h ≡ false → with_cells cells h ≡ h
unchanged cells h e =
    let one = neither _ _ e in
    let two = neither _ _ one.1 in
    let len = same cells.frame_index_len h.frame_index_len one.0 in
    let flag = same cells.frame_index_overflowed h.frame_index_overflowed two.0 in
    let blocks = same cells.frame_index_blocks h.frame_index_blocks two.1 in
    rw (len, flag, blocks)

-- what says whether they differ says when they do not
pub told : (cells : IndexCells) (h : Header) (changes : Bool) → changes ≡ cells_change cells h → (changes ≡ cells_change cells h) × (changes ≡ false → with_cells cells h ≡ h)
told cells h changes e = (e, λ f. unchanged cells h (sym e ∙ f))
