-- The values that a block's cells have. Assumes nothing.
use Rattle.std.proofs.Common.{◌≡◌, ℕ, zero, suc, ◌+◌, ◌-◌, ◌*◌, ◌/◌, ◌%◌, ◌<◌, ◌≤◌, Bool, true, false, ◌||◌, eqb, List, [], ◌++◌, length, get_or, take, drop, set, replicate, mul-zero, mul-suc, drop-drop, refl, sym, ◌∙◌, arith}
use Rattle.std.proofs.lemmas.List.Folds.{list_any_more, list_any-append}
use Rattle.std.proofs.Math.Seq.{take-add, get_or-set_same, get_or-set_other}
use Rattle.std.specs.Simd.{first_chunks}
use borrow.Author.Tests.{eq-eqb, ne_eqb}
use Rattle.index_find.specs.Index.{block_cells_of}
use Rattle.list_sort.proofs.Keys.{by_eqb}
use Rattle.list_gather.specs.Named.{has_cell, named}

or_true : (t : Bool) → (t || true) ≡ true
or_true true = refl
or_true false = refl

pub or_false : (t : Bool) → (t || false) ≡ t
or_false true = refl
or_false false = refl

or_assoc : (a b c : Bool) → ((a || b) || c) ≡ (a || (b || c))
or_assoc true b c = refl
or_assoc false b c = refl

pub has_none : (v : ℕ) → has_cell [] v ≡ false
unfolding has_cell
has_none v = refl

has_both : (a b : List ℕ) (v : ℕ) → has_cell (a ++ b) v ≡ (has_cell a v || has_cell b v)
unfolding has_cell
has_both a b v = list_any-append (λ c. eqb c v) a b

-- eight empty cells have no value from 1 on
has_empty : (v : ℕ) → 0 < v → has_cell (replicate 8 0) v ≡ false
unfolding has_cell
has_empty v s = rw (ne_eqb 0 v (λ e. absurd (omega arith)))

-- one cell more of a run
module _ (run : List ℕ) (i : ℕ) (b : i < length run) (v : ℕ) where
  has_more : has_cell (take (i + 1) run) v ≡ (has_cell (take i run) v || eqb (get_or run i 0) v)
  unfolding has_cell
  has_more = list_any_more (λ c. eqb c v) run i 0 b

  -- it has another value
  has_other : (get_or run i 0 ≡ v → ⊥) → has_cell (take (i + 1) run) v ≡ has_cell (take i run) v
  has_other e = rw (has_more, ne_eqb (get_or run i 0) v e) (or_false (has_cell (take i run) v))

  module _ (t : Bool) (seen : List Bool) (so_far : get_or seen v false ≡ (t || has_cell (take i run) v)) where
    pub noted_other : (get_or run i 0 ≡ v → ⊥) → get_or seen v false ≡ (t || has_cell (take (i + 1) run) v)
    noted_other e = rw (has_other e) so_far

    -- its value is noted
    pub noted_next : get_or run i 0 < length seen → get_or (set seen (get_or run i 0) true) v false ≡ (t || has_cell (take (i + 1) run) v)
    noted_next l =
        by_eqb _ (get_or run i 0) v
        (λ e. rw (has_more, eq-eqb (get_or run i 0) v e, or_true (has_cell (take i run) v), or_true t) (rw (← e) (get_or-set_same seen (get_or run i 0) true false l)))
        (λ e. get_or-set_other seen (get_or run i 0) v true false (λ p. e (sym p)) ∙ noted_other e)

-- a run among those of a list
pub run_at : (n k : ℕ) (l : List ℕ) (i : ℕ) (d : List ℕ) → i < k → get_or (first_chunks n k l) i d ≡ take n (drop (n * i) l)
run_at n zero l i d b = absurd (omega arith)
run_at n (suc k) l zero d b = rw mul-zero
run_at n (suc k) l (suc i) d b = run_at n k (drop n l) i d (omega arith) ∙ (let e : n + n * i ≡ n * suc i = rw mul-suc (omega arith) in rw (drop-drop, e))

-- one run more of the cells
module _ (cells : List ℕ) (i v : ℕ) (b : 8 * i + 8 ≤ length cells) (seen : Bool) (so_far : seen ≡ has_cell (take (8 * i) cells) v) where
  runs_more : has_cell (take (8 * (i + 1)) cells) v ≡ (has_cell (take (8 * i) cells) v || has_cell (take 8 (drop (8 * i) cells)) v)
  runs_more = let e : 8 * (i + 1) ≡ 8 * i + 8 = omega arith in rw (e, take-add (8 * i) 8 cells) (has_both (take (8 * i) cells) (take 8 (drop (8 * i) cells)) v)

  pub run_noted : (new : Bool) → new ≡ (seen || has_cell (take 8 (drop (8 * i) cells)) v) → new ≡ has_cell (take (8 * (i + 1)) cells) v
  run_noted new e = rw (runs_more, ← so_far) e

  pub run_empty : 0 < v → take 8 (drop (8 * i) cells) ≡ replicate 8 0 → seen ≡ has_cell (take (8 * (i + 1)) cells) v
  run_empty s e = rw (runs_more, e, has_empty v s, or_false) so_far

-- whether a cell of block k names entry n
named_in_block : (hash : List ℕ) (k n : ℕ) → 4096 * k ≤ n → n < 4096 * k + 4096 → named hash n ≡ has_cell (block_cells_of k hash) (n - 4096 * k + 1)
unfolding named
named_in_block hash k n a b =
    let p : n / 4096 ≡ k = omega arith in
    let q : n % 4096 ≡ n - 4096 * k = omega arith in
    rw (p, q)

pub named_if_seen :
    (hash cells : List ℕ) (seen : List Bool) (k : ℕ) → cells ≡ block_cells_of k hash → ((v : ℕ) → 0 < v → v < 4097 → get_or seen v false ≡ has_cell cells v)
    → (n : ℕ) → 4096 * k ≤ n → n < 4096 * k + 4096 → named hash n ≡ get_or seen (n - 4096 * k + 1) false
named_if_seen hash cells seen k e all n a b =
    named_in_block hash k n a b ∙ sym (rw e at (all (n - 4096 * k + 1) (omega arith) (omega arith)))
