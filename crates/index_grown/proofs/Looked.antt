-- How many hash cells a lookup on an index grown from fresh looks at. Assumes nothing.
use mathlib.Core.Bool.{Bool, true, false, cond}
use Prim.Native.Nat.{ℕ, zero, suc, ◌+◌, ◌-◌, ◌*◌, ◌≤◌, min}
use native.Mathlib.Omega.{arith}
use lib.Dec.{eqb, ltb}
use Rattle.std.specs.Prelude.{Option, Some, None}
use Rattle.wal_types.specs.Memory.{Memory}
use Rattle.wal_types.specs.Refusal.{lowest}
use Rattle.index_find.specs.Index.{index_tests}
use Rattle.index_find.specs.Find.{visible, probe_block, looked_block, looked_up, if_none, summed_in, blocks_for, upper, lower, looked_answer, find_looked}
use Rattle.index_grown.specs.Grown.{Grown}
use Rattle.index_grown.specs.Looked.{probed, LookedBound, LookedBounded}
use Rattle.index_grown.proofs.Found.{looked_most}
use Rattle.index_grown.proofs.Visible.{visible_counts}
use Rattle.index_grown.proofs.Grows.{grown_from}

-- one block more
summed_next : (r : Option ℕ) (one looked blocks : ℕ) → one ≤ 4097 → looked ≤ 4097 * blocks → one + if_none r looked ≤ 4097 * (1 + if_none r blocks)
summed_next (Some f) one looked blocks o l = omega arith
summed_next None one looked blocks o l = omega arith

one_more : (r : Option ℕ) (blocks k : ℕ) → blocks ≤ k → 1 + if_none r blocks ≤ suc k
one_more (Some f) blocks k l = omega arith
one_more None blocks k l = omega arith

-- where a test says that nothing is summed
unless_empty : (t : Bool) (c x y : ℕ) → x ≤ c * y → cond t 0 x ≤ c * cond t 0 y
unless_empty true c x y l = omega arith
unless_empty false c x y l = l

at_most : (t : Bool) (x n : ℕ) → x ≤ n → cond t 0 x ≤ n
at_most true x n l = omega arith
at_most false x n l = l

or_none : (t : Bool) (x n : ℕ) → x ≤ n → cond t x 0 ≤ n
or_none true x n l = l
or_none false x n l = omega arith

module _ (capacity b : ℕ) (m : Memory) (grown : Grown capacity b m) where
  module _ (v page low high : ℕ) (most : v ≤ m.header.frame_index_len) where
    abbrev sum : (ℕ → ℕ) → ℕ → ℕ
    sum of_block k = summed_in of_block k v m.pages m.frames m.hash page low high

    abbrev here : ℕ → Option ℕ
    here k = looked_up k m.frames low high (probe_block k page v m.pages m.hash)

    blocks_bound : (k : ℕ) → k ≤ blocks_for v → sum (λ i. looked_block i page v m.hash) k ≤ 4097 * sum (λ i. 1) k
    unfolding summed_in
    blocks_bound zero l = omega arith
    blocks_bound (suc k) l = summed_next (here k) _ _ _ (looked_most capacity b m grown k page (min (v - 4096 * k) 4096) (omega arith)) (blocks_bound k (omega arith))

    blocks_most : (k : ℕ) → sum (λ i. 1) k ≤ k
    unfolding summed_in
    blocks_most zero = omega arith
    blocks_most (suc k) = one_more (here k) _ k (blocks_most k)

  module _ (page low high : ℕ) (w : Option ℕ) where
    abbrev seen : ℕ
    seen = visible m.frames m.header.frame_index_len (upper high w)

    within : seen ≤ m.header.frame_index_len
    within = (visible_counts m.frames m.header.frame_index_len (upper high w) grown.frames_rise).within

    answer_bound : looked_answer page low high w m ≤ 4097 * probed page low high w m
    answer_bound = unless_empty (ltb (upper high w) low) 4097 _ _ (blocks_bound seen page (lower low w) (upper high w) within (blocks_for seen) (omega arith))

    lookup_bound : find_looked capacity b page low high w m ≤ 4097 * probed page low high w m
    unfolding find_looked
    lookup_bound = or_none (eqb (lowest (index_tests capacity b m)) 0) _ _ answer_bound

    probed_bound : probed page low high w m ≤ blocks_for m.header.frame_index_len
    probed_bound = at_most (ltb (upper high w) low) _ _ (omega (arith, blocks_most seen page (lower low w) (upper high w) within (blocks_for seen), within))

  pub looked_bound : LookedBound capacity b m
  looked_bound =
      record {
        each_block = λ k page n l. looked_most capacity b m grown k page (min (n - 4096 * k) 4096) l;
        all_probed = lookup_bound;
        probed_most = probed_bound;
      }

-- AT MOST 4,097 CELLS FOR EACH BLOCK
pub looked_bounded : LookedBounded
unfolding LookedBounded
looked_bounded capacity b m g = looked_bound capacity b m (grown_from capacity b g)
