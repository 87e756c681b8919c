-- The binary search counts, on frames that rise. Assumes nothing.
use mathlib.Core.List.{List}
use Prim.Native.Nat.{ℕ, zero, suc, ◌+◌, ◌-◌, ◌/◌, ◌<◌, ◌≤◌}
use native.Mathlib.Decide.{dec_le}
use native.Mathlib.Omega.{arith}
use lib.ListN.{get_or}
use borrow.Author.Tests.{lt-ltb, le-ltb, le-leb, lt-leb}
use Rattle.index_find.specs.Find.{visible_from, visible}
use Rattle.index_grown.specs.Grown.{FramesRise}
use Rattle.index_grown.proofs.Entries.{rises_to}

-- v of the first n frames are at most top, and they are the first
pub record Counts (frames : List ℕ) (n top v : ℕ) : Type 0 where
  pub within : v ≤ n
  pub up_to_top : (i : ℕ) → i < v → get_or frames i 0 ≤ top
  pub past_top : (i : ℕ) → v ≤ i → i < n → top < get_or frames i 0

module _ (frames : List ℕ) (n top : ℕ) (rise : FramesRise n frames) where
  counts_from : (fuel low high : ℕ) → low ≤ high → high ≤ n → high ≤ low + fuel → ((i : ℕ) → i < low → get_or frames i 0 ≤ top) → ((i : ℕ) → high ≤ i → i < n → top < get_or frames i 0)
      → Counts frames n top (visible_from fuel frames top low high)
  unfolding visible_from
  counts_from zero low high a b c below above =
      record { within = omega arith; up_to_top = below; past_top = λ i l m. above i (omega arith) m }
  counts_from (suc fuel) low high a b c below above = go (counts_from fuel) (dec_le high low) (dec_le (get_or frames (low + (high - low) / 2) 0) top)
    where
      go : ((low high : ℕ) → low ≤ high → high ≤ n → high ≤ low + fuel → ((i : ℕ) → i < low → get_or frames i 0 ≤ top) → ((i : ℕ) → high ≤ i → i < n → top < get_or frames i 0) → Counts frames n top (visible_from fuel frames top low high))
          → Dec (high ≤ low) → Dec (get_or frames (low + (high - low) / 2) 0 ≤ top) → Counts frames n top (visible_from (suc fuel) frames top low high)
      go ih (yes l) d =
          let r : Counts frames n top low = record { within = omega arith; up_to_top = below; past_top = λ i s m. above i (omega arith) m } in
          rw (le-ltb low high l) r
      go ih (no l) (yes d) =
          rw (lt-ltb low high (omega arith), le-leb _ _ d)
          (ih (low + (high - low) / 2 + 1) high (omega arith) b (omega arith) (λ i s. omega (arith, rises_to n frames rise i (low + (high - low) / 2) (omega arith) (omega arith))) above)
      go ih (no l) (no d) =
          rw (lt-ltb low high (omega arith), lt-leb (get_or frames (low + (high - low) / 2) 0) top (omega arith))
          (ih low (low + (high - low) / 2) (omega arith) (omega arith) (omega arith) below (λ i s m. omega (arith, rises_to n frames rise (low + (high - low) / 2) i s m)))

  -- THE SEARCH COUNTS: every entry below v has a frame of at most top, and every one from v on a greater one
  pub visible_counts : Counts frames n top (visible frames n top)
  unfolding visible
  visible_counts = counts_from n 0 n (omega arith) (omega arith) (omega arith) (λ i l. absurd (omega arith)) (λ i l m. absurd (omega arith))
