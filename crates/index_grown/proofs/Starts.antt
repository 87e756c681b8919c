-- Fresh memory is a grown index, and a change elsewhere or a reset leaves one. Assumes nothing.
use mathlib.Core.Path.{◌≡◌, ◌∙◌, ap}
use mathlib.Core.List.{List, []}
use mathlib.Core.Logic.{◌⊎◌, inl, inr}
use Prim.Native.Nat.{ℕ, ◌≤◌}
use native.Mathlib.Omega.{arith}
use lib.ListN.{length}
use Rattle.wal_types.specs.declared.Header.{Header}
use Rattle.wal_types.specs.Memory.{Memory}
use Rattle.wal_types.specs.Fresh.{Fresh}
use Rattle.index_grown.specs.Entries.{entries_of, entries}
use Rattle.index_grown.specs.Grown.{LongMemory, FramesRise, BlocksBuilt, Grown, SameIndex}
use Rattle.index_grown.proofs.Entries.{entries_none}

-- no entries: nothing to rise, no block to be built
none_rise : (n : ℕ) (fs : List ℕ) → n ≡ 0 → FramesRise n fs
none_rise n fs e i j l b = absurd (omega arith)

none_built : (n : ℕ) (ps hs : List ℕ) → n ≡ 0 → BlocksBuilt n ps hs
none_built n ps hs e k l = absurd (omega arith)

module _ (capacity b : ℕ) (m : Memory) where
  -- FRESH: memory that is long enough, with the starting blocks in use, is a grown index
  pub fresh_grown : (start n : ℕ) → start ≤ b → Fresh b start n m → LongMemory b m → Grown capacity b m
  fresh_grown start n s fresh long =
      let l : m.header.frame_index_len ≡ 0 = ap (λ (x : Header). x.frame_index_len) fresh.header_fresh in
      let k : m.header.frame_index_blocks ≡ start = ap (λ (x : Header). x.frame_index_blocks) fresh.header_fresh in
      record {
        long = long;
        len_in_capacity = omega arith;
        len_in_blocks = omega arith;
        blocks_in_limit = omega arith;
        frames_rise = none_rise m.header.frame_index_len m.frames l;
        blocks_built = none_built m.header.frame_index_len m.pages m.hash l;
      }

  -- and has no entries
  pub fresh_entries : (start n : ℕ) → Fresh b start n m → entries m ≡ []
  fresh_entries start n fresh =
      ap (λ (i : ℕ). entries_of i m.pages m.frames) (ap (λ (x : Header). x.frame_index_len) fresh.header_fresh) ∙ entries_none m.pages m.frames

  module _ (grown : Grown capacity b m) where
    -- another header, with the length as it was or 0
    pub header_grown : (m' : Memory) → m'.pages ≡ m.pages → m'.frames ≡ m.frames → m'.hash ≡ m.hash → m'.header.frame_index_blocks ≡ m.header.frame_index_blocks
        → (m'.header.frame_index_len ≡ 0) ⊎ (m'.header.frame_index_len ≡ m.header.frame_index_len) → Grown capacity b m'
    header_grown m' p f hs k (inl z) =
        let g = grown.long in
        let i = grown.blocks_in_limit in
        let lp : length m'.pages ≡ length m.pages = ap length p in
        let lf : length m'.frames ≡ length m.frames = ap length f in
        let lh : length m'.hash ≡ length m.hash = ap length hs in
        record {
          long = record { pages_long = omega arith; frames_long = omega arith; hash_long = omega arith };
          len_in_capacity = omega arith;
          len_in_blocks = omega arith;
          blocks_in_limit = omega arith;
          frames_rise = none_rise m'.header.frame_index_len m'.frames z;
          blocks_built = none_built m'.header.frame_index_len m'.pages m'.hash z;
        }
    header_grown m' p f hs k (inr s) =
        let g = grown.long in
        let i = grown.blocks_in_limit in
        let c = grown.len_in_capacity in
        let d = grown.len_in_blocks in
        let lp : length m'.pages ≡ length m.pages = ap length p in
        let lf : length m'.frames ≡ length m.frames = ap length f in
        let lh : length m'.hash ≡ length m.hash = ap length hs in
        record {
          long = record { pages_long = omega arith; frames_long = omega arith; hash_long = omega arith };
          len_in_capacity = omega arith;
          len_in_blocks = omega arith;
          blocks_in_limit = omega arith;
          frames_rise = rw (s, f) grown.frames_rise;
          blocks_built = rw (s, p, hs) grown.blocks_built;
        }

    -- ELSEWHERE: a change that leaves length, blocks, pages, frames and hash keeps it grown
    pub same_grown : (m' : Memory) → SameIndex m m' → Grown capacity b m'
    same_grown m' same = header_grown m' same.same_pages same.same_frames same.same_hash same.same_blocks (inr same.same_len)

-- and leaves the entries
pub same_entries : (m m' : Memory) → SameIndex m m' → entries m' ≡ entries m
same_entries m m' same = rw (same.same_len, same.same_pages, same.same_frames)
