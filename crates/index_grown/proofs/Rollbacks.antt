-- rollback_frames on a grown index: by its cases, what is left, and that it stays grown. Assumes nothing.
use mathlib.Core.Path.{◌≡◌, refl, sym, ◌∙◌, ap, subst}
use mathlib.Core.List.{List}
use mathlib.Core.Logic.{◌⊎◌, inl, inr}
use Prim.Native.Nat.{ℕ, ◌+◌, ◌*◌, ◌/◌, ◌%◌, ◌<◌, ◌≤◌}
use native.Mathlib.Decide.{ℕ_discrete}
use native.Mathlib.Nat.{eq-or-lt_of_le}
use native.Mathlib.Omega.{arith}
use lib.ListN.{length}
use Rattle.wal_types.specs.declared.Header.{Header}
use Rattle.wal_types.specs.Memory.{Memory, Process, frame_index_len_cell, header_with}
use Rattle.wal_types.specs.Call.{refused, kept, Done, done, after}
use Rattle.index_hash.specs.Block.{built}
use Rattle.index_hash.proofs.Built.{built_length}
use Rattle.index_find.specs.Index.{index_refusal, block_of, place_of, block_pages_of, with_block, index_in}
use Rattle.index_record.specs.Rollback.{kept_len, rollback_frames}
use Rattle.index_find.proofs.Blocks.{length_with}
use Rattle.index_record.proofs.RolledBack.{rollback_refused, rollback_none, rollback_even, rollback_odd}
use Rattle.index_grown.specs.Entries.{entries_of, entries, taken_off, up_to}
use Rattle.index_grown.specs.Grown.{BlocksBuilt, Grown}
use Rattle.index_grown.specs.Calls.{RollbackLeaves, left_kept, left_whole, SameReaders}
use Rattle.index_grown.proofs.Entries.{entries_kept, kept_le, rise_fewer, taken_up_to}
use Rattle.index_grown.proofs.Blocks.{with_last, full_blocks, fewer_blocks}

-- the memory after a rollback that keeps n entries
abbrev pub with_kept : ℕ → Memory → List ℕ → Memory
with_kept n m hash = index_in m (header_with frame_index_len_cell n m.header) m.pages m.frames hash

-- the hash that is left: of the same length, with the blocks of the n kept entries built
pub record KeptHash (n : ℕ) (m : Memory) (hash : List ℕ) : Type 0 where
  pub same_length : length hash ≡ length m.hash
  pub kept_built : BlocksBuilt n m.pages hash

-- on a grown index those that are left after taking off are exactly the entries with a frame of at most the bound
pub taken_exactly : (capacity b bound : ℕ) (m : Memory) → Grown capacity b m → taken_off bound (entries m) ≡ up_to bound (entries m)
taken_exactly capacity b bound m grown = taken_up_to m.pages m.frames bound m.header.frame_index_len grown.frames_rise

module _ (capacity b bound : ℕ) (m : Memory) (p : Process) (grown : Grown capacity b m) where
  abbrev h : Header
  h = m.header

  abbrev n : ℕ
  n = kept_len bound m

  abbrev call_done : Done
  call_done = after (rollback_frames capacity b bound) m p

  abbrev number_of : ℕ
  number_of = index_refusal capacity b h (length m.pages) (length m.frames) (length m.hash)

  shorter : n ≤ h.frame_index_len
  shorter = kept_le h.frame_index_len m.frames bound

  even_hash : place_of n ≡ 0 → KeptHash n m m.hash
  even_hash e =
      let s = shorter in
      let q : 4096 * (n / 4096) ≡ n = omega arith in
      record { same_length = refl; kept_built = subst (λ (x : ℕ). BlocksBuilt x m.pages m.hash) q (fewer_blocks h.frame_index_len (n / 4096) m.pages m.hash grown.blocks_built (omega arith)) }

  odd_fits : (place_of n ≡ 0 → ⊥) → 8192 * block_of n + 8192 ≤ length m.hash
  odd_fits o =
      let s = shorter in
      let l = grown.long in
      let i = grown.len_in_blocks in
      let j = grown.blocks_in_limit in
      let q : n % 4096 ≡ 0 → ⊥ = o in
      omega arith

  odd_hash : (place_of n ≡ 0 → ⊥) → KeptHash n m (with_block (block_of n) (built (block_pages_of (block_of n) m.pages) (place_of n)) m.hash)
  odd_hash o =
      let s = shorter in
      let q : n % 4096 ≡ 0 → ⊥ = o in
      record {
        same_length = length_with (block_of n) m.hash (odd_fits o) (built (block_pages_of (block_of n) m.pages) (place_of n)) (built_length (block_pages_of (block_of n) m.pages) (place_of n));
        kept_built =
            with_last (n / 4096) (n % 4096) m.pages m.hash (omega arith) (omega arith) (odd_fits o)
            (λ j l. full_blocks h.frame_index_len m.pages m.hash grown.blocks_built (n / 4096) j (omega arith) l) n (omega arith);
      }

  -- BY CASES: a rollback is refused and changes nothing; or keeps all and changes nothing; or keeps fewer
  pub rollback_cases : (P : Done → Type 0) → ((i : ℕ) → (i ≡ 0 → ⊥) → number_of ≡ i → P (done (refused i) m p)) → (n ≡ h.frame_index_len → P (done (kept n) m p))
      → ((hash : List ℕ) → n < h.frame_index_len → KeptHash n m hash → P (done (kept n) (with_kept n m hash) p))
      → P call_done
  rollback_cases P refuses all fewer = by_number (ℕ_discrete number_of 0)
    where
      by_place : number_of ≡ 0 → n < h.frame_index_len → Dec (place_of n ≡ 0) → P call_done
      by_place passed l (yes e) =
          subst P (sym (rollback_even capacity b bound m h m.pages m.frames m.hash p passed n refl l e)) (fewer m.hash l (even_hash e))
      by_place passed l (no e) =
          subst P (sym (rollback_odd capacity b bound m h m.pages m.frames m.hash p passed n refl l e (odd_fits e))) (fewer _ l (odd_hash e))

      by_length : number_of ≡ 0 → (n ≡ h.frame_index_len) ⊎ (n < h.frame_index_len) → P call_done
      by_length passed (inl e) = subst P (sym (rollback_none capacity b bound m h m.pages m.frames m.hash p passed n refl e)) (all e)
      by_length passed (inr l) = by_place passed l (ℕ_discrete (place_of n) 0)

      by_number : Dec (number_of ≡ 0) → P call_done
      by_number (yes passed) = by_length passed (eq-or-lt_of_le shorter)
      by_number (no i) = subst P (sym (rollback_refused capacity b bound m h m.pages m.frames m.hash p number_of refl i)) (refuses number_of i refl)

  kept_grown : (hash : List ℕ) → KeptHash n m hash → Grown capacity b (with_kept n m hash)
  kept_grown hash k =
      let s = shorter in
      let l = grown.long in
      let i = grown.len_in_blocks in
      let j = grown.len_in_capacity in
      let e = k.same_length in
      record {
        long = record { pages_long = l.pages_long; frames_long = l.frames_long; hash_long = omega arith };
        len_in_capacity = omega arith;
        len_in_blocks = omega arith;
        blocks_in_limit = grown.blocks_in_limit;
        frames_rise = rise_fewer h.frame_index_len n m.frames s grown.frames_rise;
        blocks_built = k.kept_built;
      }

  -- KEPT: a rollback leaves a grown index
  pub rollback_grown : Grown capacity b call_done.memory
  rollback_grown = rollback_cases (λ d. Grown capacity b d.memory) (λ i z e. grown) (λ e. grown) (λ hash l k. kept_grown hash k)

  -- THE ENTRIES: those above the bound are taken off the end
  pub rollback_leaves : RollbackLeaves bound m call_done.memory call_done.answer
  rollback_leaves =
      let taken = entries_kept m.pages m.frames bound h.frame_index_len in
      rollback_cases (λ d. RollbackLeaves bound m d.memory d.answer) (λ i z e. left_whole refl)
      (λ e. left_kept (ap (λ (i : ℕ). entries_of i m.pages m.frames) (sym e) ∙ taken) e)
      (λ hash l k. left_kept taken refl)

  -- the published frame and the reader slots stay
  pub rollback_elsewhere : SameReaders m call_done.memory
  rollback_elsewhere =
      let same : SameReaders m m = record { same_published = refl; same_bitmap = refl; same_reader_frames = refl; same_reader_owners = refl } in
      rollback_cases (λ d. SameReaders m d.memory) (λ i z e. same) (λ e. same)
      (λ hash l k. record { same_published = refl; same_bitmap = refl; same_reader_frames = refl; same_reader_owners = refl })
