-- find_frame by its cases. Assumes nothing.
use mathlib.Core.Path.{◌≡◌, ◌∙◌, ap}
use mathlib.Core.List.{List, []}
use Prim.Native.Nat.{ℕ, ◌<◌, ◌≤◌}
use native.Mathlib.Omega.{arith}
use lib.ListN.{length}
use borrow.Author.Tests.{eq-eqb, ne_eqb, lt-ltb, le-ltb}
use Rattle.std.specs.Prelude.{Option}
use Rattle.wal_types.specs.declared.Header.{Header}
use Rattle.wal_types.specs.Memory.{Memory, Process}
use Rattle.wal_types.specs.Refusal.{Test}
use Rattle.wal_types.specs.Call.{Call, Answer, refused, none, does, done, after}
use Rattle.index_find.specs.Index.{index_refusal, index_in}
use Rattle.index_find.specs.Find.{visible, find_in, looked_in, blocks_for, BlocksFit, upper, lower, lookup_answer, find_answer, find_frame, find_looked}
use Rattle.index_find.proofs.Settings.{GoodSettings, LongEnough}
use Rattle.index_find.proofs.Refused.{index_refused, index_passed}

-- the blocks of entries within the length are within memory that is long enough
pub blocks_fit : (capacity b : ℕ) (h : Header) (pages frames hash v : ℕ) → GoodSettings capacity b h → LongEnough b pages frames hash → v ≤ h.frame_index_len → BlocksFit v pages frames hash
blocks_fit capacity b h pages frames hash v good long l =
    record { blocks_most = omega arith; pages_fit = omega arith; frames_fit = omega arith; hash_fit = omega arith }

module _ (capacity b page low high : ℕ) (w : Option ℕ) (z : Memory) (h : Header) (ps fs hs : List ℕ) (p : Process) where
  abbrev m : Memory
  m = index_in z h ps fs hs

  abbrev own : Memory → Process → List Test
  own m p = []

  abbrev looks : Call
  looks m = does (find_answer page low high w m) (λ z. []) m

  abbrev number_of : ℕ
  number_of = index_refusal capacity b h (length ps) (length fs) (length hs)

  -- refused by 1 or 2
  pub find_refused : (n : ℕ) → number_of ≡ n → (n ≡ 0 → ⊥) → after (find_frame capacity b page low high w) m p ≡ done (refused n) m p
  unfolding find_frame
  find_refused n e i = index_refused capacity b own looks m p n e i

  module _ (passed : number_of ≡ 0) (u : ℕ) (eu : u ≡ upper high w) where
    answers : (a : Answer) → find_answer page low high w m ≡ a → after (find_frame capacity b page low high w) m p ≡ done a m p
    unfolding find_frame
    answers a e = index_passed capacity b own looks m p passed ∙ ap (λ (x : Answer). done x m p) e

    -- upper below min: none
    pub find_empty : u < low → after (find_frame capacity b page low high w) m p ≡ done none m p
    find_empty l = answers none (rw (← eu, lt-ltb u low l))

    -- otherwise what the visible blocks give
    pub find_through : low ≤ u → (l v : ℕ) (r : Option ℕ) → l ≡ lower low w → v ≡ visible fs h.frame_index_len u → r ≡ find_in (blocks_for v) v ps fs hs page l u → after (find_frame capacity b page low high w) m p ≡ done (lookup_answer r) m p
    find_through le l v r el ev er = answers (lookup_answer r) (rw (← eu, le-ltb u low le, ← ev, ← el, ← er))

-- how many cells it looks at
module _ (capacity b page low high : ℕ) (w : Option ℕ) (z : Memory) (h : Header) (ps fs hs : List ℕ) where
  abbrev number : ℕ
  number = index_refusal capacity b h (length ps) (length fs) (length hs)

  abbrev count : ℕ
  count = find_looked capacity b page low high w (index_in z h ps fs hs)

  -- refused: none
  pub count_refused : (number ≡ 0 → ⊥) → 0 ≡ count
  unfolding find_looked
  count_refused i = rw (ne_eqb number 0 i)

  module _ (passed : number ≡ 0) (u : ℕ) (eu : u ≡ upper high w) where
    -- upper below min: none
    pub count_empty : u < low → 0 ≡ count
    unfolding find_looked
    count_empty l = rw (eq-eqb number 0 passed, ← eu, lt-ltb u low l)

    -- otherwise those of the visible blocks
    pub count_looked : low ≤ u → (l v c : ℕ) → l ≡ lower low w → v ≡ visible fs h.frame_index_len u → c ≡ looked_in (blocks_for v) v ps fs hs page l u → c ≡ count
    unfolding find_looked
    count_looked le l v c el ev ec = rw (eq-eqb number 0 passed, ← eu, le-ltb u low le, ← ev, ← el) ec
