-- A search is refused by the tests of a call that is lent no hash, or answers what is found among the entries; a part of them passed over; and the lists cut behind them. Assumes nothing.
use mathlib.Core.Path.{◌≡◌, refl, sym, ◌∙◌, ap}
use mathlib.Core.List.{List, []}
use Prim.Native.Nat.{ℕ, zero, suc, ◌+◌, ◌≤◌}
use native.Mathlib.Omega.{arith}
use lib.ListN.{length, take}
use lib.Seq.{get_or-take, length-take-le}
use Rattle.wal_types.specs.declared.Header.{Header}
use Rattle.wal_types.specs.Memory.{Memory, Process}
use Rattle.wal_types.specs.Call.{Pair, refused, turned_away, accepted, does, accepted_or, done, after}
use Rattle.index_search.specs.InnerRun.{All}
use Rattle.std.specs.Prelude.{Option}
use Rattle.index_find.specs.Index.{entries_in, entries_refusal, EntriesCall}
use Rattle.index_find.specs.Find.{lookup_answer}
use Rattle.index_find.proofs.Refused.{entries_refused, entries_passed}
use Rattle.index_grown.specs.Entries.{entries_of, entries}
use Rattle.index_grown.proofs.Entries.{entries_agree}
use Rattle.index_scan.specs.Scan.{scan}

module _ (capacity b : ℕ) (found : List Pair → Option ℕ) (h : Header) (ps fs : List ℕ) where
  abbrev number : ℕ
  number = entries_refusal capacity b h (length ps) (length fs)

  pub scan_refused : (n : ℕ) → number ≡ n → (n ≡ 0 → ⊥) → EntriesCall (scan capacity b found) h ps fs (refused n)
  scan_refused n e i z p = entries_refused capacity b (λ m. does (lookup_answer (found (entries m))) (λ x. []) m) (entries_in z h ps fs) p n e i

  pub scan_answers : number ≡ 0 → (r : Option ℕ) → r ≡ found (entries_of h.frame_index_len ps fs) → EntriesCall (scan capacity b found) h ps fs (lookup_answer r)
  scan_answers e r f z p =
      entries_passed capacity b (λ m. does (lookup_answer (found (entries m))) (λ x. []) m) (entries_in z h ps fs) p e
      ∙ ap (λ (x : Option ℕ). done (lookup_answer x) (entries_in z h ps fs) p) (sym f)

-- one that is not refused answers what is found
pub scan_accepted : (capacity b : ℕ) (found : List Pair → Option ℕ) (m : Memory) (p : Process) → accepted (after (scan capacity b found) m p).answer → (after (scan capacity b found) m p).answer ≡ lookup_answer (found (entries m))
scan_accepted capacity b found m p = go (entries_refusal capacity b m.header (length m.pages) (length m.frames))
  where
    go : (n : ℕ) → accepted (accepted_or n p (does (lookup_answer (found (entries m))) (λ z. []) m p)).answer → (accepted_or n p (does (lookup_answer (found (entries m))) (λ z. []) m p)).answer ≡ lookup_answer (found (entries m))
    go zero a = refl
    go (suc n) a = absurd (a turned_away)

-- what is the same after each entry of a part is the same after the part
pub along : (of_first : ℕ → Option ℕ) (P : ℕ → Type 0) → ((n : ℕ) → P n → of_first n ≡ of_first (suc n)) → (from k : ℕ) → All P from (from + k) → of_first from ≡ of_first (from + k)
along of_first P same from zero all = let e : from ≡ from + 0 = omega arith in ap of_first e
along of_first P same from (suc k) all =
    let e : suc (from + k) ≡ from + suc k = omega arith in
    along of_first P same from k (λ i l u. all i l (omega arith)) ∙ (same (from + k) (all (from + k) (omega arith) (omega arith)) ∙ ap of_first e)

-- the entries of the lists that end behind them
pub entries_cut : (n : ℕ) (ps fs : List ℕ) → n ≤ length ps → entries_of (length (take n ps)) (take n ps) (take n fs) ≡ entries_of n ps fs
entries_cut n ps fs b =
    rw (length-take-le n ps b)
    (entries_agree (take n ps) (take n fs) ps fs n (λ i r. get_or-take {A = ℕ} n ps i 0 r) (λ i r. get_or-take {A = ℕ} n fs i 0 r))
