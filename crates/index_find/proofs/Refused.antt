-- A call on the index is refused by the tests that all of them have, or goes on to its own. Assumes nothing.
use mathlib.Core.Path.{◌≡◌, refl, ap}
use mathlib.Core.Bool.{Bool, true, false, cond}
use mathlib.Core.List.{List, ◌++◌}
use Prim.Native.Nat.{ℕ, zero}
use native.Mathlib.Omega.{arith}
use lib.ListN.{length}
use Rattle.wal_types.specs.Memory.{Memory, Process}
use Rattle.wal_types.specs.Refusal.{Test, lowest}
use Rattle.wal_types.specs.Call.{Call, refused, accepted_or, unless, done, after}
use Rattle.wal_types.proofs.Refusals.{same_outcome, call_refused}
use Rattle.index_find.specs.Index.{bad_settings, short_index, index_tests, entries_tests, index_refusal, entries_refusal}

first_of : (a b : Bool) (rest n : ℕ) → cond a 1 (cond b 2 0) ≡ n → (n ≡ 0 → ⊥) → cond a 1 (cond b 2 rest) ≡ n
first_of true b rest n e h = e
first_of false true rest n e h = e
first_of false false rest n e h = let z : n ≡ 0 = cc in absurd (h z)

rest_of : (a b : Bool) (rest : ℕ) → cond a 1 (cond b 2 0) ≡ zero → cond a 1 (cond b 2 rest) ≡ rest
rest_of true b rest e = absurd (omega (arith, e))
rest_of false true rest e = absurd (omega (arith, e))
rest_of false false rest e = refl

module _ (capacity b : ℕ) (own : Memory → Process → List Test) (call : Call) (m : Memory) (p : Process) where
  abbrev number_of : ℕ
  number_of = index_refusal capacity b m.header (length m.pages) (length m.frames) (length m.hash)

  abbrev whole : Call
  whole = unless (λ m p. index_tests capacity b m ++ own m p) call

  -- refused by 1 or 2: nothing changes
  pub index_refused : (n : ℕ) → number_of ≡ n → (n ≡ 0 → ⊥) → after whole m p ≡ done (refused n) m p
  index_refused n e h =
      call_refused (λ m p. index_tests capacity b m ++ own m p) call m p n
      (first_of (bad_settings capacity b m.header) (short_index b (length m.pages) (length m.frames) (length m.hash)) (lowest (own m p)) n e h) h

  -- neither: the call's own tests decide
  pub index_passed : number_of ≡ 0 → after whole m p ≡ after (unless own call) m p
  index_passed e =
      same_outcome (whole m p) _ m
      (ap (λ (x : ℕ). accepted_or x p (call m p)) (rest_of (bad_settings capacity b m.header) (short_index b (length m.pages) (length m.frames) (length m.hash)) (lowest (own m p)) e))

-- The same of a call that is lent no hash, and has no tests of its own.
module _ (capacity b : ℕ) (call : Call) (m : Memory) (p : Process) where
  abbrev entries_number : ℕ
  entries_number = entries_refusal capacity b m.header (length m.pages) (length m.frames)

  abbrev entries_whole : Call
  entries_whole = unless (λ m p. entries_tests capacity b m) call

  pub entries_refused : (n : ℕ) → entries_number ≡ n → (n ≡ 0 → ⊥) → after entries_whole m p ≡ done (refused n) m p
  entries_refused n e h = call_refused (λ m p. entries_tests capacity b m) call m p n e h

  pub entries_passed : entries_number ≡ 0 → after entries_whole m p ≡ after call m p
  entries_passed e = same_outcome (entries_whole m p) _ m (ap (λ (x : ℕ). accepted_or x p (call m p)) e)
