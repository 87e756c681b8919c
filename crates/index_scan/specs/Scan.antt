-- What the searches over the entries share: what a search is, and what each case of its result tells. Assumes nothing.
use Rattle.std.specs.Prelude.{Option, Result, Ok, Err, List, [], ℕ}
use Rattle.wal_types.specs.declared.refusal.Refusal.{Refusal}
use Rattle.wal_types.specs.Refusal.{number}
use Rattle.wal_types.specs.Call.{Pair, Call, Answer, refused, does, unless}
use Rattle.index_find.specs.Index.{entries_tests}
use Rattle.index_find.specs.Find.{lookup_answer}
use Rattle.index_grown.specs.Entries.{entries}

-- A search goes by the entries, all below the length, published or not, whatever the hash holds. It changes nothing.
abbrev pub scan : ℕ → ℕ → (List Pair → Option ℕ) → Call
scan capacity b found = unless (λ m p. entries_tests capacity b m) (λ m. does (lookup_answer (found (entries m))) (λ z. []) m)

abbrev pub scan_answer : Result (Option ℕ) Refusal → Answer
scan_answer (Ok found) = lookup_answer found
scan_answer (Err r) = refused (number r)
