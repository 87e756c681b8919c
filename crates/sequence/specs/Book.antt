-- The book (document 01, "Book"): fed the calls' arguments and answers alone, never memory. Assumes nothing.
use Rattle.std.specs.Prelude.{◌&&◌, cond, List, [], ◌∷◌, ◌++◌, ℕ, max, eqb}
use Rattle.wal_types.specs.Call.{Pair, pair, Answer, if_refused, if_dropped}
use Rattle.index_grown.specs.Entries.{taken_off}
use Rattle.sequence.specs.Sequence.{Settings, record_op, rollback_op, Op, look_op, index_op, commit_op, header_op, probe_op, slot_op, shared_op, World, Event, answer_of, next}

-- Pairs (page, frame) in order, and a published number.
pub record Book : Type 0 where
  pub pairs : List Pair
  pub published : ℕ

-- at first none and 0
abbrev pub empty_book : Book
empty_book = record { pairs = []; published = 0 }

-- A record of frame 1 at number 0 first takes all pairs away.
abbrev pub found_pairs : ℕ → Book → List Pair
found_pairs frame b = cond (eqb frame 1 && eqb b.published 0) [] b.pairs

-- Each record not dropped then adds its pair at the end. A refused one changes nothing.
abbrev pub recorded_in : ℕ → ℕ → Answer → Book → Book
recorded_in page frame a b =
    if_refused (λ n. b)
    (record { pairs = if_dropped (found_pairs frame b) (found_pairs frame b ++ (pair page frame ∷ [])) a; published = b.published })
    a

-- A rollback takes pairs off the end while the last frame is above its bound. A refused one changes nothing.
abbrev pub rolled_back_in : ℕ → Answer → Book → Book
rolled_back_in bound a b = if_refused (λ n. b) (record { pairs = taken_off bound b.pairs; published = b.published }) a

-- publish_commit raises the number to its frame, if higher. Other calls change nothing.
abbrev pub entered : Op → Answer → Book → Book
entered (index_op (record_op page frame grow)) a b = recorded_in page frame a b
entered (index_op (rollback_op bound)) a b = rolled_back_in bound a b
entered (commit_op frame c1 c2 count) a b = record { pairs = b.pairs; published = max b.published frame }
entered (look_op o) a b = b
entered (header_op o) a b = b
entered (probe_op o) a b = b
entered (slot_op o) a b = b
entered (shared_op o) a b = b

-- the book after a list of calls, from the book before it
unfoldable pub book_after : Settings → List Event → World → Book → Book
book_after s [] w b = b
book_after s (e ∷ rest) w b = book_after s rest (next s e w) (entered e.op (answer_of s e w) b)

-- m is in the index if a pair has it
pub data InPairs (m : ℕ) : List Pair → Type 0 where
  here : {page : ℕ} {rest : List Pair} → InPairs m (pair page m ∷ rest)
  there : {q : Pair} {rest : List Pair} → InPairs m rest → InPairs m (q ∷ rest)
