-- A sequence of calls by two processes, with what each call answers: demand 3's premises hold in it. Assumes nothing.
use Rattle.std.specs.Prelude.{None, ◌≡◌, false, List, [], ◌∷◌, ◌++◌, ℕ, replicate}
use Rattle.wal_types.specs.declared.SharedWalOwnershipMode.TheVariants.{LinuxOfd}
use Rattle.wal_types.specs.Settings.{unused}
use Rattle.wal_types.specs.Memory.{Memory, Process, with_header, with_index, with_slots, with_local_readers, with_registry, no_mark, blank_memory, blank_process}
use Rattle.wal_types.specs.Fresh.{fresh_header}
use Rattle.wal_types.specs.Call.{pair, Answer, refused, ok, value, stored, kept, frame_found, listed, slot_taken}
use Rattle.sequence.specs.Sequence.{Settings, find_op, list_op, between_op, record_op, rollback_op, backfill_op, floor_op, limit_op, register_op, release_op, share_op, unshare_op, Op, look_op, index_op, commit_op, header_op, probe_op, slot_op, shared_op, World, Event, by, answer_of, next}
use Rattle.sequence.specs.Hold.{direct, shared}
use Rattle.sequence.specs.Statement.{at_now, Premises}
use Rattle.sequence.specs.DbFileHold.{present, FilePremises}

-- one block of entries, two reader slots
abbrev pub small : Settings
small = record { capacity = 4096; max_blocks = 1; slots = 2; mode = LinuxOfd }

-- so many cells of 0
unfoldable pub zeros : ℕ → List ℕ
zeros n = replicate n 0

-- fresh memory, the block in use; both slots are free: bits 0 and 1 of the word 3
abbrev pub fresh_memory : Memory
fresh_memory =
    with_slots (with_index (with_header blank_memory (fresh_header 1 0 0)) (zeros 4096) (zeros 4096) (zeros 8192))
    (3 ∷ []) (unused ∷ unused ∷ []) (0 ∷ 0 ∷ [])

abbrev pub fresh_process : Process
fresh_process = with_registry (with_local_readers blank_process (0 ∷ 0 ∷ [])) (no_mark ∷ no_mark ∷ [])

abbrev pub fresh_world : World
fresh_world = record { memory = fresh_memory; processes = λ who. fresh_process }

-- process 0 reads, process 1 writes
abbrev pub reader : Op → Event
reader = by 0

abbrev pub writer : Op → Event
writer = by 1

-- Three frames are written and published;
abbrev pub before : List Event
before =
    writer (index_op (record_op 7 1 false))
    ∷ writer (index_op (record_op 8199 2 false))
    ∷ writer (index_op (record_op 7 3 false))
    ∷ writer (commit_op 3 0 0 1)
    ∷ []

-- the reader, with owner 10, takes a slot at mark 3, both locks granted;
abbrev pub begin : Event
begin = reader (slot_op (register_op 10 3 (1 ∷ 1 ∷ [])))

-- the writer cannot release that slot; it writes three more frames, takes the last one back, and publishes.
abbrev pub during : List Event
during =
    writer (slot_op (release_op 0 10))
    ∷ writer (index_op (record_op 9 4 false))
    ∷ writer (index_op (record_op 7 5 false))
    ∷ writer (index_op (record_op 8199 6 false))
    ∷ writer (index_op (rollback_op 5))
    ∷ writer (commit_op 5 0 0 2)
    ∷ []

-- what the calls of a list answer
unfoldable pub answers : Settings → List Event → World → List Answer
answers s [] w = []
answers s (e ∷ rest) w = answer_of s e w ∷ answers s rest (next s e w)

-- One more call: the premises of demand 3 hold for it, with the direct hold of slot 0 at mark 3; and what it answers.
abbrev pub Held : Event → Type 0
Held now = Premises small 1 fresh_world before begin during now direct 0 3

abbrev pub answered : Event → Answer
answered now = answer_of small now (at_now small 1 fresh_world before begin during now direct 0 3)

-- a lookup of page 7, a list, and a search for page 7 by a choice, all up to 3, by the reader; a floor and a copy-back limit by the writer, slot 0 busy
abbrev pub lookup : Event
lookup = reader (look_op (find_op 7 1 3 None))

abbrev pub listing : Event
listing = reader (look_op (list_op 1 3 8 8))

abbrev pub search : ℕ → Event
search choice = reader (look_op (between_op 7 1 3 choice))

abbrev pub floor : Event
floor = writer (probe_op (floor_op (0 ∷ 1 ∷ [])))

abbrev pub limit : Event
limit = writer (probe_op (limit_op (0 ∷ 1 ∷ [])))

-- The same with a shared hold, which a second registration joins before the first is released. Its floor is the holder's own,
-- whose locks are all granted.
abbrev pub begin_shared : Event
begin_shared = reader (shared_op (share_op 10 3 (1 ∷ 1 ∷ [])))

abbrev pub during_shared : List Event
during_shared = reader (shared_op (share_op 11 3 (1 ∷ 1 ∷ []))) ∷ reader (shared_op (unshare_op 3 0 10)) ∷ []

abbrev pub own_floor : Event
own_floor = reader (probe_op (floor_op (1 ∷ 1 ∷ [])))

-- A hold of the database file: process 0 registers at mark 0, two frames are copied, and the writer asks for the limit, slot 0 busy.
abbrev pub begin_file : Event
begin_file = reader (shared_op (share_op 10 0 (1 ∷ 1 ∷ [])))

abbrev pub during_file : List Event
during_file = writer (header_op (backfill_op 2)) ∷ []

-- The answers are those of the book of three pairs, though page 7's newest frame is 5 and 5 is published.
pub record Example : Type 0 where
  pub calls_answer :
      answers small (before ++ (begin ∷ during)) fresh_world
      ≡ stored ∷ stored ∷ stored ∷ ok ∷ slot_taken 0 10 3 ∷ refused 7 ∷ stored ∷ stored ∷ stored ∷ kept 5 ∷ ok ∷ []
  pub newest_is_5 : answered (reader (look_op (find_op 7 1 5 None))) ≡ frame_found 5
  pub lookup_held : Held lookup
  pub lookup_gives : answered lookup ≡ frame_found 3
  pub list_held : Held listing
  pub list_gives : answered listing ≡ listed (pair 7 3 ∷ pair 8199 2 ∷ [])
  pub search_held : Held (search 0)
  pub search_gives : answered (search 0) ≡ frame_found 1
  pub other_choice_gives : answered (search 1) ≡ frame_found 3
  pub floor_held : Held floor
  pub floor_gives : answered floor ≡ frame_found 3
  pub limit_held : Held limit
  pub limit_gives : answered limit ≡ value 3
  pub shared_calls_answer :
      answers small (before ++ (begin_shared ∷ during_shared)) fresh_world
      ≡ stored ∷ stored ∷ stored ∷ ok ∷ slot_taken 0 10 3 ∷ slot_taken 0 10 3 ∷ ok ∷ []
  pub shared_held : Premises small 1 fresh_world before begin_shared during_shared own_floor shared 0 3
  pub shared_floor_gives :
      answer_of small own_floor (at_now small 1 fresh_world before begin_shared during_shared own_floor shared 0 3) ≡ frame_found 3
  pub file_calls_answer :
      answers small (before ++ (begin_file ∷ during_file)) fresh_world ≡ stored ∷ stored ∷ stored ∷ ok ∷ slot_taken 0 10 0 ∷ ok ∷ []
  pub file_held : FilePremises small 1 fresh_world before begin_file during_file limit shared 0
  pub file_limit_gives : answer_of small limit (present small 1 fresh_world before begin_file during_file limit shared 0) ≡ value 2
