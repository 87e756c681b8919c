-- What a call means: an answer, its stores to shared memory in order, and its process's own cells and registry afterwards. Assumes nothing.
use Rattle.std.specs.Prelude.{Bool, List, [], ℕ, zero, suc}
use Rattle.wal_types.specs.Memory.{Memory, Process, Store}
use Rattle.wal_types.specs.Store.{Piece, apply}
use Rattle.wal_types.specs.Refusal.{Test, lowest}

-- A page with the frame that holds it.
pub record Pair : Type 0 where
  pub page : ℕ
  pub frame : ℕ

abbrev pub pair : ℕ → ℕ → Pair
pair page frame = record { page = page; frame = frame }

-- What a call answers.
pub data Answer : Type 0 where
  -- turned away, with the table's number
  refused : ℕ → Answer
  -- done, with nothing to tell
  ok : Answer
  -- true or false
  flag : Bool → Answer
  -- a counter's number
  value : ℕ → Answer
  -- a record was stored, or dropped
  stored dropped : Answer
  -- a rollback's kept length
  kept : ℕ → Answer
  -- a frame, or none
  frame_found : ℕ → Answer
  none : Answer
  -- the pairs of a list
  listed : List Pair → Answer
  -- a reader's slot, with its owner and mark
  slot_taken : ℕ → ℕ → ℕ → Answer

-- A refusal; and an answer that is none.
pub data Refused : Answer → Type 0 where
  turned_away : {n : ℕ} → Refused (refused n)

abbrev pub accepted : Answer → Type 0
accepted a = Refused a → ⊥

-- What is made of an answer, by what is told apart in definitions: a refusal, a slot, a frame, the pairs of a list, a dropped
-- record, and any other.
abbrev pub by_answer : {A : Type 0} → (ℕ → A) → (ℕ → ℕ → ℕ → A) → (ℕ → A) → (List Pair → A) → A → A → Answer → A
by_answer away slot frame pairs drop other (refused n) = away n
by_answer away slot frame pairs drop other (slot_taken i owner mark) = slot i owner mark
by_answer away slot frame pairs drop other (frame_found f) = frame f
by_answer away slot frame pairs drop other (listed l) = pairs l
by_answer away slot frame pairs drop other dropped = drop
by_answer away slot frame pairs drop other ok = other
by_answer away slot frame pairs drop other (flag t) = other
by_answer away slot frame pairs drop other (value n) = other
by_answer away slot frame pairs drop other stored = other
by_answer away slot frame pairs drop other (kept n) = other
by_answer away slot frame pairs drop other none = other

-- each of them or not
abbrev pub if_refused : {A : Type 0} → (ℕ → A) → A → Answer → A
if_refused away other = by_answer away (λ i owner mark. other) (λ f. other) (λ l. other) other other

abbrev pub if_slot : {A : Type 0} → (ℕ → ℕ → ℕ → A) → A → Answer → A
if_slot slot other = by_answer (λ n. other) slot (λ f. other) (λ l. other) other other

abbrev pub if_frame : {A : Type 0} → (ℕ → A) → A → Answer → A
if_frame frame other = by_answer (λ n. other) (λ i owner mark. other) frame (λ l. other) other other

abbrev pub if_listed : {A : Type 0} → (List Pair → A) → A → Answer → A
if_listed pairs other = by_answer (λ n. other) (λ i owner mark. other) (λ f. other) pairs other other

abbrev pub if_dropped : {A : Type 0} → A → A → Answer → A
if_dropped drop other = by_answer (λ n. other) (λ i owner mark. other) (λ f. other) (λ l. other) drop other

-- What a call does to the memory and the process that it finds.
pub record Outcome : Type 0 where
  pub answer : Answer
  pub stores : List Store
  pub process : Process

abbrev pub Call : Type 0
Call = Memory → Process → Outcome

-- a call that always answers a, and stores what the piece says
abbrev pub does : Answer → Piece → Call
does a piece m p = record { answer = a; stores = piece m; process = p }

-- Refused: the number alone; nothing is stored and nothing changes.
abbrev pub refusal : ℕ → Process → Outcome
refusal n p = record { answer = refused n; stores = []; process = p }

-- the outcome where the number is 0, and else the refusal of that number
abbrev pub accepted_or : ℕ → Process → Outcome → Outcome
accepted_or zero p o = o
accepted_or (suc n) p o = refusal (suc n) p

-- the call, refused with the lowest number that applies if there is one
abbrev pub unless : (Memory → Process → List Test) → Call → Call
unless tests call m p = accepted_or (lowest (tests m p)) p (call m p)

-- An answer, with all memory after the call.
pub record Done : Type 0 where
  pub answer : Answer
  pub memory : Memory
  pub process : Process

abbrev pub done : Answer → Memory → Process → Done
done a m p = record { answer = a; memory = m; process = p }

-- How a call is carried out: what it answers and leaves, on the memory and by the process that it finds. A contract's form takes it as a
-- parameter, whole (`after`) or in part.
abbrev pub Carried : Type 0
Carried = Memory → Process → Done

-- the call made: every store applied
abbrev pub after : Call → Carried
after call m p = done (call m p).answer (apply (call m p).stores m) (call m p).process
