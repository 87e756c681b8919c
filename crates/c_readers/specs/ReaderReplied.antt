-- What the C functions of the reader calls promise. Assumes nothing.
use Rattle.std.specs.Prelude.{◌≡◌, List, ℕ}
use Rattle.wal_types.specs.declared.SharedReadMark.{SharedReadMark}
use Rattle.wal_types.specs.Memory.{Memory, Process}
use Rattle.wal_types.specs.Call.{Call, Answer, Done, after}
use Rattle.reader_slots.specs.Slots.{slots_in, locals_in}
use Rattle.reader_shared.specs.Shared.{registry_in}

-- The reply tells what the call answers, and the call leaves this memory and this process.
pub record Told {R : Type 0} (reply_of : Answer → R) (r : R) (m : Memory) (p : Process) (d : Done) : Type 0 where
  pub reply_told : r ≡ reply_of d.answer
  pub memory_left : d.memory ≡ m
  pub process_left : d.process ≡ p

-- So it is on any memory with the lists b, f and o in it, by any process with the local owners l: nothing changes but these.
abbrev pub SlotsReplied : {R : Type 0} → (Answer → R) → Call → List ℕ → List ℕ → List ℕ → List ℕ → R → List ℕ → List ℕ → List ℕ → List ℕ → Type 0
SlotsReplied reply_of call b f o l r b' f' o' l' =
    (z : Memory) (p : Process) → Told reply_of r (slots_in z b' f' o') (locals_in p l') (after call (slots_in z b f o) (locals_in p l))

-- The same with the registry g, by any process that has it.
abbrev pub RegistryReplied : {R : Type 0} → (Answer → R) → Call → List ℕ → List ℕ → List ℕ → List ℕ → List SharedReadMark → R → List ℕ → List ℕ → List ℕ → List ℕ → List SharedReadMark → Type 0
RegistryReplied reply_of call b f o l g r b' f' o' l' g' =
    (z : Memory) (p : Process) → Told reply_of r (slots_in z b' f' o') (registry_in p l' g') (after call (slots_in z b f o) (registry_in p l g))

-- A move is lent slot frames, slot owners and the registry, and changes only slot frames.
abbrev pub MoveReplied : {R : Type 0} → (Answer → R) → Call → List ℕ → List ℕ → List SharedReadMark → R → List ℕ → Type 0
MoveReplied reply_of call f o g r f' =
    (z : Memory) (p : Process) → Told reply_of r (slots_in z z.bitmap f' o) (registry_in p p.local_readers g) (after call (slots_in z z.bitmap f o) (registry_in p p.local_readers g))

-- A limit is on any memory whose published frame and number of copied frames are those given, and changes no local owner.
abbrev pub LimitReplied : {R : Type 0} → (Answer → R) → Call → ℕ → ℕ → List ℕ → List ℕ → List ℕ → List ℕ → R → List ℕ → List ℕ → List ℕ → Type 0
LimitReplied reply_of call published copied b f o l r b' f' o' =
    (z : Memory) (p : Process) → z.header.max_frame ≡ published → z.header.nbackfills ≡ copied → Told reply_of r (slots_in z b' f' o') (locals_in p l) (after call (slots_in z b f o) (locals_in p l))
