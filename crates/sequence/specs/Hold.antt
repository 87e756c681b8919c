-- Holds (document 01, "Readers"): how one begins and how long it lasts, read off calls and answers. Assumes nothing.
use Rattle.std.specs.Prelude.{◌≡◌, cond, List, [], ◌∷◌, ℕ, ◌+◌, ◌-◌, ◌≤◌, eqb, get_or}
use Rattle.wal_types.specs.Settings.{unused}
use Rattle.wal_types.specs.Memory.{Memory, slot_bit}
use Rattle.wal_types.specs.Call.{Answer, slot_taken, accepted, if_refused, if_slot}
use Rattle.sequence.specs.Sequence.{Settings, rollback_op, register_op, move_op, release_op, share_op, unshare_op, Op, look_op, index_op, commit_op, header_op, probe_op, slot_op, shared_op, World, Event, by, answer_of, next, Throughout}

-- How many registrations of a process's shared hold at a mark are not yet released, after one more call of that process: a
-- shared registration that answers a slot adds one, an accepted shared release takes one away.
abbrev pub counted : ℕ → Op → Answer → ℕ → ℕ
counted mark (shared_op (share_op owner k bytes)) a n = cond (eqb k mark) (if_slot (λ i o x. n + 1) n a) n
counted mark (shared_op (unshare_op k slot owner)) a n = cond (eqb k mark) (if_refused (λ x. n) (n - 1) a) n
counted mark (look_op o) a n = n
counted mark (index_op o) a n = n
counted mark (commit_op frame c1 c2 count) a n = n
counted mark (header_op o) a n = n
counted mark (probe_op o) a n = n
counted mark (slot_op o) a n = n

-- after one more call of any process: those of others count nothing
abbrev pub holders_next : ℕ → ℕ → Event → Answer → ℕ → ℕ
holders_next who mark e a n = cond (eqb e.who who) (counted mark e.op a n) n

unfoldable pub holders_after : Settings → ℕ → ℕ → List Event → World → ℕ → ℕ
holders_after s who mark [] w n = n
holders_after s who mark (e ∷ rest) w n = holders_after s who mark rest (next s e w) (holders_next who mark e (answer_of s e w) n)

-- A hold is direct, or shared.
pub data Kind : Type 0 where
  direct shared : Kind

-- The call e, made in world w with so many holders of its process at its mark, begins a hold of this kind at mark m on slot i: a
-- register call that answers a slot; but a shared one only if its process has no shared hold at that mark.
pub data Begins (s : Settings) (w : World) (holders : ℕ) : Event → Kind → ℕ → ℕ → Type 0 where
  begins_direct : {who i m owner o : ℕ} {bytes : List ℕ} → answer_of s (by who (slot_op (register_op owner m bytes))) w ≡ slot_taken i o m → Begins s w holders (by who (slot_op (register_op owner m bytes))) direct i m
  begins_shared : {who i m owner o : ℕ} {bytes : List ℕ} → answer_of s (by who (shared_op (share_op owner m bytes))) w ≡ slot_taken i o m → holders ≡ 0 → Begins s w holders (by who (shared_op (share_op owner m bytes))) shared i m

-- A direct hold of slot i at mark m ends with its process's accepted release of the slot, or accepted move to another mark.
pub data Ending (i m : ℕ) (a : Answer) : Op → Type 0 where
  by_release : {owner : ℕ} → accepted a → Ending i m a (slot_op (release_op i owner))
  by_move : {owner mark : ℕ} → (mark ≡ m → ⊥) → accepted a → Ending i m a (slot_op (move_op i owner mark))

abbrev pub EndsDirect : Settings → ℕ → ℕ → ℕ → Event → World → Type 0
EndsDirect s who i m e w = (e.who ≡ who) × Ending i m (answer_of s e w) e.op

-- a shared one when its accepted releases are as many as its registrations: each call of the list is made with a holder left
unfoldable pub SharedLasts : Settings → ℕ → ℕ → List Event → World → ℕ → Type 0
SharedLasts s who m [] w n = 1 ≤ n
SharedLasts s who m (e ∷ rest) w n = (1 ≤ n) × SharedLasts s who m rest (next s e w) (holders_next who m e (answer_of s e w) n)

-- The hold lasts through a list of calls: it is not over after them.
abbrev pub Lasts : Kind → Settings → ℕ → ℕ → ℕ → List Event → World → Type 0
Lasts direct s who i m events w = Throughout (λ e v. EndsDirect s who i m e v → ⊥) s events w
Lasts shared s who i m events w = SharedLasts s who m events w 1

-- A rollback, with its bound.
pub data RollsBack : Op → ℕ → Type 0 where
  rolls_back : {bound : ℕ} → RollsBack (index_op (rollback_op bound)) bound

-- No rollback goes below m: none that is accepted has a bound below m.
abbrev pub KeepsAbove : Settings → ℕ → Event → World → Type 0
KeepsAbove s m e w = (bound : ℕ) → RollsBack e.op bound → accepted (answer_of s e w) → m ≤ bound

-- slot i's cells are the same in two memories
pub record SameSlot (i : ℕ) (m m' : Memory) : Type 0 where
  pub same_frame : get_or m'.reader_frames i unused ≡ get_or m.reader_frames i unused
  pub same_owner : get_or m'.reader_owners i 0 ≡ get_or m.reader_owners i 0
  pub same_bit : slot_bit m'.bitmap i ≡ slot_bit m.bitmap i

-- No other process changes the hold's slot.
abbrev pub LeavesSlot : Settings → ℕ → ℕ → Event → World → Type 0
LeavesSlot s who i e w = (e.who ≡ who → ⊥) → SameSlot i w.memory (next s e w).memory
