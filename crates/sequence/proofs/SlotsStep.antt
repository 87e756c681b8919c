-- What a call does to its own process's slots and registry: one of seven changes. Assumes nothing.
use Rattle.std.specs.Prelude.{None, Option, Some, is_some}
use mathlib.Core.Path.{◌≡◌, refl}
use mathlib.Core.Bool.{true, false, ◌||◌, cond}
use mathlib.Core.List.{List}
use Prim.Native.Nat.{ℕ, ◌+◌, ◌-◌, ◌<◌}
use native.Mathlib.Omega.{arith}
use lib.Dec.{eqb, ltb}
use lib.ListN.{length, get_or, set}
use lib.Seq.{get_or-set_same, get_or-set_other}
use borrow.Author.Tests.{ltb-false, leb-false}
use Rattle.wal_types.specs.declared.SharedWalOwnershipMode.{SharedWalOwnershipMode}
use Rattle.wal_types.specs.Settings.{unused}
use Rattle.wal_types.specs.Memory.{Memory, Process, to_reader_frame}
use Rattle.wal_types.specs.Store.{one}
use Rattle.wal_types.specs.Refusal.{Test, lowest}
use Rattle.wal_types.specs.Call.{Answer, refused, flag, value, slot_taken, Done, done, after, does, unless}
use Rattle.reader_slots.specs.Slots.{held, with_local}
use Rattle.reader_register.specs.Register.{chosen_slot, registers, register_tests, register_reader, hold_found}
use Rattle.reader_moves.specs.Update.{update_tests, update_reader, release_tests, unregister_reader, releases_slot}
use Rattle.reader_floor.specs.Floor.{floor_of, floor_answer, probe_tests, reclaim_dead, min_active_reader_frame, has_active_db_file_reader, db_file_reader_of}
use Rattle.reader_probe.specs.Live.{looked_at}
use Rattle.reader_limit.specs.Limit.{limit_at, copy_back_limit}
use Rattle.reader_slots.proofs.Kept.{SlotSame, slot_same, emptied_other}
use Rattle.reader_floor.proofs.Kept.{dead_keeps}
use Rattle.reader_slots.proofs.Calls.{none_applies, neither_true}
use Rattle.reader_register.proofs.Taken.{register_keeps}
use Rattle.reader_marks.specs.Registry.{one_more, one_less}
use Rattle.sequence.specs.Sequence.{move_op, release_op, slot_op}
use Rattle.sequence.specs.Hold.{Ending, by_release, by_move}
use Rattle.sequence.proofs.SlotsAside.{by_tests, Leaves}
use Rattle.sequence.proofs.SlotsCells.{rec_at, Fitting, NoRecord, NotNamed, not_named}

-- slots held here keep their cells; all slots but one do
abbrev pub HeldKept : Memory → Process → Memory → Type 0
HeldKept m p m' = (j : ℕ) → held p j ≡ true → SlotSame j m m'

abbrev pub OthersKept : ℕ → Memory → Memory → Type 0
OthersKept t m m' = (j : ℕ) → (j ≡ t → ⊥) → SlotSame j m m'

-- slots held here stay held; all but one do
abbrev pub HeldStay : Process → Process → Type 0
HeldStay p p' = (j : ℕ) → held p j ≡ true → held p' j ≡ true

abbrev pub OthersHeld : ℕ → Process → Process → Type 0
OthersHeld t p p' = (j : ℕ) → (j ≡ t → ⊥) → held p' j ≡ held p j

-- the registry is the same; all but one record is
abbrev pub SameRecords : Process → Process → Type 0
SameRecords p p' = (j : ℕ) → rec_at p' j ≡ rec_at p j

abbrev pub OtherRecords : ℕ → Process → Process → Type 0
OtherRecords r p p' = (j : ℕ) → (j ≡ r → ⊥) → rec_at p' j ≡ rec_at p j

-- how a call changes the count of holders at each mark: not; one more at mark k; one less
abbrev pub Uncounted : (ℕ → ℕ → ℕ) → Type 0
Uncounted T = (j c : ℕ) → T j c ≡ c

abbrev pub Adds : ℕ → (ℕ → ℕ → ℕ) → Type 0
Adds k T = (j c : ℕ) → T j c ≡ cond (eqb k j) (c + 1) c

abbrev pub Drops : ℕ → (ℕ → ℕ → ℕ) → Type 0
Drops k T = (j c : ℕ) → T j c ≡ cond (eqb k j) (c - 1) c

-- A call that finds memory m and process p leaves d; T is the next count of holders at a mark, E t m says that a direct hold of
-- slot t at mark m ends.
pub data Step (n : ℕ) (m : Memory) (p : Process) (d : Done) (T : ℕ → ℕ → ℕ) (E : ℕ → ℕ → Type 0) : Type 0 where
  -- nothing that is held here changes
  quiet : Uncounted T → HeldKept m p d.memory → HeldStay p d.process → SameRecords p d.process → Step n m p d T E
  -- slot t, in no record, is moved to mark k
  moved : (t k : ℕ) → ((x : ℕ) → (k ≡ x → ⊥) → E t x) → Uncounted T → NotNamed n p t → OthersKept t m d.memory → get_or d.memory.reader_frames t unused ≡ k → get_or d.memory.reader_owners t 0 ≡ get_or m.reader_owners t 0 → d.process ≡ p → Step n m p d T E
  -- slot t, in no record, is released
  released : (t : ℕ) → ((x : ℕ) → E t x) → Uncounted T → NotNamed n p t → OthersKept t m d.memory → OthersHeld t p d.process → SameRecords p d.process → Step n m p d T E
  -- record r, of mark k, gets one more holder
  joined : (r k : ℕ) → Adds k T → Fitting n p k r → rec_at d.process r ≡ one_more (rec_at p r) → OtherRecords r p d.process → HeldKept m p d.memory → HeldStay p d.process → Step n m p d T E
  -- slot t is taken, and the empty record r is now its and mark k's
  opened : (r k t : ℕ) → Adds k T → r < n → (rec_at p r).holders ≡ 0 → NoRecord n p k → (rec_at d.process r).mark ≡ k → (rec_at d.process r).slot ≡ t → (rec_at d.process r).holders ≡ 1 → OtherRecords r p d.process → held p t ≡ false → held d.process t ≡ true → HeldKept m p d.memory → HeldStay p d.process → Step n m p d T E
  -- record r, of mark k, gets one holder less, and has holders left
  left : (r k : ℕ) → Drops k T → Fitting n p k r → ((rec_at p r).holders ≡ 1 → ⊥) → rec_at d.process r ≡ one_less (rec_at p r) → OtherRecords r p d.process → HeldKept m p d.memory → HeldStay p d.process → Step n m p d T E
  -- record r, of mark k, loses its last holder, and its slot t is released
  closed : (r k t : ℕ) → Drops k T → Fitting n p k r → (rec_at p r).slot ≡ t → (rec_at p r).holders ≡ 1 → rec_at d.process r ≡ one_less (rec_at p r) → OtherRecords r p d.process → OthersKept t m d.memory → OthersHeld t p d.process → Step n m p d T E

module _ (n : ℕ) (m : Memory) (p : Process) (T : ℕ → ℕ → ℕ) (E : ℕ → ℕ → Type 0) (none_counted : Uncounted T) where
  pub nothing_done : (a : Answer) → Step n m p (done a m p) T E
  nothing_done a = quiet none_counted (λ j h. slot_same j m) (λ j h. h) (λ j. refl)

  -- calls that leave the slots alone
  pub leaves_step : (d : Done) → Leaves m p d → Step n m p d T E
  leaves_step d l =
      quiet none_counted
      (λ j h. record { frame_same = λ x. rw l.frames_left; owner_same = λ x. rw l.owners_left; bit_same = rw l.bits_left })
      (λ j h. rw l.locals_left h)
      (λ j. rw l.registry_left)

-- the floor, the copy-back limit and has_active_db_file_reader: only slots not held here are reclaimed
module _ (n : ℕ) (mode : SharedWalOwnershipMode) (bytes : List ℕ) (m : Memory) (p : Process) (T : ℕ → ℕ → ℕ) (E : ℕ → ℕ → Type 0) (none_counted : Uncounted T) where
  probes : (tests : Memory → Process → List Test) (a : Memory → Process → Answer) (looked : Memory → Process → ℕ) → Step n m p (after (unless tests (λ x q. does (a x q) (reclaim_dead mode bytes q (looked x q)) x q)) m p) T E
  probes tests a looked =
      by_tests tests (λ x q. does (a x q) (reclaim_dead mode bytes q (looked x q)) x q) m p (λ d. Step n m p d T E)
      (λ k. nothing_done n m p T E none_counted (refused k))
      (λ e. quiet none_counted (λ j h. dead_keeps mode bytes p j h (looked m p) m) (λ j h. h) (λ j. refl))

  pub floor_step : Step n m p (after (min_active_reader_frame n mode bytes) m p) T E
  unfolding min_active_reader_frame
  floor_step = probes (probe_tests n mode bytes n) (λ x q. floor_answer (floor_of n mode bytes x q)) (λ x q. n)

  pub limit_step : Step n m p (after (copy_back_limit n mode bytes) m p) T E
  unfolding copy_back_limit
  limit_step = probes (probe_tests n mode bytes n) (λ x q. value (limit_at n mode bytes x q)) (λ x q. n)

  pub db_reader_step : Step n m p (after (has_active_db_file_reader n mode bytes) m p) T E
  unfolding has_active_db_file_reader
  db_reader_step =
      probes (λ x q. probe_tests n mode bytes (looked_at n (db_file_reader_of n mode bytes x q)) x q) (λ x q. flag (is_some (db_file_reader_of n mode bytes x q))) (λ x q. looked_at n (db_file_reader_of n mode bytes x q))

-- the local owner of another slot
pub other_held : (t v : ℕ) (p p' : Process) → p'.local_readers ≡ set p.local_readers t v → OthersHeld t p p'
other_held t v p p' e j f = rw (e, get_or-set_other p.local_readers t j v 0 f)

-- register_reader: held slots are kept, and none is let go
module _ (n : ℕ) (mode : SharedWalOwnershipMode) (owner mark : ℕ) (bytes : List ℕ) (m : Memory) (p : Process) where
  abbrev pub register_done : Done
  register_done = after (register_reader n mode owner mark bytes) m p

  pub register_held : HeldKept m p register_done.memory
  register_held j h = (register_keeps n mode owner mark bytes m p j h).0

  pub register_stay : HeldStay p register_done.process
  register_stay j h = rw (register_keeps n mode owner mark bytes m p j h).1 h

  hold_records : (s : Option ℕ) → (hold_found owner p s).registry ≡ p.registry
  hold_records (Some t) = refl
  hold_records None = refl

  pub register_records : register_done.process.registry ≡ p.registry
  unfolding register_reader
  register_records =
      by_tests (register_tests n owner mark bytes) (registers n mode owner mark bytes) m p (λ d. d.process.registry ≡ p.registry) (λ k. refl) (λ e. hold_records (chosen_slot n mode bytes m p))

  pub register_step : (T : ℕ → ℕ → ℕ) (E : ℕ → ℕ → Type 0) → Uncounted T → Step n m p register_done T E
  register_step T E u = quiet u register_held register_stay (λ j. rw register_records)

-- update_reader
module _ (n slot owner mark : ℕ) (m : Memory) (p : Process) where
  abbrev pub MoveEnds : Done → ℕ → ℕ → Type 0
  MoveEnds d i x = Ending i x d.answer (slot_op (move_op slot owner mark))

  pub move_step : Step n m p (after (update_reader n slot owner mark) m p) (λ k c. c) (MoveEnds (after (update_reader n slot owner mark) m p))
  unfolding update_reader
  move_step =
      by_tests (update_tests n slot owner mark) (does (slot_taken slot owner mark) (one (to_reader_frame slot mark))) m p (λ d. Step n m p d (λ k c. c) (MoveEnds d)) (λ k. nothing_done n m p (λ k c. c) _ (λ k c. refl) (refused k)) made
    where
      made : lowest (update_tests n slot owner mark m p) ≡ 0 → Step n m p (after (does (slot_taken slot owner mark) (one (to_reader_frame slot mark))) m p) (λ k c. c) (MoveEnds (after (does (slot_taken slot owner mark) (one (to_reader_frame slot mark))) m p))
      made e =
          let a = none_applies (update_tests n slot owner mark m p) e in
          let short = (neither_true (ltb (length m.reader_frames) n || ltb (length m.reader_owners) n) (ltb (length p.registry) n) a.1.0).0 in
          let frames = ltb-false (length m.reader_frames) n (neither_true (ltb (length m.reader_frames) n) (ltb (length m.reader_owners) n) short).0 in
          let below = leb-false n slot a.1.1.0 in
          moved slot mark (λ x f. by_move f (λ r. elim r [ ])) (λ k c. refl) (not_named n p slot a.1.1.1.1.1.1.0)
          (λ j f. record { frame_same = λ d. get_or-set_other m.reader_frames slot j mark d f; owner_same = λ d. refl; bit_same = refl })
          (get_or-set_same m.reader_frames slot mark unused (omega arith))
          refl refl

-- unregister_reader
module _ (n : ℕ) (mode : SharedWalOwnershipMode) (slot owner : ℕ) (m : Memory) (p : Process) where
  abbrev pub ReleaseEnds : Done → ℕ → ℕ → Type 0
  ReleaseEnds d i x = Ending i x d.answer (slot_op (release_op slot owner))

  pub release_step : Step n m p (after (unregister_reader n mode slot owner) m p) (λ k c. c) (ReleaseEnds (after (unregister_reader n mode slot owner) m p))
  unfolding unregister_reader
  release_step =
      by_tests (release_tests n mode slot owner) (releases_slot mode slot) m p (λ d. Step n m p d (λ k c. c) (ReleaseEnds d)) (λ k. nothing_done n m p (λ k c. c) _ (λ k c. refl) (refused k)) made
    where
      made : lowest (release_tests n mode slot owner m p) ≡ 0 → Step n m p (after (releases_slot mode slot) m p) (λ k c. c) (ReleaseEnds (after (releases_slot mode slot) m p))
      made e =
          let a = none_applies (release_tests n mode slot owner m p) e in
          released slot (λ x. by_release (λ r. elim r [ ])) (λ k c. refl) (not_named n p slot a.1.1.1.1.1.1.0)
          (λ j f. emptied_other mode slot j m f)
          (other_held slot 0 p (with_local p slot 0) refl)
          (λ j. refl)
