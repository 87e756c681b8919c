-- A hold stands after the call that begins it, and after each call during it. Assumes nothing.
use mathlib.Core.Path.{◌≡◌, refl, sym, ap, ◌∙◌, subst}
use mathlib.Core.Bool.{true, false}
use mathlib.Core.List.{List, [], ◌∷◌}
use mathlib.Core.Logic.{◌⊎◌, inl, inr}
use Prim.Native.Nat.{ℕ, ◌≤◌}
use native.Mathlib.Decide.{ℕ_discrete}
use native.Mathlib.Omega.{arith}
use lib.ListN.{get_or}
use borrow.Author.Tests.{eq-eqb, ne_eqb}
use Rattle.wal_types.specs.Settings.{unused}
use Rattle.wal_types.specs.Memory.{Memory, Process}
use Rattle.wal_types.specs.Call.{Done, after}
use Rattle.reader_slots.specs.Slots.{held}
use Rattle.reader_register.proofs.Taken.{TookSlot, register_took}
use Rattle.sequence.specs.Sequence.{Settings, look, IndexOp, record_op, rollback_op, on_index, HeaderOp, acquire_op, unlock_op, backfill_op, seq_op, epoch_op, on_header, ProbeOp, floor_op, limit_op, db_reader_op, SlotOp, register_op, move_op, release_op, SharedOp, share_op, unshare_op, Op, look_op, index_op, commit_op, header_op, probe_op, slot_op, shared_op, perform, World, Event, answer_of, next, run, FreshWorld, Throughout}
use Rattle.sequence.specs.Hold.{counted, holders_next, holders_after, Kind, direct, shared, Begins, begins_direct, begins_shared, Ending, EndsDirect, SharedLasts, SameSlot, LeavesSlot}
use Rattle.sequence.proofs.SlotsAside.{LeavesSlots, left_by, reads_leave, record_leaves, rollback_leaves, commit_leaves, backfill_leaves, seq_leaves, epoch_leaves, acquire_leaves, unlock_leaves}
use Rattle.sequence.proofs.Looks.{only_looks}
use Rattle.sequence.proofs.SlotsCells.{not_both, rec_at, NoRecord, NotNamed}
use Rattle.sequence.proofs.SlotsStep.{Step, leaves_step, register_step, register_records, move_step, release_step, floor_step, limit_step, db_reader_step}
use Rattle.sequence.proofs.SlotsShared.{Opening, share_opens, share_step, unshare_step}
use Rattle.sequence.proofs.ReadersInv.{Sound, Count, nobody, somebody, sound_next, count_next, Standing, SlotOfMark, direct_next, shared_next}

-- the calls of a family that leave the slots alone
index_leaves : (s : Settings) (o : IndexOp) → LeavesSlots (on_index s o)
index_leaves s (record_op page frame grow) = record_leaves _ _ _ _ _
index_leaves s (rollback_op bound) = rollback_leaves _ _ _

header_leaves : (s : Settings) (o : HeaderOp) → LeavesSlots (on_header s o)
header_leaves s (acquire_op lock owner byte) = acquire_leaves _ _ _
header_leaves s (unlock_op lock owner) = unlock_leaves _ _ _
header_leaves s (backfill_op n) = backfill_leaves _
header_leaves s seq_op = seq_leaves
header_leaves s epoch_op = epoch_leaves

-- The change that each call makes to its own process.
module _ (s : Settings) (m : Memory) (p : Process) where
  abbrev OwnStep : Op → Type 0
  OwnStep op = Step s.slots m p (after (perform s op) m p) (λ k c. counted k op (after (perform s op) m p).answer c) (λ i x. Ending i x (after (perform s op) m p).answer op)

  probe_step : (o : ProbeOp) → OwnStep (probe_op o)
  probe_step (floor_op bytes) = floor_step s.slots s.mode bytes m p _ _ (λ k c. refl)
  probe_step (limit_op bytes) = limit_step s.slots s.mode bytes m p _ _ (λ k c. refl)
  probe_step (db_reader_op bytes) = db_reader_step s.slots s.mode bytes m p _ _ (λ k c. refl)

  slot_step : (o : SlotOp) → OwnStep (slot_op o)
  slot_step (register_op owner mark bytes) = register_step s.slots s.mode owner mark bytes m p _ _ (λ k c. refl)
  slot_step (move_op slot owner mark) = move_step s.slots slot owner mark m p
  slot_step (release_op slot owner) = release_step s.slots s.mode slot owner m p

  shared_step : (o : SharedOp) → OwnStep (shared_op o)
  shared_step (share_op owner mark bytes) = share_step s.slots s.mode owner mark bytes m p _
  shared_step (unshare_op mark slot owner) = unshare_step s.slots s.mode mark slot owner m p _

  step_of : (op : Op) → OwnStep op
  step_of (look_op o) = leaves_step _ m p _ _ (λ k c. refl) _ (left_by (look s o) (reads_leave (look s o) (only_looks s o)) m p)
  step_of (index_op o) = leaves_step _ m p _ _ (λ k c. refl) _ (left_by (on_index s o) (index_leaves s o) m p)
  step_of (commit_op frame c1 c2 count) = leaves_step _ m p _ _ (λ k c. refl) _ (left_by (perform s (commit_op frame c1 c2 count)) (commit_leaves _ _ _ _) m p)
  step_of (header_op o) = leaves_step _ m p _ _ (λ k c. refl) _ (left_by (on_header s o) (header_leaves s o) m p)
  step_of (probe_op o) = probe_step o
  step_of (slot_op o) = slot_step o
  step_of (shared_op o) = shared_step o

-- a process after its own call, and after another's
module _ (s : Settings) (e : Event) (w : World) where
  abbrev left : Done
  left = after (perform s e.op) w.memory (w.processes e.who)

  own_process : (next s e w).processes e.who ≡ left.process
  own_process = rw (eq-eqb e.who e.who refl)

  other_process : (who : ℕ) → (e.who ≡ who → ⊥) → (next s e w).processes who ≡ w.processes who
  other_process who f = rw (ne_eqb who e.who (λ q. f (sym q)))

-- A process's registry is sound, with c holders at mark k.
pub record Tracked (n k c : ℕ) (p : Process) : Type 0 where
  sound : Sound n p
  count : Count n p k c

-- A hold of slot i at mark x: a direct one, and a shared one with c holders.
pub record Direct (n i x : ℕ) (m : Memory) (p : Process) : Type 0 where
  sound : Sound n p
  standing : Standing n i x m p
  unnamed : NotNamed n p i

pub record Shared (n i x c : ℕ) (m : Memory) (p : Process) : Type 0 where
  tracked : Tracked n x c p
  standing : Standing n i x m p
  slot_of_mark : SlotOfMark n p i x

-- of either kind
abbrev pub Hold : Kind → ℕ → ℕ → ℕ → ℕ → Memory → Process → Type 0
Hold direct n i x c m p = Direct n i x m p
Hold shared n i x c m p = Shared n i x c m p

pub hold_standing : (kind : Kind) (n i x c : ℕ) (m : Memory) (p : Process) → Hold kind n i x c m p → Standing n i x m p
hold_standing direct n i x c m p h = h.standing
hold_standing shared n i x c m p h = h.standing

-- It goes on with the call e; it lasts through a list of calls.
abbrev pub GoesOn : Kind → Settings → ℕ → ℕ → ℕ → Event → World → ℕ → Type 0
GoesOn direct s who i x e w c = EndsDirect s who i x e w → ⊥
GoesOn shared s who i x e w c = (1 ≤ c) × (1 ≤ holders_next who x e (answer_of s e w) c)

abbrev pub LastsOn : Kind → Settings → ℕ → ℕ → ℕ → List Event → World → ℕ → Type 0
LastsOn direct s who i x events w c = Throughout (λ e v. EndsDirect s who i x e v → ⊥) s events w
LastsOn shared s who i x events w c = SharedLasts s who x events w c

some_left : (s : Settings) (who x : ℕ) (events : List Event) (w : World) (c : ℕ) → SharedLasts s who x events w c → 1 ≤ c
unfolding SharedLasts
some_left s who x [] w c f = f
some_left s who x (e ∷ rest) w c f = f.0

pub goes_on : (kind : Kind) (s : Settings) (who i x : ℕ) (e : Event) (rest : List Event) (w : World) (c : ℕ) → LastsOn kind s who i x (e ∷ rest) w c
    → GoesOn kind s who i x e w c × LastsOn kind s who i x rest (next s e w) (holders_next who x e (answer_of s e w) c)
unfolding Throughout SharedLasts
goes_on direct s who i x e rest w c f = (f.0, f.1)
goes_on shared s who i x e rest w c f = ((f.0, some_left s who x rest (next s e w) _ f.1), f.1)

module _ (s : Settings) (e : Event) (w : World) where
  abbrev n : ℕ
  n = s.slots

  abbrev mine : Process
  mine = w.processes e.who

  abbrev own : OwnStep s w.memory mine e.op
  own = step_of s w.memory mine e.op

  abbrev counts : ℕ → ℕ → ℕ → ℕ
  counts who k c = holders_next who k e (answer_of s e w) c

  -- a call counts for its own process alone
  own_counts : (k c : ℕ) → counts e.who k c ≡ counted k e.op (answer_of s e w) c
  own_counts k c = rw (eq-eqb e.who e.who refl)

  not_counted : (who k c : ℕ) → (e.who ≡ who → ⊥) → counts who k c ≡ c
  not_counted who k c f = rw (ne_eqb e.who who f)

  -- what its process's own call keeps
  own_tracked : (k c : ℕ) → Tracked n k c mine → Tracked n k (counts e.who k c) (left s e w).process
  own_tracked k c t =
      record {
        sound = sound_next n w.memory mine (left s e w) _ _ t.sound own;
        count = subst (Count n (left s e w).process k) (sym (own_counts k c)) (count_next n w.memory mine (left s e w) _ _ t.sound k c own t.count);
      }

  own_direct : (i x : ℕ) → (EndsDirect s e.who i x e w → ⊥) → Direct n i x w.memory mine → Direct n i x (left s e w).memory (left s e w).process
  own_direct i x f h =
      let a = direct_next n w.memory mine (left s e w) _ _ i x own (λ z. f (refl, z)) h.standing h.unnamed in
      record { sound = sound_next n w.memory mine (left s e w) _ _ h.sound own; standing = a.0; unnamed = a.1 }

  own_shared : (i x c : ℕ) → 1 ≤ c → 1 ≤ counts e.who x c → Shared n i x c w.memory mine → Shared n i x (counts e.who x c) (left s e w).memory (left s e w).process
  own_shared i x c some more h =
      let a = shared_next n w.memory mine (left s e w) _ _ i x own c h.tracked.sound some (subst (λ (y : ℕ). 1 ≤ y) (own_counts x c) more) h.tracked.count h.standing h.slot_of_mark in
      record { tracked = own_tracked x c h.tracked; standing = a.0; slot_of_mark = a.1 }

  -- the same for any process
  module _ (who : ℕ) where
    abbrev its : Process
    its = w.processes who

    abbrev its_next : Process
    its_next = (next s e w).processes who

    tracked_next : (k c : ℕ) → Tracked n k c its → Tracked n k (counts who k c) its_next
    tracked_next k c t = go (ℕ_discrete e.who who)
      where
        go : Dec (e.who ≡ who) → Tracked n k (counts who k c) its_next
        go (yes q) =
            subst (λ (x : ℕ). Tracked n k c (w.processes x) → Tracked n k (counts x k c) ((next s e w).processes x)) q
            (λ v. subst (Tracked n k (counts e.who k c)) (sym (own_process s e w)) (own_tracked k c v)) t
        go (no f) = rw (not_counted who k c f, other_process s e w who f) t

    -- another process leaves the slot alone
    other_standing : (i x : ℕ) → (e.who ≡ who → ⊥) → SameSlot i w.memory (next s e w).memory → Standing n i x w.memory its → Standing n i x (next s e w).memory its_next
    other_standing i x f a h =
        record {
          below = h.below;
          marked = a.same_frame ∙ h.marked;
          used = h.used;
          owned = λ z. h.owned (sym a.same_owner ∙ z);
          here = ap (λ (y : Process). held y i) (other_process s e w who f) ∙ h.here;
        }

    direct_event : (i x : ℕ) → (EndsDirect s who i x e w → ⊥) → LeavesSlot s who i e w → Direct n i x w.memory its → Direct n i x (next s e w).memory its_next
    direct_event i x g l h = go (ℕ_discrete e.who who)
      where
        go : Dec (e.who ≡ who) → Direct n i x (next s e w).memory its_next
        go (yes q) =
            subst (λ (y : ℕ). (EndsDirect s y i x e w → ⊥) → Direct n i x w.memory (w.processes y) → Direct n i x (next s e w).memory ((next s e w).processes y)) q
            (λ u v. subst (Direct n i x (next s e w).memory) (sym (own_process s e w)) (own_direct i x u v)) g h
        go (no f) = record { sound = rw (other_process s e w who f) h.sound; standing = other_standing i x f (l f) h.standing; unnamed = rw (other_process s e w who f) h.unnamed }

    shared_event : (i x c : ℕ) → 1 ≤ c → 1 ≤ counts who x c → LeavesSlot s who i e w → Shared n i x c w.memory its → Shared n i x (counts who x c) (next s e w).memory its_next
    shared_event i x c some more l h = go (ℕ_discrete e.who who)
      where
        go : Dec (e.who ≡ who) → Shared n i x (counts who x c) (next s e w).memory its_next
        go (yes q) =
            subst (λ (y : ℕ). 1 ≤ counts y x c → Shared n i x c w.memory (w.processes y) → Shared n i x (counts y x c) (next s e w).memory ((next s e w).processes y)) q
            (λ u v. subst (Shared n i x (counts e.who x c) (next s e w).memory) (sym (own_process s e w)) (own_shared i x c some u v)) more h
        go (no f) = record { tracked = tracked_next x c h.tracked; standing = other_standing i x f (l f) h.standing; slot_of_mark = rw (other_process s e w who f) h.slot_of_mark }

    -- a hold of either kind
    pub hold_event : (kind : Kind) (i x c : ℕ) → GoesOn kind s who i x e w c → LeavesSlot s who i e w → Hold kind n i x c w.memory its → Hold kind n i x (counts who x c) (next s e w).memory its_next
    hold_event direct i x c g l h = direct_event i x g l h
    hold_event shared i x c g l h = shared_event i x c g.0 g.1 l h

-- from the fresh world to the call that begins the hold
fresh_tracked : (s : Settings) (start : ℕ) (w : World) (who k : ℕ) → FreshWorld s start w → Tracked s.slots k 0 (w.processes who)
fresh_tracked s start w who k f =
    let empty = (f.processes_fresh who).registry_empty in
    record {
      sound =
          record {
            slots_held = λ j l a. absurd (a (empty j l));
            one_slot = λ j h x y a b e. absurd (a (empty j x));
            one_mark = λ j h x y a b e. absurd (a (empty j x));
          };
      count = nobody refl (λ j l a e. a (empty j l));
    }

tracked_after : (s : Settings) (who k c : ℕ) (events : List Event) (w : World) → Tracked s.slots k c (w.processes who) → Tracked s.slots k (holders_after s who k events w c) ((run s events w).processes who)
unfolding holders_after run
tracked_after s who k c [] w t = t
tracked_after s who k c (e ∷ rest) w t = tracked_after s who k (holders_next who k e (answer_of s e w) c) rest (next s e w) (tracked_next s e w who k c t)

-- a slot just taken is held here at its mark
took_stands : (n owner x i : ℕ) (p : Process) (m' : Memory) (p' : Process) → TookSlot n owner x i p m' p' → Standing n i x m' p'
took_stands n owner x i p m' p' t =
    record {
      below = t.below;
      marked = t.frame_is;
      used = t.used;
      owned = λ z. t.owned (sym t.owner_is ∙ z);
      here = rw (t.local_is, ne_eqb owner 0 t.owned);
    }

-- no holders: no record
none_counted : (n k : ℕ) (p : Process) → Count n p k 0 → NoRecord n p k
none_counted n k p (nobody z w) = w
none_counted n k p (somebody r f h) = absurd (f.active h)

-- a slot that was not held is in no record
free_unnamed : (n i : ℕ) (p p' : Process) → Sound n p → p'.registry ≡ p.registry → held p i ≡ false → NotNamed n p' i
free_unnamed n i p p' g same free j l =
    rw same (λ a e. not_both (held p i) (subst (λ (t : ℕ). held p t ≡ true) e (g.slots_held j l a)) free)

-- a new record is its mark's only one
module _ (n owner x i r : ℕ) (m : Memory) (p : Process) (d : Done) (new : NoRecord n p x) (o : Opening n owner x i r m p d) where
  opening_slot : SlotOfMark n d.process i x
  opening_slot j l a e = go (ℕ_discrete j r)
    where
      go : Dec (j ≡ r) → (rec_at d.process j).slot ≡ i
      go (yes q) = rw q o.slot_is
      go (no f) = let same = o.others j f in absurd (new j l (rw same at a) (rw same at e))

  opening_count : Count n d.process x 1
  opening_count = somebody r (record { below = o.record_below; active = λ z. let h = o.holders_is in omega arith; mark_is = o.mark_is }) o.holders_is

begun : (s : Settings) (w : World) (c : ℕ) (e : Event) (kind : Kind) (i x : ℕ) → Begins s w c e kind i x → Tracked s.slots x c (w.processes e.who) → Hold kind s.slots i x 1 (left s e w).memory (left s e w).process
begun s w c e kind i x (begins_direct {who} {owner = owner} {o = o} {bytes = bytes} a) t =
    let took = (register_took s.slots s.mode owner x bytes w.memory (w.processes who) i o x a).1.1 in
    let records = register_records s.slots s.mode owner x bytes w.memory (w.processes who) in
    record {
      sound = (own_tracked s e w x c t).sound;
      standing = took_stands s.slots owner x i (w.processes who) (left s e w).memory (left s e w).process took;
      unnamed = free_unnamed s.slots i (w.processes who) (left s e w).process t.sound records took.was_free;
    }
begun s w c e kind i x (begins_shared {who} {owner = owner} {o = o} {bytes = bytes} a z) t =
    let new : NoRecord s.slots (w.processes who) x = none_counted s.slots x (w.processes who) (rw z at t.count) in
    let opens = share_opens s.slots s.mode owner x bytes w.memory (w.processes who) i o new a in
    record {
      tracked = record { sound = (own_tracked s e w x c t).sound; count = opening_count s.slots owner x i opens.0 w.memory (w.processes who) (left s e w) new opens.1 };
      standing = took_stands s.slots owner x i (w.processes who) (left s e w).memory (left s e w).process opens.1.took;
      slot_of_mark = opening_slot s.slots owner x i opens.0 w.memory (w.processes who) (left s e w) new opens.1;
    }

-- THE HOLD BEGINS, after any calls from the fresh world
pub hold_begins : (s : Settings) (start : ℕ) (fresh : World) (before : List Event) (e : Event) (kind : Kind) (i x : ℕ) → FreshWorld s start fresh → Begins s (run s before fresh) (holders_after s e.who x before fresh 0) e kind i x
    → Hold kind s.slots i x 1 (next s e (run s before fresh)).memory ((next s e (run s before fresh)).processes e.who)
hold_begins s start fresh before e kind i x f begins =
    let w = run s before fresh in
    subst (Hold kind s.slots i x 1 (next s e w).memory) (sym (own_process s e w))
    (begun s w _ e kind i x begins (tracked_after s e.who x 0 before fresh (fresh_tracked s start fresh e.who x f)))

-- At the call e the hold of process `who` pins its mark: slot i stands at mark x, and e leaves it alone unless it is that process's own.
pub record Pinned (s : Settings) (who i x : ℕ) (e : Event) (w : World) : Type 0 where
  pub standing : Standing s.slots i x w.memory (w.processes who)
  pub left_alone : LeavesSlot s who i e w

-- so the slot is held by the call's own process, or has its mark after the call
pub mark_stays : {s : Settings} {who i x : ℕ} {e : Event} {w : World} → Pinned s who i x e w → (held (w.processes e.who) i ≡ true) ⊎ (get_or (next s e w).memory.reader_frames i unused ≡ x)
mark_stays {s} {who} {i} {x} {e} {w} pinned = go (ℕ_discrete e.who who)
  where
    go : Dec (e.who ≡ who) → (held (w.processes e.who) i ≡ true) ⊎ (get_or (next s e w).memory.reader_frames i unused ≡ x)
    go (yes q) = inl (rw q pinned.standing.here)
    go (no f) = inr ((pinned.left_alone f).same_frame ∙ pinned.standing.marked)
