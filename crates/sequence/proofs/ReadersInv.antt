-- What every call of a process keeps: a sound registry, the count of holders at a mark, and a hold that it does not end. Assumes nothing.
use mathlib.Core.Path.{◌≡◌, sym, ap, ◌∙◌, subst}
use mathlib.Core.Bool.{true, false}
use Prim.Native.Nat.{ℕ, ◌+◌, ◌-◌, ◌<◌, ◌≤◌}
use native.Mathlib.Decide.{ℕ_discrete}
use native.Mathlib.Omega.{arith}
use lib.ListN.{get_or}
use borrow.Author.Tests.{eq-eqb, ne_eqb}
use Rattle.wal_types.specs.declared.SharedReadMark.{SharedReadMark}
use Rattle.wal_types.specs.Settings.{unused}
use Rattle.wal_types.specs.Memory.{Memory, Process}
use Rattle.wal_types.specs.Call.{Done}
use Rattle.reader_slots.specs.Slots.{held}
use Rattle.reader_slots.proofs.Kept.{SlotSame}
use Rattle.reader_marks.specs.Registry.{one_more, one_less}
use Rattle.sequence.proofs.SlotsCells.{not_both, rec_at, Active, Fitting, NoRecord, NotNamed}
use Rattle.sequence.proofs.SlotsStep.{SameRecords, OtherRecords, HeldStay, Step, quiet, moved, released, joined, opened, left, closed}

-- Each record with holders has a slot that is held here; no two have the same slot, nor the same mark.
pub record Sound (n : ℕ) (p : Process) : Type 0 where
  pub slots_held : (j : ℕ) → j < n → Active p j → held p (rec_at p j).slot ≡ true
  pub one_slot : (j k : ℕ) → j < n → k < n → Active p j → Active p k → (rec_at p j).slot ≡ (rec_at p k).slot → j ≡ k
  pub one_mark : (j k : ℕ) → j < n → k < n → Active p j → Active p k → (rec_at p j).mark ≡ (rec_at p k).mark → j ≡ k

-- c holders are registered at mark k
pub data Count (n : ℕ) (p : Process) (k c : ℕ) : Type 0 where
  nobody : c ≡ 0 → NoRecord n p k → Count n p k c
  somebody : (r : ℕ) → Fitting n p k r → (rec_at p r).holders ≡ c → Count n p k c

-- a record that has holders had them before, and its slot and mark
record Old (p p' : Process) (j : ℕ) : Type 0 where
  was_active : Active p j
  same_slot : (rec_at p' j).slot ≡ (rec_at p j).slot
  same_mark : (rec_at p' j).mark ≡ (rec_at p j).mark

-- record r is new: mark k's, with slot t
record New (n : ℕ) (p p' : Process) (r k t : ℕ) : Type 0 where
  new_below : r < n
  was_empty : (rec_at p r).holders ≡ 0
  new_mark : (rec_at p' r).mark ≡ k
  new_slot : (rec_at p' r).slot ≡ t
  no_record : NoRecord n p k
  others : OtherRecords r p p'
  was_free : held p t ≡ false
  is_held : held p' t ≡ true
  stay : HeldStay p p'

-- After a call every record with holders is an old one, or one is new.
abbrev Within : ℕ → Process → Process → Type 0
Within n p p' = (j : ℕ) → j < n → Active p' j → Old p p' j

data Change (n : ℕ) (p p' : Process) : Type 0 where
  old_ones : Within n p p' → Change n p p'
  new_one : (r k t : ℕ) → New n p p' r k t → Change n p p'

same_old : (p p' : Process) (j : ℕ) → rec_at p' j ≡ rec_at p j → Active p' j → Old p p' j
same_old p p' j e a =
    record {
      was_active = λ z. a (ap (λ (x : SharedReadMark). x.holders) e ∙ z);
      same_slot = ap (λ (x : SharedReadMark). x.slot) e;
      same_mark = ap (λ (x : SharedReadMark). x.mark) e;
    }

-- all records are old but r, whose slot and mark stay
recounted : (n : ℕ) (p p' : Process) (r : ℕ) → Active p r → (rec_at p' r).slot ≡ (rec_at p r).slot → (rec_at p' r).mark ≡ (rec_at p r).mark → OtherRecords r p p' → Within n p p'
recounted n p p' r a s k o j l b = go (ℕ_discrete j r)
  where
    go : Dec (j ≡ r) → Old p p' j
    go (yes e) = rw e (record { was_active = a; same_slot = s; same_mark = k })
    go (no f) = same_old p p' j (o j f) b

module _ (n : ℕ) (m : Memory) (p : Process) (d : Done) (T : ℕ → ℕ → ℕ) (E : ℕ → ℕ → Type 0) where
  change_of : Step n m p d T E → Change n p d.process
  change_of (quiet u h s o) = old_ones (λ j l a. same_old p d.process j (o j) a)
  change_of (moved t k x u w o f g e) = old_ones (λ j l a. same_old p d.process j (rw e) a)
  change_of (released t x u w o h s) = old_ones (λ j l a. same_old p d.process j (s j) a)
  change_of (joined r k u f e o h s) = old_ones (recounted n p d.process r f.active (rw e) (rw e) o)
  change_of (opened r k t u l z w a b c o f g h s) =
      new_one r k t (record { new_below = l; was_empty = z; new_mark = a; new_slot = b; no_record = w; others = o; was_free = f; is_held = g; stay = s })
  change_of (left r k u f w e o h s) = old_ones (recounted n p d.process r f.active (rw e) (rw e) o)
  change_of (closed r k t u f s w e o h g) = old_ones (recounted n p d.process r f.active (rw e) (rw e) o)

-- old records whose slots stay held are sound
sound_old : (n : ℕ) (p p' : Process) → Sound n p → Within n p p' → ((j : ℕ) → j < n → Active p' j → held p (rec_at p j).slot ≡ true → held p' (rec_at p j).slot ≡ true) → Sound n p'
sound_old n p p' g w h =
    record {
      slots_held = λ j l a. let o = w j l a in rw o.same_slot (h j l a (g.slots_held j l o.was_active));
      one_slot = λ j k x y a b e. let o = w j x a in let q = w k y b in g.one_slot j k x y o.was_active q.was_active (sym o.same_slot ∙ e ∙ q.same_slot);
      one_mark = λ j k x y a b e. let o = w j x a in let q = w k y b in g.one_mark j k x y o.was_active q.was_active (sym o.same_mark ∙ e ∙ q.same_mark);
    }

-- and so is a new one
module _ (n : ℕ) (p p' : Process) (r k t : ℕ) (g : Sound n p) (w : New n p p' r k t) where
  new_held : (j : ℕ) → j < n → Active p' j → Dec (j ≡ r) → held p' (rec_at p' j).slot ≡ true
  new_held j l a (yes e) = rw (e, w.new_slot) w.is_held
  new_held j l a (no f) = let o = same_old p p' j (w.others j f) a in rw o.same_slot (w.stay (rec_at p j).slot (g.slots_held j l o.was_active))

  -- an old record has neither the new one's slot nor its mark
  other_slot : (j : ℕ) → j < n → Active p' j → (j ≡ r → ⊥) → (rec_at p' j).slot ≡ t → ⊥
  other_slot j l a f e =
      let o = same_old p p' j (w.others j f) a in
      not_both (held p t) (subst (λ (x : ℕ). held p x ≡ true) (sym o.same_slot ∙ e) (g.slots_held j l o.was_active)) w.was_free

  other_mark : (j : ℕ) → j < n → Active p' j → (j ≡ r → ⊥) → (rec_at p' j).mark ≡ k → ⊥
  other_mark j l a f e = let o = same_old p p' j (w.others j f) a in w.no_record j l o.was_active (sym o.same_mark ∙ e)

  new_slots : (j h : ℕ) → j < n → h < n → Active p' j → Active p' h → (rec_at p' j).slot ≡ (rec_at p' h).slot → Dec (j ≡ r) → Dec (h ≡ r) → j ≡ h
  new_slots j h x y a b e (yes u) (yes v) = u ∙ sym v
  new_slots j h x y a b e (yes u) (no v) = absurd (other_slot h y b v (sym e ∙ rw u w.new_slot))
  new_slots j h x y a b e (no u) (yes v) = absurd (other_slot j x a u (e ∙ rw v w.new_slot))
  new_slots j h x y a b e (no u) (no v) =
      let o = same_old p p' j (w.others j u) a in
      let q = same_old p p' h (w.others h v) b in
      g.one_slot j h x y o.was_active q.was_active (sym o.same_slot ∙ e ∙ q.same_slot)

  new_marks : (j h : ℕ) → j < n → h < n → Active p' j → Active p' h → (rec_at p' j).mark ≡ (rec_at p' h).mark → Dec (j ≡ r) → Dec (h ≡ r) → j ≡ h
  new_marks j h x y a b e (yes u) (yes v) = u ∙ sym v
  new_marks j h x y a b e (yes u) (no v) = absurd (other_mark h y b v (sym e ∙ rw u w.new_mark))
  new_marks j h x y a b e (no u) (yes v) = absurd (other_mark j x a u (e ∙ rw v w.new_mark))
  new_marks j h x y a b e (no u) (no v) =
      let o = same_old p p' j (w.others j u) a in
      let q = same_old p p' h (w.others h v) b in
      g.one_mark j h x y o.was_active q.was_active (sym o.same_mark ∙ e ∙ q.same_mark)

  sound_new : Sound n p'
  sound_new =
      record {
        slots_held = λ j l a. new_held j l a (ℕ_discrete j r);
        one_slot = λ j h x y a b e. new_slots j h x y a b e (ℕ_discrete j r) (ℕ_discrete h r);
        one_mark = λ j h x y a b e. new_marks j h x y a b e (ℕ_discrete j r) (ℕ_discrete h r);
      }

-- the last holder gone: none is left
one_less_none : (p p' : Process) (r : ℕ) → (rec_at p r).holders ≡ 1 → rec_at p' r ≡ one_less (rec_at p r) → (rec_at p' r).holders ≡ 0
one_less_none p p' r w e = ap (λ (x : SharedReadMark). x.holders) e ∙ (omega arith)

module _ (n : ℕ) (m : Memory) (p : Process) (d : Done) (T : ℕ → ℕ → ℕ) (E : ℕ → ℕ → Type 0) (g : Sound n p) where
  sound_by : Change n p d.process → ((j : ℕ) → j < n → Active d.process j → held p (rec_at p j).slot ≡ true → held d.process (rec_at p j).slot ≡ true) → Sound n d.process
  sound_by (old_ones w) h = sound_old n p d.process g w h
  sound_by (new_one r k t w) h = sound_new n p d.process r k t g w

  -- every call keeps the registry sound
  pub sound_next : Step n m p d T E → Sound n d.process
  sound_next st = sound_by (change_of n m p d T E st) (stays st)
    where
      stays : Step n m p d T E → (j : ℕ) → j < n → Active d.process j → held p (rec_at p j).slot ≡ true → held d.process (rec_at p j).slot ≡ true
      stays (quiet u h s o) j l a q = s (rec_at p j).slot q
      stays (moved t k x u w o f z e) j l a q = rw e q
      stays (released t x u w o h s) j l a q =
          h (rec_at p j).slot (λ e. w j l (λ z. a (ap (λ (y : SharedReadMark). y.holders) (s j) ∙ z)) e) ∙ q
      stays (joined r k u f e o h s) j l a q = s (rec_at p j).slot q
      stays (opened r k t u b z w x y c o f v h s) j l a q = s (rec_at p j).slot q
      stays (left r k u f w e o h s) j l a q = s (rec_at p j).slot q
      stays (closed r k t u f s w e o h z) j l a q =
          let differs : j ≡ r → ⊥ = λ v. a (rw v (one_less_none p d.process r w e)) in
          let was = same_old p d.process j (o j differs) a in
          z (rec_at p j).slot (λ v. differs (g.one_slot j r l f.below was.was_active f.active (v ∙ sym s))) ∙ q

-- Holders of a mark, where its record stays as it is.
fitting_same : (n : ℕ) (p p' : Process) (k r : ℕ) → rec_at p' r ≡ rec_at p r → Fitting n p k r → Fitting n p' k r
fitting_same n p p' k r e f =
    record {
      below = f.below;
      active = λ z. f.active (sym (ap (λ (x : SharedReadMark). x.holders) e) ∙ z);
      mark_is = ap (λ (x : SharedReadMark). x.mark) e ∙ f.mark_is;
    }

count_same : (n : ℕ) (p p' : Process) (k c : ℕ) → SameRecords p p' → Count n p k c → Count n p' k c
count_same n p p' k c s (nobody z w) = nobody z (λ j l a e. let o = same_old p p' j (s j) a in w j l o.was_active (sym o.same_mark ∙ e))
count_same n p p' k c s (somebody r f h) = somebody r (fitting_same n p p' k r (s r) f) (ap (λ (x : SharedReadMark). x.holders) (s r) ∙ h)

-- the record that changes is another mark's
count_other : (n : ℕ) (p p' : Process) (r k c : ℕ) → OtherRecords r p p' → ((rec_at p r).mark ≡ k → (rec_at p r).holders ≡ 0) → ((rec_at p' r).mark ≡ k → ⊥) → Count n p k c → Count n p' k c
count_other n p p' r k c o was now (nobody z w) = nobody z (λ j l a e. go j l a e (ℕ_discrete j r))
  where
    go : (j : ℕ) → j < n → Active p' j → (rec_at p' j).mark ≡ k → Dec (j ≡ r) → ⊥
    go j l a e (yes q) = now (rw q at e)
    go j l a e (no f) = let x = same_old p p' j (o j f) a in w j l x.was_active (sym x.same_mark ∙ e)
count_other n p p' r k c o was now (somebody x f h) =
    let differs : x ≡ r → ⊥ = λ e. f.active (subst (λ (y : ℕ). (rec_at p y).mark ≡ k → (rec_at p y).holders ≡ 0) (sym e) was f.mark_is) in
    somebody x (fitting_same n p p' k x (o x differs) f) (ap (λ (y : SharedReadMark). y.holders) (o x differs) ∙ h)

module _ (n : ℕ) (m : Memory) (p : Process) (d : Done) (T : ℕ → ℕ → ℕ) (E : ℕ → ℕ → Type 0) (g : Sound n p) (k c : ℕ) where
  -- the record of mark k, which is r
  its_record : (r : ℕ) → Fitting n p k r → Count n p k c → (rec_at p r).holders ≡ c
  its_record r f (nobody z w) = absurd (w r f.below f.active f.mark_is)
  its_record r f (somebody x y h) = let same : r ≡ x = g.one_mark r x f.below y.below f.active y.active (f.mark_is ∙ sym y.mark_is) in rw same h

  -- one holder more
  count_joined : (r : ℕ) → Fitting n p k r → rec_at d.process r ≡ one_more (rec_at p r) → Count n p k c → Count n d.process k (c + 1)
  count_joined r f e x =
      let h = its_record r f x in
      let now : (rec_at d.process r).holders ≡ c + 1 = ap (λ (y : SharedReadMark). y.holders) e ∙ (rw h) in
      somebody r (record { below = f.below; active = λ z. (omega arith); mark_is = ap (λ (y : SharedReadMark). y.mark) e ∙ f.mark_is }) now

  count_opened : (r : ℕ) → r < n → NoRecord n p k → (rec_at d.process r).mark ≡ k → (rec_at d.process r).holders ≡ 1 → Count n p k c → Count n d.process k (c + 1)
  count_opened r l w a h (nobody z v) = somebody r (record { below = l; active = λ q. (omega arith); mark_is = a }) (omega arith)
  count_opened r l w a h (somebody x f v) = absurd (w x f.below f.active f.mark_is)

  count_left : (r : ℕ) → Fitting n p k r → ((rec_at p r).holders ≡ 1 → ⊥) → rec_at d.process r ≡ one_less (rec_at p r) → Count n p k c → Count n d.process k (c - 1)
  count_left r f more e x =
      let h = its_record r f x in
      let one = more in
      let some = f.active in
      let now : (rec_at d.process r).holders ≡ c - 1 = ap (λ (y : SharedReadMark). y.holders) e ∙ (rw h) in
      somebody r (record { below = f.below; active = λ z. (omega arith); mark_is = ap (λ (y : SharedReadMark). y.mark) e ∙ f.mark_is }) now

  count_closed : (r : ℕ) → Fitting n p k r → (rec_at p r).holders ≡ 1 → rec_at d.process r ≡ one_less (rec_at p r) → OtherRecords r p d.process → Count n p k c → Count n d.process k (c - 1)
  count_closed r f one e o x = let h = its_record r f x in nobody (omega arith) none_left
    where
      none_left : NoRecord n d.process k
      none_left j l a q =
          let differs : j ≡ r → ⊥ = λ v. a (rw v (one_less_none p d.process r one e)) in
          let was = same_old p d.process j (o j differs) a in
          differs (g.one_mark j r l f.below was.was_active f.active (sym was.same_mark ∙ q ∙ sym f.mark_is))

  -- every call keeps the count
  pub count_next : Step n m p d T E → Count n p k c → Count n d.process k (T k c)
  count_next (quiet u h s o) x = rw (u k c) (count_same n p d.process k c o x)
  count_next (moved t a b u w o f z e) x = rw (u k c) (count_same n p d.process k c (λ j. rw e) x)
  count_next (released t b u w o h s) x = rw (u k c) (count_same n p d.process k c s x)
  count_next (joined r a u f e o h s) x = go (ℕ_discrete a k)
    where
      go : Dec (a ≡ k) → Count n d.process k (T k c)
      go (yes q) = rw (u k c, eq-eqb a k q) (count_joined r (rw q at f) e x)
      go (no q) = rw (u k c, ne_eqb a k q) (count_other n p d.process r k c o (λ v. absurd (q (sym f.mark_is ∙ v))) (λ v. q (sym f.mark_is ∙ (sym (ap (λ (y : SharedReadMark). y.mark) e) ∙ v))) x)
  count_next (opened r a t u l z w b s i o f v h y) x = go (ℕ_discrete a k)
    where
      go : Dec (a ≡ k) → Count n d.process k (T k c)
      go (yes q) = rw (u k c, eq-eqb a k q) (count_opened r l (rw q at w) (b ∙ q) i x)
      go (no q) = rw (u k c, ne_eqb a k q) (count_other n p d.process r k c o (λ v. z) (λ v. q (sym b ∙ v)) x)
  count_next (left r a u f w e o h s) x = go (ℕ_discrete a k)
    where
      go : Dec (a ≡ k) → Count n d.process k (T k c)
      go (yes q) = rw (u k c, eq-eqb a k q) (count_left r (rw q at f) w e x)
      go (no q) = rw (u k c, ne_eqb a k q) (count_other n p d.process r k c o (λ v. absurd (q (sym f.mark_is ∙ v))) (λ v. q (sym f.mark_is ∙ (sym (ap (λ (y : SharedReadMark). y.mark) e) ∙ v))) x)
  count_next (closed r a t u f s w e o h z) x = go (ℕ_discrete a k)
    where
      go : Dec (a ≡ k) → Count n d.process k (T k c)
      go (yes q) = rw (u k c, eq-eqb a k q) (count_closed r (rw q at f) w e o x)
      go (no q) = rw (u k c, ne_eqb a k q) (count_other n p d.process r k c o (λ v. absurd (q (sym f.mark_is ∙ v))) (λ v. q (sym f.mark_is ∙ (sym (ap (λ (y : SharedReadMark). y.mark) e) ∙ v))) x)

-- Slot i is held here at mark x.
pub record Standing (n i x : ℕ) (m : Memory) (p : Process) : Type 0 where
  pub below : i < n
  pub marked : get_or m.reader_frames i unused ≡ x
  pub used : x ≡ unused → ⊥
  pub owned : get_or m.reader_owners i 0 ≡ 0 → ⊥
  pub here : held p i ≡ true

-- A direct hold's slot is in no record; a shared one's is its mark's record's.
abbrev pub SlotOfMark : ℕ → Process → ℕ → ℕ → Type 0
SlotOfMark n p i x = (j : ℕ) → j < n → Active p j → (rec_at p j).mark ≡ x → (rec_at p j).slot ≡ i

module _ (n : ℕ) (m : Memory) (p : Process) (d : Done) (T : ℕ → ℕ → ℕ) (E : ℕ → ℕ → Type 0) (i x : ℕ) where
  -- the call does not end slot i's hold
  abbrev Spares : Step n m p d T E → Type 0
  Spares (quiet u h s o) = Unit {0}
  Spares (moved t k b u w o f z e) = t ≡ i → k ≡ x
  Spares (released t b u w o h s) = t ≡ i → ⊥
  Spares (joined r k u f e o h s) = Unit {0}
  Spares (opened r k t u l z w b s a o f v h y) = Unit {0}
  Spares (left r k u f w e o h s) = Unit {0}
  Spares (closed r k t u f s w e o h z) = t ≡ i → ⊥

  -- slot i's cells are the same, and it stays held
  stands : Standing n i x m p → SlotSame i m d.memory → held d.process i ≡ true → Standing n i x d.memory d.process
  stands a s h =
      record {
        below = a.below;
        marked = s.frame_same unused ∙ a.marked;
        used = a.used;
        owned = λ z. a.owned (sym (s.owner_same 0) ∙ z);
        here = h;
      }

  standing_next : (st : Step n m p d T E) → Spares st → Standing n i x m p → Standing n i x d.memory d.process
  standing_next (quiet u h s o) q a = stands a (h i a.here) (s i a.here)
  standing_next (moved t k b u w o f z e) q a = go (ℕ_discrete i t)
    where
      go : Dec (i ≡ t) → Standing n i x d.memory d.process
      go (yes v) =
          record {
            below = a.below;
            marked = ap (λ (y : ℕ). get_or d.memory.reader_frames y unused) v ∙ (f ∙ q (sym v));
            used = a.used;
            owned = λ y. a.owned (ap (λ (t : ℕ). get_or m.reader_owners t 0) v ∙ (sym z ∙ (ap (λ (t : ℕ). get_or d.memory.reader_owners t 0) (sym v) ∙ y)));
            here = ap (λ (y : Process). held y i) e ∙ a.here;
          }
      go (no v) = stands a (o i v) (ap (λ (y : Process). held y i) e ∙ a.here)
  standing_next (released t b u w o h s) q a = stands a (o i (λ v. q (sym v))) (h i (λ v. q (sym v)) ∙ a.here)
  standing_next (joined r k u f e o h s) q a = stands a (h i a.here) (s i a.here)
  standing_next (opened r k t u l z w b c e o f v h y) q a = stands a (h i a.here) (y i a.here)
  standing_next (left r k u f w e o h s) q a = stands a (h i a.here) (s i a.here)
  standing_next (closed r k t u f s w e o h z) q a = stands a (h i (λ v. q (sym v))) (z i (λ v. q (sym v)) ∙ a.here)

  -- a direct hold
  direct_spares : (st : Step n m p d T E) → NotNamed n p i → (E i x → ⊥) → Spares st
  direct_spares (quiet u h s o) w g = tt
  direct_spares (moved t k b u v o f z e) w g = λ q. go q (ℕ_discrete k x)
    where
      go : t ≡ i → Dec (k ≡ x) → k ≡ x
      go q (yes y) = y
      go q (no y) = absurd (g (rw q at (b x y)))
  direct_spares (released t b u v o h s) w g = λ q. g (rw q at (b x))
  direct_spares (joined r k u f e o h s) w g = tt
  direct_spares (opened r k t u l z v b s a o f y h c) w g = tt
  direct_spares (left r k u f v e o h s) w g = tt
  direct_spares (closed r k t u f s v e o h z) w g = λ q. w r f.below f.active (s ∙ q)

  unnamed_by : Change n p d.process → held p i ≡ true → NotNamed n p i → NotNamed n d.process i
  unnamed_by (old_ones v) h w j l a e = let o = v j l a in w j l o.was_active (sym o.same_slot ∙ e)
  unnamed_by (new_one r k t v) h w j l a e = go (ℕ_discrete j r)
    where
      go : Dec (j ≡ r) → ⊥
      go (yes q) = not_both (held p t) (subst (λ (y : ℕ). held p y ≡ true) (sym e ∙ rw q v.new_slot) h) v.was_free
      go (no q) = let o = same_old p d.process j (v.others j q) a in w j l o.was_active (sym o.same_slot ∙ e)

  pub direct_next : Step n m p d T E → (E i x → ⊥) → Standing n i x m p → NotNamed n p i → Standing n i x d.memory d.process × NotNamed n d.process i
  direct_next st g a w = (standing_next st (direct_spares st w g) a, unnamed_by (change_of n m p d T E st) a.here w)

  -- a shared hold, with holders left
  module _ (g : Sound n p) (w : SlotOfMark n p i x) (r₀ : ℕ) (f₀ : Fitting n p x r₀) where
    named : NotNamed n p i → ⊥
    named v = v r₀ f₀.below f₀.active (w r₀ f₀.below f₀.active f₀.mark_is)

    shared_spares : (st : Step n m p d T E) → ((rec_at p r₀).holders ≡ 1 → T x 1 ≡ 0 → ⊥) → Spares st
    shared_spares (quiet u h s o) c = tt
    shared_spares (moved t k b u v o f z e) c = λ q. absurd (named (rw q at v))
    shared_spares (released t b u v o h s) c = λ q. named (rw q at v)
    shared_spares (joined r k u f e o h s) c = tt
    shared_spares (opened r k t u l z v b s a o f y h e) c = tt
    shared_spares (left r k u f v e o h s) c = tt
    shared_spares (closed r k t u f s v e o h z) c = λ q.
        let same : r₀ ≡ r = g.one_slot r₀ r f₀.below f.below f₀.active f.active (w r₀ f₀.below f₀.active f₀.mark_is ∙ sym (s ∙ q)) in
        let mark : k ≡ x = sym f.mark_is ∙ (ap (λ (y : ℕ). (rec_at p y).mark) (sym same) ∙ f₀.mark_is) in
        c (ap (λ (y : ℕ). (rec_at p y).holders) same ∙ v) (u x 1 ∙ rw (eq-eqb k x mark))

    slot_of_mark_by : Change n p d.process → SlotOfMark n d.process i x
    slot_of_mark_by (old_ones v) j l a e = let o = v j l a in o.same_slot ∙ w j l o.was_active (sym o.same_mark ∙ e)
    slot_of_mark_by (new_one r k t v) j l a e = go (ℕ_discrete j r)
      where
        go : Dec (j ≡ r) → (rec_at d.process j).slot ≡ i
        go (yes q) =
            let mark : k ≡ x = sym v.new_mark ∙ (rw q at e) in
            absurd (v.no_record r₀ f₀.below f₀.active (f₀.mark_is ∙ sym mark))
        go (no q) = let o = same_old p d.process j (v.others j q) a in o.same_slot ∙ w j l o.was_active (sym o.same_mark ∙ e)

  pub shared_next : Step n m p d T E → (c : ℕ) → Sound n p → 1 ≤ c → 1 ≤ T x c → Count n p x c → Standing n i x m p → SlotOfMark n p i x → Standing n i x d.memory d.process × SlotOfMark n d.process i x
  shared_next st c g some more (nobody z v) a w = absurd (omega arith)
  shared_next st c g some more (somebody r f h) a w =
      (standing_next st (shared_spares g w r f st (λ e z. let one : c ≡ 1 = sym h ∙ e in let none : T x c ≡ 0 = rw one z in omega arith)) a, slot_of_mark_by g w r f (change_of n m p d T E st))
