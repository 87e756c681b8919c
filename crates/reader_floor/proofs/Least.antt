-- The floor: it is a live slot's mark, and at most every live mark above 0. Assumes nothing.
use mathlib.Core.Path.{◌≡◌, refl, sym, ap, ◌∙◌, subst}
use mathlib.Core.Bool.{Bool, true, false, not, cond, ◌&&◌, ◌||◌}
use mathlib.Core.List.{List}
use mathlib.Core.Logic.{inl, inr}
use Prim.Native.Nat.{ℕ, zero, suc, ◌+◌, ◌<◌, ◌≤◌, min}
use native.Mathlib.Nat.{eq-or-lt_of_le}
use native.Mathlib.Decide.{ℕ_discrete, dec_le}
use native.Mathlib.Omega.{arith}
use lib.Dec.{eqb}
use lib.ListN.{get_or}
use borrow.Author.Tests.{eq-eqb, ne_eqb}
use Rattle.wal_types.specs.declared.SharedWalOwnershipMode.{SharedWalOwnershipMode}
use Rattle.wal_types.specs.Memory.{Memory, Process}
use Rattle.wal_types.specs.Refusal.{lowest}
use Rattle.wal_types.specs.Call.{Answer, refused, none, frame_found, Call, Done, after, does}
use Rattle.wal_types.proofs.Refusals.{call_refused, call_accepted}
use Rattle.std.specs.Prelude.{Option, Some, None}
use Rattle.reader_slots.specs.Slots.{held}
use Rattle.reader_probe.specs.Live.{skipped, live, lower_floor}
use Rattle.reader_floor.specs.Floor.{floor_from, floor_of, floor_answer, probe_tests, reclaim_dead, min_active_reader_frame}

-- the floor is there, and at most the mark
unfoldable pub AtMost : ℕ → Option ℕ → Type 0
AtMost mark (Some f) = f ≤ mark
AtMost mark None = ⊥

-- lowering keeps it so, and a mark above 0 makes it so
lower_keeps : (mark frame : ℕ) (fl : Option ℕ) → AtMost mark fl → AtMost mark (lower_floor fl frame)
unfolding AtMost
lower_keeps mark frame (Some f) h = go (ℕ_discrete frame 0)
  where
    go : Dec (frame ≡ 0) → AtMost mark (cond (eqb frame 0) (Some f) (Some (min f frame)))
    go (yes e) = rw (eq-eqb frame 0 e) h
    go (no g) = rw (ne_eqb frame 0 g) (omega arith)
lower_keeps mark frame None h = absurd h

lower_makes : (mark : ℕ) (fl : Option ℕ) → (mark ≡ 0 → ⊥) → AtMost mark (lower_floor fl mark)
unfolding AtMost
lower_makes mark (Some f) g = rw (ne_eqb mark 0 g) (omega arith)
lower_makes mark None g = rw (ne_eqb mark 0 g) (omega arith)

module _ (mode : SharedWalOwnershipMode) (bytes : List ℕ) (p : Process) (m : Memory) where
  cond_keeps : (t : Bool) (mark frame : ℕ) (fl : Option ℕ) → AtMost mark fl → AtMost mark (cond t (lower_floor fl frame) fl)
  cond_keeps true mark frame fl h = lower_keeps mark frame fl h
  cond_keeps false mark frame fl h = h

  from_keeps : (left i mark : ℕ) (fl : Option ℕ) → AtMost mark fl → AtMost mark (floor_from mode bytes p m left i fl)
  unfolding floor_from
  from_keeps zero i mark fl h = h
  from_keeps (suc left) i mark fl h =
      from_keeps left (i + 1) mark (cond (live mode bytes p m i) (lower_floor fl (get_or m.reader_frames i 0)) fl) (cond_keeps (live mode bytes p m i) mark (get_or m.reader_frames i 0) fl h)

  from_least : (left i j mark : ℕ) (fl : Option ℕ) → i ≤ j → j < i + left → live mode bytes p m j ≡ true → get_or m.reader_frames j 0 ≡ mark → (mark ≡ 0 → ⊥) → AtMost mark (floor_from mode bytes p m left i fl)
  unfolding floor_from
  from_least zero i j mark fl a b t e g = absurd (omega arith)
  from_least (suc left) i j mark fl a b t e g =
      elim (eq-or-lt_of_le a) [
        | inl q ↦ from_keeps left (i + 1) mark (cond (live mode bytes p m i) (lower_floor fl (get_or m.reader_frames i 0)) fl) (rw (q, t, e) (lower_makes mark fl g))
        | inr q ↦ from_least left (i + 1) j mark (cond (live mode bytes p m i) (lower_floor fl (get_or m.reader_frames i 0)) fl) (omega arith) (omega arith) t e g
      ]

  -- a live slot with a mark above 0: the floor exists, and is at most that mark
  pub floor_at_most : (n i mark : ℕ) → i < n → live mode bytes p m i ≡ true → get_or m.reader_frames i 0 ≡ mark → (mark ≡ 0 → ⊥) → AtMost mark (floor_of n mode bytes m p)
  floor_at_most n i mark b t e g = from_least n 0 i mark None (omega arith) (omega arith) t e g

  -- a floor that the pass has found is a live slot's mark above 0
  pub record LiveMark (n f : ℕ) : Type 0 where
    pub slot : ℕ
    pub below : slot < n
    pub alive : live mode bytes p m slot ≡ true
    pub mark_is : get_or m.reader_frames slot 0 ≡ f
    pub above : f ≡ 0 → ⊥

  abbrev SoFar : ℕ → Option ℕ → Type 0
  SoFar n fl = (f : ℕ) → fl ≡ Some f → LiveMark n f

  lower_live : (n i : ℕ) (fl : Option ℕ) → i < n → live mode bytes p m i ≡ true → SoFar n fl → SoFar n (lower_floor fl (get_or m.reader_frames i 0))
  lower_live n i fl b t h = go fl h (ℕ_discrete (get_or m.reader_frames i 0) 0)
    where
      here : (f : ℕ) → get_or m.reader_frames i 0 ≡ f → (get_or m.reader_frames i 0 ≡ 0 → ⊥) → LiveMark n f
      here f e g = record { slot = i; below = b; alive = t; mark_is = e; above = λ z. g (e ∙ z) }

      go : (fl : Option ℕ) → SoFar n fl → Dec (get_or m.reader_frames i 0 ≡ 0) → SoFar n (lower_floor fl (get_or m.reader_frames i 0))
      go (Some x) h (yes e) f q = h f (rw (eq-eqb (get_or m.reader_frames i 0) 0 e) at q)
      go (Some x) h (no g) f q =
          let r : Some (min x (get_or m.reader_frames i 0)) ≡ Some f = rw (ne_eqb (get_or m.reader_frames i 0) 0 g) at q in
          let s : min x (get_or m.reader_frames i 0) ≡ f = cc in
          less (dec_le x (get_or m.reader_frames i 0)) s
        where
          less : Dec (x ≤ get_or m.reader_frames i 0) → min x (get_or m.reader_frames i 0) ≡ f → LiveMark n f
          less (yes l) s = h f (ap Some (omega arith))
          less (no k) s = here f (omega arith) g
      go None h (yes e) f q = h f (rw (eq-eqb (get_or m.reader_frames i 0) 0 e) at q)
      go None h (no g) f q =
          let r : Some (get_or m.reader_frames i 0) ≡ Some f = rw (ne_eqb (get_or m.reader_frames i 0) 0 g) at q in
          let s : get_or m.reader_frames i 0 ≡ f = cc in
          here f s g

  from_live : (n left i : ℕ) (fl : Option ℕ) → i + left ≤ n → SoFar n fl → SoFar n (floor_from mode bytes p m left i fl)
  unfolding floor_from
  from_live n zero i fl b h = h
  from_live n (suc left) i fl b h =
      from_live n left (i + 1) (cond (live mode bytes p m i) (lower_floor fl (get_or m.reader_frames i 0)) fl) (omega arith) (turn (live mode bytes p m i) refl)
    where
      turn : (t : Bool) → live mode bytes p m i ≡ t → SoFar n (cond t (lower_floor fl (get_or m.reader_frames i 0)) fl)
      turn true e = lower_live n i fl (omega arith) e h
      turn false e = h

  none_yet : (n f : ℕ) → None ≡ Some f → LiveMark n f
  none_yet n f e = cc

  pub floor_is_live : (n f : ℕ) → floor_of n mode bytes m p ≡ Some f → LiveMark n f
  floor_is_live n f e = from_live n n 0 None (omega arith) (none_yet n) f e

-- a slot held here that is not skipped is live
held_true : (s g : Bool) → s ≡ false → (not s && (true || g)) ≡ true
held_true false g e = refl
held_true true g e = sym e

pub held_is_live : (mode : SharedWalOwnershipMode) (bytes : List ℕ) (p : Process) (m : Memory) (i : ℕ) → held p i ≡ true → skipped mode m i ≡ false → live mode bytes p m i ≡ true
held_is_live mode bytes p m i h s = rw (s, h)

-- The call: with a live slot of a mark above 0 it never answers none, and a frame that it answers is at most that mark.
module _ (n : ℕ) (mode : SharedWalOwnershipMode) (bytes : List ℕ) (m : Memory) (p : Process) where
  abbrev result : Done
  result = after (min_active_reader_frame n mode bytes) m p

  abbrev number_given : ℕ
  number_given = lowest (probe_tests n mode bytes n m p)

  abbrev floor_call : Call
  floor_call x q = does (floor_answer (floor_of n mode bytes x q)) (reclaim_dead mode bytes q n) x q

  abbrev Bounded : ℕ → Answer → Type 0
  Bounded mark a = (a ≡ none → ⊥) × ((f : ℕ) → a ≡ frame_found f → f ≤ mark)

  bounded_floor : (mark : ℕ) (fl : Option ℕ) → AtMost mark fl → Bounded mark (floor_answer fl)
  unfolding AtMost
  bounded_floor mark (Some f) h =
      ((λ e. let z : ◌≡◌ {A = ℕ} 0 1 = cc in omega arith), λ g e. let z : f ≡ g = cc in omega arith)
  bounded_floor mark None h = absurd h

  pub floor_bounded : (i mark : ℕ) → i < n → live mode bytes p m i ≡ true → get_or m.reader_frames i 0 ≡ mark → (mark ≡ 0 → ⊥) → Bounded mark result.answer
  unfolding min_active_reader_frame
  floor_bounded i mark b t e g = go (ℕ_discrete number_given 0)
    where
      away : (k : ℕ) → Bounded mark (refused k)
      away k = ((λ e. let z : ◌≡◌ {A = ℕ} 0 1 = cc in omega arith), λ f e. let z : ◌≡◌ {A = ℕ} 0 1 = cc in absurd (omega arith))

      go : Dec (number_given ≡ 0) → Bounded mark result.answer
      go (yes x) = subst (λ (d : Done). Bounded mark d.answer) (sym (call_accepted (probe_tests n mode bytes n) floor_call m p x)) (bounded_floor mark (floor_of n mode bytes m p) (floor_at_most mode bytes p m n i mark b t e g))
      go (no f) = subst (λ (d : Done). Bounded mark d.answer) (sym (call_refused (probe_tests n mode bytes n) floor_call m p number_given refl f)) (away number_given)
