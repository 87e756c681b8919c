-- The look for a failed probe, before anything is reclaimed. Assumes nothing.
use mathlib.Core.Path.{◌≡◌, refl, sym, ◌∙◌}
use mathlib.Core.Bool.{Bool, true, false, not, ◌&&◌}
use mathlib.Core.List.{List, [], ◌∷◌}
use Prim.Native.Nat.{ℕ, ◌+◌, ◌<◌, ◌≤◌}
use native.Mathlib.Omega.{arith}
use lib.Dec.{eqb}
use lib.ListN.{length, get_or}
use Rattle.wal_types.specs.Settings.{unused, is_fcntl}
use Rattle.wal_types.specs.declared.refusal.Refusal.{Refusal}
use Rattle.wal_types.specs.declared.refusal.Refusal.TheVariants.{Probe}
use Rattle.wal_types.specs.Refusal.{Test, ◌if◌, number, lowest}
use Rattle.std.specs.Prelude.{Option, Some, None}
use Rattle.wal_types.specs.declared.settings.ReaderSettings.{ReaderSettings}
use Rattle.reader_slots.specs.declared.slots.SharedSlots.{SharedSlots}
use Rattle.reader_slots.specs.Search.{lowest_slot, some_slot}
use Rattle.reader_probe.specs.Live.{looked_at}
use Rattle.reader_slots.specs.Inner.{greatest, card_tests, card_refusal}
use Rattle.reader_probe.specs.Inner.{skipped_cell, live_by, failed_by, db_file_by, live_db_file_by, probe_tests_by, probe_refusal}
use Rattle.reader_slots.proofs.Card.{below_two, none_failed, card_length}
use Rattle.reader_slots.proofs.Calls.{none_applies, lowest_first, lowest_rest}
use Rattle.reader_slots.proofs.Cells.{and_true, last_false}
use Rattle.reader_slots.proofs.Lowest.{lowest_below, lowest_none, lowest_is, lowest_at, lowest_nothing}
use Rattle.reader_slots.proofs.Some.{some_none, some_false}

-- the slots looked at are among those searched
pub looked_bound : (test : ℕ → Bool) (n left i : ℕ) (k : Option ℕ) → lowest_slot test left i ≡ k → i + left ≡ n → (i ≤ looked_at n k) × (looked_at n k ≤ n)
looked_bound test n left i (Some j) e s = let b = lowest_below test left i j e in (omega arith, omega arith)
looked_bound test n left i None e s = (omega arith, omega arith)

-- Refusals 14 and 15, by the card's own and by the look.
module _ (settings : ReaderSettings) (bytes f o l : List ℕ) (looked : ℕ) where
  abbrev failed : ℕ → Bool
  failed = failed_by settings.mode bytes f o l

  abbrev of_card : List Test
  of_card = card_tests settings.n bytes

  abbrev of_look : List Test
  of_look = (Probe if some_slot failed looked 0) ∷ []

  pub refused_by_card : (r : Refusal) → number r ≡ card_refusal settings.n bytes → number r ≡ probe_refusal settings bytes f o l looked
  unfolding card_refusal probe_refusal
  refused_by_card r e = sym (lowest_first of_card of_look r e)

  module _ (fine : 0 ≡ card_refusal settings.n bytes) where
    by_look : lowest of_look ≡ probe_refusal settings bytes f o l looked
    unfolding card_refusal probe_refusal
    by_look = sym (lowest_rest of_card of_look fine)

    pub no_error_byte : false ≡ eqb (greatest bytes) 2 → 0 ≡ probe_refusal settings bytes f o l looked
    unfolding card_refusal
    no_error_byte x =
        let low : greatest bytes < 2 = let b = (none_applies of_card (sym fine)).0 in below_two settings.n bytes b (sym x) in
        rw (some_none failed looked 0 (λ j. rw (none_failed bytes j low) (last_false (not (is_fcntl settings.mode)) (not (skipped_cell settings.mode (get_or f j unused) (get_or o j 0))) (not (not (eqb (get_or l j 0) 0)))))) at by_look

    pub look_fails : true ≡ some_slot failed looked 0 → 15 ≡ probe_refusal settings bytes f o l looked
    look_fails x = rw (← x) at by_look

    pub look_passes : false ≡ some_slot failed looked 0 → 0 ≡ probe_refusal settings bytes f o l looked
    look_passes x = rw (← x) at by_look

  -- what refusals 14 and 15 leave behind them
  pub probes_pass : 0 ≡ probe_refusal settings bytes f o l looked → (length bytes ≡ settings.n) × (some_slot failed looked 0 ≡ false)
  unfolding probe_refusal
  probes_pass e =
      let t = none_applies (probe_tests_by settings bytes f o l looked) (sym e) in
      (card_length settings.n bytes t.0, t.1.0)

-- If no probe fails before it, the first live slot of mark 0 is the first whose probe does not fail.
with_probe : (v t q : Bool) → t ≡ false → (v && not t && q) ≡ (v && q)
with_probe v t q e = rw e (rw (and_true v))

without : (v t q : Bool) → (v && not t && q) ≡ true → (v && q) ≡ true
without true true q e = let z : ◌≡◌ {A = Bool} false true = e in cc
without true false q e = e
without false t q e = e

module _ (settings : ReaderSettings) (bytes : List ℕ) (s : SharedSlots) (l : List ℕ) where
  abbrev n : ℕ
  n = settings.n

  abbrev alive : ℕ → Bool
  alive = live_by settings.mode bytes s l

  abbrev fails : ℕ → Bool
  fails = failed_by settings.mode bytes s.reader_frames.now s.reader_owners.now l

  abbrev told : ℕ → Bool
  told = db_file_by settings.mode bytes s.reader_frames.now s.reader_owners.now l

  abbrev is_there : ℕ → Bool
  is_there = live_db_file_by settings.mode bytes s l

  below_looked : (looked : ℕ) → some_slot fails looked 0 ≡ false → (j : ℕ) → j < looked → told j ≡ is_there j
  below_looked looked x j b = with_probe (alive j) (fails j) (eqb (get_or s.reader_frames.now j unused) 0) (some_false fails looked 0 x j (omega arith) (omega arith))

  pub first_by_probes : some_slot fails (looked_at n (lowest_slot told n 0)) 0 ≡ false → lowest_slot told n 0 ≡ lowest_slot is_there n 0
  first_by_probes x = go (lowest_slot told n 0) refl x
    where
      go : (k : Option ℕ) → lowest_slot told n 0 ≡ k → some_slot fails (looked_at n k) 0 ≡ false → k ≡ lowest_slot is_there n 0
      go (Some i) e x =
          let a = lowest_at told n 0 i e in
          let b = lowest_below told n 0 i e in
          sym (lowest_is is_there n 0 i (omega arith) b.1 (without (alive i) (fails i) (eqb (get_or s.reader_frames.now i unused) 0) a.0) (λ j c d. sym (below_looked i x j d) ∙ a.1 j c d))
      go None e x =
          sym (lowest_none is_there n 0 (λ j c d. sym (below_looked n x j (omega arith)) ∙ lowest_nothing told n 0 e j c d))
