-- Tests of refusals that none of which applies, or that come before others, and what the refusals 1 and 2 leave behind them. Assumes nothing.
use mathlib.Core.Path.{◌≡◌, refl, sym}
use mathlib.Core.Bool.{Bool, true, false, false≢true, not, cond, ◌&&◌, ◌||◌}
use mathlib.Core.List.{List, [], ◌∷◌, ◌++◌}
use Prim.Native.Nat.{ℕ, ◌+◌, ◌/◌, ◌<◌, ◌≤◌}
use lib.Dec.{leb, ltb}
use lib.ListN.{length}
use borrow.Author.Tests.{leb-true, ltb-false, lt-ltb, le-ltb}
use Rattle.wal_types.specs.Settings.{slots_in_limits, words_for}
use Rattle.wal_types.specs.declared.refusal.Refusal.{Refusal}
use Rattle.wal_types.specs.Refusal.{Test, number, lowest}
use Rattle.wal_types.proofs.Refusals.{number_not_zero}
use Rattle.reader_slots.specs.declared.slots.SharedSlots.{SharedSlots}
use Rattle.reader_slots.specs.Slots.{shorter}
use Rattle.reader_slots.specs.Inner.{length_tests, length_refusal, registry_length_refusal, short, slots_tests, slots_refusal, registry_tests, registry_refusal}

-- no test applies
abbrev pub NoneApplies : List Test → Type 0
NoneApplies [] = Unit {0}
NoneApplies (t ∷ rest) = (t.applies ≡ false) × NoneApplies rest

first_passes : (t : Bool) (r : Refusal) (rest : ℕ) → cond t (number r) rest ≡ 0 → (t ≡ false) × (rest ≡ 0)
first_passes true r rest e = absurd (number_not_zero r e)
first_passes false r rest e = (refl, e)

pub none_applies : (tests : List Test) → lowest tests ≡ 0 → NoneApplies tests
none_applies [] e = tt
none_applies (t ∷ rest) e =
    let a = first_passes t.applies t.refusal (lowest rest) e in
    (a.0, none_applies rest a.1)

-- tests that come before others: the refusal is theirs if one of them applies, and else that of the others
pub lowest_first : (first rest : List Test) (r : Refusal) → number r ≡ lowest first → lowest (first ++ rest) ≡ number r
lowest_first [] rest r e = absurd (number_not_zero r e)
lowest_first (t ∷ first) rest r e = go t.applies (lowest_first first rest r) e
  where
    go : (a : Bool) → (number r ≡ lowest first → lowest (first ++ rest) ≡ number r) → number r ≡ cond a (number t.refusal) (lowest first) → cond a (number t.refusal) (lowest (first ++ rest)) ≡ number r
    go true later g = sym g
    go false later g = later g

pub lowest_rest : (first rest : List Test) → 0 ≡ lowest first → lowest (first ++ rest) ≡ lowest rest
lowest_rest [] rest e = refl
lowest_rest (t ∷ first) rest e =
    let a = first_passes t.applies t.refusal (lowest first) (sym e) in
    rw a.0 (lowest_rest first rest (sym a.1))

pub neither_true : (a b : Bool) → (a || b) ≡ false → (a ≡ false) × (b ≡ false)
neither_true true b e = absurd (false≢true (sym e))
neither_true false b e = (refl, e)

both_true : (a b : Bool) → not (a && b) ≡ false → (a ≡ true) × (b ≡ true)
both_true true true e = (refl, refl)
both_true true false e = absurd (false≢true (sym e))
both_true false b e = absurd (false≢true (sym e))

-- where neither 1 nor 2 applies: n is within its limits, and each list has the cells that n slots need
pub record Enough (n words frames owners locals : ℕ) : Type 0 where
  pub some : 1 ≤ n
  pub most : n ≤ 256
  pub words_enough : (n + 63) / 64 ≤ words
  pub frames_enough : n ≤ frames
  pub owners_enough : n ≤ owners
  pub locals_enough : n ≤ locals

pub enough_by : (n words frames owners locals : ℕ) → not (slots_in_limits n) ≡ false → shorter n words frames owners locals ≡ false → Enough n words frames owners locals
enough_by n words frames owners locals e g =
    let s = both_true (leb 1 n) (leb n 256) e in
    let a = neither_true (ltb words (words_for n) || ltb frames n || ltb owners n) (ltb locals n) g in
    let c = neither_true (ltb words (words_for n) || ltb frames n) (ltb owners n) a.0 in
    let d = neither_true (ltb words (words_for n)) (ltb frames n) c.0 in
    record {
      some = leb-true 1 n s.0;
      most = leb-true n 256 s.1;
      words_enough = ltb-false words (words_for n) d.0;
      frames_enough = ltb-false frames n d.1;
      owners_enough = ltb-false owners n c.1;
      locals_enough = ltb-false locals n a.1;
    }

pub lengths_enough : (n words frames owners locals : ℕ) → 0 ≡ length_refusal n words frames owners locals → Enough n words frames owners locals
unfolding length_refusal
lengths_enough n words frames owners locals e =
    let t = none_applies (length_tests n words frames owners locals) (sym e) in
    enough_by n words frames owners locals t.0 t.1.0

-- the same of lent slots
abbrev pub EnoughLent : ℕ → SharedSlots → List ℕ → Type 0
EnoughLent n s l = Enough n (length s.bitmap.now) (length s.reader_frames.now) (length s.reader_owners.now) (length l)

module _ (n : ℕ) (s : SharedSlots) (l : List ℕ) where
  pub enough_lent : not (slots_in_limits n) ≡ false → short n s l ≡ false → EnoughLent n s l
  enough_lent e g = enough_by n (length s.bitmap.now) (length s.reader_frames.now) (length s.reader_owners.now) (length l) e g

  pub enough : 0 ≡ slots_refusal n s l → EnoughLent n s l
  unfolding slots_refusal
  enough e = let t = none_applies (slots_tests n s l) (sym e) in enough_lent t.0 t.1.0

  pub registry_enough : (records : ℕ) → 0 ≡ registry_refusal n s l records → EnoughLent n s l × (n ≤ records)
  unfolding registry_refusal
  registry_enough records e =
      let t = none_applies (registry_tests n s l records) (sym e) in
      let q = neither_true (short n s l) (ltb records n) t.1.0 in
      (enough_lent t.0 q.0, ltb-false records n q.1)

-- refusal 1 or 2 where the registry is lent too, by the one of the slots alone
module _ (n words frames owners locals records : ℕ) where
  pub registry_early : (r : Refusal) → number r ≡ length_refusal n words frames owners locals → number r ≡ registry_length_refusal n words frames owners locals records
  unfolding length_refusal registry_length_refusal
  registry_early r e = go (not (slots_in_limits n)) (shorter n words frames owners locals) e
    where
      go : (t h : Bool) → number r ≡ cond t 1 (cond h 2 0) → number r ≡ cond t 1 (cond (h || ltb records n) 2 0)
      go true h g = g
      go false true g = g
      go false false g = absurd (number_not_zero r g)

  pub registry_short : 0 ≡ length_refusal n words frames owners locals → records < n → 2 ≡ registry_length_refusal n words frames owners locals records
  unfolding length_refusal registry_length_refusal
  registry_short e h =
      let a = none_applies (length_tests n words frames owners locals) (sym e) in
      rw (a.0, a.1.0, lt-ltb records n h)

  pub registry_fits : 0 ≡ length_refusal n words frames owners locals → n ≤ records → 0 ≡ registry_length_refusal n words frames owners locals records
  unfolding length_refusal registry_length_refusal
  registry_fits e h =
      let a = none_applies (length_tests n words frames owners locals) (sym e) in
      rw (a.0, a.1.0, le-ltb records n h)
