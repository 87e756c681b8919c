-- Scans of the registry, one record or eight at a time. Assumes nothing.
use Rattle.std.proofs.Common.{◌≡◌, ℕ, zero, suc, ◌+◌, ◌*◌, ◌<◌, ◌≤◌, min, List, [], ◌∷◌, ◌++◌, Bool, true, false, length, get_or, take, drop, refl, sym, ap, ◌∙◌, arith, add-one, Option, Some, None, cond, eqb, ◌&&◌, ◌||◌, is_some}
use mathlib.Core.Bool.{false≢true}
use Rattle.std.specs.Option.{option_map, option_or}
use Rattle.std.specs.List.{position, position_from, list_all}
use Rattle.std.proofs.Math.Seq.{drop-cons}
use Rattle.std.proofs.lemmas.List.{length-append, length-take-le, get_or-take}
use Rattle.std.proofs.lemmas.Iterator.Adapters.{position_from-zero}
use Rattle.std.proofs.lemmas.List.{get_or_past}
use Rattle.std.proofs.lemmas.Option.{none-some}
use native.Mathlib.Decide.{dec_le}
use Rattle.wal_types.specs.declared.SharedReadMark.{SharedReadMark}
use Rattle.wal_types.specs.Memory.{no_mark}
use Rattle.reader_marks.specs.declared.Seen.TheVariants.{Shared, New}
use Rattle.reader_slots.specs.Slots.{is_in_registry}
use Rattle.reader_marks.specs.Registry.{is_empty, fits, first_record, record_of}
use Rattle.reader_marks.specs.InnerScan.{used, eight_empty, seen_of}

both_true : (a b : Bool) → (a && b) ≡ true → (a ≡ true) × (b ≡ true)
both_true true b e = (refl, e)
both_true false b e = absurd (false≢true e)

-- the records from place i on, as a list
module _ (test : SharedReadMark → Bool) where
  listed : (registry : List SharedReadMark) (left i : ℕ) → i + left ≤ length registry → first_record test registry left i ≡ position_from test i (take left (drop i registry))
  unfolding first_record
  listed registry zero i l = refl
  listed registry (suc left) i l =
      let here : i < length registry = omega arith in
      let n : i + 1 ≡ suc i = add-one i in
      rw (drop-cons registry i no_mark here) (rw (listed registry left (i + 1) (omega arith), n))

  pub scanned : (registry : List SharedReadMark) (end : ℕ) → end ≤ length registry → position test (take end registry) ≡ first_record test registry end 0
  scanned registry end l = position_from-zero test (take end registry) ∙ sym (listed registry end 0 (omega arith))

  -- a place found in a part stays; where a part has none, the rest is scanned
  appended : (i : ℕ) (xs ys : List SharedReadMark) → position_from test i (xs ++ ys) ≡ option_or (position_from test i xs) (position_from test (i + length xs) ys)
  appended i [] ys = let e : i + 0 ≡ i = omega arith in rw e
  appended i (x ∷ xs) ys = let e : i + suc (length xs) ≡ i + 1 + length xs = omega arith in rw (e, appended (i + 1) xs ys) (go (test x) (position_from test (i + 1) xs))
    where
      go : (t : Bool) (r : Option ℕ) → cond t (Some i) (option_or r (position_from test (i + 1 + length xs) ys)) ≡ option_or (cond t (Some i) r) (position_from test (i + 1 + length xs) ys)
      go true r = refl
      go false r = refl

  shifted : (i n : ℕ) (xs : List SharedReadMark) → position_from test (i + n) xs ≡ option_map (λ j. i + j) (position_from test n xs)
  shifted i n [] = refl
  shifted i n (x ∷ xs) = let e : i + n + 1 ≡ i + (n + 1) = omega arith in rw (e, shifted i (n + 1) xs) (go (test x) (position_from test (n + 1) xs))
    where
      go : (t : Bool) (r : Option ℕ) → cond t (Some (i + n)) (option_map (λ j. i + j) r) ≡ option_map (λ j. i + j) (cond t (Some n) r)
      go true r = refl
      go false r = refl

  in_part : (i : ℕ) (xs : List SharedReadMark) → position_from test i xs ≡ option_map (λ j. i + j) (position test xs)
  in_part i xs = let e : i + 0 ≡ i = omega arith in let z = shifted i 0 xs in rw e at z ∙ ap (option_map (λ (j : ℕ). i + j)) (sym (position_from-zero test xs))

-- where no record is in use, none is found
none_used : (test : SharedReadMark → Bool) (xs : List SharedReadMark) (i : ℕ) → list_all is_empty xs ≡ true → position_from (used test) i xs ≡ None
none_used test [] i e = refl
none_used test (x ∷ xs) i e = let b = both_true (is_empty x) (list_all is_empty xs) e in rw (b.0, none_used test xs (i + 1) b.1)

-- a scan in parts of eight records
module _ (test : SharedReadMark → Bool) (records : List SharedReadMark) where
  -- what the records from the k-th part on answer
  abbrev pub rest_answers : ℕ → List SharedReadMark → Option ℕ
  rest_answers k rest = position_from (used test) (k * 8) rest

  -- the first part is the start of all records
  pub start : position_from (used test) 0 records ≡ position (used test) records
  start = sym (position_from-zero (used test) records)

  module _ (k : ℕ) (rest : List SharedReadMark) (so_far : rest_answers k rest ≡ position (used test) records) where
    -- the k-th part, and those after it
    module _ (part rest' : List SharedReadMark) (split : rest ≡ part ++ rest') (long : length part ≡ min 8 (length rest)) where
      turn : rest_answers k rest ≡ option_or (position_from (used test) (k * 8) part) (rest_answers (k + 1) rest')
      turn = ap (position_from (used test) (k * 8)) split ∙ (appended (used test) (k * 8) part rest' ∙ go rest' split)
        where
          go : (left : List SharedReadMark) → rest ≡ part ++ left → option_or (position_from (used test) (k * 8) part) (position_from (used test) (k * 8 + length part) left) ≡ option_or (position_from (used test) (k * 8) part) (rest_answers (k + 1) left)
          go [] e = refl
          go (x ∷ xs) e =
              let all : length rest ≡ length part + suc (length xs) = ap length e ∙ length-append part (x ∷ xs) in
              let next : k * 8 + length part ≡ (k + 1) * 8 = omega arith in
              rw next

      -- by what the part answers
      by_part : (r : Option ℕ) → r ≡ position (used test) part → rest_answers k rest ≡ option_or (option_map (λ j. k * 8 + j) r) (rest_answers (k + 1) rest')
      by_part r e = turn ∙ ap (λ (o : Option ℕ). option_or o (rest_answers (k + 1) rest')) (in_part (used test) (k * 8) part ∙ ap (option_map (λ (j : ℕ). k * 8 + j)) (sym e))

      pub turn_found : (r : Option ℕ) → r ≡ position (used test) part → (i : ℕ) → r ≡ Some i → Some (k * 8 + i) ≡ position (used test) records
      turn_found r e i f = sym (let z = by_part r e in rw f at z) ∙ so_far

      pub turn_none : (r : Option ℕ) → r ≡ position (used test) part → r ≡ None → rest_answers (k + 1) rest' ≡ position (used test) records
      turn_none r e f = sym (let z = by_part r e in rw f at z) ∙ so_far

      pub turn_passed : eight_empty part ≡ true → rest_answers (k + 1) rest' ≡ position (used test) records
      turn_passed p =
          let e = (both_true (eqb (length part) 8) (list_all is_empty part) p).1 in
          sym (turn ∙ ap (λ (o : Option ℕ). option_or o (rest_answers (k + 1) rest')) (none_used test part (k * 8) e)) ∙ so_far

-- a record found lies among those looked at
pub found_below : (test : SharedReadMark → Bool) (registry : List SharedReadMark) (left i k : ℕ) → first_record test registry left i ≡ Some k → k < i + left
unfolding first_record
found_below test registry zero i k e = absurd (none-some k e)
found_below test registry (suc left) i k e = go (test (get_or registry i no_mark)) e (λ x. found_below test registry left (i + 1) k x)
  where
    go : (t : Bool) → cond t (Some i) (first_record test registry left (i + 1)) ≡ Some k → (first_record test registry left (i + 1) ≡ Some k → k < i + 1 + left) → k < i + suc left
    go true x ih = let z : i ≡ k = cc in omega arith
    go false x ih = let z = ih x in omega arith

-- what is seen, by what the scan for the mark told, and that for an empty record where it found none
module _ (registry : List SharedReadMark) (n mark : ℕ) (records : List SharedReadMark) (first : records ≡ take (min n (length registry)) registry) (found : Option ℕ) (e : found ≡ position (fits mark) records) where
  abbrev pub end : ℕ
  end = min n (length registry)

  record_told : found ≡ record_of end registry mark
  record_told = e ∙ (ap (position (fits mark)) first ∙ scanned (fits mark) registry end (omega arith))

  -- its place is one of the records
  pub place_below : (place : ℕ) → found ≡ Some place → place < length records
  place_below place f =
      let below = found_below (fits mark) registry end 0 place (sym record_told ∙ f) in
      let long : length records ≡ end = rw (first, length-take-le end registry (omega arith)) in
      omega arith

  pub seen_shared : (place : ℕ) → found ≡ Some place → Shared place (get_or records place no_mark) ≡ seen_of end registry mark
  unfolding seen_of
  seen_shared place f =
      let below = place_below place f in
      let long : length records ≡ end = rw (first, length-take-le end registry (omega arith)) in
      let within : place < end = omega arith in
      rw (sym record_told ∙ f, first, get_or-take end registry place no_mark within)

  pub seen_new : found ≡ None → (free : Option ℕ) → free ≡ position is_empty records → New free ≡ seen_of end registry mark
  unfolding seen_of
  seen_new f free g = rw (sym record_told ∙ f, g, first, scanned is_empty registry end (omega arith))

-- A SLOT THAT IS SHARED
-- one record more, at the end
last_record : (test : SharedReadMark → Bool) (registry : List SharedReadMark) (left i : ℕ) → is_some (first_record test registry (suc left) i) ≡ (is_some (first_record test registry left i) || test (get_or registry (i + left) no_mark))
unfolding first_record
last_record test registry zero i = let e : i + 0 ≡ i = omega arith in rw e (go (test (get_or registry i no_mark)))
  where
    go : (t : Bool) → is_some {T = ℕ} (cond t (Some i) None) ≡ t
    go true = refl
    go false = refl
last_record test registry (suc left) i =
    let e : i + suc left ≡ i + 1 + left = omega arith in
    rw e (go (test (get_or registry i no_mark)) (first_record test registry (suc left) (i + 1)) (first_record test registry left (i + 1)) (last_record test registry left (i + 1)))
  where
    go : (t : Bool) (more rest : Option ℕ) → is_some more ≡ (is_some rest || test (get_or registry (i + 1 + left) no_mark)) → is_some (cond t (Some i) more) ≡ (is_some (cond t (Some i) rest) || test (get_or registry (i + 1 + left) no_mark))
    go true more rest h = refl
    go false more rest h = h

shared_among : (registry : List SharedReadMark) (slot n : ℕ) → is_some (first_record (used (λ r. eqb r.slot slot)) registry n 0) ≡ is_in_registry n registry slot
unfolding is_in_registry first_record
shared_among registry slot zero = refl
shared_among registry slot (suc n) = let e : 0 + n ≡ n = omega arith in last_record (used (λ r. eqb r.slot slot)) registry n 0 ∙ rw (e, shared_among registry slot n)

or_false : (a : Bool) → (a || false) ≡ a
or_false true = refl
or_false false = refl

-- past the end all records are empty
past_end : (registry : List SharedReadMark) (slot n : ℕ) → length registry ≤ n → is_in_registry (suc n) registry slot ≡ is_in_registry n registry slot
unfolding is_in_registry
past_end registry slot n l = rw (get_or_past registry n no_mark l) (or_false (is_in_registry n registry slot))

shared_all : (registry : List SharedReadMark) (slot n : ℕ) → is_in_registry (min n (length registry)) registry slot ≡ is_in_registry n registry slot
shared_all registry slot zero = let e : min 0 (length registry) ≡ 0 = omega arith in rw e
shared_all registry slot (suc n) = go (shared_all registry slot n) (dec_le (suc n) (length registry))
  where
    go : is_in_registry (min n (length registry)) registry slot ≡ is_in_registry n registry slot → Dec (suc n ≤ length registry) → is_in_registry (min (suc n) (length registry)) registry slot ≡ is_in_registry (suc n) registry slot
    go ih (yes l) = let e : min (suc n) (length registry) ≡ suc n = omega arith in rw e
    go ih (no f) = let e : min (suc n) (length registry) ≡ min n (length registry) = omega arith in rw e (ih ∙ sym (past_end registry slot n (omega arith)))

-- a scan for a slot tells whether one of the first n records is in use for it
pub slot_told : (registry : List SharedReadMark) (n slot : ℕ) (records : List SharedReadMark) → records ≡ take (min n (length registry)) registry → is_some (position (used (λ r. eqb r.slot slot)) records) ≡ is_in_registry n registry slot
slot_told registry n slot records first =
    let end = min n (length registry) in
    ap (λ (r : List SharedReadMark). is_some (position (used (λ r. eqb r.slot slot)) r)) first
    ∙ (ap is_some (scanned (used (λ r. eqb r.slot slot)) registry (min n (length registry)) (omega arith)) ∙ (shared_among registry slot (min n (length registry)) ∙ shared_all registry slot n))
