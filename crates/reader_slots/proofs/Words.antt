-- The lowest available slot, looked for word by word. Assumes nothing.
use mathlib.Core.Path.{◌≡◌, refl, sym, ◌∙◌}
use mathlib.Core.Bool.{Bool, true, false, not, ◌&&◌}
use mathlib.Core.List.{List}
use Prim.Native.Nat.{ℕ, zero, suc, ◌+◌, ◌-◌, ◌*◌, ◌/◌, ◌%◌, ◌<◌, ◌≤◌, min}
use native.Mathlib.Decide.{dec_le}
use native.Mathlib.Omega.{arith}
use lib.Dec.{eqb}
use lib.ListN.{get_or}
use Rattle.word_bits.proofs.Bits.{zero_bits}
use Rattle.std.specs.Prelude.{Option, Some, None}
use Rattle.std.specs.Option.{option_or}
use Rattle.reader_slots.specs.Search.{lowest_slot}
use Rattle.reader_slots.specs.Inner.{available_by, available_in}
use Rattle.reader_slots.proofs.FindMap.{First}
use Rattle.reader_slots.proofs.Lowest.{lowest_none, lowest_split, lowest_same}

-- no bit, no slot
not_free : (a g : Bool) → (not (not a) && false && g) ≡ false
not_free true g = refl
not_free false g = refl

pub empty_word : (word first left : ℕ) (locals bytes : List ℕ) → word ≡ 0 → None ≡ lowest_slot (available_in word first locals bytes) left first
empty_word word first left locals bytes e =
    sym (lowest_none (available_in word first locals bytes) left first (λ j a b. rw (e, zero_bits (j - first)) (not_free (eqb (get_or locals j 0) 0) (eqb (get_or bytes j 0) 1))))

-- the lowest available slot from slot i on
unfoldable available_from : ℕ → List ℕ → List ℕ → List ℕ → ℕ → Option ℕ
available_from n words locals bytes i = lowest_slot (available_by words locals bytes) (n - i) i

available_end : (n i : ℕ) (words locals bytes : List ℕ) → n ≤ i → available_from n words locals bytes i ≡ None
unfolding available_from lowest_slot
available_end n i words locals bytes l = let e : n - i ≡ 0 = omega arith in rw e

module _ (n : ℕ) (words locals bytes : List ℕ) where
  -- what word w alone answers
  abbrev pub word_answers : ℕ → Option ℕ
  word_answers w = lowest_slot (available_in (get_or words w 0) (w * 64) locals bytes) (min (w * 64 + 64) n - w * 64) (w * 64)

  -- the slots from word w on are its own and then the rest
  word_then_rest : (w : ℕ) → w * 64 < n → available_from n words locals bytes (w * 64) ≡ option_or (word_answers w) (available_from n words locals bytes (min (w * 64 + 64) n))
  unfolding available_from
  word_then_rest w l =
      let end = min (w * 64 + 64) n in
      let parts : n - w * 64 ≡ end - w * 64 + (n - end) = omega arith in
      let next : w * 64 + (end - w * 64) ≡ end = omega arith in
      let split = lowest_split (available_by words locals bytes) (end - w * 64) (n - end) (w * 64) in
      rw (parts, lowest_same (available_in (get_or words w 0) (w * 64) locals bytes) (available_by words locals bytes) (end - w * 64) (w * 64) same) (rw next at split)
    where
      same : (j : ℕ) → w * 64 ≤ j → j < w * 64 + (min (w * 64 + 64) n - w * 64) → available_in (get_or words w 0) (w * 64) locals bytes j ≡ available_by words locals bytes j
      same j a b = let q : j / 64 ≡ w = omega arith in let r : j % 64 ≡ j - w * 64 = omega arith in rw (q, r)

  -- where it answers none, the search goes on with the next
  next_word : (w : ℕ) → w * 64 < n → None ≡ word_answers w → available_from n words locals bytes (w * 64) ≡ available_from n words locals bytes ((w + 1) * 64)
  next_word w l none = (word_then_rest w l ∙ rw (sym none)) ∙ go (dec_le (w * 64 + 64) n)
    where
      go : Dec (w * 64 + 64 ≤ n) → available_from n words locals bytes (min (w * 64 + 64) n) ≡ available_from n words locals bytes ((w + 1) * 64)
      go (yes p) = let q : min (w * 64 + 64) n ≡ (w + 1) * 64 = omega arith in rw q
      go (no g) = available_end n (min (w * 64 + 64) n) words locals bytes (omega arith) ∙ sym (available_end n ((w + 1) * 64) words locals bytes (omega arith))

  passed : (i : ℕ) → i ≤ (n + 63) / 64 → ((k : ℕ) → k < i → None ≡ word_answers k) → available_from n words locals bytes 0 ≡ available_from n words locals bytes (i * 64)
  passed zero l h = refl
  passed (suc i) l h =
      let next : suc i * 64 ≡ (i + 1) * 64 = omega arith in
      passed i (omega arith) (λ k m. h k (omega arith)) ∙ (next_word i (omega arith) (h i (omega arith)) ∙ rw next)

  -- the first word that answers a slot answers for all
  pub by_words : (r : Option ℕ) → First word_answers ((n + 63) / 64) r → r ≡ lowest_slot (available_by words locals bytes) n 0
  unfolding available_from
  by_words None h = let whole : n - 0 ≡ n = omega arith in sym (available_end n ((n + 63) / 64 * 64) words locals bytes (omega arith)) ∙ (sym (passed ((n + 63) / 64) (omega arith) h) ∙ rw whole)
  by_words (Some y) (i, l, it, before) = let whole : n - 0 ≡ n = omega arith in sym (word_then_rest i (omega arith) ∙ rw (← it)) ∙ (sym (passed i (omega arith) before) ∙ rw whole)
