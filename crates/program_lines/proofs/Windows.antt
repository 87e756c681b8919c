-- The bytes of a buffer, after more are put behind them or the first are left out, and what a writer has where all were
-- written. Assumes nothing.
use Rattle.std.proofs.Common.{◌≡◌, ℕ, ◌+◌, ◌-◌, ◌≤◌, List, [], ◌++◌, length, take, drop, slice_range, Option, Some, None, refl, sym, ap, ◌∙◌, arith}
use Rattle.std.proofs.lemmas.List.{append-nil, take_at, drop_at, take_all, take-append-le, drop-append-le, drop-take, drop-drop, length-take-le, length-drop}
use Rattle.std.specs.Io.KnownBytes.{Keeps, Appends, append_known}
use borrow.Rule.Slice.PartMut.{put_mid, post_of}
use lib.Seq.{take-add}

pub grown : (xs ys : List ℕ) (start end k : ℕ) → start ≤ end → end ≤ length xs
    → slice_range (put_mid end k xs ys) start (end + length ys) ≡ slice_range xs start end ++ ys
grown xs ys start end k ordered within =
    let front = length-take-le end xs within in
    let held = drop start (take end xs) in
    let len : length held ≡ end - start = omega (arith, length-drop start (take end xs)) in
    let sum : end + length ys - start ≡ (end - start) + length ys = omega arith in
    let parts : end ≡ start + (end - start) = omega arith in
    let same : held ≡ take (end - start) (drop start xs) = ap (λ j. drop start (take j xs)) parts ∙ drop-take start (end - start) xs in
    let after = ys ++ post_of end k xs in
    ap (take (end + length ys - start)) (drop-append-le start (take end xs) after (omega arith))
    ∙ ap (λ j. take j (held ++ after)) sum ∙ take-add (end - start) (length ys) (held ++ after)
    ∙ (rw (take_at held after _ len, drop_at held after _ len, take-append-le (length ys) ys (post_of end k xs) (omega arith), take_all (length ys) ys (omega arith), same) refl)

pub put_behind : (xs ys more : List ℕ) (start end k : ℕ) → start ≤ end → end ≤ length xs → ys ≡ more
    → slice_range (put_mid end k xs ys) start (end + length more) ≡ slice_range xs start end ++ more
put_behind xs ys more start end k ordered within e = rw e (grown xs more start end k ordered within)

pub consumed : (xs : List ℕ) (start end count : ℕ) → start + count ≤ end
    → slice_range xs (start + count) end ≡ drop count (slice_range xs start end)
consumed xs start end count inside =
    let parts : end - start ≡ count + (end - (start + count)) = omega arith in
    sym (ap (λ j. drop count (take j (drop start xs))) parts ∙ drop-take count _ (drop start xs)
    ∙ ap (take (end - (start + count))) (drop-drop count start xs))

-- where nothing is left that waited, the writer has it
pub all_written : (a b : Option (List ℕ)) (xs ys : List ℕ) → ys ≡ [] → Keeps (append_known a xs) (append_known b ys) → Appends a b xs
all_written None b xs ys e k = tt
all_written (Some x) None xs ys e k = absurd k
all_written (Some x) (Some y) xs ys e k = sym (append-nil y) ∙ ap (λ l. y ++ l) (sym e) ∙ k
