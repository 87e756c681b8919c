-- What is known to be used on the way from a page's home to a cell, by the words of the map. Assumes nothing.
use mathlib.Core.Path.{◌≡◌, sym, ap, ◌∙◌}
use mathlib.Core.List.{List, [], ◌∷◌}
use Prim.Native.Nat.{ℕ, ◌+◌, ◌-◌, ◌*◌, ◌/◌, ◌%◌, ◌^◌, ◌<◌, ◌≤◌}
use native.Mathlib.Decide.{dec_lt}
use native.Mathlib.Omega.{arith}
use lib.ListN.{get_or}
use lib.Pow.{shr-shr}
use Rattle.std.specs.Prelude.{Option, Some, None}
use Rattle.wal_types.specs.Memory.{bit_at}
use Rattle.word_bits.proofs.Bits.{zero_bits}
use Rattle.index_search.specs.InnerRun.{All}
use Rattle.index_search.proofs.Runs.{all_join, all_within}
use Rattle.index_rebuild.specs.InnerMap.{Clear, Way, UpTo, WayTo, WordsTell}

-- a word shifted by i has its bits from i on
bit_shifted : (n i j : ℕ) → bit_at (n / 2 ^ i) j ≡ bit_at n (i + j)
unfolding bit_at
bit_shifted n i j = ap (λ (x : ℕ). x % 2) (shr-shr n i j)

-- so what its lowest bits are, those from i on are
pub clear_shifted : (word i t : ℕ) → ((j : ℕ) → j < t → bit_at (word / 2 ^ i) j ≡ 0) → All (λ k. bit_at word k ≡ 0) i (i + t)
clear_shifted word i t low k x y =
    let e : i + (k - i) ≡ k = omega arith in
    let s : bit_at word (i + (k - i)) ≡ 0 = sym (bit_shifted word i (k - i)) ∙ low (k - i) (omega arith) in
    rw e at s

-- the bits of a word, in a row of words
pub cells_clear : (row : List ℕ) (w a b : ℕ) → b ≤ 64 → All (λ k. bit_at (get_or row w 0) k ≡ 0) a b → All (Clear row) (64 * w + a) (64 * w + b)
cells_clear row w a b l all c x y =
    let q : c / 64 ≡ w = omega arith in
    let r : c % 64 ≡ c - 64 * w = omega arith in
    rw (q, r) (all (c - 64 * w) (omega arith) (omega arith))

-- so what the lowest bits of a shifted word are, those of the row from there on are
pub row_shifted : (row : List ℕ) (word first t : ℕ) → first + t ≤ 64 → ((j : ℕ) → j < t → bit_at (get_or row word 0 / 2 ^ first) j ≡ 0) → All (Clear row) (64 * word + first) (64 * word + (first + t))
row_shifted row word first t l low = cells_clear row word first (first + t) l (clear_shifted (get_or row word 0) first t low)

-- a way straight on
pub way_on : (P : ℕ → Type 0) (size from to : ℕ) → from ≤ to → All P from to → Way P size from to
way_on P size from to l all = (λ x. all, λ x. absurd (omega arith))

-- and one round
pub way_round : (P : ℕ → Type 0) (size from to : ℕ) → to ≤ size → All P from size → All P 0 to → Way P size from to
way_round P size from to l all first = (λ x. all_within P from size from to (omega arith) (omega arith) all, λ x. (all, first))

-- what holds of each number below the size holds on the way
pub way_map : (P Q : ℕ → Type 0) (size from to : ℕ) → to ≤ size → ((c : ℕ) → c < size → P c → Q c) → Way P size from to → Way Q size from to
way_map P Q size from to l f w =
    (λ x c a b. f c (omega arith) (w.0 x c a b), λ x. (λ c a b. f c (omega arith) ((w.1 x).0 c a b), λ c a b. f c (omega arith) ((w.1 x).1 c a b)))

-- what is found up to a size is on the way there
pub upto_way : (P : ℕ → Type 0) (from size : ℕ) (to : Option ℕ) → UpTo P from size to → WayTo P size from to
upto_way P from size (Some to) u = (u.0.1, way_on P size from to u.0.0 u.1)
upto_way P from size None u = tt

-- what is found behind a part that has the property is the first
pub upto_more : (P : ℕ → Type 0) (from mid size : ℕ) (to : Option ℕ) → from ≤ mid → All P from mid → UpTo P mid size to → UpTo P from size to
upto_more P from mid size (Some to) l all u = ((omega (arith, u.0), u.0.1), all_join P from mid to all u.1)
upto_more P from mid size None l all u = all_join P from mid size all u

-- two words in turn
turned : (words : List ℕ) (c : ℕ) → c < 128 → Clear (get_or words 1 0 ∷ (get_or words 0 0 ∷ [])) ((c + 64) % 128) → Clear words c
turned words c l clear = go (dec_lt c 64)
  where
    same : (c + 64) % 128 % 64 ≡ c % 64
    same = omega arith

    go : Dec (c < 64) → Clear words c
    go (yes s) =
        let i : (c + 64) % 128 / 64 ≡ 1 = omega arith in
        let w : c / 64 ≡ 0 = omega arith in
        rw w (rw (i, same) at clear)
    go (no s) =
        let i : (c + 64) % 128 / 64 ≡ 0 = omega arith in
        let w : c / 64 ≡ 1 = omega arith in
        rw w (rw (i, same) at clear)

pub way_turned : (words : List ℕ) (from to : ℕ) → 64 ≤ from → from < 128 → UpTo (Clear (get_or words 1 0 ∷ (get_or words 0 0 ∷ []))) (from - 64) 128 (Some to) → WayTo (Clear words) 128 from (Some ((64 + to) % 128))
way_turned words from to l b u = (omega arith, go (dec_lt to 64))
  where
    below : to < 128
    below = u.0.1

    behind : from - 64 ≤ to
    behind = u.0.0

    go : Dec (to < 64) → Way (Clear words) 128 from ((64 + to) % 128)
    go (yes s) = way_on (Clear words) 128 from _ (omega arith) (λ c x y. turned words c (omega arith) (u.1 ((c + 64) % 128) (omega arith) (omega arith)))
    go (no s) =
        way_round (Clear words) 128 from _ (omega arith) (λ c x y. turned words c (omega arith) (u.1 ((c + 64) % 128) (omega arith) (omega arith)))
        (λ c x y. turned words c (omega arith) (u.1 ((c + 64) % 128) (omega arith) (omega arith)))

module _ (cells words : List ℕ) (tell : WordsTell cells words) where
  -- the cells of words that are 0
  words_clear : (a b : ℕ) → b ≤ 128 → All (Clear words) a b → All (Clear cells) (64 * a) (64 * b)
  words_clear a b l all c x y = rw (tell (c / 64) (omega arith) (all (c / 64) (omega arith) (omega arith))) (zero_bits (c % 64))

  module _ (home next to : ℕ) (h : home < 8192) (n : next < 128) (own : All (Clear cells) home (64 * (home / 64) + 64)) (l : 64 * next ≤ to) (u : to < 64 * next + 64) (low : All (Clear cells) (64 * next) to) where
    -- the cells of the words up to the next one, and its lowest
    upto : (from : ℕ) → from ≤ next → All (Clear words) from next → All (Clear cells) (64 * from) to
    upto from f all = all_join (Clear cells) (64 * from) (64 * next) to (words_clear from next (omega arith) all) low

    -- from the home through the rest of its word to the lowest cell of the next word that has one
    way_found : Way (Clear words) 128 ((home / 64 + 1) % 128) next → Way (Clear cells) 8192 home to
    way_found way = go (dec_lt (home / 64) 127) (dec_lt next ((home / 64 + 1) % 128))
      where
        go : Dec (home / 64 < 127) → Dec (next < (home / 64 + 1) % 128) → Way (Clear cells) 8192 home to
        go (yes s) (no r) =
            let e : 64 * ((home / 64 + 1) % 128) ≡ 64 * (home / 64) + 64 = omega arith in
            way_on (Clear cells) 8192 home to (omega arith)
            (all_join (Clear cells) home (64 * (home / 64) + 64) to own (rw e at (upto ((home / 64 + 1) % 128) (omega arith) (way.0 (omega arith)))))
        go (yes s) (yes r) =
            let e : 64 * ((home / 64 + 1) % 128) ≡ 64 * (home / 64) + 64 = omega arith in
            let rest = rw e at (words_clear ((home / 64 + 1) % 128) 128 (omega arith) (way.1 r).0) in
            let whole : 64 * 128 ≡ 8192 = omega arith in
            way_round (Clear cells) 8192 home to (omega arith)
            (all_join (Clear cells) home (64 * (home / 64) + 64) 8192 own (rw whole at rest))
            (all_within (Clear cells) (64 * 0) to 0 to (omega arith) (omega arith) (upto 0 (omega arith) (way.1 r).1))
        go (no s) d =
            let e : (home / 64 + 1) % 128 ≡ 0 = omega arith in
            way_round (Clear cells) 8192 home to (omega arith)
            (all_within (Clear cells) home (64 * (home / 64) + 64) home 8192 (omega arith) (omega arith) own)
            (all_within (Clear cells) (64 * 0) to 0 to (omega arith) (omega arith) (upto 0 (omega arith) (λ w x y. way.0 (omega arith) w (omega arith) y)))

  -- the same, of what is found in that word
  pub way_next : (home next start size : ℕ) (to : Option ℕ) → home < 8192 → next < 128 → All (Clear cells) home (64 * (home / 64) + 64) → start ≡ 64 * next → size ≡ 64 * next + 64 → UpTo (Clear cells) start size to
      → Way (Clear words) 128 ((home / 64 + 1) % 128) next → WayTo (Clear cells) 8192 home to
  way_next home next start size (Some to) h n own s e upto way =
      (omega (arith, upto.0), way_found home next to h n own (omega (arith, upto.0)) (omega (arith, upto.0)) (λ k x y. upto.1 k (omega arith) y) way)
  way_next home next start size None h n own s e upto way = tt
