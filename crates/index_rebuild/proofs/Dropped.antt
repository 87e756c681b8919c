-- What the map tells of a table: at first nothing; and still once a used cell is dropped from it or a cell is filled. Assumes
-- nothing.
use mathlib.Core.Path.{◌≡◌, refl, sym, ap, ◌∙◌}
use mathlib.Core.List.{List}
use Prim.Native.Nat.{ℕ, zero, suc, ◌+◌, ◌-◌, ◌/◌, ◌%◌, ◌^◌, ◌<◌}
use native.Mathlib.Nat.{pow-suc}
use native.Mathlib.Decide.{ℕ_discrete, dec_lt}
use native.Mathlib.Omega.{arith}
use lib.Dec.{eqb}
use lib.ListN.{length, get_or, set, replicate, get_or-replicate}
use lib.Pow.{pow_pos, shr-shr}
use lib.Seq.{get_or-set_same, get_or-set_other}
use borrow.Author.Tests.{eqb-true, eq-eqb, ne_eqb}
use Rattle.std.specs.Prelude.{Some}
use Rattle.wal_types.specs.Memory.{bit_at}
use Rattle.word_bits.specs.Bit.{clear_bit}
use Rattle.std.proofs.lemmas.List.{get_or_past}
use Rattle.word_bits.proofs.Bits.{zero_bits, clear_other, clear_le}
use Rattle.index_hash.specs.Home.{home}
use Rattle.index_hash.specs.Block.{empty_from, empty_cell}
use Rattle.index_hash.proofs.Empty.{by_test, set_cell}
use Rattle.index_hash.proofs.Home.{home_below}
use Rattle.index_search.specs.InnerRun.{Used}
use Rattle.index_search.proofs.Passed.{found_on, found_round}
use Rattle.index_rebuild.specs.InnerMap.{Clear, Way, WordsTell, Tells, without_bit, words_left}
use Rattle.index_rebuild.proofs.Ways.{way_map}

-- another bit of the row (behind its end every bit is 0)
kept : (row : List ℕ) (i k : ℕ) → (k ≡ i → ⊥) → Clear (without_bit row i) k → Clear row k
unfolding without_bit
kept row i k other clear = go (ℕ_discrete (k / 64) (i / 64)) (dec_lt (i / 64) (length row))
  where
    v : ℕ
    v = clear_bit (get_or row (i / 64) 0) (i % 64)

    go : Dec (k / 64 ≡ i / 64) → Dec (i / 64 < length row) → Clear row k
    go (yes e) (yes b) =
        let c = rw (e, get_or-set_same row (i / 64) v 0 b) at clear in
        rw e (sym (clear_other (i % 64) (k % 64) (get_or row (i / 64) 0) (λ q. other (omega arith))) ∙ c)
    go (yes e) (no b) = rw (e, get_or_past row (i / 64) 0 (omega arith)) (zero_bits (k % 64))
    go (no e) d = rw (get_or-set_other row (i / 64) (k / 64) v 0 e) at clear

-- a word with a bit less that was 0 is 0
less_zero : (row : List ℕ) (i w : ℕ) → i / 64 < length row → get_or row w 0 ≡ 0 → get_or (without_bit row i) w 0 ≡ 0
unfolding without_bit
less_zero row i w b z = go (ℕ_discrete w (i / 64))
  where
    v : ℕ
    v = clear_bit (get_or row (i / 64) 0) (i % 64)

    go : Dec (w ≡ i / 64) → get_or (set row (i / 64) v) w 0 ≡ 0
    go (yes e) =
        let less = clear_le (get_or row (i / 64) 0) (i % 64) in
        let none : get_or row (i / 64) 0 ≡ 0 = rw e at z in
        rw (e, get_or-set_same row (i / 64) v 0 b) (omega arith)
    go (no e) = get_or-set_other row (i / 64) w v 0 e ∙ z

-- the code's stores: a word with a bit cleared
pub bit_stored : (row : List ℕ) (i v : ℕ) → v ≡ clear_bit (get_or row (i / 64) 0) (i % 64) → set row (i / 64) v ≡ without_bit row i
unfolding without_bit
bit_stored row i v e = rw (← e)

-- and, where that word is 0, its own bit
pub word_cleared : (cells words : List ℕ) (w v u : ℕ) → w < length cells → v ≡ 0 → u ≡ clear_bit (get_or words (w / 64) 0) (w % 64) → set words (w / 64) u ≡ words_left (set cells w v) words w
unfolding words_left without_bit
word_cleared cells words w v u b z e = rw (get_or-set_same cells w v 0 b, eq-eqb v 0 z, ← e)

pub word_left : (cells words : List ℕ) (w v : ℕ) → w < length cells → (v ≡ 0 → ⊥) → words ≡ words_left (set cells w v) words w
unfolding words_left
word_left cells words w v b n = rw (get_or-set_same cells w v 0 b, ne_eqb v 0 n)

-- the words still tell once a cell's bit is cleared
pub words_told : (cells words cells' words' : List ℕ) (c : ℕ) → length cells ≡ 128 → c < 8192 → cells' ≡ without_bit cells c → words' ≡ words_left cells' words (c / 64) → WordsTell cells words
    → WordsTell cells' words'
unfolding words_left
words_told cells words cells' words' c l b e f tell =
    rw (f, e) (by_test (WordsTell (without_bit cells c)) (eqb (get_or (without_bit cells c) (c / 64) 0) 0) (λ t. cleared (eqb-true _ _ t)) (λ t. still))
  where
    still : WordsTell (without_bit cells c) words
    still w u clear = less_zero cells c w (omega arith) (tell w u clear)

    cleared : get_or (without_bit cells c) (c / 64) 0 ≡ 0 → WordsTell (without_bit cells c) (without_bit words (c / 64))
    cleared z w u clear = go (ℕ_discrete w (c / 64))
      where
        go : Dec (w ≡ c / 64) → get_or (without_bit cells c) w 0 ≡ 0
        go (yes e) = rw e z
        go (no e) = still w u (kept words (c / 64) w e clear)

module _ (h : List ℕ) where
  -- a used cell is dropped
  pub cell_dropped : (cells : List ℕ) (c : ℕ) → Used h c → Tells h cells → Tells h (without_bit cells c)
  cell_dropped cells c used tells k u clear = go (ℕ_discrete k c)
    where
      go : Dec (k ≡ c) → Used h k
      go (yes e) = rw e used
      go (no e) = tells k u (kept cells c k e clear)

  -- the first empty cell is the page's
  pub found_way : (cells : List ℕ) (page from c : ℕ) → from ≡ home page → Tells h cells → c < 8192 → Way (Clear cells) 8192 from c → get_or h c 0 ≡ 0 → Some c ≡ empty_cell h page
  unfolding empty_cell
  found_way cells page from c e tells b way z = rw (sym e) (go (dec_lt c from))
    where
      below : from < 8192
      below = let l = home_below page in omega arith

      used : Way (Used h) 8192 from c
      used = way_map (Clear cells) (Used h) 8192 from c (omega arith) tells way

      go : Dec (c < from) → Some c ≡ empty_from 8192 h from
      go (yes s) = found_round h from below c s (used.1 s).0 (used.1 s).1 z
      go (no s) = found_on h from below c (omega arith) b (used.0 (omega arith)) z

-- used cells stay used
pub cell_filled : (h h' cells : List ℕ) (c v : ℕ) → h' ≡ set h c (v + 1) → c < length h → Tells h cells → Tells h' cells
cell_filled h h' cells c v e b tells = rw e (λ k u clear. set_cell (λ (x : ℕ). x ≡ 0 → ⊥) h c (v + 1) k b (λ q z. absurd (omega arith)) (λ q. tells k u clear))

-- every bit of the greatest word is 1
ones : (n j : ℕ) → j < n → bit_at (2 ^ n - 1) j ≡ 1
unfolding bit_at
ones zero j l = absurd (omega arith)
ones (suc n) zero l = let p = pow-suc 2 n in let z = pow_pos n in omega arith
ones (suc n) (suc j) l =
    let p = pow-suc 2 n in
    let z = pow_pos n in
    let half : (2 ^ suc n - 1) / 2 ≡ 2 ^ n - 1 = omega arith in
    let s = shr-shr (2 ^ suc n - 1) 1 j in
    let a : 1 + j ≡ suc j = omega arith in
    let o : 2 ^ 1 ≡ 2 = refl in
    ap (λ (x : ℕ). x % 2) (sym (rw (a, o, half) at s)) ∙ ones n j (omega arith)

-- at first no bit of a row is 0
pub none_clear : (n i : ℕ) → i / 64 < n → Clear (replicate n (2 ^ 64 - 1)) i → ⊥
none_clear n i b clear = let o = ones 64 (i % 64) (omega arith) in let z = rw (get_or-replicate n (i / 64) (2 ^ 64 - 1) 0 b) at clear in omega arith

-- an entry is named in a cell, which is then dropped
pub entry_named : (h h' cells : List ℕ) (c v : ℕ) → h' ≡ set h c (v + 1) → length h ≡ 8192 → c < 8192 → Tells h cells → Tells h' (without_bit cells c)
entry_named h h' cells c v e l b tells = cell_dropped h' cells c used (cell_filled h h' cells c v e (omega arith) tells)
  where
    used : Used h' c
    used z = let s = get_or-set_same h c (v + 1) 0 (omega arith) in let q = rw (e, s) at z in absurd (omega arith)
