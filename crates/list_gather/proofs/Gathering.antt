-- The gathering, entry by entry and block by block. Assumes nothing.
use Rattle.std.proofs.Common.{◌≡◌, ℕ, ◌+◌, ◌-◌, ◌<◌, ◌≤◌, true, false, List, [], ◌∷◌, ◌++◌, length, get_or, take, set, replicate, ap, ◌∙◌, append_assoc, append-nil, length-set, refl, arith}
use native.Mathlib.Decide.{dec_lt}
use Rattle.std.proofs.Math.Seq.{get_or-set_same, get_or-set_other}
use Rattle.std.proofs.lemmas.List.{take_more_set, get_or-replicate, get_or_append_left, get_or_push, get_or_past, length_push}
use Rattle.list_sort.proofs.Keys.{by_eqb}
use Rattle.list_gather.specs.declared.gather.Gathered.{Gathered}
use Rattle.list_gather.specs.Named.{named}
use Rattle.list_gather.specs.InnerGathered.{down, head_of}
use Rattle.list_gather.specs.InnerGathering.{gathered, Guessed, Gathering}
use Rattle.list_gather.proofs.Gathered.{head_skip, down_named, down_unnamed}

-- the slot of an entry more
guessed_next : (old new : Gathered) (n slot : ℕ) → gathered new ≡ gathered old ++ (n ∷ []) → new.guesses.now ≡ set old.guesses.now slot n → Guessed old → Guessed new
guessed_next old new n slot more g so_far s c =
    by_eqb _ s slot
    (λ p. λ r. let there = guess_there old.guesses.now slot n (rw (g, p) at r) in
    (length (gathered old), rw (more, length_push) (omega arith), rw (more, g, p, get_or-set_same old.guesses.now slot n 0 there) (get_or_push (gathered old) n 0 (length (gathered old)) refl)))
    (λ p. let other = get_or-set_other old.guesses.now slot s n 0 p in
    λ r. let h = so_far s c (rw (g, other) at r) in
    (h.0, rw (more, length_push) (omega (arith, h.1)), rw (more, g, other) (get_or_append_left (gathered old) (n ∷ []) 0 h.0 h.1 ∙ h.2)))
  where
    guess_there : (l : List ℕ) (k x : ℕ) → 0 < get_or (set l k x) k 0 → k < length l
    guess_there l k x r = go (dec_lt k (length l))
      where
        go : Dec (k < length l) → k < length l
        go (yes b) = b
        go (no b) = let none = get_or_past (set l k x) k 0 (rw length-set (omega arith)) in absurd (omega arith)

module _ (pages : List ℕ) where
  -- an entry is put behind the others
  pub gathering_put :
      (old new : Gathered) (n slot : ℕ) → Guessed old → (d : List ℕ) → old.count < length old.list.now
      → new.list.now ≡ set old.list.now old.count n → new.count ≡ old.count + 1 → new.guesses.now ≡ set old.guesses.now slot n
      → Gathering pages old new (n ∷ d) d 1 0
  gathering_put old new n slot so_far d b l c g =
      let more : gathered new ≡ gathered old ++ (n ∷ []) = rw (c, l) (take_more_set old.list.now old.count n b) in record {
        same_room = ap length l ∙ length-set old.list.now old.count n;
        enough = omega arith;
        guessed = guessed_next old new n slot more g so_far;
        heads = λ page. rw (more, append_assoc);
      }

  -- one is left out, behind one of its page
  pub gathering_left : (g : Gathered) (n slot : ℕ) → Guessed g → (d : List ℕ) → slot < 1024 → n < get_or g.guesses.now slot 0 → get_or pages (get_or g.guesses.now slot 0) 0 ≡ get_or pages n 0 → Gathering pages g g (n ∷ d) d 1 0
  gathering_left g n slot so_far d r b e =
      let h = so_far slot r (omega arith) in
      record { same_room = refl; enough = omega arith; guessed = so_far; heads = λ page. head_skip pages page (gathered g) n d h.0 h.1 (ap (λ (x : ℕ). get_or pages x 0) h.2 ∙ e) }

  pub gathering_none : (g : Gathered) (x y : List ℕ) (n m : ℕ) → x ≡ y → n ≡ m → Guessed g → Gathering pages g g x y n m
  gathering_none g x y n m e f so_far = record { same_room = refl; enough = omega arith; guessed = so_far; heads = λ page. rw e }

  -- one part after the other
  pub gathering_then :
      (a b c : Gathered) (x y y' z : List ℕ) (n m m' o o' : ℕ) → y ≡ y' → m' + o' ≤ m + o → Gathering pages a b x y n m → Gathering pages b c y' z m' o → Gathering pages a c x z n o'
  gathering_then a b c x y y' z n m m' o o' e f g h = record {
    same_room = h.same_room ∙ g.same_room;
    enough = omega (arith, g.enough, h.enough);
    guessed = h.guessed;
    heads = λ page. h.heads page ∙ (rw e at (g.heads page));
  }

  -- a named entry is put, or left out
  pub gathering_named :
      (hash : List ℕ) (a b c : Gathered) (x : List ℕ) (k n : ℕ) → 0 < n → named hash (n - 1) ≡ true → Gathering pages a b x (down hash n) k n
      → Gathering pages b c ((n - 1) ∷ down hash (n - 1)) (down hash (n - 1)) 1 0 → Gathering pages a c x (down hash (n - 1)) k (n - 1)
  gathering_named hash a b c x k n s m g h = gathering_then a b c x _ _ _ k n 1 0 (n - 1) (down_named hash n s m) (omega arith) g h

  -- one that is not named is not there
  pub gathering_unnamed : (hash : List ℕ) (a b : Gathered) (x : List ℕ) (k n : ℕ) → 0 < n → named hash (n - 1) ≡ false → Gathering pages a b x (down hash n) k n → Gathering pages a b x (down hash (n - 1)) k (n - 1)
  gathering_unnamed hash a b x k n s m g = record { same_room = g.same_room; enough = omega (arith, g.enough); guessed = g.guessed; heads = λ page. rw (down_unnamed hash n s m) at (g.heads page) }

  -- a block is gathered
  pub gathering_block :
      (hash : List ℕ) (a b c : Gathered) (x : List ℕ) (k n m end first : ℕ) → n ≡ end → m ≡ first
      → Gathering pages a b x (down hash n) k n → Gathering pages b c (down hash end) (down hash first) end first → Gathering pages a c x (down hash m) k m
  gathering_block hash a b c x k n m end first p q g h = rw q (gathering_then a b c x _ _ _ k n end first first (ap (down hash) p) (omega arith) g h)

  pub gathering_end : (hash : List ℕ) (a b : Gathered) (n m end first : ℕ) → end ≡ n → m ≡ first → Gathering pages a b (down hash end) (down hash m) end m → Gathering pages a b (down hash n) (down hash first) n first
  gathering_end hash a b n m end first p q g = rw (← p, ← q) g

  -- nothing is gathered yet
  pub gathering_start : (hash : List ℕ) (g : Gathered) (n m : ℕ) → n ≡ m → g.guesses.now ≡ replicate 1024 0 → Gathering pages g g (down hash n) (down hash m) n m
  gathering_start hash g n m e none =
      gathering_none g _ _ n m (ap (down hash) e) e (λ slot b r. let zero = ap (λ (x : List ℕ). get_or x slot 0) none ∙ get_or-replicate 1024 slot 0 0 b in absurd (omega arith))

  -- nothing is to come
  pub gathered_all : (hash l : List ℕ) (a b : Gathered) (n m : ℕ) → l ≡ b.list.now → a.count ≡ 0 → m ≡ 0 → Gathering pages a b (down hash n) (down hash m) n m → (page : ℕ) → head_of pages page (take b.count l) ≡ head_of pages page (down hash n)
  unfolding down
  gathered_all hash l a b n m back e f g page = rw back (rw (f, append-nil, e) at (g.heads page))
