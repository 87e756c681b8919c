-- Laws of the frames between two bounds, and of the choices among them. Assumes nothing.
use mathlib.Core.Path.{◌≡◌, refl, sym, ◌∙◌, ap}
use mathlib.Core.Bool.{true, false}
use mathlib.Core.List.Memᴰ
use mathlib.Core.List.{List, [], ◌∷◌, ◌++◌, append-nil, Memᴰ}
use mathlib.Core.Logic.{◌⊎◌, inl, inr}
use Prim.Native.Nat.{ℕ, zero, suc, ◌+◌, ◌-◌, ◌<◌, ◌≤◌}
use native.Mathlib.Decide.{dec_le}
use native.Mathlib.Omega.{arith}
use lib.ListN.{length, get_or}
use borrow.Author.Tests.{eq-eqb, ne_eqb, le-leb, lt-leb}
use Rattle.wal_types.specs.declared.Header.{Header}
use Rattle.wal_types.specs.Settings.{within}
use Rattle.wal_types.specs.Call.{Pair, pair}
use Rattle.index_search.specs.InnerRun.{All}
use Rattle.std.specs.Prelude.{Option, Some, None, Result, Ok, Err}
use Rattle.index_find.specs.Index.{entries_refusal, EntriesCall}
use Rattle.index_find.specs.Find.{else_look}
use Rattle.index_grown.specs.Entries.{entries_of, up_to, frame_in}
use Rattle.index_grown.proofs.Lists.{here, not_here, frame_above, frame_given}
use Rattle.index_grown.proofs.Views.{SameView}
use Rattle.index_grown.proofs.Entries.{entry, entries_next, entries_length}
use Rattle.index_scan.specs.Between.{before_frames, frames_between, chosen, frame_chosen, frame_between, Undecided, IsBetween, BetweenTold, BetweenChoices}
use Rattle.index_scan.specs.Scan.{scan_answer}
use Rattle.index_scan.specs.InnerScan.{OtherPage, last_among}
use Rattle.wal_types.specs.declared.refusal.Refusal.{Refusal}
use Rattle.wal_types.specs.Refusal.{number}
use Rattle.wal_types.proofs.Refusals.{number_not_zero}
use Rattle.index_scan.proofs.Scanned.{scan_refused, scan_answers, along}

-- CHOICES
-- behind others, the last is chosen by a number that is not below theirs
chosen_last : (choice : ℕ) (l : List ℕ) (f : ℕ) → length l ≤ choice → chosen choice (l ++ (f ∷ [])) ≡ Some f
unfolding chosen
chosen_last zero [] f le = refl
chosen_last (suc choice) [] f le = refl
chosen_last zero (g ∷ l) f le = absurd (omega arith)
chosen_last (suc choice) (g ∷ l) f le = ap (λ (x : Option ℕ). else_look x (Some g)) (chosen_last choice l f (omega arith))

-- a greater number past the last chooses no other
chosen_past : (choice : ℕ) (l : List ℕ) → length l ≤ choice → chosen (suc choice) l ≡ chosen choice l
unfolding chosen
chosen_past choice [] le = refl
chosen_past zero (g ∷ l) le = absurd (omega arith)
chosen_past (suc choice) (g ∷ l) le = ap (λ (x : Option ℕ). else_look x (Some g)) (chosen_past choice l (omega arith))

-- what is chosen is one of them
chosen_of : (choice : ℕ) (l : List ℕ) (f : ℕ) → chosen choice l ≡ Some f → Memᴰ f l
unfolding chosen
chosen_of choice [] f e = let z : ◌≡◌ {A = ℕ} 0 1 = cc in absurd (omega arith)
chosen_of zero (g ∷ l) f e = let s : f ≡ g = cc in Memᴰ.head s
chosen_of (suc choice) (g ∷ l) f e = go (chosen choice l) (chosen_of choice l f) e
  where
    go : (r : Option ℕ) → (r ≡ Some f → Memᴰ f l) → else_look r (Some g) ≡ Some f → Memᴰ f (g ∷ l)
    go (Some h) rest e = Memᴰ.tail (rest e)
    go None rest e = let s : f ≡ g = cc in Memᴰ.head s

-- each of them is chosen
choice_for : (l : List ℕ) (f : ℕ) → Memᴰ f l → (choice : ℕ) × (chosen choice l ≡ Some f)
unfolding chosen
choice_for [] f m = absurd (Memᴰ.not-nil m)
choice_for (g ∷ l) f m =
    elim (Memᴰ.cases_cons m) [
      | inl e ↦ (0, ap Some (sym e))
      | inr i ↦ let r = choice_for l f i in (suc r.0, ap (λ (x : Option ℕ). else_look x (Some g)) r.1)
    ]

-- none is chosen only of none
chosen_none : (choice : ℕ) (l : List ℕ) → chosen choice l ≡ None → l ≡ []
unfolding chosen
chosen_none choice [] e = refl
chosen_none zero (g ∷ l) e = let z : ◌≡◌ {A = ℕ} 0 1 = cc in absurd (omega arith)
chosen_none (suc choice) (g ∷ l) e = go (chosen choice l) e
  where
    go : (r : Option ℕ) → else_look r (Some g) ≡ None → (g ∷ l) ≡ []
    go (Some h) e = let z : ◌≡◌ {A = ℕ} 0 1 = cc in absurd (omega arith)
    go None e = let z : ◌≡◌ {A = ℕ} 0 1 = cc in absurd (omega arith)

module _ (page low high : ℕ) where
  abbrev between : List Pair → List ℕ
  between es = frames_between es page low high

  abbrev given_by : Pair → Option ℕ
  given_by q = frame_in page low high q

  -- THE FRAMES BETWEEN, of one pair more
  before_append : (x : Option ℕ) (a b : List ℕ) → before_frames x (a ++ b) ≡ before_frames x a ++ b
  before_append (Some f) a b = refl
  before_append None a b = refl

  between_more : (l : List Pair) (q : Pair) → between (l ++ (q ∷ [])) ≡ between l ++ before_frames (given_by q) []
  unfolding frames_between
  between_more [] q = refl
  between_more (r ∷ l) q = ap (before_frames (given_by r)) (between_more l q) ∙ before_append (given_by r) (between l) _

  -- no more of them than pairs
  between_fewer : (l : List Pair) → length (between l) ≤ length l
  unfolding frames_between
  between_fewer [] = omega arith
  between_fewer (q ∷ l) = go (given_by q) (between_fewer l)
    where
      go : (x : Option ℕ) → length (between l) ≤ length l → length (before_frames x (between l)) ≤ suc (length l)
      go (Some f) le = omega arith
      go None le = omega arith

  -- only the pairs up to a bound that is not below the upper one matter
  between_up_to : (bound : ℕ) → high ≤ bound → (l : List Pair) → between (up_to bound l) ≡ between l
  unfolding up_to frames_between
  between_up_to bound h [] = refl
  between_up_to bound h (q ∷ l) = go (between_up_to bound h l) (dec_le q.frame bound)
    where
      go : between (up_to bound l) ≡ between l → Dec (q.frame ≤ bound) → between (up_to bound (q ∷ l)) ≡ before_frames (given_by q) (between l)
      go ih (yes b) = rw (le-leb _ _ b, ih)
      go ih (no b) = rw (lt-leb q.frame bound (omega arith), frame_above page low high q (omega arith)) ih

  -- a frame is between exactly if a pair gives it
  between_has : (l : List Pair) (f : ℕ) → IsBetween l page low high f → Memᴰ f (between l)
  unfolding frames_between
  between_has [] f is = absurd (Memᴰ.not-nil is.of_page)
  between_has (q ∷ l) f is =
      go (given_by q) refl (Memᴰ.cases_cons is.of_page) (λ m. between_has l f (record { of_page = m; from_low = is.from_low; to_high = is.to_high }))
    where
      go : (x : Option ℕ) → given_by q ≡ x → (pair page f ≡ q) ⊎ Memᴰ (pair page f) l → (Memᴰ (pair page f) l → Memᴰ f (between l)) → Memᴰ f (before_frames x (between l))
      go (Some g) e (inl s) rest = let t : f ≡ g = ap (λ (x : Pair). x.frame) s ∙ (frame_given page low high q g e).1.0 in Memᴰ.head t
      go (Some g) e (inr m) rest = Memᴰ.tail (rest m)
      go None e (inl s) rest = absurd (not_here page low high q f e s is.from_low is.to_high)
      go None e (inr m) rest = rest m

  between_only : (l : List Pair) (f : ℕ) → Memᴰ f (between l) → IsBetween l page low high f
  unfolding frames_between
  between_only [] f m = absurd (Memᴰ.not-nil m)
  between_only (q ∷ l) f m =
      go (given_by q) refl m (λ i. let r = between_only l f i in record { of_page = Memᴰ.tail r.of_page; from_low = r.from_low; to_high = r.to_high })
    where
      go : (x : Option ℕ) → given_by q ≡ x → Memᴰ f (before_frames x (between l)) → (Memᴰ f (between l) → IsBetween (q ∷ l) page low high f) → IsBetween (q ∷ l) page low high f
      go (Some g) e i rest =
          elim (Memᴰ.cases_cons i) [
            | inl s ↦
                let given = frame_given page low high q f (e ∙ ap Some (sym s)) in
                record { of_page = Memᴰ.head (here page low high q f given); from_low = given.1.1.0; to_high = given.1.1.1 }
            | inr j ↦ rest j
          ]
      go None e i rest = rest i

  -- none is between: there are no frames
  between_none : (l : List Pair) → ((f : ℕ) → IsBetween l page low high f → ⊥) → between l ≡ []
  between_none l none = go (between l) refl
    where
      go : (k : List ℕ) → between l ≡ k → between l ≡ []
      go [] e = e
      go (f ∷ k) e = absurd (none f (between_only l f (rw e (Memᴰ.head refl))))

  chosen_of_none : (choice : ℕ) (l : List Pair) → ((f : ℕ) → IsBetween l page low high f → ⊥) → chosen choice (between l) ≡ None
  unfolding chosen
  chosen_of_none choice l none = rw (between_none l none)

-- a view up to a mark: the searches up to it are the same
pub view_chosen : (mark : ℕ) (es es' : List Pair) → SameView mark es es' → (low high : ℕ) → high ≤ mark → (page choice : ℕ) → frame_chosen es' page low high choice ≡ frame_chosen es page low high choice
view_chosen mark es es' same low high most page choice =
    ap (chosen choice) (sym (between_up_to page low high mark most es') ∙ (ap (λ (l : List Pair). frames_between l page low high) same ∙ between_up_to page low high mark most es))

-- THE THEOREM: the choices are the frames between, all of them and nothing else
pub between_choices : BetweenChoices
between_choices es page low high =
    record {
      any_choice = λ choice f e. between_only page low high es f (chosen_of choice _ f e);
      every_frame = λ f is. choice_for _ f (between_has page low high es f is);
      none_when = λ choice none. chosen_of_none page low high choice es none;
      none_only = λ choice e f is. Memᴰ.not-nil (rw (chosen_none choice _ e) at (between_has page low high es f is));
      wrong_order = λ choice crossed. chosen_of_none page low high choice es (λ f is. omega (arith, is.from_low, is.to_high));
    }

-- THE SEARCH FROM THE LAST ENTRY DOWN gives what a number not below that of the entries chooses
module _ (ps fs : List ℕ) (page low high : ℕ) where
  abbrev last_of : ℕ → Option ℕ
  last_of n = last_among ps fs page low high n

  last_next : (n : ℕ) → last_of (suc n) ≡ else_look (frame_in page low high (entry ps fs n)) (last_of n)
  last_next n =
      ap (λ (l : List Pair). chosen (suc n) (frames_between l page low high)) (entries_next ps fs n)
      ∙ (ap (chosen (suc n)) (between_more page low high (entries_of n ps fs) (entry ps fs n)) ∙ go (frame_in page low high (entry ps fs n)))
    where
      earlier : List ℕ
      earlier = frames_between (entries_of n ps fs) page low high

      few : length earlier ≤ n
      few = omega (arith, between_fewer page low high (entries_of n ps fs), entries_length ps fs n)

      go : (x : Option ℕ) → chosen (suc n) (earlier ++ before_frames x []) ≡ else_look x (chosen n earlier)
      go (Some f) = chosen_last (suc n) earlier f (omega (arith, few))
      go None = ap (chosen (suc n)) (append-nil earlier) ∙ chosen_past n earlier few

  -- the last entry of n gives a frame: that is it
  last_here : (n f : ℕ) → 0 < n → frame_in page low high (entry ps fs (n - 1)) ≡ Some f → Some f ≡ last_of n
  last_here zero f l e = absurd (omega arith)
  last_here (suc n) f l e =
      let s : suc n - 1 ≡ n = omega arith in
      sym (last_next n ∙ ap (λ (x : Option ℕ). else_look x (last_of n)) (rw s at e))

  -- it gives none: the entries before decide
  last_before : (n : ℕ) → 0 < n → frame_in page low high (entry ps fs (n - 1)) ≡ None → last_of (n - 1) ≡ last_of n
  last_before zero l e = absurd (omega arith)
  last_before (suc n) l e =
      let s : suc n - 1 ≡ n = omega arith in
      rw s (sym (last_next n ∙ ap (λ (x : Option ℕ). else_look x (last_of n)) (rw s at e)))

  -- entries of other pages are passed over
  other_passed : (n : ℕ) → OtherPage ps page n → last_of n ≡ last_of (suc n)
  other_passed n other =
      let none : frame_in page low high (entry ps fs n) ≡ None = rw (ne_eqb _ _ other) in
      sym (last_next n ∙ ap (λ (x : Option ℕ). else_look x (last_of n)) none)

  -- the turns of the search, n entries being left and w what it is to give
  module _ (n : ℕ) (w : Option ℕ) (left : last_of n ≡ w) where
    -- entry by entry
    pub turn_between : 0 < n → get_or ps (n - 1) 0 ≡ page → within low high (get_or fs (n - 1) 0) ≡ true → Some (get_or fs (n - 1) 0) ≡ w
    turn_between l e t = last_here n _ l (rw (eq-eqb _ _ e, t)) ∙ left

    pub turn_beyond : 0 < n → get_or ps (n - 1) 0 ≡ page → within low high (get_or fs (n - 1) 0) ≡ false → last_of (n - 1) ≡ w
    turn_beyond l e t = last_before n l (rw (eq-eqb _ _ e, t)) ∙ left

    pub turn_other : 0 < n → (get_or ps (n - 1) 0 ≡ page → ⊥) → last_of (n - 1) ≡ w
    turn_other l o = last_before n l (rw (ne_eqb _ _ o)) ∙ left

    pub turns_done : (from : ℕ) → from ≤ n → n ≤ from → last_of from ≡ w
    turns_done from l u = let e : from ≡ n = omega arith in ap last_of e ∙ left

    -- eight at a look
    module _ (enough : 8 ≤ n) where
      back : last_of (n - 8 + 8) ≡ w
      back = let e : n - 8 + 8 ≡ n = omega arith in ap last_of e ∙ left

      pub look_passed : All (OtherPage ps page) (n - 8) (n - 8 + 8) → last_of (n - 8) ≡ w
      look_passed others = along last_of (OtherPage ps page) other_passed (n - 8) 8 others ∙ back

    -- what is left after the looks
    pub rest_gives : (r : Option ℕ) → else_look r (last_of 0) ≡ last_of n → r ≡ w
    unfolding entries_of frames_between chosen
    rest_gives (Some f) e = e ∙ left
    rest_gives None e = e ∙ left

-- THE CALL, by the answer that the code makes of what is found
module _ (capacity b page low high : ℕ) (h : Header) (ps fs : List ℕ) where
  abbrev number_of : ℕ
  number_of = entries_refusal capacity b h (length ps) (length fs)

  abbrev pairs : List Pair
  pairs = entries_of h.frame_index_len ps fs

  abbrev Promised : Result (Option ℕ) Refusal → Type 0
  Promised a = Undecided (frame_between capacity b page low high) (λ call. EntriesCall call h ps fs (scan_answer a)) × BetweenTold pairs page low high a

  pub search_refused : (r : Refusal) → number r ≡ number_of → Promised (Err r)
  unfolding frame_between
  search_refused r e = ((0, scan_refused capacity b (λ es. frame_chosen es page low high 0) h ps fs (number r) (sym e) (number_not_zero r)), number_not_zero r)

  pub search_gives : 0 ≡ number_of → (choice : ℕ) (r : Option ℕ) → r ≡ frame_chosen pairs page low high choice → Promised (Ok r)
  unfolding frame_between
  search_gives passed choice r found =
      ((choice, scan_answers capacity b (λ es. frame_chosen es page low high choice) h ps fs (sym passed) r found), told r found)
    where
      told : (r : Option ℕ) → r ≡ frame_chosen pairs page low high choice → BetweenTold pairs page low high (Ok r)
      told (Some f) e = (between_choices pairs page low high).any_choice choice f (sym e)
      told None e = (between_choices pairs page low high).none_only choice (sym e)
