-- Laws of the entries as a list of pairs. Assumes nothing.
use mathlib.Core.Path.{◌≡◌, refl, sym, ◌∙◌, ap, ap₂}
use mathlib.Core.List.Memᴰ
use mathlib.Core.List.{List, [], ◌∷◌, ◌++◌, Memᴰ}
use mathlib.Core.Logic.{inl, inr}
use Prim.Native.Nat.{ℕ, zero, suc, ◌+◌, ◌<◌, ◌≤◌}
use native.Mathlib.Decide.{dec_le}
use native.Mathlib.Nat.{eq-or-lt_of_le, le_of_suc-le-suc}
use native.Mathlib.Numerals.{add-one}
use native.Mathlib.Omega.{arith}
use lib.ListN.{length, get_or, set, length-append}
use lib.Seq.{get_or-set_same, get_or-set_other}
use borrow.Author.Tests.{le-leb, lt-leb}
use Rattle.wal_types.specs.Call.{Pair, pair}
use Rattle.index_end.specs.Kept.{kept_of}
use Rattle.index_grown.specs.Entries.{entries_of, taken_off, up_to}
use Rattle.index_grown.specs.Grown.{FramesRise}
use Rattle.index_grown.proofs.Lists.{Each, taken_stays, taken_goes, up_to_all, up_to_stays, up_to_goes}

module _ (ps fs : List ℕ) where
  -- the pair of entry i
  abbrev pub entry : ℕ → Pair
  entry i = pair (get_or ps i 0) (get_or fs i 0)

  pub entries_none : entries_of 0 ps fs ≡ []
  unfolding entries_of
  entries_none = refl

  -- one entry more is one pair more
  pub entries_next : (n : ℕ) → entries_of (suc n) ps fs ≡ entries_of n ps fs ++ (entry n ∷ [])
  unfolding entries_of
  entries_next n = refl

  -- only the first n cells matter
  pub entries_agree : (ps' fs' : List ℕ) (n : ℕ) → ((i : ℕ) → i < n → get_or ps i 0 ≡ get_or ps' i 0) → ((i : ℕ) → i < n → get_or fs i 0 ≡ get_or fs' i 0) → entries_of n ps fs ≡ entries_of n ps' fs'
  unfolding entries_of
  entries_agree ps' fs' zero p f = refl
  entries_agree ps' fs' (suc n) p f =
      ap₂ (λ (l : List Pair) (q : Pair). l ++ (q ∷ [])) (entries_agree ps' fs' n (λ i l. p i (omega arith)) (λ i l. f i (omega arith))) (ap₂ pair (p n (omega arith)) (f n (omega arith)))

  -- the pairs are those of the entries
  pub entries_member : (n : ℕ) (q : Pair) → Memᴰ q (entries_of n ps fs) → (i : ℕ) × ((i < n) × (q ≡ entry i))
  unfolding entries_of
  entries_member zero q m = absurd (Memᴰ.not-nil m)
  entries_member (suc n) q m =
      elim (Memᴰ.append_cases (entries_of n ps fs) m) [
        | inl b ↦ let r = entries_member n q b in (r.0, (omega (arith, r.1.0), r.1.1))
        | inr b ↦ (n, (omega arith, Memᴰ.eq_of_singleton b))
      ]

  pub entries_has : (n i : ℕ) → i < n → Memᴰ (entry i) (entries_of n ps fs)
  unfolding entries_of
  entries_has zero i l = absurd (omega arith)
  entries_has (suc n) i l =
      elim (eq-or-lt_of_le (le_of_suc-le-suc l)) [
        | inl e ↦ Memᴰ.append_right (entries_of n ps fs) (Memᴰ.head (ap entry e))
        | inr b ↦ Memᴰ.append_left (entry n ∷ []) (entries_has n i b)
      ]

  -- what holds of the first n entries holds of each pair
  pub entries_each : (P : Pair → Type 0) (n : ℕ) → ((i : ℕ) → i < n → P (entry i)) → Each P (entries_of n ps fs)
  entries_each P n all q m = let r = entries_member n q m in rw r.1.1 (all r.0 r.1.0)

  -- an entry is stored at the end
  pub entries_stored : (n page frame : ℕ) → n < length ps → n < length fs → entries_of (n + 1) (set ps n page) (set fs n frame) ≡ entries_of n ps fs ++ (pair page frame ∷ [])
  unfolding entries_of
  entries_stored n page frame p f =
      rw add-one
      (ap₂ (λ (l : List Pair) (q : Pair). l ++ (q ∷ []))
      (sym (entries_agree (set ps n page) (set fs n frame) n (λ i l. sym (get_or-set_other ps n i page 0 (λ e. absurd (omega arith)))) (λ i l. sym (get_or-set_other fs n i frame 0 (λ e. absurd (omega arith))))))
      (ap₂ pair (get_or-set_same ps n page 0 p) (get_or-set_same fs n frame 0 f)))

  -- as many pairs as entries
  pub entries_length : (n : ℕ) → length (entries_of n ps fs) ≡ n
  unfolding entries_of
  entries_length zero = refl
  entries_length (suc n) = simp (length-append, entries_length n) (omega arith)

  -- a rollback keeps the entries that are left when pairs go from the end while the last frame is above the bound
  pub entries_kept : (bound n : ℕ) → entries_of (kept_of n fs bound) ps fs ≡ taken_off bound (entries_of n ps fs)
  unfolding kept_of entries_of taken_off
  entries_kept bound zero = refl
  entries_kept bound (suc n) = go (entries_kept bound n) (dec_le (get_or fs n 0) bound)
    where
      go : entries_of (kept_of n fs bound) ps fs ≡ taken_off bound (entries_of n ps fs) → Dec (get_or fs n 0 ≤ bound) → entries_of (kept_of (suc n) fs bound) ps fs ≡ taken_off bound (entries_of n ps fs ++ (entry n ∷ []))
      go ih (yes l) = rw (le-leb _ _ l) (sym (taken_stays bound (entries_of n ps fs) (entry n) l))
      go ih (no l) = rw (lt-leb (get_or fs n 0) bound (omega arith)) (ih ∙ sym (taken_goes bound (entries_of n ps fs) (entry n) (omega arith)))

-- the kept length is no greater
pub kept_le : (n : ℕ) (fs : List ℕ) (bound : ℕ) → kept_of n fs bound ≤ n
unfolding kept_of
kept_le zero fs bound = omega arith
kept_le (suc n) fs bound = go (kept_le n fs bound) (dec_le (get_or fs n 0) bound)
  where
    go : kept_of n fs bound ≤ n → Dec (get_or fs n 0 ≤ bound) → kept_of (suc n) fs bound ≤ suc n
    go ih (yes l) = rw (le-leb _ _ l) (omega arith)
    go ih (no l) = rw (lt-leb (get_or fs n 0) bound (omega arith)) (omega arith)

-- frames that rise, of fewer entries
pub rise_fewer : (n v : ℕ) (fs : List ℕ) → v ≤ n → FramesRise n fs → FramesRise v fs
rise_fewer n v fs l rise i j b c = rise i j b (omega arith)

-- an entry's frame is at most that of a later one
pub rises_to : (n : ℕ) (fs : List ℕ) → FramesRise n fs → (i j : ℕ) → i ≤ j → j < n → get_or fs i 0 ≤ get_or fs j 0
rises_to n fs rise i j l b = elim (eq-or-lt_of_le l) [ inl e ↦ rw e (omega arith) | inr s ↦ omega (arith, rise i j s b) ]

-- where frames rise, what is left after taking off are exactly the pairs up to the bound
pub taken_up_to : (ps fs : List ℕ) (bound n : ℕ) → FramesRise n fs → taken_off bound (entries_of n ps fs) ≡ up_to bound (entries_of n ps fs)
unfolding entries_of taken_off up_to
taken_up_to ps fs bound zero rise = refl
taken_up_to ps fs bound (suc n) rise = go (taken_up_to ps fs bound n (rise_fewer (suc n) n fs (omega arith) rise)) (dec_le (get_or fs n 0) bound)
  where
    below : get_or fs n 0 ≤ bound → (i : ℕ) → i < n → get_or fs i 0 ≤ bound
    below l i b = omega (arith, rise i n b (omega arith))

    go : taken_off bound (entries_of n ps fs) ≡ up_to bound (entries_of n ps fs) → Dec (get_or fs n 0 ≤ bound) → taken_off bound (entries_of n ps fs ++ (entry ps fs n ∷ [])) ≡ up_to bound (entries_of n ps fs ++ (entry ps fs n ∷ []))
    go ih (yes l) =
        taken_stays bound (entries_of n ps fs) (entry ps fs n) l
        ∙ sym (up_to_stays bound (entries_of n ps fs) (entry ps fs n) l ∙ ap (λ (k : List Pair). k ++ (entry ps fs n ∷ [])) (up_to_all bound (entries_of n ps fs) (entries_each ps fs (λ q. q.frame ≤ bound) n (below l))))
    go ih (no l) =
        taken_goes bound (entries_of n ps fs) (entry ps fs n) (omega arith)
        ∙ (ih ∙ sym (up_to_goes bound (entries_of n ps fs) (entry ps fs n) (omega arith)))
