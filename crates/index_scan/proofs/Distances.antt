-- Laws of the nearest frame of a page: what it is, that nothing else is, and one entry more. Assumes nothing.
use mathlib.Core.Path.{◌≡◌, refl, sym, ◌∙◌, ap, ap₂, subst}
use mathlib.Core.Bool.{Bool, true, false, ◌&&◌, ◌||◌, cond}
use mathlib.Core.List.Memᴰ
use mathlib.Core.List.{List, [], ◌∷◌, ◌++◌, Memᴰ}
use mathlib.Core.Logic.{◌⊎◌, inl, inr}
use Prim.Native.Nat.{ℕ, suc, ◌+◌, ◌<◌, ◌≤◌}
use native.Mathlib.Numerals.{add-one}
use native.Mathlib.Omega.{arith}
use lib.Dec.{eqb, ltb}
use lib.ListN.{length, get_or}
use borrow.Author.Tests.{eq-eqb, ne_eqb, eqb-true, eqb-false, le-ltb, lt-ltb, ltb-true, ltb-false}
use Rattle.wal_types.specs.declared.Header.{Header}
use Rattle.wal_types.specs.declared.refusal.Refusal.{Refusal}
use Rattle.wal_types.specs.Refusal.{number}
use Rattle.wal_types.specs.Call.{Pair, pair, refused}
use Rattle.wal_types.proofs.Refusals.{number_not_zero}
use Rattle.index_search.specs.InnerRun.{All}
use Rattle.std.specs.Prelude.{Option, Some, None}
use Rattle.index_find.specs.Index.{entries_refusal, EntriesCall}
use Rattle.index_find.specs.Find.{lookup_answer}
use Rattle.index_grown.specs.Entries.{entries_of}
use Rattle.index_grown.proofs.Entries.{entry, entries_next}
use Rattle.index_scan.specs.Nearest.{distance, is_nearer, nearer, frame_of, nearest, nearest_frame, IsNearestFrame, IsNearest, NearestDecided}
use Rattle.index_scan.specs.InnerScan.{OtherPage, nearest_among}
use Rattle.index_scan.proofs.Scanned.{scan_refused, scan_answers, along}

no_higher : (a b c : ℕ) → a ≤ b → b ≤ c → a ≤ c
no_higher a b c l m = omega arith

module _ (to : ℕ) where
  -- f is no farther than g, and on a tie not above it
  abbrev NotAfter : ℕ → ℕ → Type 0
  NotAfter f g = (distance to f ≤ distance to g) × (distance to f ≡ distance to g → f ≤ g)

  not_after_itself : (f : ℕ) → NotAfter f f
  not_after_itself f = (omega arith, λ e. omega arith)

  -- what the test of both tells
  nearer_first : (f g : ℕ) → is_nearer to f g ≡ true → NotAfter f g
  nearer_first f g e = go (ltb (distance to f) (distance to g)) (eqb (distance to f) (distance to g)) (ltb f g) refl refl refl e
    where
      go : (a b c : Bool) → ltb (distance to f) (distance to g) ≡ a → eqb (distance to f) (distance to g) ≡ b → ltb f g ≡ c → (a || (b && c)) ≡ true → NotAfter f g
      go true b c ea eb ec e = let l : distance to f < distance to g = ltb-true _ _ ea in (omega arith, λ s. absurd (omega arith))
      go false true true ea eb ec e =
          let s : distance to f ≡ distance to g = eqb-true _ _ eb in
          let l : f < g = ltb-true _ _ ec in
          (omega arith, λ t. omega arith)
      go false true false ea eb ec e = let z : ◌≡◌ {A = ℕ} 0 1 = cc in absurd (omega arith)
      go false false c ea eb ec e = let z : ◌≡◌ {A = ℕ} 0 1 = cc in absurd (omega arith)

  nearer_second : (f g : ℕ) → is_nearer to f g ≡ false → NotAfter g f
  nearer_second f g e = go (ltb (distance to f) (distance to g)) (eqb (distance to f) (distance to g)) (ltb f g) refl refl refl e
    where
      go : (a b c : Bool) → ltb (distance to f) (distance to g) ≡ a → eqb (distance to f) (distance to g) ≡ b → ltb f g ≡ c → (a || (b && c)) ≡ false → NotAfter g f
      go true b c ea eb ec e = let z : ◌≡◌ {A = ℕ} 0 1 = cc in absurd (omega arith)
      go false true true ea eb ec e = let z : ◌≡◌ {A = ℕ} 0 1 = cc in absurd (omega arith)
      go false true false ea eb ec e =
          let l : distance to g ≤ distance to f = ltb-false _ _ ea in
          let u : g ≤ f = ltb-false _ _ ec in
          (omega arith, λ t. omega arith)
      go false false c ea eb ec e = let l : distance to g ≤ distance to f = ltb-false _ _ ea in (omega arith, λ t. absurd (eqb-false (distance to f) (distance to g) eb (sym t)))

-- the test, by which is nearer
module _ (to f g : ℕ) where
  pub nearer_test : distance to f < distance to g → true ≡ is_nearer to f g
  nearer_test l = rw (lt-ltb _ _ l)

  pub farther_test : distance to g < distance to f → false ≡ is_nearer to f g
  farther_test l = rw (le-ltb (distance to f) (distance to g) (omega arith), ne_eqb (distance to f) (distance to g) (λ e. omega arith))

  pub tie_test : distance to g ≤ distance to f → distance to f ≤ distance to g → ltb f g ≡ is_nearer to f g
  tie_test l u = rw (le-ltb _ _ l, eq-eqb (distance to f) (distance to g) (omega arith))

-- a list's pairs are one more than another's: what that one gives, and the others'
pub record Joins (page : ℕ) (x : Option ℕ) (l k : List Pair) : Type 0 where
  pub from_one : (g : ℕ) → x ≡ Some g → Memᴰ (pair page g) k
  pub from_rest : (g : ℕ) → Memᴰ (pair page g) l → Memᴰ (pair page g) k
  pub either : (g : ℕ) → Memᴰ (pair page g) k → (x ≡ Some g) ⊎ Memᴰ (pair page g) l

module _ (page to : ℕ) (l k : List Pair) where
  -- the nearer of the one and the nearest of the others is the nearest of all
  joined : (x r : Option ℕ) → Joins page x l k → IsNearest l page to r → IsNearest k page to (nearer to x r)
  joined (Some f) (Some g) joins is = go (is_nearer to f g) refl
    where
      of_both : (v : ℕ) → Memᴰ (pair page v) k → NotAfter to v f → NotAfter to v g → IsNearestFrame k page to v
      of_both v m first second =
          record {
            of_page = m;
            none_nearer = λ h i.
                elim (joins.either h i) [
                  | inl e ↦ let s : f ≡ h = cc in omega (arith, first.0)
                  | inr j ↦ omega (arith, second.0, is.none_nearer h j)
                ];
            lower_on_tie = λ h i t.
                elim (joins.either h i) [
                  | inl e ↦ let s : f ≡ h = cc in let t' : distance to v ≡ distance to f = omega arith in subst (λ (n : ℕ). v ≤ n) s (first.1 t')
                  | inr j ↦
                      let n = is.none_nearer h j in
                      let a : distance to h ≡ distance to g = omega (arith, second.0) in
                      let b : distance to v ≡ distance to g = omega arith in
                      no_higher v g h (second.1 b) (is.lower_on_tie h j a)
                ];
          }

      go : (t : Bool) → is_nearer to f g ≡ t → IsNearest k page to (cond t (Some f) (Some g))
      go true e = of_both f (joins.from_one f refl) (not_after_itself to f) (nearer_first to f g e)
      go false e = of_both g (joins.from_rest g is.of_page) (nearer_second to f g e) (not_after_itself to g)
  joined (Some f) None joins none =
      record {
        of_page = joins.from_one f refl;
        none_nearer = λ h i. elim (joins.either h i) [ inl e ↦ let s : f ≡ h = cc in omega arith | inr j ↦ absurd (none h j) ];
        lower_on_tie = λ h i t. elim (joins.either h i) [ inl e ↦ let s : f ≡ h = cc in omega arith | inr j ↦ absurd (none h j) ];
      }
  joined None (Some g) joins is =
      record {
        of_page = joins.from_rest g is.of_page;
        none_nearer = λ h i. elim (joins.either h i) [ inl e ↦ let z : ◌≡◌ {A = ℕ} 0 1 = cc in absurd (omega arith) | inr j ↦ is.none_nearer h j ];
        lower_on_tie = λ h i t. elim (joins.either h i) [ inl e ↦ let z : ◌≡◌ {A = ℕ} 0 1 = cc in absurd (omega arith) | inr j ↦ is.lower_on_tie h j t ];
      }
  joined None None joins none = λ h i. elim (joins.either h i) [ inl e ↦ let z : ◌≡◌ {A = ℕ} 0 1 = cc in absurd (omega arith) | inr j ↦ none h j ]

-- what a pair gives
module _ (page : ℕ) (q : Pair) where
  gives_own : (g : ℕ) → frame_of page q ≡ Some g → pair page g ≡ q
  gives_own g e = go (eqb q.page page) refl e
    where
      go : (t : Bool) → eqb q.page page ≡ t → cond t (Some q.frame) None ≡ Some g → pair page g ≡ q
      go true s e = let f : q.frame ≡ g = cc in sym (ap₂ pair (eqb-true _ _ s) f)
      go false s e = let z : ◌≡◌ {A = ℕ} 0 1 = cc in absurd (omega arith)

  own_given : (g : ℕ) → pair page g ≡ q → frame_of page q ≡ Some g
  own_given g e =
      let a : q.page ≡ page = sym (ap (λ (x : Pair). x.page) e) in
      let b : q.frame ≡ g = sym (ap (λ (x : Pair). x.frame) e) in
      rw (eq-eqb _ _ a, b)

  -- one more at the front, or at the end
  joins_front : (l : List Pair) → Joins page (frame_of page q) l (q ∷ l)
  joins_front l =
      record {
        from_one = λ g e. Memᴰ.head (gives_own g e);
        from_rest = λ g m. Memᴰ.tail m;
        either = λ g m. elim (Memᴰ.cases_cons m) [ inl e ↦ inl (own_given g e) | inr i ↦ inr i ];
      }

  joins_end : (l : List Pair) → Joins page (frame_of page q) l (l ++ (q ∷ []))
  joins_end l =
      record {
        from_one = λ g e. Memᴰ.append_right l (Memᴰ.head (gives_own g e));
        from_rest = λ g m. Memᴰ.append_left (q ∷ []) m;
        either = λ g m. elim (Memᴰ.append_cases l m) [ inl i ↦ inr i | inr i ↦ inl (own_given g (Memᴰ.eq_of_singleton i)) ];
      }

module _ (page to : ℕ) where
  nearest_is : (l : List Pair) → IsNearest l page to (nearest l page to)
  unfolding nearest
  nearest_is [] = λ g m. Memᴰ.not-nil m
  nearest_is (q ∷ l) = joined page to l (q ∷ l) (frame_of page q) (nearest l page to) (joins_front page q l) (nearest_is l)

  nearest_only : (l : List Pair) (r s : Option ℕ) → IsNearest l page to r → IsNearest l page to s → r ≡ s
  nearest_only l (Some f) (Some g) a b =
      let p = a.none_nearer g b.of_page in
      let q = b.none_nearer f a.of_page in
      let t : distance to f ≡ distance to g = omega arith in
      let e : f ≡ g = omega (arith, a.lower_on_tie g b.of_page (sym t), b.lower_on_tie f a.of_page t) in
      ap Some e
  nearest_only l (Some f) None a b = absurd (b f a.of_page)
  nearest_only l None (Some g) a b = absurd (a g b.of_page)
  nearest_only l None None a b = refl

-- THE THEOREM: the call's frame is the nearest, and nothing else is
pub nearest_decided : NearestDecided
nearest_decided es page to = record { is_nearest = nearest_is page to es; nothing_else = λ r is. nearest_only page to es r (nearest es page to) is (nearest_is page to es) }

-- THE SEARCH, entry by entry
module _ (ps fs : List ℕ) (page to : ℕ) where
  abbrev nearest_of : ℕ → Option ℕ
  nearest_of n = nearest_among ps fs page to n

  nearest_next : (n : ℕ) → nearer to (frame_of page (entry ps fs n)) (nearest_of n) ≡ nearest_of (n + 1)
  nearest_next n =
      nearest_only page to more _ _ (joined page to (entries_of n ps fs) more (frame_of page (entry ps fs n)) (nearest_of n) (joins_end page (entry ps fs n) (entries_of n ps fs)) (nearest_is page to (entries_of n ps fs))) (nearest_is page to more) ∙ one_more
    where
      more : List Pair
      more = entries_of n ps fs ++ (entry ps fs n ∷ [])

      one_more : nearest more page to ≡ nearest_of (n + 1)
      one_more = rw add-one (ap (λ (x : List Pair). nearest x page to) (sym (entries_next ps fs n)))

  -- the turns: n entries are looked at, and r is the nearest of them
  module _ (n : ℕ) (r : Option ℕ) (so_far : r ≡ nearest_of n) where
    pub turn_of_page : (s : Option ℕ) → get_or ps n 0 ≡ page → s ≡ nearer to (Some (get_or fs n 0)) r → s ≡ nearest_of (n + 1)
    turn_of_page s e t =
        let here : frame_of page (entry ps fs n) ≡ Some (get_or fs n 0) = rw (eq-eqb _ _ e) in
        t ∙ (ap₂ (nearer to) (sym here) so_far ∙ nearest_next n)

    pub turn_of_other : (get_or ps n 0 ≡ page → ⊥) → r ≡ nearest_of (n + 1)
    turn_of_other o =
        let here : frame_of page (entry ps fs n) ≡ None = rw (ne_eqb _ _ o) in
        so_far ∙ (ap (λ (x : Option ℕ). nearer to x (nearest_of n)) (sym here) ∙ nearest_next n)

  -- entries of other pages are passed over
  other_passed : (n : ℕ) → OtherPage ps page n → nearest_of n ≡ nearest_of (suc n)
  other_passed n other = let e : n + 1 ≡ suc n = omega arith in turn_of_other n (nearest_of n) refl other ∙ ap nearest_of e

  -- a look at eight entries of other pages, n entries being looked at before
  pub look_passed : (n : ℕ) (r : Option ℕ) → r ≡ nearest_of n → All (OtherPage ps page) n (n + 8) → r ≡ nearest_of (n + 8)
  look_passed n r so_far others = so_far ∙ along nearest_of (OtherPage ps page) other_passed n 8 others

  pub none_yet : None ≡ nearest_of 0
  unfolding entries_of nearest
  none_yet = refl

-- THE CALL, by the answer that the code makes of what is found
module _ (capacity b page to : ℕ) (h : Header) (ps fs : List ℕ) where
  abbrev number_of : ℕ
  number_of = entries_refusal capacity b h (length ps) (length fs)

  pub nearest_refused : (r : Refusal) → number r ≡ number_of → EntriesCall (nearest_frame capacity b page to) h ps fs (refused (number r))
  unfolding nearest_frame
  nearest_refused r e = scan_refused capacity b (λ es. nearest es page to) h ps fs (number r) (sym e) (number_not_zero r)

  pub nearest_answers : 0 ≡ number_of → (r : Option ℕ) → r ≡ nearest (entries_of h.frame_index_len ps fs) page to → EntriesCall (nearest_frame capacity b page to) h ps fs (lookup_answer r)
  unfolding nearest_frame
  nearest_answers passed r found = scan_answers capacity b (λ es. nearest es page to) h ps fs (sym passed) r found
