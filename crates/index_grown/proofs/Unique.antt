-- There is one list of the latest frames, and it goes by the greatest frames alone. Assumes nothing.
use mathlib.Core.Path.{◌≡◌, refl, sym, ◌∙◌, ap, ap₂}
use mathlib.Core.List.Memᴰ
use mathlib.Core.List.{List, [], ◌∷◌, Memᴰ}
use mathlib.Core.Logic.{inl, inr}
use Prim.Native.Nat.{ℕ, ◌+◌, ◌≤◌}
use native.Mathlib.Omega.{arith}
use Rattle.wal_types.specs.Call.{Pair}
use Rattle.index_grown.specs.Entries.{greatest}
use Rattle.index_grown.specs.Listed.{PagesRise, IsListOf}

-- a member's page is not below the first
rise_least : (least : ℕ) (l : List Pair) → PagesRise least l → (q : Pair) → Memᴰ q l → least ≤ q.page
rise_least least [] r q m = absurd (Memᴰ.not-nil m)
rise_least least (p ∷ l) r q m =
    elim (Memᴰ.cases_cons m) [
      | inl e ↦ let s : q.page ≡ p.page = ap (λ (x : Pair). x.page) e in omega (arith, r.0)
      | inr t ↦ omega (arith, r.0, rise_least (p.page + 1) l r.1 q t)
    ]

-- each pair of the one list is in the other
abbrev pub Within : List Pair → List Pair → Type 0
Within a b = (q : Pair) → Memᴰ q a → Memᴰ q b

-- two lists that rise by page and have the same pairs are equal
pub rise_equal : (least least' : ℕ) (a b : List Pair) → PagesRise least a → PagesRise least' b → Within a b → Within b a → a ≡ b
rise_equal least least' [] [] r s f g = refl
rise_equal least least' [] (q ∷ b) r s f g = absurd (Memᴰ.not-nil (g q (Memᴰ.head refl)))
rise_equal least least' (p ∷ a) [] r s f g = absurd (Memᴰ.not-nil (f p (Memᴰ.head refl)))
rise_equal least least' (p ∷ a) (q ∷ b) r s f g =
    ap₂ (λ (x : Pair) (y : List Pair). x ∷ y) same (rise_equal (p.page + 1) (q.page + 1) a b r.1 s.1 (rest p q a b same r.1 f) (rest q p b a (sym same) s.1 g))
  where
    same : p ≡ q
    same =
        elim (Memᴰ.cases_cons (f p (Memᴰ.head refl))) [
          | inl e ↦ e
          | inr m ↦ elim (Memᴰ.cases_cons (g q (Memᴰ.head refl))) [
            | inl e ↦ sym e
            | inr n ↦ absurd (omega (arith, rise_least (q.page + 1) b s.1 p m, rise_least (p.page + 1) a r.1 q n))
          ]
        ]

    rest : (p q : Pair) (a b : List Pair) → p ≡ q → PagesRise (p.page + 1) a → Within (p ∷ a) (q ∷ b) → Within a b
    rest p q a b e r f x m =
        elim (Memᴰ.cases_cons (f x (Memᴰ.tail m))) [
          | inl i ↦ let s : x.page ≡ p.page = ap (λ (y : Pair). y.page) (i ∙ sym e) in absurd (omega (arith, rise_least (p.page + 1) a r x m))
          | inr t ↦ t
        ]

module _ (es : List Pair) (low high : ℕ) where
  -- ONE LIST: two lists of the same entries are equal
  pub listed_once : (a b : List Pair) → IsListOf es low high a → IsListOf es low high b → a ≡ b
  listed_once a b f g =
      rise_equal 0 0 a b f.rises g.rises (λ q m. g.every q.page q.frame (f.only q.page q.frame m)) (λ q m. f.every q.page q.frame (g.only q.page q.frame m))

  -- where the greatest frames are the same, so is the list
  pub listed_same : (es' l : List Pair) → ((page : ℕ) → greatest es' page low high ≡ greatest es page low high) → IsListOf es low high l → IsListOf es' low high l
  listed_same es' l same f =
      record { rises = f.rises; only = λ page g m. same page ∙ f.only page g m; every = λ page g e. f.every page g (sym (same page) ∙ e) }
