-- One turn of each loop. Assumes nothing.
use Rattle.std.proofs.Common.{◌≡◌, ℕ, suc, ◌+◌, ◌<◌, ◌≤◌, List, [], ◌∷◌, ◌++◌, map, length, get_or, take, drop, set, sym, ◌∙◌, append_assoc, append-nil, add-one, arith}
use Rattle.std.proofs.lemmas.List.{map-append}
use Rattle.std.proofs.Math.ListN.{length-map, drop_of_length-le}
use Rattle.std.proofs.Math.Seq.{drop-cons, take-suc, set_at, length-take-le, take-length}
use Rattle.list_choose.specs.declared.choose.Chosen.{Chosen}
use Rattle.list_choose.specs.InnerChosen.{chosen}
use Rattle.list_choose.specs.Chosen.{in_bounds, firsts_after, firsts}
use Rattle.list_choose.proofs.Chosen.{firsts_nil, firsts_of_none, firsts_skip, firsts_take, firsts_of_first, bounds_next, bounds_nil}

-- Chosen: what is chosen, with what the rest gives, is what the whole gives.
unfoldable pub Chooses : List ℕ → List ℕ → ℕ → ℕ → List ℕ → ℕ → List ℕ → List ℕ → Type 0
Chooses pages frames low high rest last l whole = l ++ in_bounds frames low high (firsts_after pages last rest) ≡ whole

module _ (pages frames : List ℕ) (low high : ℕ) where
  -- nothing to choose from
  pub chooses_none : (list : List ℕ) → length list ≡ 0 → [] ≡ in_bounds frames low high (firsts pages list)
  chooses_none [] e = rw (firsts_of_none pages) (sym (bounds_nil frames low high))
  chooses_none (t ∷ rest) e = absurd (omega arith)

  -- the first entry is chosen
  pub chooses_first : (list : List ℕ) (e last : ℕ) (rest l : List ℕ) → list ≡ e ∷ rest → last ≡ get_or pages e 0 → l ≡ in_bounds frames low high (e ∷ []) → Chooses pages frames low high rest last l (in_bounds frames low high (firsts pages list))
  unfolding Chooses
  chooses_first list e last rest l p q r = rw (p, q, r, firsts_of_first pages e rest) (sym (bounds_next frames low high e (firsts_after pages (get_or pages e 0) rest)))

  module _ (list : List ℕ) (i last : ℕ) (l whole : List ℕ) (so_far : Chooses pages frames low high (drop i list) last l whole) where
    -- nothing is left
    pub chooses_all : length list ≤ i → l ≡ whole
    unfolding Chooses
    chooses_all b = rw (drop_of_length-le list b, firsts_nil pages last, bounds_nil frames low high, append-nil) at so_far

    module _ (b : i < length list) (page : ℕ) (its : page ≡ get_or pages (get_or list i 0) 0) where
      next : drop i list ≡ get_or list i 0 ∷ drop (i + 1) list
      next = rw add-one (drop-cons list i 0 b)

      -- the page of the one before
      pub chooses_skip : page ≡ last → Chooses pages frames low high (drop (i + 1) list) last l whole
      unfolding Chooses
      chooses_skip e = rw (next, firsts_skip pages last (get_or list i 0) (drop (i + 1) list) (sym its ∙ e)) at so_far

      -- another page
      pub chooses_take : (more : List ℕ) → more ≡ l ++ in_bounds frames low high (get_or list i 0 ∷ []) → (page ≡ last → ⊥) → Chooses pages frames low high (drop (i + 1) list) page more whole
      unfolding Chooses
      chooses_take more n e =
          rw (n, append_assoc, its)
          (rw (next, firsts_take pages last (get_or list i 0) (drop (i + 1) list) (λ p. e (its ∙ p)), bounds_next frames low high (get_or list i 0) (firsts_after pages (get_or pages (get_or list i 0) 0) (drop (i + 1) list))) at so_far)

-- what is chosen is in the list that is given back
pub chosen_back : (c : Chosen) (l whole : List ℕ) → l ≡ c.list.now → chosen c ≡ whole → take c.count l ≡ whole
chosen_back c l whole e h = rw e h

-- Written: the values of the first i entries in the first cells.
pub written_next : (f : ℕ → ℕ) (entries old new : List ℕ) (i : ℕ) → i < length entries → i < length old → new ≡ map f (take i entries) ++ drop i old → set new i (f (get_or entries i 0)) ≡ map f (take (i + 1) entries) ++ drop (i + 1) old
written_next f entries old new i a b e =
    rw (e, add-one, drop-cons old i 0 b, take-suc entries i 0 a)
    (set_at (map f (take i entries)) (get_or old i 0) (drop (suc i) old) (f (get_or entries i 0)) i (length-map (take i entries) f ∙ length-take-le i entries (omega arith))
    ∙ simp (map-append, append_assoc))

pub written_all : (f : ℕ → ℕ) (entries old new : List ℕ) (i : ℕ) → i ≡ length entries → new ≡ map f (take i entries) ++ drop i old → new ≡ map f entries ++ drop (length entries) old
written_all f entries old new i a e = e ∙ rw (a, take-length entries)
