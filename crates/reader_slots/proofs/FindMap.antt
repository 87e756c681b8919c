-- `find_map` over the numbers from 0 on, by what the closure answers. Assumes nothing.
use mathlib.Core.Path.{◌≡◌, ap, ◌∙◌}
use Prim.Native.Nat.{ℕ, ◌+◌, ◌<◌}
use native.Mathlib.Omega.{arith}
use denote.Param.Members.{Mut}
use Rattle.std.specs.Prelude.{Option, Some, None, IsTrue}
use Rattle.std.specs.Fn.{Called}
use Rattle.std.specs.Option.{MatchOption, IsSomeAnd, IfSome, option_map}
use Rattle.std.specs.Iterator.Runs.{Run, SomeRun, AllItemsGive, IsFirstToGive, CallKeepsClosure}
use Rattle.std.proofs.iter.Yields.{nat_range_steps}
use Rattle.std.proofs.iter.runs.Sources.{range_runs}

-- the first answer of those for 0, 1 .. below the total, if there is one
abbrev pub First : (ℕ → Option ℕ) → ℕ → Option ℕ → Type 0
First answers total None = (k : ℕ) → k < total → None ≡ answers k
First answers total (Some y) = (i : ℕ) × (i < total) × (Some y ≡ answers i) × ((k : ℕ) → k < i → None ≡ answers k)

module _ {F : Type 0} (g : Mut F (ℕ × Unit {0}) (Option ℕ)) (f : F) (answers : ℕ → Option ℕ) (told : (x : ℕ) (b : Option ℕ) (q : F) → Called g f (x, tt) b q → (q ≡ f) × (b ≡ answers x)) where
  keeps : CallKeepsClosure g f
  keeps a b q c = (told a.0 b q c).0

  module _ (p : Run nat_range_steps) (start : p.from.start ≡ 0) where
    -- the number at place k is k
    here : (k : ℕ) → k < p.len → option_map (λ y. y) (p.at k) ≡ Some k
    here k l = (range_runs p p.seen).3 k l ∙ ap Some (omega arith)

    given_some : (k : ℕ) (b : Option ℕ) → k < p.len → IsSomeAnd (p.at k) (λ x. Called g f (x, tt) b f) → b ≡ answers k
    given_some k b l c = go (p.at k) (here k l) c
      where
        go : (o : Option ℕ) → option_map (λ y. y) o ≡ Some k → IsSomeAnd o (λ x. Called g f (x, tt) b f) → b ≡ answers k
        go None e c = absurd c
        go (Some x) e c = let same : x ≡ k = cc in rw (← same) (told x b f c).1

    given_if : (k : ℕ) (b : Option ℕ) → k < p.len → IfSome (p.at k) (λ x. Called g f (x, tt) b f) → b ≡ answers k
    given_if k b l c = go (p.at k) (here k l) c
      where
        go : (o : Option ℕ) → option_map (λ y. y) o ≡ Some k → IfSome o (λ x. Called g f (x, tt) b f) → b ≡ answers k
        go None e c = cc
        go (Some x) e c = let same : x ≡ k = cc in rw (← same) (told x b f c).1

  pub first_answer : (total : ℕ) (r : Option ℕ) →
      SomeRun nat_range_steps (record { start = 0; end = total }) (λ p. MatchOption r (IsTrue p.whole × AllItemsGive p g f None) (λ y. (i : ℕ) × (i < p.len) × (p.len ≡ i + 1) × IsFirstToGive p g f (Some y) None i)) →
      First answers total r
  first_answer total None (p, from, h) = all
    where
      start : p.from.start ≡ 0
      start = rw from

      all : (k : ℕ) → k < total → None ≡ answers k
      all k l = let n = (range_runs p p.seen).1 h.0 in let e : p.from.end ≡ total = rw from in let z = start in given_if p start k None (omega arith) (h.1 keeps k)
  first_answer total (Some y) (p, from, h) = at h
    where
      start : p.from.start ≡ 0
      start = rw from

      at : (i : ℕ) × (i < p.len) × (p.len ≡ i + 1) × IsFirstToGive p g f (Some y) None i → First answers total (Some y)
      at (i, below, last, it) =
          let most = (range_runs p p.seen).0 in let e : p.from.end ≡ total = rw from in let z = start in
          (i, omega arith, given_some p start i (Some y) below (it keeps).0, λ k l. given_some p start k None (omega arith) ((it keeps).1 k l))
