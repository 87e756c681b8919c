use Rattle.std.proofs.Common.{◌≡◌, ◌∙◌, sym, length, min, rules, tests}
use Rattle.std.specs.List.{position}
use Rattle.std.proofs.lemmas.Iterator.{YieldsList-from_slice}
use Rattle.std.proofs.lemmas.Iterator.Search.{position_from_yields_List}
use Rattle.reader_marks.specs.InnerScan.{used}
use Rattle.reader_registry.proofs.Scan.{start, turn_found, turn_none, turn_passed}
use Rattle.reader_registry.proofs.first_used.Goals as goal

pub loop-k-init : goal.loop-k-init
loop-k-init g c =
    let made = c.into_iter-k-iterator.ensures.into_iter_gives in
    record {
      by_eight = rw (made, c.enumerate-k-items.ensures.source) c.chunks.ensures.size;
      answers = rw (made, c.enumerate-k-items.ensures.source, c.enumerate-k-items.ensures.count, c.chunks.ensures.rest) (start g.test c.args.records.now);
    }

pub loop-k-preserved-then-eight_empty : goal.loop-k-preserved-then-eight_empty
loop-k-preserved-then-eight_empty g c =
    let h = c.in-Some.ensures.steps in
    let long : length c.in-Some.part.now ≡ min 8 (length c.loop-k.k-iterator.iter.rest.now) = rw c.loop-k.invariant.by_eight at h.0.1.1 in
    record {
      by_eight = h.0.0 ∙ c.loop-k.invariant.by_eight;
      answers = rw h.2 (turn_passed g.test c.args.records.now c.loop-k.k-iterator.count _ c.loop-k.invariant.answers _ _ h.0.1.0 long (sym c.eight_empty.ensures ∙ c.if-eight_empty.true));
    }

pub returns-in-Some-position : goal.returns-in-Some-position
returns-in-Some-position g c =
    let h = c.in-Some.ensures.steps in
    let told : c.position.result ≡ position (used g.test) c.in-Some.part.now =
    position_from_yields_List (used g.test) _ _ c.position.result c.position.ensures.ran (YieldsList-from_slice _ c.iter.ensures.rest) (λ x b q k. search (rules, tests, c.requires.1.1)) in
    let long : length c.in-Some.part.now ≡ min 8 (length c.loop-k.k-iterator.iter.rest.now) = rw c.loop-k.invariant.by_eight at h.0.1.1 in
    rw h.1 (turn_found g.test c.args.records.now c.loop-k.k-iterator.count _ c.loop-k.invariant.answers _ _ h.0.1.0 long _ told _ c.in-Some-position.is)

pub loop-k-preserved : goal.loop-k-preserved
loop-k-preserved g c =
    let h = c.in-Some.ensures.steps in
    let told : c.position.result ≡ position (used g.test) c.in-Some.part.now =
    position_from_yields_List (used g.test) _ _ c.position.result c.position.ensures.ran (YieldsList-from_slice _ c.iter.ensures.rest) (λ x b q k. search (rules, tests, c.requires.1.1)) in
    let long : length c.in-Some.part.now ≡ min 8 (length c.loop-k.k-iterator.iter.rest.now) = rw c.loop-k.invariant.by_eight at h.0.1.1 in
    record {
      by_eight = h.0.0 ∙ c.loop-k.invariant.by_eight;
      answers = rw h.2 (turn_none g.test c.args.records.now c.loop-k.k-iterator.count _ c.loop-k.invariant.answers _ _ h.0.1.0 long _ told c.in_default.is);
    }
