use Rattle.std.proofs.Common.{refl, ◌∙◌, arith, rules}
use Rattle.list_choose.proofs.Turns.{chooses_none, chooses_first, chooses_skip, chooses_take, chooses_all, chosen_back}
use Rattle.list_choose.proofs.choose.choose.Goals as goal

pub loop-entry-init : goal.loop-entry-init
loop-entry-init c =
    let e = c.in-Some.ensures.cases in record {
      same_list = (refl, refl);
      room = omega arith;
      chooses = chooses_first _ _ _ _ _ _ _ _ _ e.0 c.cell_of-last.ensures c.put.ensures.1.1;
    }

pub loop-entry-preserved-then-page-last : goal.loop-entry-preserved-then-page-last
loop-entry-preserved-then-page-last c =
    let inv = c.loop-entry.invariant in record {
      same_list = inv.same_list;
      room = omega arith;
      chooses = chooses_skip _ _ _ _ _ _ _ _ _ inv.chooses c.loop-entry-test.true _ c.cell_of-page.ensures c.if-page-last.true;
    }

pub loop-entry-preserved : goal.loop-entry-preserved
loop-entry-preserved c =
    let inv = c.loop-entry.invariant in
    let p = c.put-in-loop-entry.ensures in record {
      same_list = (p.0.0 ∙ inv.same_list.0, p.0.1 ∙ inv.same_list.1);
      room = omega arith;
      chooses = chooses_take _ _ _ _ _ _ _ _ _ inv.chooses c.loop-entry-test.true _ c.cell_of-page.ensures _ p.1.1 c.if-page-last.false;
    }

pub returns-in_default : goal.returns-in_default
returns-in_default c = (omega arith, chooses_none _ _ _ _ _ c.in_default.ensures.cases)

pub returns : goal.returns
returns c =
    let e = c.in-Some.ensures.cases.1 in
    let inv = c.loop-entry.invariant in
    let same = inv.same_list.0 ∙ c.put.ensures.0.0 in
    (omega arith, chosen_back c.loop-entry.chosen _ _ (search rules) (chooses_all _ _ _ _ c.in-Some.rest.now _ _ _ _ inv.chooses (omega arith)))
