use Rattle.std.proofs.Common.{◌≡◌, ◌*◌, min, refl, ◌∙◌, arith, rules}
use Rattle.list_gather.proofs.Gathering.{gathering_start, gathering_block, gathered_all}
use Rattle.list_gather.proofs.gather.Visible.gather.Goals as goal

pub loop-k-init : goal.loop-k-init
loop-k-init c =
    let all : c.args.self.now.count ≡ min c.args.self.now.count (4096 * c.div_ceil-k.result) = omega arith in
    record { same_list = refl; gathers = gathering_start _ _ _ _ _ all refl }

pub loop-k-preserved : goal.loop-k-preserved
loop-k-preserved c =
    let inv = c.loop-k.invariant in record {
      same_list = c.gather_block.ensures.0 ∙ inv.same_list;
      gathers = gathering_block _ _ _ _ _ _ _ _ _ _ _ (omega arith) (omega arith) inv.gathers c.gather_block.ensures.1;
    }

pub returns : goal.returns
returns c =
    let inv = c.loop-k.invariant in
    let none : min c.args.self.now.count (4096 * c.loop-k.k) ≡ 0 = omega arith in
    (omega (arith, inv.gathers.enough), gathered_all _ _ _ _ _ _ _ (search rules) refl none inv.gathers)
