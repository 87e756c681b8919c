use Rattle.std.proofs.Common.{◌≡◌, ◌+◌, ◌-◌, ◌*◌, false, get_or, refl, arith, ◌∙◌}
use Rattle.std.proofs.Math.ListN.{get_or-replicate}
use Rattle.list_gather.specs.Named.{named}
use Rattle.list_gather.proofs.SeenValues.{named_if_seen}
use Rattle.list_gather.proofs.Gathering.{gathering_none, gathering_named, gathering_unnamed, gathering_end}
use Rattle.list_gather.proofs.gather.Gathered.gather_block.Goals.{In-loop-n}
use Rattle.list_gather.proofs.gather.Gathered.gather_block.Goals as goal

-- what is noted of an entry says whether it is named
named_here : (c : In-loop-n) → named c.args.visible.now.hash.now (c.loop-n.n - 1) ≡ get_or c.note_cells.new.seen (c.loop-n.n - 1 - 4096 * c.args.k + 1) false
named_here c = named_if_seen _ _ _ c.args.k c.block_hash.ensures c.note_cells.ensures (c.loop-n.n - 1) (omega arith) (omega arith)

pub note_cells-requires : goal.note_cells-requires
note_cells-requires c = λ v b. get_or-replicate 4097 v _ _ b

pub loop-n-init : goal.loop-n-init
loop-n-init c = record { in_block = omega arith; same_list = refl; gathers = gathering_none _ _ _ _ _ _ refl refl c.requires.1.1 }

pub loop-n-preserved-then-noted : goal.loop-n-preserved-then-noted
loop-n-preserved-then-noted c =
    let inv = c.loop-n.invariant in
    let m = named_here (goal.at.loop-n-preserved-then-noted c).In-loop-n ∙ c.if-noted.true in record {
      in_block = omega arith;
      same_list = c.put.ensures.0 ∙ inv.same_list;
      gathers = gathering_named _ _ _ _ _ _ _ _ (omega arith) m inv.gathers (c.put.ensures.1.1 _);
    }

pub loop-n-preserved : goal.loop-n-preserved
loop-n-preserved c =
    let inv = c.loop-n.invariant in
    let m = named_here (goal.at.loop-n-preserved c).In-loop-n ∙ c.if-noted.false in record {
      in_block = omega arith;
      same_list = inv.same_list;
      gathers = gathering_unnamed _ _ _ _ _ _ _ (omega arith) m inv.gathers;
    }

pub returns : goal.returns
returns c =
    let inv = c.loop-n.invariant in
    (inv.same_list, gathering_end _ _ _ _ _ c.loop-n.n _ _ c.min-end.ensures (omega arith) inv.gathers)
