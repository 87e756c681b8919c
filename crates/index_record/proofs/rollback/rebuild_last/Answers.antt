use Rattle.index_find.proofs.Blocks.{built_part}
use Rattle.index_record.proofs.rollback.rebuild_last.Goals as goal

pub returns : goal.returns
returns c = rw (c.rebuild_block.ensures, built_part c.args.n c.args.pages.now c.requires.1)
