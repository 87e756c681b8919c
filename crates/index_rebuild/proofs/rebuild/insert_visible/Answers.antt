-- At first nothing is inserted.
use Rattle.index_hash.proofs.Built.{built_none}
use mathlib.Core.Path.{sym, ◌∙◌}
use Rattle.index_rebuild.proofs.rebuild.insert_visible.Goals as goal

pub invariant_of-rebuild-clause-inserted : goal.invariant_of-rebuild-clause-inserted
invariant_of-rebuild-clause-inserted c = c.requires.1 ∙ sym (built_none c.args.pages.now)

pub invariant_of-rebuild-2-clause-inserted : goal.invariant_of-rebuild-2-clause-inserted
invariant_of-rebuild-2-clause-inserted c = c.requires.1 ∙ sym (built_none c.args.pages.now)
