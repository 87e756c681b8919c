use mathlib.Core.Path.{refl}
use Rattle.index_find.proofs.index.short_hash.Goals as goal

pub returns : goal.returns
returns c = refl
