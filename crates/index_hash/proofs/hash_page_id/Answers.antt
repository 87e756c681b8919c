-- The home is that of the page's remainder.
use Rattle.index_hash.proofs.Home.{home_of_remainder}
use native.Mathlib.Omega.{arith}
use Rattle.index_hash.proofs.hash_page_id.Goals as goal

pub returns : goal.returns
returns c = (home_of_remainder c.args.page_id, omega arith)
