use Rattle.std.proofs.Common.{arith, length-take}
use Rattle.list_latest.proofs.listing.Listing.write_pairs.Goals as goal

-- by arithmetic, which names the numbers at which a wrong test fails
pub write_pairs-requires : goal.write_pairs-requires
write_pairs-requires c = let t = length-take c.latest_entries-count.result c.latest_entries-count.new.spare in (omega arith, omega arith)
