use Rattle.std.proofs.Common.{◌≡◌, rules}
use Rattle.std.specs.Range.{range_inclusive_start, range_inclusive_end}
use Rattle.list_choose.proofs.choose.FrameBounds.has.Goals as goal

-- the ends of the range are the bounds: where one is not, the refusal names it
pub returns : goal.returns
returns c =
    let low : range_inclusive_start c.new.result ≡ c.args.self.now.min_frame = c.new.ensures.start in
    let high : range_inclusive_end c.new.result ≡ c.args.self.now.max_frame = c.new.ensures.end in
    search rules
