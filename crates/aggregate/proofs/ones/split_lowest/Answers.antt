-- Zero has no lowest set bit.
use Rattle.aggregate.proofs.Lowest.{none_split}
use Rattle.aggregate.proofs.ones.split_lowest.Goals as goal

pub returns-then-bits-eq0 : goal.returns-then-bits-eq0
returns-then-bits-eq0 c = none_split c.args.bits c.if-bits-eq0.true
