-- What was counted is of the image of the same lists.
use Rattle.std.proofs.Common.{rules}
use Rattle.judge.proofs.count_accepted.Goals as goal

pub returns : goal.returns
returns g c =
    (search rules, rw (c.new.ensures.width, c.new.ensures.nodes, c.new.ensures.values) at c.address_count.ensures.count)
