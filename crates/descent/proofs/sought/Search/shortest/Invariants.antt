use Rattle.std.proofs.Common.{◌≡◌, ◌+◌, ◌-◌}
use Rattle.descent.proofs.Ways.{none_below}
use Rattle.descent.proofs.sought.Search.shortest.Given as goal

abbrev pub invariant-loop-hit : goal.invariant-loop-hit
invariant-loop-hit l = (l.cursor.query ≡ l.self) × none_below l.cursor.query l.cursor.depth

abbrev pub decreases-loop-hit : goal.decreases-loop-hit
decreases-loop-hit l = l.self.len + 1 - l.cursor.depth
