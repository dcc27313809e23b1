-- No entry was met on the way so far.
use Rattle.std.proofs.Common.{◌≡◌, ◌+◌, ◌-◌}
use Rattle.descent.proofs.Ways.{none_below}
use Rattle.coverage.proofs.block.block_covered.Given as goal

abbrev pub invariant-loop-cursor : goal.invariant-loop-cursor
invariant-loop-cursor l = (l.cursor.query ≡ l.query) × none_below l.cursor.query l.cursor.depth

abbrev pub decreases-loop-cursor : goal.decreases-loop-cursor
decreases-loop-cursor l = l.query.len + 1 - l.cursor.depth
