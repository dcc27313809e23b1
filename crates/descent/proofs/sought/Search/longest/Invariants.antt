use Rattle.std.proofs.Common.{◌≡◌, ◌+◌, ◌-◌}
use Rattle.descent.proofs.Ways.{last_below}
use Rattle.descent.proofs.sought.Search.longest.Given as goal

abbrev pub invariant-loop-next : goal.invariant-loop-next
invariant-loop-next l = (l.cursor.query ≡ l.self) × (l.best ≡ last_below l.cursor.query l.cursor.depth)

abbrev pub decreases-loop-next : goal.decreases-loop-next
decreases-loop-next l = l.self.len + 1 - l.cursor.depth
