use Rattle.sheet.specs.Columns.{FollowsLines}
use Rattle.sheet.proofs.line.skip_lines.Given as goal

abbrev pub invariant-loop : goal.invariant-loop
invariant-loop g l = FollowsLines g.L.Line.numbers l.counter l.text l.rest
