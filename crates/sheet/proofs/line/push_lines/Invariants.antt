use Rattle.std.proofs.Common.{◌≡◌, ◌≤◌, ◌++◌, take, vec_items, vec_capacity}
use Rattle.sheet.specs.Columns.{FitsLines, lines}
use Rattle.sheet.proofs.line.push_lines.Given as goal

abbrev pub invariant-loop-x : goal.invariant-loop-x
invariant-loop-x g l =
    FitsLines g.L.Line.numbers (take l.x-index l.xs)
    × (vec_items l.out ≡ vec_items l.initial.out ++ lines g.L.Line.numbers (take l.x-index l.xs))
    × (vec_capacity l.initial.out ≤ vec_capacity l.out)
