use Rattle.std.proofs.Common.{◌≡◌, ◌++◌, vec_items}
use Rattle.sheet.specs.Columns.{AreRows, lines}
use Rattle.sheet.proofs.reading.take_lines.Given as goal

abbrev pub invariant-loop : goal.invariant-loop
invariant-loop g l =
    AreRows g.L.Line.numbers l.counter (vec_items l.items) × (l.text ≡ lines g.L.Line.numbers (vec_items l.items) ++ l.rest)
