use Rattle.std.proofs.Common.{◌≡◌, ◌/◌, ◌^◌, length, take, reverse}
use Rattle.sheet.specs.Columns.{marks}
use Rattle.sheet.proofs.column.format_column.Given as goal

abbrev pub invariant-loop-j : goal.invariant-loop-j
invariant-loop-j l = (l.rest ≡ l.n / 10 ^ l.j) × (length l.place-items ≡ 11) × (reverse (take l.j l.place-items) ≡ marks l.j l.n)
