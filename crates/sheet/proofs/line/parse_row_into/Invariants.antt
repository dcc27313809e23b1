use Rattle.std.proofs.Common.{◌≡◌, ◌++◌, length, take, drop}
use Rattle.std.specs.List.{flat_map}
use Rattle.sheet.specs.Columns.{column, FitsLine}
use Rattle.sheet.proofs.line.parse_row_into.Given as goal

abbrev pub invariant-loop-n : goal.invariant-loop-n
invariant-loop-n l =
    (length l.columns ≡ length l.initial.columns) × FitsLine (take l.n-index l.columns) × (l.text ≡ flat_map column (take l.n-index l.columns) ++ l.rest)
    × (drop l.n-index l.columns ≡ drop l.n-index l.initial.columns)
