use Rattle.std.proofs.Common.{◌≡◌, ◌≤◌, ◌++◌, take, vec_items, vec_capacity}
use Rattle.std.specs.List.{flat_map}
use Rattle.sheet.specs.Columns.{column}
use Rattle.sheet.proofs.line.push_row.Given as goal

abbrev pub invariant-loop-n : goal.invariant-loop-n
invariant-loop-n l =
    (vec_items l.out ≡ vec_items l.initial.out ++ flat_map column (take l.n-index l.columns))
    × (vec_capacity l.initial.out ≤ vec_capacity l.out)
