-- The names of the operations.
use Rattle.std.specs.Prelude.{◌≡◌, ◌≢◌, ℕ, List, Result, Ok, Err, codes}
use Rattle.serve.specs.declared.op.Op.{Op}
use Rattle.serve.specs.declared.op.Op.TheVariants.{Acceptance, Exact, Longest, LongestValue, LongestValueChained, Shortest, Covered, CoveredWide, Count}
use Rattle.serve.specs.declared.op.UnknownOp.{UnknownOp}

abbrev pub name_of : Op → List ℕ
name_of Acceptance = codes "acceptance"
name_of Exact = codes "exact"
name_of Longest = codes "longest"
name_of LongestValue = codes "longest_value"
name_of LongestValueChained = codes "longest_value_chained"
name_of Shortest = codes "shortest"
name_of Covered = codes "covered"
name_of CoveredWide = codes "covered_wide"
name_of Count = codes "count"

-- a text is read as the operation that it names, and refused where it names none
abbrev pub Named : List ℕ → Result Op UnknownOp → Type 0
Named text (Ok op) = text ≡ name_of op
Named text (Err _) = (op : Op) → text ≢ name_of op
