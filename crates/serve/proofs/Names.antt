-- A text that is none of the nine names is that of no operation.
use Rattle.std.proofs.Common.{◌≢◌, ℕ, List}
use Rattle.std.specs.Prelude.{codes}
use Rattle.serve.specs.Ops.{name_of}
use Rattle.serve.specs.declared.op.Op.{Op}
use Rattle.serve.specs.declared.op.Op.TheVariants.{Acceptance, Exact, Longest, LongestValue, LongestValueChained, Shortest, Covered, CoveredWide, Count}

pub no_operation : (text : List ℕ) → text ≢ codes "acceptance" → text ≢ codes "exact" → text ≢ codes "longest" → text ≢ codes "longest_value" → text ≢ codes "longest_value_chained" → text ≢ codes "shortest" → text ≢ codes "covered" → text ≢ codes "covered_wide" → text ≢ codes "count" → (op : Op) → text ≢ name_of op
no_operation text a b c d e f g h i Acceptance = a
no_operation text a b c d e f g h i Exact = b
no_operation text a b c d e f g h i Longest = c
no_operation text a b c d e f g h i LongestValue = d
no_operation text a b c d e f g h i LongestValueChained = e
no_operation text a b c d e f g h i Shortest = f
no_operation text a b c d e f g h i Covered = g
no_operation text a b c d e f g h i CoveredWide = h
no_operation text a b c d e f g h i Count = i
