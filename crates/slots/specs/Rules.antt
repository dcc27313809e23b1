-- The rule that each table follows.
use Rattle.std.specs.Prelude.{ℕ, Bool}
use Rattle.slots.specs.Masks.{child_under, data_under, on_path}
use Rattle.slots.specs.declared.mask.Rule.{Rule}
use Rattle.slots.specs.declared.mask.Rule.TheVariants.{OnPath, DataUnder, ChildUnder}

abbrev pub rule_of : Rule → ℕ → ℕ → ℕ → Bool
rule_of OnPath = on_path
rule_of DataUnder = data_under
rule_of ChildUnder = child_under
