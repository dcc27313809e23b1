-- The numbers of each kind of line of a sheet.
use Rattle.std.specs.Prelude.{ℕ, List, [], ◌∷◌}
use Rattle.nodes.specs.Numbers.{numbers_of}
use Rattle.nodes.specs.declared.node.Node.{Node}
use Rattle.sheet.specs.declared.head.Head.{Head}
use Rattle.sheet.specs.Limits.{AreWithinLimits}

abbrev pub head_numbers : Head → List ℕ
head_numbers h = h.width ∷ h.nodes ∷ h.values ∷ []

abbrev pub node_numbers : Node → List ℕ
node_numbers n = numbers_of n

abbrev pub value_numbers : ℕ → List ℕ
value_numbers v = v ∷ []

-- a head within the limits
abbrev pub IsAllowedHead : Head → Type 0
IsAllowedHead h = AreWithinLimits h.width h.nodes h.values
