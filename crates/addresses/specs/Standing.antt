-- Where a descent stands, and what it looks at there.
use Rattle.std.specs.Prelude.{◌≡◌, ℕ, ◌+◌, ◌*◌, ◌≤◌, cond, List, nat_lt}
use Rattle.nodes.specs.declared.node.Node.{Node}
use Rattle.tree.specs.Meaning.{Reached, Sound}

-- in a node that child bits reach from the root of a sound list, with so many bits of the key left
pub record Standing (ns : List Node) (at rest : ℕ) : Type 0 where
  pub width : ℕ
  pub values : ℕ
  pub sound : Sound width ns values
  pub narrow : width ≤ 64
  pub level : ℕ
  pub reached : Reached ns level at
  pub left : 5 * level + rest ≡ width

-- the tier of a data slot: tier l begins at 2^l - 1
unfoldable pub tier_of : ℕ → ℕ
tier_of b = cond (nat_lt b 1) 0 (cond (nat_lt b 3) 1 (cond (nat_lt b 7) 2 (cond (nat_lt b 15) 3 4)))
