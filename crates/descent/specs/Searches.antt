-- A search and its cursor as plain data.
use Rattle.std.specs.Prelude.{ℕ, ◌+◌, List, Option}
use Rattle.std.specs.Option.{option_map}
use Rattle.accept.specs.Images.{nodes_of, width_of}
use Rattle.accept.specs.declared.image.Image.{Image}
use Rattle.nodes.specs.declared.node.Node.{Node}
use Rattle.descent.specs.Way.{slot_within}
use Rattle.descent.specs.declared.cursor.Cursor.{Cursor}
use Rattle.descent.specs.declared.sought.Search.{Search}

-- in these nodes, the first len bits of this key of so many bits
pub record Sought : Type 0 where
  pub nodes : List Node
  pub width : ℕ
  pub key : ℕ
  pub len : ℕ

abbrev pub sought_by : Search → Sought
sought_by s = record { nodes = s.nodes.now; width = s.key.width; key = s.key.bits; len = s.len }

-- the first n bits of a key of the image's
abbrev pub sought_in : {T : Type 0} → Image T → ℕ → ℕ → Sought
sought_in i key n = record { nodes = nodes_of i; width = width_of i; key = key; len = n }

-- a cursor by its search, its node and its depth
abbrev pub cursor_data : Cursor → Search × ℕ × ℕ
cursor_data c = (c.query, c.at, c.depth)

-- one node further, where the key's next five bits are within the length and have led to a node
abbrev pub child_data : Cursor → Option (Search × ℕ × ℕ)
child_data c =
    option_map (λ s. (c.query, s.node, c.depth + 5))
    (slot_within c.query.key.width c.query.nodes.now c.query.key.bits c.query.len (c.depth + 5))
