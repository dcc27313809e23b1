-- The images of the examples, all with keys of 8 bits.
use Rattle.std.specs.Prelude.{ℕ, List, [], ◌∷◌}
use Rattle.nodes.specs.declared.node.Node.{Node}

abbrev pub node : ℕ → ℕ → ℕ → ℕ → Node
node a b c d = record { data_bitmap = a; child_bitmap = b; data_idx = c; children_idx = d }

-- six blocks in two nodes
abbrev pub image_s : List Node
image_s = node 66 4194304 0 1 ∷ node 24610 0 2 2 ∷ []

-- the whole key space and its lower half
abbrev pub image_z : List Node
image_z = node 3 0 0 1 ∷ []

-- an empty root, and a node that nothing reaches
abbrev pub image_o : List Node
image_o = node 0 0 0 1 ∷ node 1 1 0 1 ∷ []

abbrev pub root : List Node
root = node 0 0 0 1 ∷ []
