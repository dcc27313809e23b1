-- A reader's words for what an image has: the width of its keys in bits, its nodes and its values.
use Rattle.std.specs.Prelude.{ℕ, List}
use Rattle.nodes.specs.declared.node.Node.{Node}
use Rattle.accept.specs.declared.image.Image.{Image}

abbrev pub width_of : {T : Type 0} → Image T → ℕ
width_of i = i.width

abbrev pub nodes_of : {T : Type 0} → Image T → List Node
nodes_of i = i.nodes.now

abbrev pub values_of : {T : Type 0} → Image T → List T
values_of i = i.values.now
