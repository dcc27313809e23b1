-- How many addresses under a slot lie in a block of a set slot, that slot or a deeper one, bit by bit: what the descents are proved to find.
use Rattle.std.specs.Prelude.{ℕ, zero, suc, ◌+◌, ◌^◌, Bool, cond, List, Some, None, Option}
use Rattle.nodes.specs.Bitmaps.{bit}
use Rattle.nodes.specs.declared.node.Node.{Node}
use Rattle.tree.specs.Levels.{node_at}
use Rattle.register.specs.Register.{Slot, next_slot, slot_bit}

-- the slot's data bit is set
abbrev pub set_at : List Node → Slot → Bool
set_at ns s = bit (node_at ns s.node).data_bitmap (slot_bit s)

-- r bits of the key are left: a set slot has them all, and another those of its two halves
abbrev pub size : ℕ → List Node → Option Slot → ℕ
size zero ns None = 0
size (suc r) ns None = 0
size zero ns (Some s) = cond (set_at ns s) 1 0
size (suc r) ns (Some s) = cond (set_at ns s) (2 ^ suc r) (size r ns (next_slot ns 0 s) + size r ns (next_slot ns 1 s))
