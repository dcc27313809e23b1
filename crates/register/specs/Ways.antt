-- Where a key leads, bit by bit: the slots on its way through the nodes.
use Rattle.std.specs.Prelude.{ℕ, zero, suc, ◌%◌, ◌^◌, List, Some, Option}
use Rattle.keys.specs.Blocks.{first_bits}
use Rattle.nodes.specs.declared.node.Node.{Node}
use Rattle.register.specs.Register.{Slot, root, step_slot}

-- bit n of the key, from its first
abbrev pub key_bit : ℕ → ℕ → ℕ → ℕ
key_bit w n key = first_bits w (suc n) key % 2

-- where the first n bits of the key lead
abbrev pub slot_at : ℕ → List Node → ℕ → ℕ → Option Slot
slot_at w ns key zero = Some root
slot_at w ns key (suc n) = step_slot ns (key_bit w n key) (slot_at w ns key n)

-- the slot of node i, at this tier, that the key's first n bits end in
abbrev pub slot_of : ℕ → ℕ → ℕ → ℕ → ℕ → Slot
slot_of w key n i tier = record { node = i; tier = tier; path = first_bits w n key % 2 ^ tier }
