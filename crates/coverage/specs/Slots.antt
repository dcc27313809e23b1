-- What the descents find: the addresses of a block, and of a data slot of a node.
use Rattle.std.specs.Prelude.{◌≡◌, ℕ, suc, ◌+◌, ◌-◌, ◌/◌, ◌^◌, ◌<◌, Bool, true, false, ◌&&◌, not, nat_lt, T, List, Some, None, Option, ◌==◌}
use Rattle.addresses.specs.Sizes.{size}
use Rattle.addresses.specs.Standing.{tier_of}
use Rattle.aggregate.specs.Halves.{full_range, under_set}
use Rattle.descent.specs.Way.{Ends, has}
use Rattle.descent.specs.declared.cursor.Cursor.{Cursor}
use Rattle.nodes.specs.Bitmaps.{bit}
use Rattle.nodes.specs.declared.node.Node.{Node}
use Rattle.register.specs.Register.{Slot}
use Rattle.slots.specs.Picks.{lowest}

-- data slot b of the node at
abbrev pub data_slot : ℕ → ℕ → Slot
data_slot at b = record { node = at; tier = tier_of b; path = b + 1 - 2 ^ tier_of b }

-- all addresses under it lie in entries at it or below, where the key has «rest» bits left at the node
abbrev pub slot_covered : List Node → ℕ → ℕ → ℕ → Bool
slot_covered ns at rest b = size (rest - tier_of b) ns (Some (data_slot at b)) == 2 ^ (rest - tier_of b)

-- child slot c lies in data slot b
abbrev pub in_slot : ℕ → ℕ → Bool
in_slot b c = c / 2 ^ (5 - tier_of b) == b + 1 - 2 ^ tier_of b

-- a set slot that is under no other, and a child that is under none
abbrev pub free_slot : Node → ℕ → Bool
free_slot n b = bit n.data_bitmap b && not (nat_lt b 31 && under_set n.data_bitmap b)

abbrev pub free_child : Node → ℕ → Bool
free_child n c = bit n.child_bitmap c && not (under_set n.data_bitmap (31 + c))

-- child c is there, lies in data slot b and is none of those under a set slot
abbrev pub needs_child : ℕ → ℕ → ℕ → ℕ → Bool
needs_child children under b c = (bit children c && in_slot b c) && not (bit under c)

-- each bit of x is one of y
abbrev pub BitsWithin : ℕ → ℕ → Type 0
BitsWithin x y = (c : ℕ) → c < 32 → T (bit x c) → T (bit y c)

-- the children that slot b needs covered to be covered, of those that are there: none if even all of them are not enough
unfoldable pub Needs : ℕ → ℕ → ℕ → Option ℕ → Type 0
Needs ds children b None = (cs : ℕ) → BitsWithin cs children → full_range ds cs b ≡ false
Needs ds children b (Some needed) =
    BitsWithin needed children
    × ((cs : ℕ) → BitsWithin cs children → BitsWithin needed cs → full_range ds cs b ≡ true)
    × ((cs : ℕ) → full_range ds cs b ≡ true → BitsWithin needed cs)

-- the way ends in the cursor's node, and none of the key's first bits has a value
abbrev pub Ended : Cursor → Type 0
Ended c =
    Ends c.query.key.width c.query.nodes.now c.query.key.bits c.query.len c.depth
    × (lowest (suc c.query.len) (has c.query.key.width c.query.nodes.now c.query.key.bits) ≡ None)
