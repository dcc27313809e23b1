-- The way of a key through a node list: where its first bits lead, and what stands there.
use Rattle.std.specs.Prelude.{cond, nat_le, ◌≡◌, ℕ, suc, ◌+◌, ◌-◌, ◌%◌, ◌≤◌, min, Bool, true, ◌&&◌, List, is_some, Some, None, Option}
use Rattle.std.specs.Option.{option_and_then, option_map}
use Rattle.keys.specs.Blocks.{Block, block_of}
use Rattle.nodes.specs.Bitmaps.{bit}
use Rattle.nodes.specs.declared.node.Node.{Node}
use Rattle.register.specs.Register.{Slot, node_slot, value_place}
use Rattle.register.specs.Ways.{slot_at}
use Rattle.slots.specs.Masks.{mask, next_four, on_path}
use Rattle.slots.specs.Picks.{highest, lowest}
use Rattle.descent.specs.declared.found.Found.{Found}
use Rattle.descent.specs.declared.found.Hit.{Hit}

-- the place of the value of the key's first n bits
unfoldable pub place_on : ℕ → List Node → ℕ → ℕ → Option ℕ
place_on w ns key n = option_and_then (value_place ns) (slot_at w ns key n)

unfoldable pub has : ℕ → List Node → ℕ → ℕ → Bool
has w ns key n = is_some (place_on w ns key n)

abbrev pub node_of : Option Slot → ℕ
node_of None = 0
node_of (Some s) = s.node

-- the hit of the key's first n bits
unfoldable pub hit_of : ℕ → List Node → ℕ → ℕ → Hit
hit_of w ns key n = record { node = node_of (slot_at w ns key n); len = n }

-- where the key's first n bits have led, if they are within the length
abbrev pub slot_within : ℕ → List Node → ℕ → ℕ → ℕ → Option Slot
slot_within w ns key len n = cond (nat_le n len) (slot_at w ns key n) None

-- what a search finds at the key's first n bits
unfoldable pub found_of : ℕ → List Node → ℕ → ℕ → Option Found
found_of w ns key n = option_map (λ place. record { place = place; len = n }) (place_on w ns key n)

-- what the search for the longest and for the shortest finds, among the key's first bits up to len
abbrev pub longest_on : ℕ → List Node → ℕ → ℕ → Option Found
longest_on w ns key len = option_and_then (found_of w ns key) (highest (suc len) (has w ns key))

abbrev pub shortest_on : ℕ → List Node → ℕ → ℕ → Option Found
shortest_on w ns key len = option_and_then (found_of w ns key) (lowest (suc len) (has w ns key))

-- of the key's first len bits, those of this depth lead to node at
pub record LeadsTo (w : ℕ) (ns : List Node) (key len at depth : ℕ) : Type 0 where
  pub short : len ≤ w
  pub whole : depth % 5 ≡ 0
  pub reached : depth ≤ len
  pub slot : slot_at w ns key depth ≡ Some (node_slot at)

-- the way ends in the node at this depth
abbrev pub Ends : ℕ → List Node → ℕ → ℕ → ℕ → Type 0
Ends w ns key len depth = (n : ℕ) → depth + 5 ≤ n → n ≤ len → slot_at w ns key n ≡ None

-- the last tier of the node at this depth that the length reaches
abbrev pub tier_to : ℕ → ℕ → ℕ
tier_to depth len = min (len - depth) 4

-- the hits of a node's last and of its first length that has a value
abbrev pub last_hit : ℕ → List Node → ℕ → ℕ → ℕ → Option Hit
last_hit w ns key len depth = option_map (hit_of w ns key) (option_map (λ l. depth + l) (highest (suc (tier_to depth len)) (λ l. has w ns key (depth + l))))

abbrev pub first_hit : ℕ → List Node → ℕ → ℕ → ℕ → Option Hit
first_hit w ns key len depth = option_map (hit_of w ns key) (option_map (λ l. depth + l) (lowest (suc (tier_to depth len)) (λ l. has w ns key (depth + l))))

-- the data bits on the key's path, as far as the length reaches
abbrev pub path_mask : ℕ → ℕ → ℕ → ℕ → ℕ
path_mask w key len depth = mask (on_path (tier_to depth len) (next_four w depth key))

-- the highest and the lowest of them in the bitmap m
abbrev pub last_bit : ℕ → ℕ → ℕ → ℕ → ℕ → Option ℕ
last_bit m w depth key len = highest 32 (λ b. bit m b && bit (path_mask w key len depth) b)

abbrev pub first_bit : ℕ → ℕ → ℕ → ℕ → ℕ → Option ℕ
first_bit m w depth key len = lowest 32 (λ b. bit m b && bit (path_mask w key len depth) b)

-- the key's first bits, as many as the hit's length, end in its node, and have a value there
pub record HitOn (w : ℕ) (ns : List Node) (key : ℕ) (hit : Hit) : Type 0 where
  pub short : hit.len ≤ w
  pub here : hit ≡ hit_of w ns key hit.len
  pub set : has w ns key hit.len ≡ true

-- what was found, by its block and its place
abbrev pub entry_of : ℕ → ℕ → Found → Block × ℕ
entry_of w key f = (block_of w key f.len, f.place)
