-- The slots of one tier, by the bits of the tier above it or below it.
use Rattle.std.specs.Prelude.{ℕ, ◌+◌, ◌-◌, ◌*◌, Bool, ◌&&◌}
use Rattle.nodes.specs.Bitmaps.{bit}
use Rattle.slots.specs.Masks.{of_tier}
use Rattle.aggregate.specs.Halves.{parent}

-- a data slot of the tier that is a half of a set slot
unfoldable pub pushed : ℕ → ℕ → ℕ → Bool
pushed tier m b = of_tier tier b && bit m (parent b)

-- a child slot that is a half of a set slot
unfoldable pub pushed_out : ℕ → ℕ → Bool
pushed_out m c = bit m (parent (31 + c))

-- a data slot of the tier both of whose halves are set
unfoldable pub folded : ℕ → ℕ → ℕ → Bool
folded tier m b = of_tier tier b && (bit m (2 * b + 1) && bit m (2 * b + 2))

-- a data slot of the last tier both of whose halves are set, which are child slots
unfoldable pub folded_in : ℕ → ℕ → Bool
folded_in m b = of_tier 4 b && (bit m (2 * b + 1 - 31) && bit m (2 * b + 2 - 31))
