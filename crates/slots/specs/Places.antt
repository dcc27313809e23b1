-- Where the value or the child of a bit stands.
use Rattle.std.specs.Prelude.{ℕ, ◌^◌, cond, ◌&&◌, Some, None, Option, nat_lt}
use Rattle.nodes.specs.Bitmaps.{bit as is_set, place_of}
use Rattle.slots.specs.declared.loc.Loc.{Loc}

-- a set bit whose place fits 32 bits has a location, and no other bit
abbrev pub loc_of : ℕ → ℕ → ℕ → Option Loc
loc_of bitmap first b =
    cond (is_set bitmap b && nat_lt (place_of bitmap first b) (2 ^ 32)) (Some (record { idx = place_of bitmap first b; bit = b })) None
