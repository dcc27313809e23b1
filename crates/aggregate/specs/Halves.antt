-- A node's slots as a binary tree: slot b has the halves 2 * b + 1 and 2 * b + 2. The slots below 31 are the data slots, tier by tier, and from there on 31 + c is the child slot c.
use Rattle.std.specs.Prelude.{ℕ, zero, suc, ◌+◌, ◌-◌, ◌*◌, ◌/◌, Bool, false, cond, ◌&&◌, ◌||◌, nat_lt}
use Rattle.nodes.specs.Bitmaps.{bit}

-- the slot that b is a half of
abbrev pub parent : ℕ → ℕ
parent b = (b - 1) / 2

-- one of the nearest k slots that b is a part of is set
abbrev pub under : ℕ → ℕ → ℕ → Bool
under zero m b = false
under (suc k) m b = nat_lt 0 b && (bit m (parent b) || under k m (parent b))

-- a data slot is set that b is a strict part of; it is a part of five at most
unfoldable pub under_set : ℕ → ℕ → Bool
under_set m b = under 5 m b

-- slot b is covered, by k halvings at most: a child slot if its bit in cs is set, and a data slot if its bit in ds is, or if both its halves are covered
abbrev pub full : ℕ → ℕ → ℕ → ℕ → Bool
full zero ds cs b = cond (nat_lt b 31) (bit ds b) (bit cs (b - 31))
full (suc k) ds cs b = cond (nat_lt b 31) (bit ds b || (full k ds cs (2 * b + 1) && full k ds cs (2 * b + 2))) (bit cs (b - 31))

-- the whole range of data slot b is covered; bit 31 is no slot, and stays as it is in ds
unfoldable pub full_range : ℕ → ℕ → ℕ → Bool
full_range ds cs b = cond (nat_lt b 31) (full 5 ds cs b) (bit ds b)
