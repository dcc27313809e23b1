-- Masks over a Tree Bitmap node's bits: the rules of the bits on and under a path, and the tables that follow a rule.
use Rattle.std.specs.Prelude.{ℕ, zero, suc, ◌+◌, ◌-◌, ◌*◌, ◌/◌, ◌%◌, ◌^◌, Bool, true, cond, ◌&&◌, ◌||◌, List, [], ◌∷◌, ◌==◌, nat_eq, nat_le, nat_lt}
use Rattle.nodes.specs.Bitmaps.{data_bit}

-- the number with those bits below k of which f says true
abbrev pub mask_below : ℕ → (ℕ → Bool) → ℕ
mask_below zero f = 0
mask_below (suc k) f = mask_below k f + cond (f k) (2 ^ k) 0

unfoldable pub mask : (ℕ → Bool) → ℕ
mask f = mask_below 32 f

-- the four bits of a key of w bits after its first d, with zeros past its end
abbrev pub next_four : ℕ → ℕ → ℕ → ℕ
next_four w d a = a * 16 / 2 ^ (w - d) % 16

-- the data bit of tier j on the path of the four bits v: its block has the first j of them
abbrev pub path_bit : ℕ → ℕ → ℕ
path_bit v j = data_bit j (v / 2 ^ (4 - j))

-- f holds of a tier from 0 to n
abbrev pub some_tier : ℕ → (ℕ → Bool) → Bool
some_tier zero f = f 0
some_tier (suc n) f = f (suc n) || some_tier n f

-- b is the data bit of a tier up to this one on the path of v
unfoldable pub on_path : ℕ → ℕ → ℕ → Bool
on_path tier v b = some_tier tier (λ j. nat_eq b (path_bit v j))

-- b is a data bit of tier j, where the bits begin at 2^j - 1
abbrev pub of_tier : ℕ → ℕ → Bool
of_tier j b = nat_le (2 ^ j - 1) b && nat_lt b (2 ^ suc j - 1)

-- b is a data bit of this tier or a deeper one whose first bits, as many as the tier, are those of v
unfoldable pub data_under : ℕ → ℕ → ℕ → Bool
data_under tier v b =
    some_tier 4 (λ j. nat_le tier j && of_tier j b && (b - (2 ^ j - 1)) / 2 ^ (j - tier) == v / 2 ^ (4 - tier))

-- c is a child bit whose first bits, as many as the tier, are those of v
unfoldable pub child_under : ℕ → ℕ → ℕ → Bool
child_under tier v c = c / 2 ^ (5 - tier) == v / 2 ^ (4 - tier)

-- the table, counted from place i, has at 16 * tier + v the mask of the rule at tier and v
abbrev pub follows_from : ℕ → (ℕ → ℕ → ℕ → Bool) → List ℕ → Bool
follows_from i rule [] = true
follows_from i rule (x ∷ xs) = x == mask_below 32 (rule (i / 16) (i % 16)) && follows_from (suc i) rule xs

abbrev pub follows : (ℕ → ℕ → ℕ → Bool) → List ℕ → Bool
follows rule table = follows_from 0 rule table
