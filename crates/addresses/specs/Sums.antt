-- Sums over the numbers below a bound, and over the set bits of a bitmap, as the descents add up.
use Rattle.std.specs.Prelude.{ℕ, zero, suc, ◌+◌, cond}
use Rattle.nodes.specs.Bitmaps.{bit}

abbrev pub sum_below : ℕ → (ℕ → ℕ) → ℕ
sum_below zero f = 0
sum_below (suc n) f = sum_below n f + f n

-- f summed over the set bits of m
unfoldable pub bit_sum : ℕ → (ℕ → ℕ) → ℕ
bit_sum m f = sum_below 32 (λ b. cond (bit m b) (f b) 0)
