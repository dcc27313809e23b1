-- What lies under a set slot, and what is covered, from a slot to its two halves.
use Rattle.std.proofs.Common.{◌≡◌, ℕ, ◌+◌, ◌-◌, ◌*◌, ◌/◌, ◌<◌, ◌&&◌, ◌||◌, ap, ◌∙◌, arith}
use Rattle.nodes.specs.Bitmaps.{bit}
use Rattle.aggregate.proofs.Halves.{full_halves, half, half_data, under_half}
use Rattle.aggregate.specs.Halves.{under_set}

module _ (m b : ℕ) (h : b < 31) where
  pub under_low : under_set m (2 * b + 1) ≡ (bit m b || under_set m b)
  under_low =
      let e : (2 * b + 1 - 1) / 2 ≡ b = omega arith in
      under_half m (2 * b + 1) (omega arith) (omega arith) ∙ ap (λ (x : ℕ). bit m x || under_set m x) e

  pub under_high : under_set m (2 * b + 2) ≡ (bit m b || under_set m b)
  under_high =
      let e : (2 * b + 2 - 1) / 2 ≡ b = omega arith in
      under_half m (2 * b + 2) (omega arith) (omega arith) ∙ ap (λ (x : ℕ). bit m x || under_set m x) e

-- a slot is covered: a data slot below 31, and a child slot from there on
pub half_halves : (ds cs b : ℕ) → b < 31 → half ds cs b ≡ (bit ds b || (half ds cs (2 * b + 1) && half ds cs (2 * b + 2)))
half_halves ds cs b h = half_data ds cs b h ∙ full_halves ds cs b h
