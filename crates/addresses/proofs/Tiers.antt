-- A data slot by its tier and its bits.
use Rattle.std.proofs.Common.{◌≡◌, ℕ, suc, ◌+◌, ◌*◌, ◌^◌, ◌<◌, ◌≤◌, inl, inr, arith, pow-suc, pow_mono}
use Rattle.std.proofs.lemmas.Bool.{cases_lt, lt-ltb, le-ltb}
use Rattle.addresses.specs.Standing.{tier_of}

-- slot b is of a tier up to the fourth, which begins no later than b, and the next one does behind b
pub tier_split : (b : ℕ) → b < 31 → (tier_of b ≤ 4) × (2 ^ tier_of b ≤ b + 1) × (b + 1 < 2 * 2 ^ tier_of b)
unfolding tier_of
tier_split b h =
    elim (cases_lt b 1) [
      | inl a ↦ rw (lt-ltb b 1 a) (omega arith, omega arith, omega arith)
      | inr a ↦ elim (cases_lt b 3) [
        | inl c ↦ rw (le-ltb b 1 a, lt-ltb b 3 c) (omega arith, omega arith, omega arith)
        | inr c ↦ elim (cases_lt b 7) [
          | inl d ↦ rw (le-ltb b 1 a, le-ltb b 3 c, lt-ltb b 7 d) (omega arith, omega arith, omega arith)
          | inr d ↦ elim (cases_lt b 15) [
            | inl e ↦ rw (le-ltb b 1 a, le-ltb b 3 c, le-ltb b 7 d, lt-ltb b 15 e) (omega arith, omega arith, omega arith)
            | inr e ↦ rw (le-ltb b 1 a, le-ltb b 3 c, le-ltb b 7 d, le-ltb b 15 e) (omega arith, omega arith, omega arith)
          ]
        ]
      ]
    ]

-- and there is no other such tier
pub tier_only : (n l m : ℕ) → 2 ^ l ≤ n → n < 2 * 2 ^ l → 2 ^ m ≤ n → n < 2 * 2 ^ m → l ≡ m
tier_only n l m a b c d =
    elim (cases_lt l m) [
      | inl lt ↦ (let g : 2 ^ suc l ≤ 2 ^ m = pow_mono lt in absurd (omega (arith, g, pow-suc 2 l)))
      | inr ge ↦ elim (cases_lt m l) [
        | inl lt ↦ (let g : 2 ^ suc m ≤ 2 ^ l = pow_mono lt in absurd (omega (arith, g, pow-suc 2 m)))
        | inr le ↦ omega arith
      ]
    ]

pub tier_log : (b r : ℕ) → b < 31 → 2 ^ r ≤ b + 1 → b + 1 < 2 * 2 ^ r → r ≡ tier_of b
tier_log b r h low up = let s = tier_split b h in tier_only (b + 1) r (tier_of b) low up s.1 s.2

pub log_small : (b r : ℕ) → b < 31 → 2 ^ r ≤ b + 1 → r ≤ 4
log_small b r h low =
    elim (cases_lt 4 r) [
      | inl lt ↦ (let g : 2 ^ 5 ≤ 2 ^ r = pow_mono lt in absurd (omega (arith, g)))
      | inr ge ↦ ge
    ]
