-- The bits of a mask are those of which its rule says true, and none from 32 on.
use Rattle.std.proofs.Common.{◌≡◌, ℕ, zero, suc, ◌+◌, ◌*◌, ◌%◌, ◌^◌, ◌<◌, ◌≤◌, Bool, true, false, cond, eqb, sym, refl, ap, ◌∙◌, inl, inr, not-suc-le-zero, pow-suc, zero-mul, arith, pow_mono}
use lib.Pow.{high, low}
use Rattle.std.proofs.lemmas.Bool.{cases_lt, cases_Bool}
use Rattle.nodes.specs.Bitmaps.{bit}
use Rattle.slots.proofs.Bits.{bit_end, bit_mod}
use Rattle.slots.specs.Masks.{mask, mask_below}

abbrev digit : Bool → ℕ
digit t = cond t 1 0

digit_lt : (t : Bool) → digit t < 2
digit_lt true = omega arith
digit_lt false = omega arith

digit_odd : (t : Bool) → eqb (digit t % 2) 1 ≡ t
digit_odd true = refl
digit_odd false = refl

digit_high : (t : Bool) (p : ℕ) → cond t p 0 ≡ digit t * p
digit_high true p = omega arith
digit_high false p = sym (zero-mul p)

mask_step : (k : ℕ) (f : ℕ → Bool) → mask_below (suc k) f ≡ digit (f k) * 2 ^ k + mask_below k f
mask_step k f = omega (arith, digit_high (f k) (2 ^ k))

mask_below_lt : (k : ℕ) (f : ℕ → Bool) → mask_below k f < 2 ^ k
mask_below_lt zero f = omega arith
mask_below_lt (suc k) f = elim (cases_Bool (f k)) [
  | inl t ↦ rw t (omega (arith, mask_below_lt k f, pow-suc 2 k))
  | inr t ↦ rw t (omega (arith, mask_below_lt k f, pow-suc 2 k))
]

bit_below : (k : ℕ) (f : ℕ → Bool) (b : ℕ) → b < k → bit (mask_below k f) b ≡ f b
bit_below zero f b h = absurd (not-suc-le-zero h)
bit_below (suc k) f b h =
    let m : ℕ = mask_below k f in
    let lt : m < 2 ^ k = mask_below_lt k f in
    let d : ℕ = digit (f k) in
    elim (cases_lt b k) [
      | inl l ↦
          ap (λ (x : ℕ). bit x b) (mask_step k f) ∙ sym (bit_mod (d * 2 ^ k + m) k b l) ∙ ap (λ (x : ℕ). bit x b) (low d k lt) ∙ bit_below k f b l
      | inr g ↦ (let e : b ≡ k = omega arith in
          ap (λ (x : ℕ). bit (mask_below (suc k) f) x) e ∙ ap (λ (x : ℕ). bit x k) (mask_step k f) ∙ ap (λ (x : ℕ). eqb (x % 2) 1) (high d k lt)
          ∙ digit_odd (f k) ∙ ap f (sym e))
    ]

pub mask_lt : (f : ℕ → Bool) → mask f < 2 ^ 32
unfolding mask
mask_lt f = mask_below_lt 32 f

pub bit_mask : (f : ℕ → Bool) (b : ℕ) → b < 32 → bit (mask f) b ≡ f b
unfolding mask
bit_mask f b h = bit_below 32 f b h

pub bit_mask_past : (f : ℕ → Bool) (b : ℕ) → 32 ≤ b → bit (mask f) b ≡ false
bit_mask_past f b h =
    let p : 2 ^ 32 ≤ 2 ^ b = pow_mono h in
    bit_end (mask f) b (omega (arith, mask_lt f))
