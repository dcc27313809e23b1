-- The bits of an or and of a shift, and a number as the mask of its bits.
use Rattle.std.proofs.Common.{◌≡◌, ℕ, zero, suc, ◌+◌, ◌-◌, ◌*◌, ◌/◌, ◌%◌, ◌^◌, ◌<◌, ◌≤◌, max, Bool, true, false, cond, ◌&&◌, ◌||◌, eqb, nat_le, nat_lt, sym, refl, ap, ◌∙◌, inl, inr, mul_assoc, arith, pow-add, shr-shr}
use lib.Bits.{bit_or, shifted_even}
use lib.Pow.{shl-shr}
use Rattle.std.proofs.lemmas.Bool.{cases_lt, le-leb, lt-leb, lt-ltb, le-ltb, ltb-true, leb-true, and_parts, false≢true}
use Rattle.std.proofs.lemmas.Nat.Bits.{bit_at_or, same_from_bits_below}
use Rattle.nodes.specs.Bitmaps.{bit}
use Rattle.slots.proofs.Bits.{bit_end_32, bit_mod}
use Rattle.slots.proofs.Masks.{bit_mask, mask_lt}
use Rattle.slots.specs.Masks.{mask, of_tier}

or_digit : (p q : ℕ) → p < 2 → q < 2 → eqb (max p q) 1 ≡ (eqb p 1 || eqb q 1)
or_digit zero zero h k = refl
or_digit zero (suc zero) h k = refl
or_digit (suc zero) zero h k = refl
or_digit (suc zero) (suc zero) h k = refl
or_digit zero (suc (suc q)) h k = let z : ⊥ = omega arith in absurd z
or_digit (suc zero) (suc (suc q)) h k = let z : ⊥ = omega arith in absurd z
or_digit (suc (suc p)) q h k = let z : ⊥ = omega arith in absurd z

pub bit_bit_or : (m n b : ℕ) → bit (bit_or m n) b ≡ (bit m b || bit n b)
bit_bit_or m n b = ap (λ (x : ℕ). eqb x 1) (bit_at_or m n b) ∙ or_digit (m / 2 ^ b % 2) (n / 2 ^ b % 2) (omega arith) (omega arith)

pub bit_right : (m k b : ℕ) → bit (m / 2 ^ k) b ≡ bit m (k + b)
bit_right m k b = ap (λ (x : ℕ). eqb (x % 2) 1) (shr-shr m k b)

pub bit_up : (m k b : ℕ) → k ≤ b → bit (m * 2 ^ k) b ≡ bit m (b - k)
bit_up m k b h =
    let e : k + (b - k) ≡ b = omega arith in
    ap (λ (x : ℕ). eqb (m * 2 ^ k / 2 ^ x % 2) 1) (sym e) ∙ sym (bit_right (m * 2 ^ k) k (b - k)) ∙ ap (λ (x : ℕ). bit x (b - k)) (shl-shr m k)

pub bit_low : (m k b : ℕ) → b < k → bit (m * 2 ^ k) b ≡ false
bit_low m k b h =
    let d : ℕ = k - (b + 1) in
    let e : suc d + b ≡ k = omega arith in
    let moved : m * 2 ^ k / 2 ^ b ≡ m * 2 ^ suc d =
    ap (λ (x : ℕ). m * 2 ^ x / 2 ^ b) (sym e) ∙ ap (λ (x : ℕ). x / 2 ^ b) (ap (λ (x : ℕ). m * x) (pow-add 2 (suc d) b) ∙ sym (mul_assoc m (2 ^ suc d) (2 ^ b))) ∙ shl-shr (m * 2 ^ suc d) b
    in
    ap (λ (x : ℕ). eqb x 1) (ap (λ (x : ℕ). x % 2) moved ∙ shifted_even m d)

pub bit_left : (m k b : ℕ) → bit (m * 2 ^ k % 2 ^ 32) b ≡ cond (nat_le k b && nat_lt b 32) (bit m (b - k)) false
bit_left m k b = elim (cases_lt b 32) [
  | inl l ↦ elim (cases_lt b k) [
    | inl g ↦ bit_mod (m * 2 ^ k) 32 b l ∙ bit_low m k b g ∙ ap (λ (t : Bool). cond (t && nat_lt b 32) (bit m (b - k)) false) (sym (lt-leb k b g))
    | inr g ↦
        bit_mod (m * 2 ^ k) 32 b l ∙ bit_up m k b g ∙ ap (λ (t : Bool). cond t (bit m (b - k)) false) (sym (lt-ltb b 32 l)) ∙ ap (λ (t : Bool). cond (t && nat_lt b 32) (bit m (b - k)) false) (sym (le-leb k b g))
  ]
  | inr g ↦ bit_end_32 (m * 2 ^ k % 2 ^ 32) b (omega arith) g ∙ none (nat_le k b) (bit m (b - k)) ∙ ap (λ (t : Bool). cond (nat_le k b && t) (bit m (b - k)) false) (sym (le-ltb b 32 g))
]
  where
    none : (s t : Bool) → false ≡ cond (s && false) t false
    none true t = refl
    none false t = refl

digit_same : (p q : ℕ) → p < 2 → q < 2 → eqb p 1 ≡ eqb q 1 → p ≡ q
digit_same zero zero h k e = refl
digit_same (suc zero) (suc zero) h k e = refl
digit_same zero (suc zero) h k e = absurd (false≢true e)
digit_same (suc zero) zero h k e = absurd (false≢true (sym e))
digit_same zero (suc (suc q)) h k e = let z : ⊥ = omega arith in absurd z
digit_same (suc zero) (suc (suc q)) h k e = let z : ⊥ = omega arith in absurd z
digit_same (suc (suc p)) q h k e = let z : ⊥ = omega arith in absurd z

-- a number of 32 bits is the mask of its bits
pub mask_bits : (m : ℕ) (f : ℕ → Bool) → m < 2 ^ 32 → ((b : ℕ) → b < 32 → bit m b ≡ f b) → m ≡ mask f
mask_bits m f h e =
    same_from_bits_below 32 m (mask f) h (mask_lt f) (λ b l. digit_same (m / 2 ^ b % 2) (mask f / 2 ^ b % 2) (omega arith) (omega arith) (e b l ∙ sym (bit_mask f b l)))

pub mask_same : (f g : ℕ → Bool) → ((b : ℕ) → b < 32 → f b ≡ g b) → mask f ≡ mask g
mask_same f g e = mask_bits (mask f) g (mask_lt f) (λ b h. bit_mask f b h ∙ e b h)

pub where_true : (t : Bool) {r s : Bool} → (t ≡ true → r ≡ s) → (t && r) ≡ (t && s)
where_true true e = e refl
where_true false e = refl

-- the bits of a tier begin at 2^l - 1, and the next tier's where they end
pub tier_from : (l b : ℕ) → of_tier l b ≡ true → 2 ^ l - 1 ≤ b
tier_from l b t = leb-true (2 ^ l - 1) b (and_parts (nat_le (2 ^ l - 1) b) (nat_lt b (2 ^ suc l - 1)) t).0

pub tier_to : (l b : ℕ) → of_tier l b ≡ true → b < 2 ^ suc l - 1
tier_to l b t = ltb-true b (2 ^ suc l - 1) (and_parts (nat_le (2 ^ l - 1) b) (nat_lt b (2 ^ suc l - 1)) t).1
