-- The bits of a number: under a power of two, past its end, of an and; and the ones below a place.
use Rattle.std.proofs.Common.{◌≡◌, ℕ, zero, suc, ◌+◌, ◌-◌, ◌*◌, ◌/◌, ◌%◌, ◌^◌, ◌<◌, ◌≤◌, min, Bool, true, false, ◌&&◌, T, eqb, sym, refl, ap, ◌∙◌, subst, mod-eq_of_lt, pow-suc, add-one, one-add, arith, pow_pos, pow_mono, shr-shr}
use native.Mathlib.Nat.{div-eq_of_lt, div-eq_of_lt-le}
use lib.Bits.{bit_and, and_mask, and_shr, and_step}
use lib.Count.{ones, leading_top}
use Rattle.std.proofs.lemmas.Nat.{one_shl}
use lib.Pow.{field, mod-mod-pow}
use Rattle.nodes.proofs.Counts.{ones_below_all}
use Rattle.nodes.specs.Bitmaps.{bit, ones_below}
use Rattle.tree.proofs.Ones.{bit_to}

pub both : (s t : Bool) → T s → T t → T (s && t)
both true t h k = k
both false t h k = h

pub both_left : (s t : Bool) → T (s && t) → T s
both_left true t h = tt
both_left false t h = h

pub both_right : (s t : Bool) → T (s && t) → T t
both_right true t h = h
both_right false t h = absurd h

pub bit_suc : (m c : ℕ) → bit m (suc c) ≡ bit (m / 2) c
bit_suc m c = ap (λ (x : ℕ). eqb (x % 2) 1) (sym (shr-shr m 1 c ∙ ap (λ (x : ℕ). m / 2 ^ x) (one-add c)))

-- the bits below k are those of the remainder
pub bit_mod : (m k b : ℕ) → b < k → bit (m % 2 ^ k) b ≡ bit m b
bit_mod m k b h =
    let e : k ≡ (k - (1 + b)) + (1 + b) = omega arith in
    let s : m % 2 ^ k % 2 ^ (1 + b) ≡ m % 2 ^ (1 + b) =
    ap (λ (x : ℕ). m % 2 ^ x % 2 ^ (1 + b)) e ∙ mod-mod-pow m (k - (1 + b)) (1 + b)
    in
    ap (λ (x : ℕ). eqb x 1) (sym (field (m % 2 ^ k) 1 b) ∙ ap (λ (x : ℕ). x / 2 ^ b) s ∙ field m 1 b)

-- no bit of a number is set past its end
pub bit_end : (m b : ℕ) → m < 2 ^ b → bit m b ≡ false
bit_end m b h = ap (λ (x : ℕ). eqb (x % 2) 1) (div-eq_of_lt h)

pub bit_past : (m b : ℕ) → m < 2 ^ b → T (bit m b) → ⊥
bit_past m b h t = subst T (bit_end m b h) t

-- the bit of the power of two just below a number
pub bit_top : (m b : ℕ) → 2 ^ b ≤ m → m < 2 * 2 ^ b → T (bit m b)
bit_top m b l h =
    let q : m / 2 ^ b ≡ 1 = div-eq_of_lt-le (2 ^ b) (omega arith) (omega arith) in
    bit_to m b (omega (arith, q))

pub no_bits : (k m : ℕ) → m < 2 ^ k → ((b : ℕ) → b < k → T (bit m b) → ⊥) → m ≡ 0
no_bits k zero h none = refl
no_bits k (suc n) h none =
    let t = leading_top k (suc n) (omega arith) h in
    absurd (none t.0 (omega (arith, t.1)) (bit_top (suc n) t.0 t.2 (omega (arith, t.3, pow-suc 2 t.0))))

-- a digit of an and
and_digit : (p q : ℕ) → p < 2 → q < 2 → eqb (min p q) 1 ≡ (eqb p 1 && eqb q 1)
and_digit zero zero h k = refl
and_digit zero (suc zero) h k = refl
and_digit (suc zero) zero h k = refl
and_digit (suc zero) (suc zero) h k = refl
and_digit zero (suc (suc q)) h k = let z : ⊥ = omega arith in absurd z
and_digit (suc zero) (suc (suc q)) h k = let z : ⊥ = omega arith in absurd z
and_digit (suc (suc p)) q h k = let z : ⊥ = omega arith in absurd z

pub bit_bit_and : (m n b : ℕ) → bit (bit_and m n) b ≡ (bit m b && bit n b)
bit_bit_and m n b =
    let x = m / 2 ^ b in
    let y = n / 2 ^ b in
    let last : bit_and x y % 2 ≡ min (x % 2) (y % 2) = omega (arith, and_step x y) in
    ap (λ (z : ℕ). eqb (z % 2) 1) (and_shr m n b) ∙ ap (λ (z : ℕ). eqb z 1) last ∙ and_digit (x % 2) (y % 2) (omega arith) (omega arith)

-- the ones below k are those of the remainder
ones_below_mod : (k m : ℕ) → ones_below k (m % 2 ^ k) ≡ ones_below k m
ones_below_mod zero m = refl
ones_below_mod (suc k) m =
    let half : m % 2 ^ suc k / 2 ≡ m / 2 % 2 ^ k = ap (λ (x : ℕ). m % 2 ^ x / 2) (sym (add-one k)) ∙ field m k 1 in
    let odd : m % 2 ^ suc k % 2 ≡ m % 2 = ap (λ (x : ℕ). m % 2 ^ x % 2) (sym (add-one k)) ∙ mod-mod-pow m k 1 in
    omega (arith, odd, ap (λ (x : ℕ). ones_below k x) half, ones_below_mod k (m / 2))

pub ones_mod : (k m : ℕ) → ones (m % 2 ^ k) ≡ ones_below k m
ones_mod k m = sym (ones_below_all k (m % 2 ^ k) (omega (arith, pow_pos k))) ∙ ones_below_mod k m

pub below_all : (k m : ℕ) → m < 2 ^ 32 → 32 ≤ k → m ≡ m % 2 ^ k
below_all k m h l =
    let p : 2 ^ 32 ≤ 2 ^ k = pow_mono l in
    let b : m < 2 ^ k = omega arith in
    sym (mod-eq_of_lt b)

-- nor past 32 bits of a number of 32
pub bit_end_32 : (m b : ℕ) → m < 2 ^ 32 → 32 ≤ b → bit m b ≡ false
bit_end_32 m b h l =
    let p : 2 ^ 32 ≤ 2 ^ b = pow_mono l in
    bit_end m b (omega (arith, p))

-- the ones below 2^k as a mask
pub masked_below : (m k : ℕ) → k < 32 → bit_and m (1 * 2 ^ k % 4294967296 - 1) ≡ m % 2 ^ k
masked_below m k h = ap (λ (x : ℕ). bit_and m (x - 1)) (one_shl k 32 h) ∙ and_mask m k
