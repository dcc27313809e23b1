-- The highest and the lowest bit that two numbers have in common: by the logarithm, by the trailing zeros, and under a mask by its rule.
use Rattle.std.proofs.Common.{◌≡◌, ℕ, zero, suc, ◌*◌, ◌/◌, ◌%◌, ◌^◌, ◌<◌, ◌≤◌, Bool, ◌&&◌, T, Some, None, Option, sym, refl, ap, subst, inl, inr, le_of_suc-le-suc, not-suc-le-zero, pow-suc, arith, pow_pos, pow_mono, IfNone, IfSome, MatchOption}
use lib.Bits.{bit_and}
use lib.Count.{count_trailing_zeros, under}
use Rattle.std.proofs.lemmas.Bool.{cases_lt}
use Rattle.nodes.specs.Bitmaps.{bit}
use Rattle.tree.proofs.Ones.{bit_from, bit_to}
use Rattle.slots.proofs.Bits.{bit_bit_and, bit_past, bit_suc, bit_top, no_bits}
use Rattle.slots.proofs.Masks.{bit_mask}
use Rattle.slots.proofs.Picks.{highest_found, highest_same, lowest_found, lowest_same}
use Rattle.slots.specs.Masks.{mask}
use Rattle.slots.specs.Picks.{highest, lowest, IsHighest, IsLowest}

zero_none : (m c : ℕ) → m ≡ 0 → T (bit m c) → ⊥
zero_none m c e t = bit_past m c (omega (arith, e, pow_pos c)) t

log_is : (m : ℕ) (r : Option ℕ) → MatchOption r (m ≡ 0) (λ k. (2 ^ k ≤ m) × (m < 2 * 2 ^ k) × (k < 32)) → IsHighest 32 (bit m) r
log_is m None e = λ c h t. zero_none m c e t
log_is m (Some k) h = (
  h.2,
  bit_top m k h.0 h.1,
  λ c l g t. (let p : 2 ^ suc k ≤ 2 ^ c = pow_mono l in bit_past m c (omega (arith, h.1, p, pow-suc 2 k)) t),
)

log_highest : (m : ℕ) (r : Option ℕ) → MatchOption r (m ≡ 0) (λ k. (2 ^ k ≤ m) × (m < 2 * 2 ^ k) × (k < 32)) → r ≡ highest 32 (bit m)
log_highest m r h = highest_found 32 (bit m) r (log_is m r h)

-- the same, as the logarithm says it
whole : (m : ℕ) (r : Option ℕ) → IfNone r (m ≡ 0) → IfSome r (λ k. 2 ^ k ≤ m) → IfSome r (λ k. m < 2 * 2 ^ k) → IfSome r (λ k. k < 32) → MatchOption r (m ≡ 0) (λ k. (2 ^ k ≤ m) × (m < 2 * 2 ^ k) × (k < 32))
whole m None n a b c = n
whole m (Some k) n a b c = (a, b, c)

pub log2_highest : (m : ℕ) (r : Option ℕ) → IfNone r (m ≡ 0) → IfSome r (λ k. 2 ^ k ≤ m) → IfSome r (λ k. m < 2 * 2 ^ k) → IfSome r (λ k. k < 32) → r ≡ highest 32 (bit m)
log2_highest m r n a b c = log_highest m r (whole m r n a b c)

-- no bit below t is set, and t is where it is below k
abbrev First : ℕ → ℕ → ℕ → Type 0
First k m t = ((c : ℕ) → c < t → T (bit m c) → ⊥) × (t < k → T (bit m t))

even_none : (m t c : ℕ) → m % 2 ≡ 0 → ((d : ℕ) → d < t → T (bit (m / 2) d) → ⊥) → c < suc t → T (bit m c) → ⊥
even_none m t zero e h l b = omega (arith, bit_from m 0 b)
even_none m t (suc c) e h l b = h c (le_of_suc-le-suc l) (subst T (bit_suc m c) b)

under_first : (d k m t : ℕ) → m % 2 ≡ d → First k (m / 2) t → First (suc k) m (under d t)
under_first zero k m t e h = (λ c. even_none m t c e h.0, λ l. subst T (sym (bit_suc m t)) (h.1 (le_of_suc-le-suc l)))
under_first (suc d) k m t e h = (λ c l b. not-suc-le-zero l, λ l. bit_to m 0 (omega arith))

trailing_first : (k m : ℕ) → First k m (count_trailing_zeros k m)
unfolding count_trailing_zeros
trailing_first zero m = (λ c l b. not-suc-le-zero l, λ l. absurd (not-suc-le-zero l))
trailing_first (suc k) m = under_first (m % 2) k m (count_trailing_zeros k (m / 2)) refl (trailing_first k (m / 2))

trailing_is : (m : ℕ) → m < 2 ^ 32 → (m ≡ 0 → ⊥) → IsLowest 32 (bit m) (Some (count_trailing_zeros 32 m))
trailing_is m h ne =
    let f = trailing_first 32 m in
    let lt : count_trailing_zeros 32 m < 32 = elim (cases_lt (count_trailing_zeros 32 m) 32) [
      | inl l ↦ l
      | inr g ↦ absurd (ne (no_bits 32 m h (λ b l t. f.0 b (omega arith) t)))
    ] in
    (lt, f.1 lt, f.0)

pub zero_lowest : (m : ℕ) → m ≡ 0 → None ≡ lowest 32 (bit m)
zero_lowest m e = lowest_found 32 (bit m) None (λ c h t. zero_none m c e t)

pub trailing_lowest : (m : ℕ) → m < 2 ^ 32 → (m ≡ 0 → ⊥) → Some (count_trailing_zeros 32 m) ≡ lowest 32 (bit m)
trailing_lowest m h ne = lowest_found 32 (bit m) (Some (count_trailing_zeros 32 m)) (trailing_is m h ne)

-- the bits of an and are the common bits
pub highest_and : (m n : ℕ) → highest 32 (bit (bit_and m n)) ≡ highest 32 (λ b. bit m b && bit n b)
highest_and m n = highest_same 32 (bit (bit_and m n)) (λ b. bit m b && bit n b) (λ b _. bit_bit_and m n b)

pub lowest_and : (m n : ℕ) → lowest 32 (bit (bit_and m n)) ≡ lowest 32 (λ b. bit m b && bit n b)
lowest_and m n = lowest_same 32 (bit (bit_and m n)) (λ b. bit m b && bit n b) (λ b _. bit_bit_and m n b)

-- under a mask its rule decides
pub highest_mask : (m : ℕ) (f : ℕ → Bool) → highest 32 (λ b. bit m b && bit (mask f) b) ≡ highest 32 (λ b. bit m b && f b)
highest_mask m f = highest_same 32 (λ b. bit m b && bit (mask f) b) (λ b. bit m b && f b) (λ b h. ap (λ (t : Bool). bit m b && t) (bit_mask f b h))

pub lowest_mask : (m : ℕ) (f : ℕ → Bool) → lowest 32 (λ b. bit m b && bit (mask f) b) ≡ lowest 32 (λ b. bit m b && f b)
lowest_mask m f = lowest_same 32 (λ b. bit m b && bit (mask f) b) (λ b. bit m b && f b) (λ b h. ap (λ (t : Bool). bit m b && t) (bit_mask f b h))
