-- The bits of one bitmap that are not in another, and the child slots that lie in a data slot.
use Rattle.std.proofs.Common.{◌≡◌, ℕ, ◌+◌, ◌-◌, ◌*◌, ◌/◌, ◌%◌, ◌^◌, ◌<◌, ◌≤◌, Bool, ◌&&◌, not, eqb, bit_and, nat_lt, w32, refl, ap, ◌∙◌, subst, arith, ap₂, zero, suc, min, pow_mono}
use Rattle.std.specs.Int.{bit_at}
use Rattle.std.specs.Int.Bits.{and_lt}
use Rattle.std.proofs.lemmas.Nat.Bits.{bit_at_not, bit_at-lt}
use Rattle.nodes.specs.Bitmaps.{bit}
use Rattle.nodes.specs.declared.node.Node.{Node}
use Rattle.slots.proofs.Bits.{bit_bit_and}
use Rattle.slots.proofs.Masks.{bit_mask, mask_lt}
use Rattle.aggregate.proofs.Bits.{mask_bits}
use Rattle.aggregate.specs.Halves.{full_range, under_set}
use lib.Pow.{shl-shr}
use Rattle.std.proofs.Math.Pow.{shl_lt}
use Rattle.std.proofs.lemmas.Nat.{one_shl}
use Rattle.addresses.proofs.Tiers.{tier_split}
use Rattle.addresses.specs.Standing.{tier_of}
use Rattle.aggregate.proofs.Bits.{mask_same}
use Rattle.slots.specs.Masks.{mask, child_under}
use Rattle.coverage.specs.Slots.{free_child, free_slot, in_slot, needs_child}

digit_not : (d : ℕ) → d < 2 → eqb (1 - d) 1 ≡ not (eqb d 1)
digit_not zero h = refl
digit_not (suc zero) h = refl
digit_not (suc (suc d)) h = let z : ⊥ = omega arith in absurd z

not_bit : (y b : ℕ) → y < 2 ^ 32 → b < 32 → bit (4294967295 - y) b ≡ not (bit y b)
not_bit y b h l = ap (λ (d : ℕ). eqb d 1) (bit_at_not w32 y b h l) ∙ digit_not (bit_at y b) (bit_at-lt y b)

without_is : (x y : ℕ) → x < 2 ^ 32 → y < 2 ^ 32 → bit_and x (4294967295 - y) ≡ mask (λ b. bit x b && not (bit y b))
without_is x y h k =
    mask_bits (bit_and x (4294967295 - y)) (λ b. bit x b && not (bit y b)) (and_lt 32 x (4294967295 - y) h (omega arith))
    (λ b l. bit_bit_and x (4294967295 - y) b ∙ ap (λ (t : Bool). bit x b && t) (not_bit y b k l))

shl_bound : (l p : ℕ) → l ≤ 4 → p < 2 ^ l → p * 2 ^ (4 - l) < 2 ^ 4
shl_bound l p h s = let e : l + (4 - l) ≡ 4 = omega arith in subst (λ (k : ℕ). p * 2 ^ (4 - l) < 2 ^ k) e (shl_lt l (4 - l) s)

pub tier_pow : (l : ℕ) → l ≤ 4 → 1 * 2 ^ l % 4294967296 ≡ 2 ^ l
tier_pow l h = one_shl l 32 (omega arith)

-- the child slots of the tier's mask are those of the slot
pub range_is : (b l v : ℕ) → b < 31 → l ≡ tier_of b → v ≡ (b + 1 - 1 * 2 ^ l % 4294967296) * 2 ^ (4 - l) % 4294967296 → mask (child_under (min l 4) (v % 16)) ≡ mask (in_slot b)
unfolding child_under
range_is b l v h e f =
    let s = tier_split b h in
    let p : ℕ = b + 1 - 2 ^ tier_of b in
    let pow : 2 ^ tier_of b ≤ 2 ^ 4 = pow_mono s.0 in
    let small : p * 2 ^ (4 - tier_of b) < 2 ^ 4 = shl_bound (tier_of b) p s.0 (omega (arith, s.2)) in
    let four : v % 16 ≡ p * 2 ^ (4 - tier_of b) =
    ap (λ x. x % 16) f ∙ (ap (λ k. (b + 1 - 1 * 2 ^ k % 4294967296) * 2 ^ (4 - k) % 4294967296 % 16) e
    ∙ (ap (λ x. (b + 1 - x) * 2 ^ (4 - tier_of b) % 4294967296 % 16) (tier_pow (tier_of b) s.0) ∙ omega arith)) in
    let tier : min l 4 ≡ tier_of b = omega (arith, s.0, e) in
    mask_same _ _ (λ c d. ap₂ (λ k x. eqb (c / 2 ^ (5 - k)) (x / 2 ^ (4 - k))) tier four ∙ ap (λ x. eqb (c / 2 ^ (5 - tier_of b)) x) (shl-shr p (4 - tier_of b)))

pub free_is : (children range under b : ℕ) → children < 2 ^ 32 → under < 2 ^ 32 → range ≡ mask (in_slot b)
    → bit_and (bit_and children range) (4294967295 - under) ≡ mask (needs_child children under b)
free_is children range under b h k e =
    let small : range < 2 ^ 32 = omega (arith, e, mask_lt (in_slot b)) in
    without_is (bit_and children range) under (and_lt 32 children range h small) k
    ∙ mask_same _ _ (λ c l. ap (λ t. t && not (bit under c)) (bit_bit_and children range c ∙ ap (λ t. bit children c && t) (ap (λ x. bit x c) e ∙ bit_mask (in_slot b) c l)))

-- the bits that are not under a set slot
apart_is : (x under : ℕ) (f : ℕ → Bool) → x < 2 ^ 32 → under < 2 ^ 32 → under ≡ mask f → bit_and x (4294967295 - under) ≡ mask (λ b. bit x b && not (f b))
apart_is x under f h k e = without_is x under h k ∙ mask_same _ _ (λ b l. ap (λ t. bit x b && not t) (ap (λ y. bit y b) e ∙ bit_mask f b l))

pub slots_apart : (n : Node) (under : ℕ) → n.data_bitmap < 2 ^ 32 → under < 2 ^ 32 → under ≡ mask (λ b. nat_lt b 31 && under_set n.data_bitmap b) → bit_and n.data_bitmap (4294967295 - under) ≡ mask (free_slot n)
slots_apart n under h k e = apart_is n.data_bitmap under _ h k e

pub children_apart : (n : Node) (under : ℕ) → n.child_bitmap < 2 ^ 32 → under < 2 ^ 32 → under ≡ mask (λ c. under_set n.data_bitmap (31 + c)) → bit_and n.child_bitmap (4294967295 - under) ≡ mask (free_child n)
children_apart n under h k e = apart_is n.child_bitmap under _ h k e

pub most_is : (ds cs most b : ℕ) → b < 31 → most ≡ mask (full_range ds cs) → eqb (most / 2 ^ b % 2) 1 ≡ full_range ds cs b
most_is ds cs most b h e = ap (λ x. bit x b) e ∙ bit_mask (full_range ds cs) b (omega arith)
