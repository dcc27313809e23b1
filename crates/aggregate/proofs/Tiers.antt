-- The slots gathered tier by tier: those under a set slot from the top down, and the covered ones from the bottom up.
use Rattle.std.proofs.Common.{◌≡◌, ℕ, suc, ◌+◌, ◌-◌, ◌*◌, ◌^◌, ◌<◌, ◌≤◌, Bool, true, false, cond, ◌&&◌, ◌||◌, nat_le, nat_lt, sym, refl, ap, ap₂, ◌∙◌, inl, inr, arith, pow-suc, pow_mono}
use lib.Bits.{bit_or, or_lt}
use Rattle.std.proofs.lemmas.Bool.{cases_lt, lt-ltb, le-ltb, lt-leb, le-leb, and_from}
use Rattle.nodes.specs.Bitmaps.{bit}
use Rattle.aggregate.proofs.Bits.{bit_bit_or, tier_from, tier_to, mask_bits, mask_same, where_true}
use Rattle.aggregate.proofs.Halves.{full_past, full_halves, half, under_half, under_top}
use Rattle.aggregate.specs.Halves.{full_range, under_set, parent}
use Rattle.aggregate.specs.Steps.{folded, folded_in, pushed, pushed_out}
use Rattle.slots.proofs.Masks.{bit_mask, mask_lt}
use Rattle.slots.specs.Masks.{mask, of_tier}

or_false : (t : Bool) → (t || false) ≡ t
or_false true = refl
or_false false = refl

or_mask : (f g : ℕ → Bool) → bit_or (mask f) (mask g) ≡ mask (λ b. f b || g b)
or_mask f g =
    mask_bits (bit_or (mask f) (mask g)) (λ b. f b || g b) (or_lt 32 (mask f) (mask g) (mask_lt f) (mask_lt g)) (λ b h. bit_bit_or (mask f) (mask g) b ∙ ap₂ (λ (s t : Bool). s || t) (bit_mask f b h) (bit_mask g b h))

-- the slots above tier l that are under a set slot
abbrev above : ℕ → ℕ → ℕ → Bool
above l d b = nat_lt b (2 ^ l - 1) && under_set d b

unfoldable pub marked : ℕ → ℕ → ℕ
marked l d = mask (above l d)

-- a slot of tier l is under a set slot where the slot that it is a half of is set or marked
marked_half : (l d b : ℕ) → 0 < l → l ≤ 5 → of_tier l b ≡ true → bit (bit_or d (marked l d)) (parent b) ≡ under_set d b
unfolding marked
marked_half l d b z h t =
    let w : ℕ = parent b in
    let p : 2 ^ l ≤ 2 ^ 5 = pow_mono h in
    let q : 2 ^ 1 ≤ 2 ^ l = pow_mono z in
    let over : w < 2 ^ l - 1 = omega (arith, p, q, tier_from l b t, tier_to l b t, pow-suc 2 l) in
    bit_bit_or d (mask (above l d)) w
    ∙ ap (λ (s : Bool). bit d w || s) (bit_mask (above l d) w (omega (arith, p)) ∙ ap (λ (t : Bool). t && under_set d w) (lt-ltb w (2 ^ l - 1) over))
    ∙ sym (under_half d b (omega (arith, q, tier_from l b t)) (omega (arith, p, tier_to l b t, pow-suc 2 l)))

-- below p, or from p on and below q, is below q
joined : (p q b : ℕ) (u : Bool) → p ≤ q → ((nat_lt b p && u) || ((nat_le p b && nat_lt b q) && u)) ≡ (nat_lt b q && u)
joined p q b u h = elim (cases_lt b p) [
  | inl l ↦ rw (lt-ltb b p l, lt-leb p b l, lt-ltb b q (omega arith)) (or_false u)
  | inr g ↦ rw (le-ltb b p g, le-leb p b g) refl
]

pub marked_next : (l d : ℕ) → 0 < l → l < 5 → bit_or (marked l d) (mask (pushed l (bit_or d (marked l d)))) ≡ marked (suc l) d
unfolding marked pushed
marked_next l d z h =
    or_mask (above l d) (pushed l (bit_or d (marked l d)))
    ∙ mask_same _ _ (λ b _. ap (λ (t : Bool). above l d b || t) (where_true (of_tier l b) (marked_half l d b z (omega arith))) ∙ joined (2 ^ l - 1) (2 ^ suc l - 1) b (under_set d b) (omega (arith, pow-suc 2 l)))

-- slot 0 is under none
none_above : (d : ℕ) → marked 1 d ≡ 0
unfolding marked mask
none_above d = mask_same (above 1 d) (λ _. false) (λ b _. elim (cases_lt b 1) [
  | inl l ↦ (let e : b ≡ 0 = omega arith in rw e (under_top d))
  | inr g ↦ rw (le-ltb b 1 g) refl
])

pub marked_first : (d : ℕ) → mask (pushed 1 (bit_or d 0)) ≡ marked 2 d
marked_first d = sym (ap (λ (x : ℕ). bit_or x (mask (pushed 1 (bit_or d x)))) (none_above d)) ∙ marked_next 1 d (omega arith) (omega arith)

pub marked_data : (d : ℕ) → marked 5 d ≡ mask (λ b. nat_lt b 31 && under_set d b)
unfolding marked
marked_data d = refl

child_tier : (c : ℕ) → c < 32 → of_tier 5 (31 + c) ≡ true
child_tier c h = and_from (nat_le 31 (31 + c)) (nat_lt (31 + c) 63) (le-leb 31 (31 + c) (omega arith)) (lt-ltb (31 + c) 63 (omega arith))

pub marked_children : (d : ℕ) → mask (pushed_out (bit_or d (marked 5 d))) ≡ mask (λ c. under_set d (31 + c))
unfolding pushed_out
marked_children d = mask_same _ _ (λ c h. marked_half 5 d (31 + c) (omega arith) (omega arith) (child_tier c h))

-- from tier l on the covered slots, and above it the set ones
abbrev from_on : ℕ → ℕ → ℕ → ℕ → Bool
from_on l ds cs b = cond (nat_le (2 ^ l - 1) b) (full_range ds cs b) (bit ds b)

unfoldable pub gathered : ℕ → ℕ → ℕ → ℕ
gathered l ds cs = mask (from_on l ds cs)

-- a tier more: its slots that are set or both of whose halves are covered
more_on : (l ds cs b : ℕ) → l ≤ 4 → (from_on (suc l) ds cs b || (of_tier l b && (half ds cs (2 * b + 1) && half ds cs (2 * b + 2)))) ≡ from_on l ds cs b
more_on l ds cs b h =
    let p : ℕ = 2 ^ l - 1 in
    let q : ℕ = 2 ^ suc l - 1 in
    let pq : p ≤ q = omega (arith, pow-suc 2 l) in
    let m : 2 ^ suc l ≤ 2 ^ 5 = pow_mono (let k : suc l ≤ 5 = omega arith in k) in
    elim (cases_lt b p) [
      | inl k ↦ rw (lt-leb p b k, lt-leb q b (omega arith)) (or_false (bit ds b))
      | inr g ↦ elim (cases_lt b q) [
        | inl k ↦ rw (le-leb p b g, lt-leb q b k, lt-ltb b q k) (sym (full_halves ds cs b (omega (arith, m))))
        | inr k ↦ rw (le-leb p b g, le-leb q b k, le-ltb b q k) (or_false (full_range ds cs b))
      ]
    ]

more : (l ds cs : ℕ) (f : ℕ → Bool) → l ≤ 4 → ((b : ℕ) → f b ≡ (of_tier l b && (half ds cs (2 * b + 1) && half ds cs (2 * b + 2)))) → bit_or (gathered (suc l) ds cs) (mask f) ≡ gathered l ds cs
unfolding gathered
more l ds cs f h e = or_mask (from_on (suc l) ds cs) f ∙ mask_same _ _ (λ b _. ap (λ (t : Bool). from_on (suc l) ds cs b || t) (e b) ∙ more_on l ds cs b h)

data_half : (l ds cs h : ℕ) → 2 ^ l - 1 ≤ h → h < 31 → bit (gathered l ds cs) h ≡ half ds cs h
unfolding gathered
data_half l ds cs h g k = bit_mask (from_on l ds cs) h (omega arith) ∙ rw (le-leb (2 ^ l - 1) h g, lt-ltb h 31 k) refl

pub gathered_next : (l n ds cs : ℕ) → n ≡ suc l → l < 4 → bit_or (gathered n ds cs) (mask (folded l (gathered n ds cs))) ≡ gathered l ds cs
unfolding folded
gathered_next l n ds cs e h =
    let m : 2 ^ suc l ≤ 2 ^ 4 = pow_mono h in
    ap (λ (x : ℕ). bit_or (gathered x ds cs) (mask (folded l (gathered x ds cs)))) e ∙ more l ds cs (folded l (gathered (suc l) ds cs)) (omega arith) (λ b. where_true (of_tier l b) (λ t. ap₂ (λ (s t : Bool). s && t)
    (data_half (suc l) ds cs (2 * b + 1) (omega (arith, tier_from l b t, pow-suc 2 l)) (omega (arith, m, tier_to l b t)))
    (data_half (suc l) ds cs (2 * b + 2) (omega (arith, tier_from l b t, pow-suc 2 l)) (omega (arith, m, tier_to l b t)))))

-- before any tier, the set slots
none_on : (ds cs : ℕ) → ds < 2 ^ 32 → ds ≡ gathered 5 ds cs
unfolding gathered
none_on ds cs h = mask_bits ds (from_on 5 ds cs) h (λ b k. elim (cases_lt b 31) [
  | inl l ↦ rw (lt-leb 31 b l) refl
  | inr g ↦ (let e : b ≡ 31 = omega arith in rw e (sym (full_past ds cs)))
])

child_half : (ds cs b : ℕ) → of_tier 4 b ≡ true → (bit cs (2 * b + 1 - 31) && bit cs (2 * b + 2 - 31)) ≡ (half ds cs (2 * b + 1) && half ds cs (2 * b + 2))
child_half ds cs b t =
    let l = tier_from 4 b t in
    rw (le-ltb (2 * b + 1) 31 (omega (arith, l)), le-ltb (2 * b + 2) 31 (omega (arith, l))) refl

pub gathered_first : (ds cs : ℕ) → ds < 2 ^ 32 → bit_or ds (mask (folded_in cs)) ≡ gathered 4 ds cs
unfolding folded_in
gathered_first ds cs h = ap (λ (x : ℕ). bit_or x (mask (folded_in cs))) (none_on ds cs h) ∙ more 4 ds cs (folded_in cs) (omega arith) (λ b. where_true (of_tier 4 b) (child_half ds cs b))

pub gathered_data : (ds cs : ℕ) → gathered 0 ds cs ≡ mask (full_range ds cs)
unfolding gathered
gathered_data ds cs = mask_same _ _ (λ b _. rw (le-leb 0 b (omega arith)) refl)
