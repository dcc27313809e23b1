-- A slot is under a set slot if the slot that it is a half of is set or under one, and is covered if it is set or both its halves are covered.
use Rattle.std.proofs.Common.{◌≡◌, ℕ, zero, suc, ◌+◌, ◌-◌, ◌*◌, ◌/◌, ◌^◌, ◌<◌, ◌≤◌, Bool, true, false, cond, ◌&&◌, ◌||◌, nat_lt, sym, refl, ap, ap₂, ◌∙◌, inl, inr, mul_assoc, arith, pow-suc}
use Rattle.std.proofs.Math.Nat.{mul-le-mul_right}
use Rattle.std.proofs.lemmas.Bool.{cases_lt, lt-ltb, le-ltb, ltb-true, cond-true, cond-false}
use Rattle.nodes.specs.Bitmaps.{bit}
use Rattle.aggregate.proofs.Bits.{where_true}
use Rattle.aggregate.specs.Halves.{full, full_range, under, under_set, parent}

-- one more step up changes nothing where k steps reach slot 0
under_more : (k m b : ℕ) → b + 1 < 2 ^ suc k → under k m b ≡ under (suc k) m b
under_more zero m b h = let e : b ≡ 0 = omega arith in ap (λ (x : ℕ). nat_lt 0 x && (bit m (parent b) || false)) (sym e)
under_more (suc k) m b h =
    where_true (nat_lt 0 b) (λ t. ap (λ (s : Bool). bit m (parent b) || s) (under_more k m (parent b) (omega (arith, ltb-true 0 b t, h, pow-suc 2 (suc k)))))

pub under_half : (m b : ℕ) → 0 < b → b ≤ 62 → under_set m b ≡ (bit m ((b - 1) / 2) || under_set m ((b - 1) / 2))
unfolding under_set
under_half m b p h =
    ap (λ (t : Bool). t && (bit m (parent b) || under 4 m (parent b))) (lt-ltb 0 b p) ∙ ap (λ (s : Bool). bit m (parent b) || s) (under_more 4 m (parent b) (omega arith))

pub under_top : (m : ℕ) → under_set m 0 ≡ false
unfolding under_set
under_top m = refl

-- a half of a data slot is covered: a data slot below 31, and a child slot from there on
abbrev pub half : ℕ → ℕ → ℕ → Bool
half ds cs h = cond (nat_lt h 31) (full_range ds cs h) (bit cs (h - 31))

pub half_data : (ds cs h : ℕ) → h < 31 → half ds cs h ≡ full_range ds cs h
half_data ds cs h l = cond-true (nat_lt h 31) (full_range ds cs h) (bit cs (h - 31)) (lt-ltb h 31 l)

pub half_child : (ds cs c : ℕ) → half ds cs (31 + c) ≡ bit cs c
half_child ds cs c = cond-false (nat_lt (31 + c) 31) (full_range ds cs (31 + c)) (bit cs (31 + c - 31)) (le-ltb (31 + c) 31 (omega arith)) ∙ ap (bit cs) (let e : 31 + c - 31 ≡ c = omega arith in e)

-- one more halving changes nothing where k halvings reach the child slots
full_more : (k ds cs b : ℕ) → 32 ≤ (b + 1) * 2 ^ k → full k ds cs b ≡ full (suc k) ds cs b
full_more zero ds cs b h =
    let e : nat_lt b 31 ≡ false = le-ltb b 31 (omega arith) in
    cond-false (nat_lt b 31) (bit ds b) (bit cs (b - 31)) e ∙ sym (cond-false (nat_lt b 31) (bit ds b || (full zero ds cs (2 * b + 1) && full zero ds cs (2 * b + 2))) (bit cs (b - 31)) e)
full_more (suc k) ds cs b h =
    let e : (b + 1) * 2 ^ suc k ≡ (2 * b + 1 + 1) * 2 ^ k =
    ap (λ (x : ℕ). (b + 1) * x) (let e : 2 ^ suc k ≡ 2 * 2 ^ k = omega (arith, pow-suc 2 k) in e) ∙ sym (mul_assoc (b + 1) 2 (2 ^ k)) ∙ ap (λ (x : ℕ). x * 2 ^ k) (let e : (b + 1) * 2 ≡ 2 * b + 1 + 1 = omega arith in e)
    in
    let more : (2 * b + 1 + 1) * 2 ^ k ≤ (2 * b + 2 + 1) * 2 ^ k = mul-le-mul_right (2 ^ k) (let l : 2 * b + 1 + 1 ≤ 2 * b + 2 + 1 = omega arith in l) in
    ap₂ (λ (s t : Bool). cond (nat_lt b 31) (bit ds b || (s && t)) (bit cs (b - 31))) (full_more k ds cs (2 * b + 1) (omega (arith, h, e))) (full_more k ds cs (2 * b + 2) (omega (arith, h, e, more)))

half_is : (ds cs h : ℕ) → full 5 ds cs h ≡ half ds cs h
unfolding full_range
half_is ds cs h = elim (cases_lt h 31) [
  | inl l ↦
      (let e : nat_lt h 31 ≡ true = lt-ltb h 31 l in
      sym (cond-true (nat_lt h 31) (full_range ds cs h) (bit cs (h - 31)) e ∙ cond-true (nat_lt h 31) (full 5 ds cs h) (bit ds h) e))
  | inr g ↦
      (let e : nat_lt h 31 ≡ false = le-ltb h 31 g in
      cond-false (nat_lt h 31) (bit ds h || (full 4 ds cs (2 * h + 1) && full 4 ds cs (2 * h + 2))) (bit cs (h - 31)) e ∙ sym (cond-false (nat_lt h 31) (full_range ds cs h) (bit cs (h - 31)) e))
]

pub full_halves : (ds cs b : ℕ) → b < 31 → full_range ds cs b ≡ (bit ds b || (half ds cs (2 * b + 1) && half ds cs (2 * b + 2)))
unfolding full_range
full_halves ds cs b h =
    let e : nat_lt b 31 ≡ true = lt-ltb b 31 h in
    cond-true (nat_lt b 31) (full 5 ds cs b) (bit ds b) e
    ∙ cond-true (nat_lt b 31) (bit ds b || (full 4 ds cs (2 * b + 1) && full 4 ds cs (2 * b + 2))) (bit cs (b - 31)) e
    ∙ ap₂ (λ (s t : Bool). bit ds b || (s && t))
    (full_more 4 ds cs (2 * b + 1) (omega arith) ∙ half_is ds cs (2 * b + 1))
    (full_more 4 ds cs (2 * b + 2) (omega arith) ∙ half_is ds cs (2 * b + 2))

-- bit 31 is no slot
pub full_past : (ds cs : ℕ) → full_range ds cs 31 ≡ bit ds 31
unfolding full_range
full_past ds cs = refl
