-- The lowest set bit of a bitmap, and what is left without it: what a bitmap and the number before it have in common.
use Rattle.std.proofs.Common.{◌≡◌, ℕ, suc, ◌+◌, ◌-◌, ◌*◌, ◌/◌, ◌%◌, ◌^◌, ◌<◌, Bool, true, false, ◌&&◌, not, T, eqb, Some, None, Option, sym, refl, ap, ap₂, ◌∙◌, subst, inl, inr, add-one, arith, eqb→eq, pow-suc, pow_pos, shr-shr}
use lib.Bits.{bit_and, and_block, and_mask, and_self}
use lib.Count.{count_trailing_zeros}
use Rattle.std.specs.Option.{option_map, unwrap_or, is_some}
use Rattle.std.proofs.lemmas.Bool.{cases_order, eq-eqb, ne_eqb, false_from_ne_true, and_left, and_right, not_from_true, false≢true}
use Rattle.std.proofs.lemmas.Nat.{div-add-mod'}
use Rattle.std.proofs.Math.Nat.{mod_self}
use Rattle.nodes.specs.Bitmaps.{bit}
use Rattle.aggregate.proofs.Bits.{bit_low, bit_right, bit_up}
use Rattle.slots.proofs.Bits.{bit_mod, no_bits}
use Rattle.slots.proofs.Both.{trailing_lowest, zero_lowest}
use Rattle.slots.proofs.Picks.{lowest_is}
use Rattle.slots.specs.Picks.{IsLowest, lowest}

and_true : (t : Bool) → t ≡ (t && true)
and_true true = refl
and_true false = refl

module _ (m b : ℕ) (low : IsLowest 32 (bit m) (Some b)) where
  abbrev over : ℕ
  over = m / 2 ^ suc b

  parts : m ≡ over * 2 ^ suc b + 2 ^ b
  parts =
      let none : m % 2 ^ b ≡ 0 = no_bits b (m % 2 ^ b) (omega (arith, pow_pos b)) (λ c h t. low.2 c h (subst T (bit_mod m b c h) t)) in
      let half : m / 2 ^ b / 2 ^ 1 ≡ over = shr-shr m b 1 ∙ ap (λ (x : ℕ). m / 2 ^ x) (add-one b) in
      let odd : m / 2 ^ b ≡ over * 2 + 1 = omega (arith, eqb→eq (m / 2 ^ b % 2) 1 low.1, half) in
      omega (arith, none, div-add-mod' m (2 ^ b), ap (λ (x : ℕ). x * 2 ^ b) odd, ap (λ (x : ℕ). over * x) (pow-suc 2 b))

  rest_is : m - 2 ^ b ≡ over * 2 ^ suc b
  rest_is = omega (arith, parts)

  rest_and : bit_and m (m - 1) ≡ m - 2 ^ b
  rest_and =
      let k : ℕ = suc b in
      let before : m - 1 ≡ over * 2 ^ k + (2 ^ b - 1) = omega (arith, parts, pow_pos b) in
      ap₂ bit_and parts before ∙ and_block k over over (2 ^ b) (2 ^ b - 1) (omega (arith, pow-suc 2 b, pow_pos b)) (omega (arith, pow-suc 2 b, pow_pos b))
      ∙ omega (arith, ap (λ (x : ℕ). x * 2 ^ k) (and_self over), and_mask (2 ^ b) b, mod_self (2 ^ b), rest_is)

  rest_lt : m - 2 ^ b < m
  rest_lt = omega (arith, parts, pow_pos b)

  rest_bit : (c : ℕ) → bit (m - 2 ^ b) c ≡ (bit m c && not (eqb c b))
  rest_bit c =
      let k : ℕ = suc b in
      ap (λ (x : ℕ). bit x c) rest_is ∙ elim (cases_order c b) [
        | inl e ↦ bit_low over k c (omega arith) ∙ sym (and_right (bit m c) (not (eqb c b)) (not_from_true (eqb c b) (eq-eqb c b e)))
        | inr (inl l) ↦ bit_low over k c (omega arith) ∙ sym (and_left (bit m c) (not (eqb c b)) (false_from_ne_true (bit m c) (λ t. low.2 c l (subst T (sym t) tt))))
        | inr (inr g) ↦
            (let e : k + (c - k) ≡ c = omega arith in
            bit_up over k c g ∙ bit_right m k (c - k) ∙ ap (bit m) e ∙ and_true (bit m c) ∙ ap (λ (t : Bool). bit m c && not t) (sym (ne_eqb c b (λ e. omega arith))))
      ]

abbrev apart : ℕ → ℕ → ℕ × ℕ
apart m b = (b, m - 2 ^ b)

abbrev pub split : ℕ → Option (ℕ × ℕ)
split m = option_map (apart m) (lowest 32 (bit m))

pub none_split : (m : ℕ) → m ≡ 0 → None ≡ split m
none_split m e = ap (option_map (apart m)) (zero_lowest m e)

pub some_split : (m : ℕ) → m < 2 ^ 32 → (m ≡ 0 → ⊥) → Some (count_trailing_zeros 32 m, bit_and m (m - 1)) ≡ split m
some_split m small some =
    let b : ℕ = count_trailing_zeros 32 m in
    let low : IsLowest 32 (bit m) (Some b) = subst (IsLowest 32 (bit m)) (sym (trailing_lowest m small some)) (lowest_is 32 (bit m)) in
    ap (λ (x : ℕ). Some (b, x)) (rest_and m b low) ∙ ap (option_map (apart m)) (trailing_lowest m small some)

-- b is the lowest set bit of m, and the others are the set bits of a number below m
abbrev pub Split : ℕ → ℕ → ℕ → Type 0
Split m b others = IsLowest 32 (bit m) (Some b) × ((c : ℕ) → bit others c ≡ (bit m c && not (eqb c b))) × (others < m)

-- of a split: the lowest set bit and the others, or no set bit
pub split_some : (m b others : ℕ) → Some (b, others) ≡ split m → Split m b others
split_some m b others e = by (lowest 32 (bit m)) (lowest_is 32 (bit m)) e
  where
    by : (o : Option ℕ) → IsLowest 32 (bit m) o → Some (b, others) ≡ option_map (apart m) o → Split m b others
    by None i f = absurd (false≢true (sym (ap is_some f)))
    by (Some a) i f =
        let first : a ≡ b = sym (ap (λ (o : Option (ℕ × ℕ)). (unwrap_or o (0, 0)).0) f) in
        let second : m - 2 ^ a ≡ others = sym (ap (λ (o : Option (ℕ × ℕ)). (unwrap_or o (0, 0)).1) f) in
        subst (λ (x : ℕ). Split m x others) first (subst (λ (y : ℕ). Split m a y) second (i, rest_bit m a i, rest_lt m a i))

pub split_none : (m : ℕ) → None ≡ split m → (c : ℕ) → c < 32 → bit m c ≡ false
split_none m e c l = by (lowest 32 (bit m)) (lowest_is 32 (bit m)) e
  where
    by : (o : Option ℕ) → IsLowest 32 (bit m) o → None ≡ option_map (apart m) o → bit m c ≡ false
    by None i f = false_from_ne_true (bit m c) (λ t. i c l (subst T (sym t) tt))
    by (Some a) i f = absurd (false≢true (ap is_some f))
