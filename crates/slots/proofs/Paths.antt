-- The bits of a path grow with the tier, so the highest set bit on a path is that of the last tier, and the lowest that of the first.
use Rattle.std.proofs.Common.{◌≡◌, ℕ, zero, suc, ◌+◌, ◌-◌, ◌*◌, ◌/◌, ◌%◌, ◌^◌, ◌<◌, ◌≤◌, Bool, true, false, ◌&&◌, ◌||◌, T, eqb, ◌⊎◌, Some, None, Option, sym, ap, ◌∙◌, subst, inl, inr, pow-suc, arith, eqb→eq, pow_pos, pow_mono, shr-shr, shr_lt}
use lib.Dec.{eqb_refl}
use lib.Pow.{field, shl-shr}
use Rattle.std.proofs.lemmas.Bool.{cases_lt, cases_order}
use Rattle.std.specs.Option.{option_map}
use Rattle.keys.specs.Blocks.{first_bits}
use Rattle.nodes.specs.Bitmaps.{bit}
use Rattle.slots.proofs.Bits.{both, both_left, both_right}
use Rattle.slots.proofs.Both.{highest_mask, lowest_mask}
use Rattle.slots.proofs.Picks.{highest_found, highest_is, lowest_found, lowest_is}
use Rattle.slots.specs.Masks.{mask, next_four, on_path, path_bit, some_tier}
use Rattle.slots.specs.Picks.{highest, lowest, IsHighest, IsLowest}

-- a path has one bit at each tier, among the 2^j bits from 2^j - 1 on
path_in : (v j : ℕ) → v < 16 → j ≤ 4 → v / 2 ^ (4 - j) < 2 ^ j
path_in v j h l =
    let e : j + (4 - j) ≡ 4 = omega arith in
    let b : v < 2 ^ (j + (4 - j)) = rw e h in
    shr_lt j (4 - j) b

pub path_grows : (v i j : ℕ) → v < 16 → i < j → j ≤ 4 → path_bit v i < path_bit v j
path_grows v i j h l m =
    let p : 2 ^ suc i ≤ 2 ^ j = pow_mono l in
    omega (arith, path_in v i h (omega arith), p, pow-suc 2 i, pow_pos i)

pub path_below : (v j : ℕ) → v < 16 → j ≤ 4 → path_bit v j < 32
path_below v j h l =
    let p : 2 ^ j ≤ 2 ^ 4 = pow_mono l in
    omega (arith, path_in v j h l)

-- of two bits on a path, the higher has the higher tier
path_tier : (v i j : ℕ) → v < 16 → i ≤ 4 → path_bit v i < path_bit v j → i < j
path_tier v i j h l g = elim (cases_order i j) [
  | inl e ↦ absurd (let z : ⊥ = omega (arith, ap (path_bit v) e) in z)
  | inr (inl m) ↦ m
  | inr (inr m) ↦ absurd (let z : ⊥ = omega (arith, path_grows v j i h m l) in z)
]

either_way : (s t : Bool) → T (s || t) → T s ⊎ T t
either_way true t h = inl tt
either_way false t h = inr h

left_way : (s t : Bool) → T s → T (s || t)
left_way true t h = tt
left_way false t h = absurd h

right_way : (s t : Bool) → T t → T (s || t)
right_way true t h = tt
right_way false t h = h

tier_from : (n : ℕ) (f : ℕ → Bool) → T (some_tier n f) → (j : ℕ) × (j ≤ n) × T (f j)
tier_from zero f h = (0, omega arith, h)
tier_from (suc n) f h = elim (either_way (f (suc n)) (some_tier n f) h) [
  | inl t ↦ (suc n, omega arith, t)
  | inr t ↦ (let r = tier_from n f t in (r.0, omega (arith, r.1), r.2))
]

tier_to : (n j : ℕ) (f : ℕ → Bool) → j ≤ n → T (f j) → T (some_tier n f)
tier_to zero j f h t = let e : j ≡ 0 = omega arith in subst (λ (x : ℕ). T (f x)) e t
tier_to (suc n) j f h t = elim (cases_lt j (suc n)) [
  | inl l ↦ right_way (f (suc n)) (some_tier n f) (tier_to n j f (omega arith) t)
  | inr g ↦ (let e : j ≡ suc n = omega arith in left_way (f (suc n)) (some_tier n f) (subst (λ (x : ℕ). T (f x)) e t))
]

pub on_path_from : (l v b : ℕ) → T (on_path l v b) → (j : ℕ) × (j ≤ l) × (b ≡ path_bit v j)
unfolding on_path
on_path_from l v b h =
    let r = tier_from l (λ j. eqb b (path_bit v j)) h in
    (r.0, r.1, eqb→eq b (path_bit v r.0) r.2)

pub on_path_to : (l v j : ℕ) → j ≤ l → T (on_path l v (path_bit v j))
unfolding on_path
on_path_to l v j h = tier_to l j (λ i. eqb (path_bit v j) (path_bit v i)) h (eqb_refl (path_bit v j))

-- the path's bit of a tier is the data bit of the key's block that ends there
pub path_block : (w d j a : ℕ) → j ≤ 4 → d + j ≤ w → path_bit (next_four w d a) j ≡ 2 ^ j - 1 + first_bits w (d + j) a % 2 ^ j
path_block w d j a h l =
    let k : ℕ = 4 - j in
    let n : ℕ = a * 16 / 2 ^ (w - d) in
    let rest : ℕ = w - (d + j) in
    let e : j + k ≡ 4 = omega arith in
    let f : (w - d) + k ≡ 4 + rest = omega arith in
    let whole : n / 2 ^ k ≡ a / 2 ^ rest =
    shr-shr (a * 16) (w - d) k ∙ ap (λ (x : ℕ). a * 16 / 2 ^ x) f ∙ sym (shr-shr (a * 16) 4 rest) ∙ ap (λ (x : ℕ). x / 2 ^ rest) (shl-shr a 4)
    in
    ap (λ (x : ℕ). 2 ^ j - 1 + x) (ap (λ (x : ℕ). n % 2 ^ x / 2 ^ k) (sym e) ∙ field n j k ∙ ap (λ (x : ℕ). x % 2 ^ j) whole)

module _ (m l v : ℕ) (deep : l ≤ 4) (four : v < 16) where
  -- a set bit on the path has a tier at which the path's bit is set
  on_tier : (b : ℕ) → T (bit m b && on_path l v b) → (j : ℕ) × (j ≤ l) × (b ≡ path_bit v j) × T (bit m (path_bit v j))
  on_tier b t =
      let r = on_path_from l v b (both_right (bit m b) (on_path l v b) t) in
      (r.0, r.1, r.2, subst (λ (x : ℕ). T (bit m x)) r.2 (both_left (bit m b) (on_path l v b) t))

  none_on : ((j : ℕ) → j < suc l → T (bit m (path_bit v j)) → ⊥) → (b : ℕ) → b < 32 → T (bit m b && on_path l v b) → ⊥
  none_on none b h t = let r = on_tier b t in none r.0 (omega (arith, r.1)) r.3

  set_on : (j : ℕ) → j < suc l → T (bit m (path_bit v j)) → T (bit m (path_bit v j) && on_path l v (path_bit v j))
  set_on j h t = both (bit m (path_bit v j)) (on_path l v (path_bit v j)) t (on_path_to l v j (omega arith))

  highest_at : (r : Option ℕ) → IsHighest (suc l) (λ j. bit m (path_bit v j)) r → IsHighest 32 (λ b. bit m b && on_path l v b) (option_map (path_bit v) r)
  highest_at None h = none_on h
  highest_at (Some j) h = (
    path_below v j four (omega (arith, h.0)),
    set_on j h.0 h.1,
    λ b g _ t. (let r = on_tier b t in
        h.2 r.0 (path_tier v j r.0 four (omega (arith, h.0)) (omega (arith, r.2))) (omega (arith, r.1)) r.3),
  )

  lowest_at : (r : Option ℕ) → IsLowest (suc l) (λ j. bit m (path_bit v j)) r → IsLowest 32 (λ b. bit m b && on_path l v b) (option_map (path_bit v) r)
  lowest_at None h = none_on h
  lowest_at (Some j) h = (
    path_below v j four (omega (arith, h.0)),
    set_on j h.0 h.1,
    λ b g t. (let r = on_tier b t in
        h.2 r.0 (path_tier v r.0 j four (omega (arith, r.1)) (omega (arith, r.2))) r.3),
  )

  pub highest_on_path : highest 32 (λ b. bit m b && on_path l v b) ≡ option_map (path_bit v) (highest (suc l) (λ j. bit m (path_bit v j)))
  highest_on_path = sym (highest_found 32 (λ b. bit m b && on_path l v b) _ (highest_at (highest (suc l) (λ j. bit m (path_bit v j))) (highest_is (suc l) (λ j. bit m (path_bit v j)))))

  pub lowest_on_path : lowest 32 (λ b. bit m b && on_path l v b) ≡ option_map (path_bit v) (lowest (suc l) (λ j. bit m (path_bit v j)))
  lowest_on_path = sym (lowest_found 32 (λ b. bit m b && on_path l v b) _ (lowest_at (lowest (suc l) (λ j. bit m (path_bit v j))) (lowest_is (suc l) (λ j. bit m (path_bit v j)))))

  -- so with the mask of the path
  pub highest_path_mask : highest 32 (λ b. bit m b && bit (mask (on_path l v)) b) ≡ option_map (path_bit v) (highest (suc l) (λ j. bit m (path_bit v j)))
  highest_path_mask = highest_mask m (on_path l v) ∙ highest_on_path

  pub lowest_path_mask : lowest 32 (λ b. bit m b && bit (mask (on_path l v)) b) ≡ option_map (path_bit v) (lowest (suc l) (λ j. bit m (path_bit v j)))
  lowest_path_mask = lowest_mask m (on_path l v) ∙ lowest_on_path
