-- A node's covered slots are those of its set slots and its covered children; its addresses are those of the set slots under no other and of the children under none.
use Rattle.std.proofs.Common.{◌≡◌, ℕ, zero, suc, ◌+◌, ◌-◌, ◌*◌, ◌^◌, ◌<◌, ◌≤◌, Bool, true, false, cond, ◌&&◌, ◌||◌, List, Some, sym, refl, ap, ◌∙◌, subst, arith, ap₂, pow-suc, pow_pos}
use Rattle.std.proofs.lemmas.Bool.{lt-ltb, le-ltb, le-leb}
use Rattle.nodes.specs.Bitmaps.{bit}
use Rattle.nodes.specs.declared.node.Node.{Node}
use Rattle.tree.specs.Levels.{node_at}
use Rattle.addresses.proofs.Halves.{half_halves, under_low, under_high}
use Rattle.aggregate.proofs.Halves.{half, half_child, under_top}
use Rattle.aggregate.specs.Halves.{under_set}
use Rattle.addresses.proofs.Slots.{number, number_low, number_high, number_below, under_slot, all_under, under_halves, all_halves}
use Rattle.addresses.proofs.Sums.{sum_same, sum_both, sum_pairs, sum_parts}
use Rattle.addresses.specs.Sizes.{size}
use Rattle.addresses.specs.Standing.{Standing, tier_of}
use Rattle.addresses.specs.Sums.{sum_below}

pub tier_number : (l p : ℕ) → l ≤ 4 → p < 2 ^ l → tier_of (number l p) ≡ l
unfolding tier_of
tier_number zero p h s = rw (lt-ltb (2 ^ 0 - 1 + p) 1 (omega arith)) refl
tier_number (suc zero) p h s = rw (le-ltb (2 ^ 1 - 1 + p) 1 (omega arith), lt-ltb (2 ^ 1 - 1 + p) 3 (omega arith)) refl
tier_number (suc (suc zero)) p h s = rw (le-ltb (2 ^ 2 - 1 + p) 1 (omega arith), le-ltb (2 ^ 2 - 1 + p) 3 (omega arith), lt-ltb (2 ^ 2 - 1 + p) 7 (omega arith)) refl
tier_number (suc (suc (suc zero))) p h s = rw (le-ltb (2 ^ 3 - 1 + p) 1 (omega arith), le-ltb (2 ^ 3 - 1 + p) 3 (omega arith), le-ltb (2 ^ 3 - 1 + p) 7 (omega arith), lt-ltb (2 ^ 3 - 1 + p) 15 (omega arith)) refl
tier_number (suc (suc (suc (suc zero)))) p h s = rw (le-ltb (2 ^ 4 - 1 + p) 1 (omega arith), le-ltb (2 ^ 4 - 1 + p) 3 (omega arith), le-ltb (2 ^ 4 - 1 + p) 7 (omega arith), le-ltb (2 ^ 4 - 1 + p) 15 (omega arith)) refl
tier_number (suc (suc (suc (suc (suc l))))) p h s = let z : ⊥ = omega arith in absurd z

pub halved : (l p : ℕ) → p < 2 ^ l → (2 * p < 2 ^ suc l) × (2 * p + 1 < 2 ^ suc l)
halved l p h = (omega (arith, pow-suc 2 l), omega (arith, pow-suc 2 l))

-- a slot's addresses, or none where it is under a set one: its own and those of its halves
turn : (u t : Bool) (k x y : ℕ) → cond u 0 (cond t k (x + y)) ≡ cond u 0 (cond t k 0) + (cond (t || u) 0 x + cond (t || u) 0 y)
turn true true k x y = refl
turn true false k x y = refl
turn false true k x y = omega arith
turn false false k x y = omega arith

module _ {ns : List Node} {at rest : ℕ} (st : Standing ns at rest) where
  abbrev slots : ℕ
  slots = (node_at ns at).data_bitmap

  module _ (cs : ℕ) (given : (c : ℕ) → c < 32 → bit cs c ≡ all_under st 5 c) where
    pub full_at : (k l p : ℕ) → l + k ≡ 5 → p < 2 ^ l → all_under st l p ≡ half slots cs (number l p)
    full_at zero l p e h =
        let f : 5 ≡ l = omega arith in
        let small : p < 2 ^ 5 = subst (λ (j : ℕ). p < 2 ^ j) (sym f) h in
        let P : ℕ → Type 0 = λ j. all_under st j p ≡ half slots cs (number j p) in
        subst P f (sym (given p small) ∙ sym (half_child slots cs p))
    full_at (suc k) l p e h =
        let i = halved l p h in
        all_halves st l p (omega arith) h
        ∙ (ap₂ (λ (x y : Bool). bit slots (number l p) || (x && y))
        (full_at k (suc l) (2 * p) (omega arith) i.0 ∙ ap (λ (b : ℕ). half slots cs b) (number_low l p))
        (full_at k (suc l) (2 * p + 1) (omega arith) i.1 ∙ ap (λ (b : ℕ). half slots cs b) (number_high l p))
        ∙ sym (half_halves slots cs (number l p) (number_below l p (omega arith) h)))

  -- the addresses of a set slot that is under no other
  abbrev pub here : ℕ → ℕ
  here b = cond (under_set slots b) 0 (cond (bit slots b) (2 ^ (rest - tier_of b)) 0)

  -- those under a slot that is under no set one
  abbrev pub free_under : ℕ → ℕ → ℕ
  free_under l p = cond (under_set slots (number l p)) 0 (under_slot st l p)

  slot_turn : (l p : ℕ) → l ≤ 4 → p < 2 ^ l → free_under l p ≡ here (number l p) + (free_under (suc l) (2 * p) + free_under (suc l) (2 * p + 1))
  slot_turn l p h s =
      let b = number_below l p h s in
      let u : Bool = under_set slots (number l p) in
      let t : Bool = bit slots (number l p) in
      let low : under_set slots (number (suc l) (2 * p)) ≡ (t || u) = ap (λ (x : ℕ). under_set slots x) (number_low l p) ∙ under_low slots (number l p) b in
      let high : under_set slots (number (suc l) (2 * p + 1)) ≡ (t || u) = ap (λ (x : ℕ). under_set slots x) (number_high l p) ∙ under_high slots (number l p) b in
      let x : ℕ = under_slot st (suc l) (2 * p) in
      let y : ℕ = under_slot st (suc l) (2 * p + 1) in
      ap (λ (n : ℕ). cond u 0 n) (under_halves st l p h s)
      ∙ (turn u t (2 ^ (rest - l)) x y
      ∙ (ap (λ (k : ℕ). cond u 0 (cond t (2 ^ (rest - k)) 0) + (cond (t || u) 0 x + cond (t || u) 0 y)) (sym (tier_number l p h s))
      ∙ ap₂ (λ (v z : Bool). here (number l p) + (cond v 0 x + cond z 0 y)) (sym low) (sym high)))

  tier_turn : (l : ℕ) → l ≤ 4 → sum_below (2 ^ l) (free_under l) ≡ sum_below (2 ^ l) (λ p. here (number l p)) + sum_below (2 ^ suc l) (free_under (suc l))
  tier_turn l h =
      let e : 2 * 2 ^ l ≡ 2 ^ suc l = omega (arith, pow-suc 2 l) in
      sum_same (2 ^ l) (free_under l) (λ p. here (number l p) + (free_under (suc l) (2 * p) + free_under (suc l) (2 * p + 1))) (λ p s. slot_turn l p h s)
      ∙ (sum_both (2 ^ l) (λ p. here (number l p)) (λ p. free_under (suc l) (2 * p) + free_under (suc l) (2 * p + 1))
      ∙ ap (λ (x : ℕ). sum_below (2 ^ l) (λ p. here (number l p)) + x) (sym (sum_pairs (2 ^ l) (free_under (suc l))) ∙ ap (λ (n : ℕ). sum_below n (free_under (suc l))) e))

  tiers : (l : ℕ) → l ≤ 5 → free_under 0 0 ≡ sum_below (2 ^ l - 1) here + sum_below (2 ^ l) (free_under l)
  tiers zero h = omega arith
  tiers (suc l) h =
      let e : (2 ^ l - 1) + 2 ^ l ≡ 2 ^ suc l - 1 = omega (arith, pow-suc 2 l, pow_pos l) in
      let parts : sum_below (2 ^ suc l - 1) here ≡ sum_below (2 ^ l - 1) here + sum_below (2 ^ l) (λ p. here (number l p)) =
      ap (λ (n : ℕ). sum_below n here) (sym e) ∙ sum_parts (2 ^ l - 1) (2 ^ l) here
      in
      omega (arith, tiers l (omega arith), tier_turn l (omega arith), parts)

  pub root_free : size rest ns (Some (record { node = at; tier = 0; path = 0 })) ≡ free_under 0 0
  root_free =
      let e : rest - 0 ≡ rest = omega arith in
      rw (under_top slots, le-leb 0 rest (omega arith), e) refl

  pub node_total : size rest ns (Some (record { node = at; tier = 0; path = 0 })) ≡ sum_below 31 here + sum_below 32 (free_under 5)
  node_total = root_free ∙ tiers 5 (omega arith)
