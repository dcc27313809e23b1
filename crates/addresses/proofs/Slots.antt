-- A node's slots tier by tier, the child slots as the sixth: how many addresses under each, and which are covered, from a slot to its two halves.
use Rattle.std.proofs.Common.{◌≡◌, ℕ, suc, ◌+◌, ◌-◌, ◌*◌, ◌^◌, ◌<◌, ◌≤◌, Bool, true, false, cond, ◌&&◌, ◌||◌, eqb, nat_lt, nat_le, List, Some, Option, sym, refl, ap, ◌∙◌, inl, inr, arith, ap₂, pow-suc, pow_pos, pow_mono}
use Rattle.std.proofs.lemmas.Bool.{cases_lt, cases_eq, cases_Bool, lt-ltb, le-ltb, le-leb, lt-leb, cond-true, eq-eqb, ne_eqb}
use Rattle.nodes.specs.Bitmaps.{bit}
use Rattle.nodes.specs.declared.node.Node.{Node}
use Rattle.tree.specs.Levels.{node_at}
use Rattle.register.specs.Register.{Slot, child_node, next_slot, first_slot}
use Rattle.register.proofs.Under.{true_T}
use Rattle.addresses.proofs.Sizes.{size_le}
use Rattle.addresses.proofs.Standing.{slot_fits}
use Rattle.addresses.specs.Sizes.{size, set_at}
use Rattle.addresses.specs.Standing.{Standing}

-- the number of a slot
abbrev pub number : ℕ → ℕ → ℕ
number l p = 2 ^ l - 1 + p

pub number_low : (l p : ℕ) → number (suc l) (2 * p) ≡ 2 * number l p + 1
number_low l p = omega (arith, pow-suc 2 l, pow_pos l)

pub number_high : (l p : ℕ) → number (suc l) (2 * p + 1) ≡ 2 * number l p + 2
number_high l p = omega (arith, pow-suc 2 l, pow_pos l)

pub number_below : (l p : ℕ) → l ≤ 4 → p < 2 ^ l → number l p < 31
number_below l p h s =
    let g : suc l ≤ 5 = omega arith in
    let m : 2 ^ suc l ≤ 2 ^ 5 = pow_mono g in
    omega (arith, m, pow-suc 2 l, pow_pos l)

-- slots of one number are of one tier
one_tier : (l m p q : ℕ) → p < 2 ^ l → q < 2 ^ m → number l p ≡ number m q → l ≤ m
one_tier l m p q h k e =
    elim (cases_lt m l) [
      | inl lt ↦ (let g : 2 ^ suc m ≤ 2 ^ l = pow_mono lt in absurd (omega (arith, g, pow-suc 2 m, pow_pos m)))
      | inr ge ↦ ge
    ]

-- of two parts that are no more than half, both are whole where the sum is
both : (t : Bool) (r x y : ℕ) → x ≤ 2 ^ r → y ≤ 2 ^ r → eqb (cond t (2 ^ suc r) (x + y)) (2 ^ suc r) ≡ (t || (eqb x (2 ^ r) && eqb y (2 ^ r)))
both true r x y h k = eq-eqb _ _ refl
both false r x y h k =
    elim (cases_eq x (2 ^ r)) [
      | inl e ↦ elim (cases_eq y (2 ^ r)) [
        | inl f ↦ rw (eq-eqb x (2 ^ r) e, eq-eqb y (2 ^ r) f) (eq-eqb _ _ (omega (arith, pow-suc 2 r, e, f)))
        | inr f ↦ rw (eq-eqb x (2 ^ r) e, ne_eqb y (2 ^ r) f) (ne_eqb _ _ (λ q. omega (arith, pow-suc 2 r, e, f, q)))
      ]
      | inr e ↦ rw (ne_eqb x (2 ^ r) e) (ne_eqb _ _ (λ q. omega (arith, pow-suc 2 r, e, q)))
    ]

single : (t : Bool) → eqb (cond t 1 0) 1 ≡ (t || false)
single true = refl
single false = refl

module _ {ns : List Node} {at rest : ℕ} (st : Standing ns at rest) where
  abbrev pub node : Node
  node = node_at ns at

  -- the slot of tier l with the bits p, and as the sixth tier the child slots
  abbrev pub slot : ℕ → ℕ → Option Slot
  slot l p = cond (nat_lt l 5) (Some (record { node = at; tier = l; path = p })) (first_slot (child_node ns at p))

  next_is : (l p b : ℕ) → l ≤ 4 → next_slot ns b (record { node = at; tier = l; path = p }) ≡ slot (suc l) (2 * p + b)
  next_is l p b h =
      elim (cases_lt l 4) [
        | inl lt ↦ rw (lt-ltb l 4 lt, lt-ltb (suc l) 5 (omega arith)) (let e : l + 1 ≡ suc l = omega arith in rw e refl)
        | inr ge ↦ rw (le-ltb l 4 ge, le-ltb (suc l) 5 (omega arith)) refl
      ]

  -- the addresses under a slot, none where it is past the key's end
  abbrev pub under_slot : ℕ → ℕ → ℕ
  under_slot l p = cond (nat_le l rest) (size (rest - l) ns (slot l p)) 0

  -- all of them
  abbrev pub all_under : ℕ → ℕ → Bool
  all_under l p = nat_le l rest && eqb (size (rest - l) ns (slot l p)) (2 ^ (rest - l))

  pub unset : (l p : ℕ) → p < 2 ^ l → rest < l → bit node.data_bitmap (number l p) ≡ false
  unset l p h past =
      elim (cases_Bool (bit node.data_bitmap (number l p))) [
        | inl t ↦ absurd (
            let f = slot_fits st (number l p) (true_T _ t) in
            omega (arith, one_tier l f.0 p f.1 h f.2.1 f.2.2, f.3)
            )
        | inr z ↦ z
      ]

  pub slot_at : (l p : ℕ) → l ≤ 4 → slot l p ≡ Some (record { node = at; tier = l; path = p })
  slot_at l p h = cond-true (nat_lt l 5) (Some (record { node = at; tier = l; path = p })) (first_slot (child_node ns at p)) (lt-ltb l 5 (omega arith))

  set_slot : (l p : ℕ) → set_at ns (record { node = at; tier = l; path = p }) ≡ bit node.data_bitmap (number l p)
  set_slot l p = refl

  module _ (l p : ℕ) (h : l ≤ 4) (s : p < 2 ^ l) where
    abbrev set : Bool
    set = bit node.data_bitmap (number l p)

    within : l < rest → size (rest - l) ns (slot l p) ≡ cond set (2 ^ (rest - l)) (size (rest - suc l) ns (slot (suc l) (2 * p)) + size (rest - suc l) ns (slot (suc l) (2 * p + 1)))
    within lt =
        let e : rest - l ≡ suc (rest - suc l) = omega arith in
        let z : 2 * p + 0 ≡ 2 * p = omega arith in
        ap (λ (o : Option Slot). size (rest - l) ns o) (slot_at l p h)
        ∙ (ap (λ (k : ℕ). size k ns (Some (record { node = at; tier = l; path = p }))) e
        ∙ (ap₂ (λ (x y : Option Slot). cond set (2 ^ suc (rest - suc l)) (size (rest - suc l) ns x + size (rest - suc l) ns y)) (next_is l p 0 h ∙ ap (slot (suc l)) z) (next_is l p 1 h)
        ∙ ap (λ (k : ℕ). cond set (2 ^ k) (size (rest - suc l) ns (slot (suc l) (2 * p)) + size (rest - suc l) ns (slot (suc l) (2 * p + 1)))) (sym e)))

    at_end : l ≡ rest → size (rest - l) ns (slot l p) ≡ cond set 1 0
    at_end q =
        let e : rest - l ≡ 0 = omega arith in
        ap (λ (o : Option Slot). size (rest - l) ns o) (slot_at l p h) ∙ ap (λ (k : ℕ). size k ns (Some (record { node = at; tier = l; path = p }))) e

    pub under_halves : under_slot l p ≡ cond set (2 ^ (rest - l)) (under_slot (suc l) (2 * p) + under_slot (suc l) (2 * p + 1))
    under_halves =
        elim (cases_lt l rest) [
          | inl lt ↦ rw (le-leb l rest (omega arith), le-leb (suc l) rest (omega arith)) (within lt)
          | inr ge ↦ elim (cases_eq l rest) [
            | inl q ↦ (let e : rest - l ≡ 0 = omega arith in rw (le-leb l rest (omega arith), lt-leb (suc l) rest (omega arith), at_end q, e) refl)
            | inr ne ↦ rw (lt-leb l rest (omega (arith, ne)), lt-leb (suc l) rest (omega arith), unset l p s (omega (arith, ne))) refl
          ]
        ]

    pub all_halves : all_under l p ≡ (set || (all_under (suc l) (2 * p) && all_under (suc l) (2 * p + 1)))
    all_halves =
        elim (cases_lt l rest) [
          | inl lt ↦ rw (le-leb l rest (omega arith), le-leb (suc l) rest (omega arith), within lt) (
              let e : rest - l ≡ suc (rest - suc l) = omega arith in
              rw e (both set (rest - suc l) (size (rest - suc l) ns (slot (suc l) (2 * p))) (size (rest - suc l) ns (slot (suc l) (2 * p + 1))) (size_le (rest - suc l) ns _) (size_le (rest - suc l) ns _)))
          | inr ge ↦ elim (cases_eq l rest) [
            | inl q ↦ (let e : rest - l ≡ 0 = omega arith in rw (le-leb l rest (omega arith), lt-leb (suc l) rest (omega arith), at_end q, e) (single set))
            | inr ne ↦ rw (lt-leb l rest (omega (arith, ne)), lt-leb (suc l) rest (omega arith), unset l p s (omega (arith, ne))) refl
          ]
        ]
