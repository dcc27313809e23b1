-- A data slot of a node that a descent stands in is covered where the set slots and the covered children cover it.
use Rattle.std.proofs.Common.{◌≡◌, ℕ, ◌+◌, ◌-◌, ◌*◌, ◌^◌, ◌<◌, ◌≤◌, Bool, true, false, ◌&&◌, cond, not, T, eqb, nat_le, List, Some, None, Option, sym, refl, ap, ◌∙◌, inl, inr, arith, ap₂, pow_pos}
use Rattle.std.proofs.lemmas.Bool.{cases_Bool, cases_eq, cases_lt, le-leb, lt-leb, ne_eqb, and_from, and_parts, false≢true}
use Rattle.nodes.specs.Bitmaps.{bit, ones_below}
use Rattle.nodes.specs.declared.node.Node.{Node}
use Rattle.tree.specs.Levels.{node_at}
use Rattle.std.specs.Bool.{then_some}
use Rattle.register.proofs.Under.{T_true, true_T}
use Rattle.register.specs.Register.{Slot, child_node, first_slot, node_slot}
use Rattle.slots.proofs.Masks.{bit_mask}
use Rattle.slots.specs.Masks.{mask}
use Rattle.aggregate.proofs.Halves.{half_data}
use Rattle.aggregate.specs.Halves.{full_range}
use Rattle.addresses.proofs.Tiers.{tier_split}
use Rattle.addresses.proofs.Nodes.{full_at}
use Rattle.addresses.proofs.Slots.{all_under, number, slot, slot_at, unset}
use Rattle.addresses.proofs.Standing.{childless}
use Rattle.addresses.specs.Sizes.{size, set_at}
use Rattle.addresses.specs.Standing.{Standing, tier_of}
use Rattle.coverage.proofs.Children.{size_none}
use Rattle.aggregate.proofs.Lowest.{Split}
use Rattle.coverage.proofs.Turns.{and_true, kept}
use Rattle.coverage.specs.Slots.{Needs, BitsWithin, slot_covered, data_slot}

-- all addresses under child c are covered
abbrev pub child_covered : List Node → ℕ → ℕ → ℕ → Bool
child_covered ns at rest c = eqb (size (rest - 5) ns (first_slot (child_node ns at c))) (2 ^ (rest - 5))

-- the top slot of a node
pub root_slot : (ns : List Node) (at rest : ℕ) → slot_covered ns at rest 0 ≡ eqb (size rest ns (Some (node_slot at))) (2 ^ rest)
unfolding tier_of
root_slot ns at rest = let e : rest - 0 ≡ rest = omega arith in rw e refl

module _ {ns : List Node} {at rest : ℕ} (st : Standing ns at rest) where
  abbrev node : Node
  node = node_at ns at

  abbrev covered : ℕ
  covered = mask (all_under st 5)

  covered_at : (c : ℕ) → c < 32 → bit covered c ≡ all_under st 5 c
  covered_at c l = bit_mask (all_under st 5) c l

  -- a child that is not there is not covered
  covered_within : BitsWithin covered node.child_bitmap
  covered_within c l t =
      elim (cases_Bool (bit node.child_bitmap c)) [
        | inl s ↦ true_T _ s
        | inr z ↦ absurd (
            let none : size (rest - 5) ns (first_slot (child_node ns at c)) ≡ 0 = ap (λ b. size (rest - 5) ns (first_slot (then_some b (node.children_idx + ones_below c node.child_bitmap)))) z ∙ size_none (rest - 5) ns in
            let f = and_parts (nat_le 5 rest) _ (sym (covered_at c l) ∙ T_true _ t) in
            false≢true (sym (ne_eqb (size (rest - 5) ns (first_slot (child_node ns at c))) (2 ^ (rest - 5)) (λ e. omega (arith, none, e, pow_pos (rest - 5)))) ∙ f.1)
            )
      ]

  to_covered : (c : ℕ) → c < 32 → T (bit node.child_bitmap c) → child_covered ns at rest c ≡ true → T (bit covered c)
  to_covered c l t f = true_T _ (covered_at c l ∙ and_from _ _ (le-leb 5 rest (childless st c l t)) f)

  from_covered : (c : ℕ) → c < 32 → T (bit covered c) → child_covered ns at rest c ≡ true
  from_covered c l t = (and_parts (nat_le 5 rest) _ (sym (covered_at c l) ∙ T_true _ t)).1

  module _ (b : ℕ) (h : b < 31) where
    split : (tier_of b ≤ 4) × (2 ^ tier_of b ≤ b + 1) × (b + 1 < 2 * 2 ^ tier_of b)
    split = tier_split b h

    abbrev bits : ℕ
    bits = b + 1 - 2 ^ tier_of b

    is_slot : number (tier_of b) bits ≡ b
    is_slot = omega (arith, split, pow_pos (tier_of b))

    all_slot : all_under st (tier_of b) bits ≡ slot_covered ns at rest b
    all_slot =
        elim (cases_lt rest (tier_of b)) [
          | inr ge ↦
              ap₂ (λ (t : Bool) (o : Option Slot). t && eqb (size (rest - tier_of b) ns o) (2 ^ (rest - tier_of b))) (le-leb (tier_of b) rest ge) (slot_at st (tier_of b) bits split.0)
          | inl lt ↦ (
              let e : rest - tier_of b ≡ 0 = omega arith in
              let none : set_at ns (data_slot at b) ≡ false = unset st (tier_of b) bits (omega (arith, split)) lt in
              ap (λ t. t && eqb (size (rest - tier_of b) ns (slot st (tier_of b) bits)) (2 ^ (rest - tier_of b))) (lt-leb (tier_of b) rest lt)
              ∙ sym (ap (λ (k : ℕ). eqb (size k ns (Some (data_slot at b))) (2 ^ k)) e ∙ ap (λ t. eqb (cond t 1 0) 1) none)
              )
        ]

    slot_is : slot_covered ns at rest b ≡ full_range node.data_bitmap covered b
    slot_is =
        let e : tier_of b + (5 - tier_of b) ≡ 5 = omega (arith, split) in
        sym all_slot
        ∙ (full_at st covered covered_at (5 - tier_of b) (tier_of b) bits e (omega (arith, split))
        ∙ (ap (λ (x : ℕ). Rattle.aggregate.proofs.Halves.half node.data_bitmap covered x) is_slot ∙ half_data node.data_bitmap covered b h))

    -- no children are enough
    pub none_enough : Needs node.data_bitmap node.child_bitmap b None → false ≡ slot_covered ns at rest b
    unfolding Needs
    none_enough n = sym (slot_is ∙ n covered covered_within)

    -- what a loop over the needed children keeps: those that are not left are covered
    abbrev pub Rest : ℕ → ℕ → Type 0
    Rest needed left = BitsWithin left needed × ((c : ℕ) → c < 32 → T (bit needed c) → bit left c ≡ false → child_covered ns at rest c ≡ true)

    module _ (needed : ℕ) (n : Needs node.data_bitmap node.child_bitmap b (Some needed)) where
      pub needed_there : (c : ℕ) → c < 32 → T (bit needed c) → T (bit node.child_bitmap c)
      unfolding Needs
      needed_there c l t = n.0 c l t

      -- one that is not covered
      pub one_missing : (c : ℕ) → c < 32 → T (bit needed c) → child_covered ns at rest c ≡ false → false ≡ slot_covered ns at rest b
      unfolding Needs
      one_missing c l t f =
          elim (cases_Bool (full_range node.data_bitmap covered b)) [
            | inl s ↦ absurd (false≢true (sym f ∙ from_covered c l (n.2 covered s c l t)))
            | inr z ↦ sym (slot_is ∙ z)
          ]

      -- none is left
      pub all_there : (left : ℕ) → Rest needed left → ((c : ℕ) → c < 32 → bit left c ≡ false) → true ≡ slot_covered ns at rest b
      unfolding Needs
      all_there left r e =
          sym (slot_is ∙ n.1 covered covered_within (λ c l t.
          to_covered c l (n.0 c l t) (r.1 c l t (e c l))))

      -- the lowest child that is left is covered
      pub rest_turn : (left c others : ℕ) → Rest needed left → Split left c others → child_covered ns at rest c ≡ true → Rest needed others
      rest_turn left c others r s f = (
        (λ d l t. r.0 d l (kept left c others s d t)),
        (λ d l t z. elim (cases_eq d c) [
          | inl e ↦ ap (λ (x : ℕ). child_covered ns at rest x) e ∙ f
          | inr ne ↦ r.1 d l t (sym (and_true (bit left d)) ∙ (ap (λ t. bit left d && not t) (sym (ne_eqb d c ne)) ∙ (sym (s.1 d) ∙ z)))
        ]),
      )
