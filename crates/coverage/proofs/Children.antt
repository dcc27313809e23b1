-- A node that a descent stands in: the sums over its free slots and its free children are its addresses, and the location of a child leads on.
use Rattle.std.proofs.Common.{◌≡◌, ℕ, zero, suc, ◌+◌, ◌-◌, ◌^◌, ◌<◌, ◌≤◌, Bool, true, false, ◌&&◌, cond, not, T, nat_lt, nat_le, List, Some, None, Option, sym, refl, ap, ◌∙◌, subst, inl, inr, arith, ap₂}
use Rattle.std.proofs.lemmas.Bool.{cases_Bool, cases_lt, lt-ltb, le-leb, cond-true, cond-false}
use Rattle.nodes.specs.Bitmaps.{bit, ones_below, place_of}
use Rattle.nodes.specs.declared.node.Node.{Node}
use Rattle.tree.specs.Levels.{node_at}
use Rattle.register.proofs.WaySlots.{child_below}
use Rattle.register.proofs.Under.{T_true, true_T}
use Rattle.register.specs.Register.{child_node, first_slot, node_slot}
use Rattle.slots.proofs.Bits.{bit_top}
use Rattle.slots.proofs.Masks.{bit_mask, mask_lt}
use Rattle.slots.specs.Masks.{mask}
use Rattle.slots.specs.Places.{loc_of}
use Rattle.slots.specs.declared.loc.Loc.{Loc}
use Rattle.aggregate.specs.Halves.{under_set}
use Rattle.addresses.proofs.Nodes.{free_under, here, node_total}
use Rattle.addresses.proofs.Slots.{number_below}
use Rattle.addresses.proofs.Standing.{child_stands, childless, node_in, slot_fits}
use Rattle.addresses.proofs.Sums.{sum_same}
use Rattle.addresses.specs.Sizes.{size}
use Rattle.addresses.specs.Standing.{Standing, tier_of}
use Rattle.addresses.specs.Sums.{bit_sum, sum_below}
use Rattle.coverage.specs.Slots.{free_child, free_slot}
use Rattle.std.specs.Bool.{then_some}

pub size_none : (r : ℕ) (ns : List Node) → size r ns None ≡ 0
size_none zero ns = refl
size_none (suc r) ns = refl

-- the bits that are set and under none
free_bit : (x u : Bool) (k : ℕ) → cond (x && not u) k 0 ≡ cond u 0 (cond x k 0)
free_bit true true k = refl
free_bit true false k = refl
free_bit false true k = refl
free_bit false false k = refl

module _ {ns : List Node} {at rest : ℕ} (st : Standing ns at rest) where
  abbrev pub node : Node
  node = node_at ns at

  -- bit 31 is no slot, and an accepted node does not have it
  no_slot_31 : bit node.data_bitmap 31 ≡ false
  no_slot_31 =
      elim (cases_Bool (bit node.data_bitmap 31)) [
        | inl t ↦ absurd (let f = slot_fits st 31 (true_T _ t) in omega (arith, f.2, number_below f.0 f.1 f.2.0 f.2.1))
        | inr z ↦ z
      ]

  module _ (free : ℕ) (is_free : free ≡ mask (free_slot node)) where
    free_at : (b : ℕ) → b < 32 → bit free b ≡ free_slot node b
    free_at b l = ap (λ (x : ℕ). bit x b) is_free ∙ bit_mask (free_slot node) b l

    free_31 : bit free 31 ≡ false
    free_31 = free_at 31 (omega arith) ∙ ap (λ t. t && not (nat_lt 31 31 && under_set node.data_bitmap 31)) no_slot_31

    pub free_below : free < 2 ^ 31
    free_below =
        elim (cases_lt free (2 ^ 31)) [
          | inl l ↦ l
          | inr g ↦ absurd (subst T free_31 (bit_top free 31 g (omega (arith, ap (λ (x : ℕ). x) is_free, mask_lt (free_slot node)))))
        ]

    pub free_sum : bit_sum free (λ b. 2 ^ (rest - tier_of b)) ≡ sum_below 31 (here st)
    unfolding bit_sum
    free_sum =
        let g : ℕ → ℕ = λ b. cond (bit free b) (2 ^ (rest - tier_of b)) 0 in
        let last : g 31 ≡ 0 = cond-false (bit free 31) (2 ^ (rest - tier_of 31)) 0 free_31 in
        let first : sum_below 31 g ≡ sum_below 31 (here st) = sum_same 31 g (here st) (λ b l.
        ap (λ t. cond t (2 ^ (rest - tier_of b)) 0) (free_at b (omega arith) ∙ ap (λ t. bit node.data_bitmap b && not (t && under_set node.data_bitmap b)) (lt-ltb b 31 l))
        ∙ free_bit (bit node.data_bitmap b) (under_set node.data_bitmap b) (2 ^ (rest - tier_of b))) in
        omega (arith, first, last)

  -- the addresses under child c
  abbrev pub child_size : ℕ → ℕ
  child_size c = size (rest - 5) ns (first_slot (child_node ns at c))

  child_term : (c : ℕ) → c < 32 → cond (bit node.child_bitmap c) (child_size c) 0 ≡ cond (nat_le 5 rest) (child_size c) 0
  child_term c l =
      elim (cases_Bool (bit node.child_bitmap c)) [
        | inl t ↦ rw (t, le-leb 5 rest (childless st c l (true_T _ t))) refl
        | inr z ↦ (
            let none : child_size c ≡ 0 = ap (λ o. size (rest - 5) ns (first_slot o)) (ap (λ b. then_some b (node.children_idx + ones_below c node.child_bitmap)) z) ∙ size_none (rest - 5) ns in
            cond-false (bit node.child_bitmap c) (child_size c) 0 z ∙ sym (ap (λ (x : ℕ). cond (nat_le 5 rest) x 0) none ∙ same (nat_le 5 rest))
            )
      ]
    where
      same : (t : Bool) → ◌≡◌ {A = ℕ} (cond t 0 0) 0
      same true = refl
      same false = refl

  module _ (free : ℕ) (is_free : free ≡ mask (free_child node)) where
    child_free_at : (c : ℕ) → c < 32 → bit free c ≡ free_child node c
    child_free_at c l = ap (λ (x : ℕ). bit x c) is_free ∙ bit_mask (free_child node) c l

    pub free_there : (c : ℕ) → c < 32 → T (bit free c) → T (bit node.child_bitmap c)
    free_there c l t = left (bit node.child_bitmap c) _ (subst T (child_free_at c l) t)
      where
        left : (x y : Bool) → T (x && y) → T x
        left true y t = tt
        left false y t = t

    pub child_sum : bit_sum free child_size ≡ sum_below 32 (free_under st 5)
    unfolding bit_sum
    child_sum =
        sum_same 32 (λ c. cond (bit free c) (child_size c) 0) (free_under st 5) (λ c l.
        ap (λ t. cond t (child_size c) 0) (child_free_at c l)
        ∙ (free_bit (bit node.child_bitmap c) (under_set node.data_bitmap (31 + c)) (child_size c)
        ∙ ap (λ x. cond (under_set node.data_bitmap (31 + c)) 0 x) (child_term c l)))

  -- the free slots and the free children have all addresses of the node
  pub node_sum : (slots children : ℕ) → slots ≡ mask (free_slot node) → children ≡ mask (free_child node) → bit_sum slots (λ b. 2 ^ (rest - tier_of b)) + bit_sum children child_size ≡ size rest ns (Some (node_slot at))
  node_sum slots children a b = ap₂ (λ (x y : ℕ). x + y) (free_sum slots a) (child_sum children b) ∙ sym (node_total st)

  module _ (c : ℕ) (l : c < 32) (t : T (bit node.child_bitmap c)) where
    abbrev pub index : ℕ
    index = node.children_idx + ones_below c node.child_bitmap

    location : loc_of node.child_bitmap node.children_idx c ≡ Some (record { idx = index; bit = c })
    location =
        cond-true (bit node.child_bitmap c && nat_lt (place_of node.child_bitmap node.children_idx c) (2 ^ 32)) (Some (record { idx = index; bit = c })) None
        (ap₂ (λ x y. x && y) (T_true _ t) (lt-ltb index (2 ^ 32) (omega (arith, child_below st.width ns st.values st.sound at c (node_in st) l t, st.sound.node_limit))))

    pub loc_some : (x : Loc) → Some x ≡ loc_of node.child_bitmap node.children_idx c → x.idx ≡ index
    loc_some x e = let f : Some x ≡ Some (record { idx = index; bit = c }) = e ∙ location in let g : x ≡ record { idx = index; bit = c } = cc in ap (λ (y : Loc). y.idx) g

    pub loc_none : None ≡ loc_of node.child_bitmap node.children_idx c → ⊥
    loc_none e = let f : ◌≡◌ {A = Option Loc} None (Some (record { idx = index; bit = c })) = e ∙ location in let z : ◌≡◌ {A = ℕ} 0 1 = cc in omega arith

    pub child_is : first_slot (child_node ns at c) ≡ Some (node_slot index)
    child_is = ap (λ b. first_slot (then_some b index)) (T_true _ t)

  -- the child of a set bit, by its location
  pub child_found : (c : ℕ) (x : Loc) → c < 32 → T (bit node.child_bitmap c) → Some x ≡ loc_of node.child_bitmap node.children_idx c
      → Standing ns x.idx (rest - 5) × (5 ≤ rest) × (child_size c ≡ size (rest - 5) ns (Some (node_slot x.idx)))
  child_found c x l t e =
      let i = loc_some c l t x e in
      (subst (λ (k : ℕ). Standing ns k (rest - 5)) (sym i) (child_stands st c l t), childless st c l t, ap (λ o. size (rest - 5) ns o) (child_is c l t ∙ ap (λ (k : ℕ). Some (node_slot k)) (sym i)))
