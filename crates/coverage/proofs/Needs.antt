-- The children that a data slot needs covered to be covered itself.
use Rattle.std.proofs.Common.{◌≡◌, ℕ, zero, suc, ◌+◌, ◌-◌, ◌*◌, ◌/◌, ◌%◌, ◌^◌, ◌<◌, ◌≤◌, Bool, true, false, ◌&&◌, ◌||◌, not, T, Some, None, sym, refl, ap, ◌∙◌, subst, inl, inr, arith, ap₂, pow_pos, bit_or}
use Rattle.std.proofs.lemmas.Bool.{eq-eqb, eqb-true, cases_Bool, cases_eq, and_parts, and_from, or_left, or_right, false≢true}
use Rattle.nodes.specs.Bitmaps.{bit}
use Rattle.register.proofs.Under.{half as halving, T_true, true_T}
use Rattle.slots.proofs.Masks.{bit_mask}
use Rattle.slots.specs.Masks.{mask}
use Rattle.aggregate.proofs.Bits.{bit_bit_or}
use Rattle.aggregate.proofs.Halves.{half, half_child, half_data}
use Rattle.addresses.proofs.Tiers.{tier_split}
use Rattle.addresses.specs.Standing.{tier_of}
use Rattle.coverage.specs.Slots.{Needs, in_slot, needs_child}
use Rattle.aggregate.specs.Halves.{full_range, under_set}
use Rattle.addresses.proofs.Halves.{half_halves, under_low, under_high}
use Rattle.addresses.proofs.Slots.{number, number_low, number_high, number_below}
use Rattle.addresses.proofs.Nodes.{halved}

not_true : (t : Bool) → not t ≡ true → t ≡ false
not_true true e = absurd (false≢true e)
not_true false e = refl

clear_or : (s t : Bool) → s ≡ false → (s || t) ≡ t
clear_or true t e = absurd (false≢true (sym e))
clear_or false t e = refl

-- of child slot c in slot (l, p): the half that it lies in
abbrev HalfOf : ℕ → ℕ → ℕ → ℕ → ℕ → ℕ → Type 0
HalfOf ds l p k c q =
    (c / 2 ^ k ≡ q)
    × (q < 2 ^ suc l)
    × (under_set ds (number (suc l) q) ≡ (bit ds (number l p) || under_set ds (number l p)))
    × ((cs : ℕ) → half ds cs (number l p) ≡ true → bit ds (number l p) ≡ false → half ds cs (number (suc l) q) ≡ true)

both_halves : (t x y : Bool) → (t || (x && y)) ≡ true → t ≡ false → (x ≡ true) × (y ≡ true)
both_halves true x y e f = absurd (false≢true (sym f))
both_halves false x y e f = and_parts x y e

module _ (ds l p : ℕ) (h : l ≤ 4) (s : p < 2 ^ l) where
  below_31 : number l p < 31
  below_31 = number_below l p h s

  halves_of : (cs : ℕ) → half ds cs (number l p) ≡ (bit ds (number l p) || (half ds cs (number (suc l) (2 * p)) && half ds cs (number (suc l) (2 * p + 1))))
  halves_of cs =
      half_halves ds cs (number l p) below_31
      ∙ ap₂ (λ (x y : ℕ). bit ds (number l p) || (half ds cs x && half ds cs y)) (sym (number_low l p)) (sym (number_high l p))

  half_in : (k c : ℕ) → c / 2 ^ suc k ≡ p → (q : ℕ) × HalfOf ds l p k c q
  half_in k c i =
      elim (cases_eq (c / 2 ^ k % 2) 0) [
        | inl z ↦ (2 * p, (omega (arith, i, halving c k, z), (halved l p s).0, ap (λ (x : ℕ). under_set ds x) (number_low l p) ∙ under_low ds (number l p) below_31, (λ cs t f. (both_halves (bit ds (number l p)) _ _ (sym (halves_of cs) ∙ t) f).0)))
        | inr o ↦ (2 * p + 1, (omega (arith, i, halving c k, o), (halved l p s).1, ap (λ (x : ℕ). under_set ds x) (number_high l p) ∙ under_high ds (number l p) below_31, (λ cs t f. (both_halves (bit ds (number l p)) _ _ (sym (halves_of cs) ∙ t) f).1)))
      ]

-- a child slot in a slot that is set or under a set one is under a set one
under_in : (ds k l p c : ℕ) → l + suc k ≡ 5 → p < 2 ^ l → c / 2 ^ suc k ≡ p → (bit ds (number l p) || under_set ds (number l p)) ≡ true → under_set ds (31 + c) ≡ true
under_in ds zero l p c e s i t =
    let q = half_in ds l p (omega arith) s zero c i in
    let f : 5 ≡ suc l = omega arith in
    let d : c ≡ q.0 = omega (arith, q.1.0) in
    ap₂ (λ (j x : ℕ). under_set ds (number j x)) f d ∙ (q.1.2 ∙ t)
under_in ds (suc k) l p c e s i t =
    let q = half_in ds l p (omega arith) s (suc k) c i in
    under_in ds k (suc l) q.0 c (omega arith) q.1.1 q.1.0 (or_right (bit ds (number (suc l) q.0)) _ (q.1.2 ∙ t))

-- a covered slot that is under no set one needs each child slot in it covered that is under no set one
needs_there : (ds cs k l p c : ℕ) → l + k ≡ 5 → p < 2 ^ l → c / 2 ^ k ≡ p → under_set ds (31 + c) ≡ false → half ds cs (number l p) ≡ true → bit cs c ≡ true
needs_there ds cs zero l p c e s i clear t =
    let f : 5 ≡ l = omega arith in
    let d : c ≡ p = omega (arith, i) in
    sym (half_child ds cs c) ∙ (ap₂ (λ (j x : ℕ). half ds cs (number j x)) f d ∙ t)
needs_there ds cs (suc k) l p c e s i clear t =
    let q = half_in ds l p (omega arith) s k c i in
    elim (cases_Bool (bit ds (number l p))) [
      | inl set ↦ absurd (false≢true (sym clear ∙ under_in ds k l p c e s i (or_left (bit ds (number l p)) _ set)))
      | inr unset ↦ needs_there ds cs k (suc l) q.0 c (omega arith) q.1.1 q.1.0 clear (q.1.3 cs t unset)
    ]

-- with those covered the slot is
needs_only : (ds cs dc k l p : ℕ) → l + k ≡ 5 → p < 2 ^ l → under_set ds (number l p) ≡ false
    → ((c : ℕ) → c < 32 → c / 2 ^ k ≡ p → under_set ds (31 + c) ≡ false → bit cs c ≡ true → bit dc c ≡ true) → half ds cs (number l p) ≡ true → half ds dc (number l p) ≡ true
needs_only ds cs dc zero l p e s clear more t =
    let f : 5 ≡ l = omega arith in
    let small : p < 2 ^ 5 = subst (λ (j : ℕ). p < 2 ^ j) (sym f) s in
    let P : ℕ → Type 0 = λ j. under_set ds (number j p) ≡ false → half ds cs (number j p) ≡ true → half ds dc (number j p) ≡ true in
    subst P f (λ u v. half_child ds dc p ∙ more p small (omega arith) u (sym (half_child ds cs p) ∙ v)) clear t
needs_only ds cs dc (suc k) l p e s clear more t =
    let h : l ≤ 4 = omega arith in
    let i = halved l p s in
    let b = number_below l p h s in
    elim (cases_Bool (bit ds (number l p))) [
      | inl set ↦ halves_of ds l p h s dc ∙ or_left (bit ds (number l p)) _ set
      | inr unset ↦ (
          let both = both_halves (bit ds (number l p)) _ _ (sym (halves_of ds l p h s cs) ∙ t) unset in
          let none : (bit ds (number l p) || under_set ds (number l p)) ≡ false = ap₂ (λ x y. x || y) unset clear in
          let low = needs_only ds cs dc k (suc l) (2 * p) (omega arith) i.0 (ap (λ (x : ℕ). under_set ds x) (number_low l p) ∙ (under_low ds (number l p) b ∙ none))
          (λ c d j. more c d (halving c k ∙ omega (arith, j))) both.0 in
          let high = needs_only ds cs dc k (suc l) (2 * p + 1) (omega arith) i.1 (ap (λ (x : ℕ). under_set ds x) (number_high l p) ∙ (under_high ds (number l p) b ∙ none))
          (λ c d j. more c d (halving c k ∙ omega (arith, j))) both.1 in
          halves_of ds l p h s dc ∙ or_right (bit ds (number l p)) _ (and_from _ _ low high)
          )
    ]

-- what the code finds of data slot b
module _ (ds children b : ℕ) (h : b < 31) (clear : under_set ds b ≡ false) where
  abbrev at : ℕ
  at = tier_of b

  abbrev path : ℕ
  path = b + 1 - 2 ^ tier_of b

  split : (at ≤ 4) × (2 ^ at ≤ b + 1) × (b + 1 < 2 * 2 ^ at)
  split = tier_split b h

  is_slot : number at path ≡ b
  is_slot = omega (arith, split, pow_pos at)

  below_pow : path < 2 ^ at
  below_pow = omega (arith, split)

  of_half : (cs : ℕ) → full_range ds cs b ≡ half ds cs (number at path)
  of_half cs = sym (half_data ds cs b h) ∙ ap (λ (x : ℕ). half ds cs x) (sym is_slot)

  only : (cs dc : ℕ) → ((c : ℕ) → c < 32 → c / 2 ^ (5 - at) ≡ path → under_set ds (31 + c) ≡ false → bit cs c ≡ true → bit dc c ≡ true) → full_range ds cs b ≡ true → full_range ds dc b ≡ true
  only cs dc more t =
      let e : at + (5 - at) ≡ 5 = omega (arith, split) in
      of_half dc ∙ needs_only ds cs dc (5 - at) at path e below_pow (ap (λ (x : ℕ). under_set ds x) is_slot ∙ clear) more (sym (of_half cs) ∙ t)

  child : (cs c : ℕ) → c / 2 ^ (5 - at) ≡ path → under_set ds (31 + c) ≡ false → full_range ds cs b ≡ true → bit cs c ≡ true
  child cs c i u t =
      let e : at + (5 - at) ≡ 5 = omega (arith, split) in
      needs_there ds cs (5 - at) at path c e below_pow i u (sym (of_half cs) ∙ t)

  pub missing : (under : ℕ) → full_range ds (bit_or under children) b ≡ false → Needs ds children b None
  unfolding Needs
  missing under f cs inside =
      elim (cases_Bool (full_range ds cs b)) [
        | inl t ↦ absurd (false≢true (sym f ∙ only cs (bit_or under children) (λ c l i u set. bit_bit_or under children c ∙ or_right (bit under c) _ (T_true _ (inside c l (true_T _ set)))) t))
        | inr z ↦ z
      ]

  module _ (under needed : ℕ)
      (is_under : under ≡ mask (λ c. under_set ds (31 + c)))
      (is_needed : needed ≡ mask (needs_child children under b)) where
    under_at : (c : ℕ) → c < 32 → bit under c ≡ under_set ds (31 + c)
    under_at c l = ap (λ (x : ℕ). bit x c) is_under ∙ bit_mask (λ c. under_set ds (31 + c)) c l

    needed_at : (c : ℕ) → c < 32 → bit needed c ≡ ((bit children c && in_slot b c) && not (under_set ds (31 + c)))
    needed_at c l =
        ap (λ (x : ℕ). bit x c) is_needed
        ∙ (bit_mask (needs_child children under b) c l ∙ ap (λ t. (bit children c && in_slot b c) && not t) (under_at c l))

    needed_from : (c : ℕ) → c < 32 → T (bit needed c) → (bit children c ≡ true) × (c / 2 ^ (5 - at) ≡ path) × (under_set ds (31 + c) ≡ false)
    needed_from c l t =
        let a = and_parts (bit children c && in_slot b c) _ (sym (needed_at c l) ∙ T_true _ t) in
        let d = and_parts (bit children c) (in_slot b c) a.0 in
        (d.0, eqb-true _ _ d.1, not_true (under_set ds (31 + c)) a.1)

    needed_to : (c : ℕ) → c < 32 → bit children c ≡ true → c / 2 ^ (5 - at) ≡ path → under_set ds (31 + c) ≡ false → T (bit needed c)
    needed_to c l t i u = true_T _ (needed_at c l ∙ and_from _ _ (and_from _ _ t (eq-eqb _ _ i)) (ap not u))

    pub found : full_range ds (bit_or under children) b ≡ true → Needs ds children b (Some needed)
    unfolding Needs
    found t = (
      (λ c l n. true_T _ (needed_from c l n).0),
      (λ cs inside all. only (bit_or under children) cs (λ c l i u set.
          T_true _ (all c l (needed_to c l (sym (clear_or (bit under c) (bit children c) (under_at c l ∙ u)) ∙ (sym (bit_bit_or under children c) ∙ set)) i u))) t),
      (λ cs f c l n. let m = needed_from c l n in true_T _ (child cs c m.1 m.2 f)),
    )
