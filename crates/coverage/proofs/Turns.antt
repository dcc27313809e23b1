-- A turn of a loop over the set bits: the lowest is taken, and the sum over the others is left.
use Rattle.std.proofs.Common.{◌≡◌, ℕ, ◌+◌, ◌-◌, ◌*◌, ◌%◌, ◌^◌, ◌<◌, ◌≤◌, Bool, true, false, ◌&&◌, cond, not, T, sym, refl, ap, ◌∙◌, subst, inl, inr, arith, pow_mono}
use Rattle.std.proofs.lemmas.Bool.{cond-true, cond-false, eq-eqb, ne_eqb, and_right, cases_lt}
use Rattle.std.proofs.lemmas.Nat.{one_shl}
use Rattle.addresses.specs.Standing.{tier_of}
use Rattle.nodes.specs.Bitmaps.{bit}
use Rattle.register.proofs.Under.{T_true}
use Rattle.slots.proofs.Bits.{bit_past}
use Rattle.aggregate.proofs.Lowest.{Split}
use Rattle.addresses.proofs.Sums.{sum_apart, sum_most, sum_nothing}
use Rattle.addresses.specs.Sums.{bit_sum}

pub and_true : (t : Bool) → (t && true) ≡ t
and_true true = refl
and_true false = refl

module _ (bits b others : ℕ) (s : Split bits b others) where
  other : (c : ℕ) → (c ≡ b → ⊥) → bit bits c ≡ bit others c
  other c ne = sym (s.1 c ∙ (ap (λ t. bit bits c && not t) (ne_eqb c b ne) ∙ and_true (bit bits c)))

  taken : bit others b ≡ false
  taken = s.1 b ∙ and_right (bit bits b) _ (ap not (eq-eqb b b refl))

  pub sum_turn : (g : ℕ → ℕ) → bit_sum bits g ≡ g b + bit_sum others g
  unfolding bit_sum
  sum_turn g =
      sum_apart 32 b (λ c. cond (bit bits c) (g c) 0) (λ c. cond (bit others c) (g c) 0) s.0.0 (cond-false (bit others b) (g b) 0 taken)
      (λ c l ne. ap (λ t. cond t (g c) 0) (other c ne))
      ∙ ap (λ x. x + bit_sum others g) (cond-true (bit bits b) (g b) 0 (T_true _ s.0.1))

  -- no other bit is new
  pub kept : (c : ℕ) → T (bit others c) → T (bit bits c)
  kept c t = both_left (bit bits c) _ (subst T (s.1 c) t)
    where
      both_left : (x y : Bool) → T (x && y) → T x
      both_left true y t = tt
      both_left false y t = t

  -- below a power of two that the bits are below
  pub bit_below : (k : ℕ) → bits < 2 ^ k → b < k
  bit_below k h =
      elim (cases_lt b k) [
        | inl l ↦ l
        | inr g ↦ (let p : 2 ^ k ≤ 2 ^ b = pow_mono g in absurd (bit_past bits b (omega (arith, p)) s.0.1))
      ]

pub sum_none : (m : ℕ) (g : ℕ → ℕ) → ((c : ℕ) → c < 32 → bit m c ≡ false) → bit_sum m g ≡ 0
unfolding bit_sum
sum_none m g h = sum_nothing 32 (λ c. cond (bit m c) (g c) 0) (λ c l. cond-false (bit m c) (g c) 0 (h c l))

pub sum_bound : (m k : ℕ) (g : ℕ → ℕ) → ((b : ℕ) → g b ≤ k) → bit_sum m g ≤ 32 * k
unfolding bit_sum
sum_bound m k g h = sum_most 32 k (λ c. cond (bit m c) (g c) 0) (λ c l. by (bit m c) c)
  where
    by : (t : Bool) (c : ℕ) → cond t (g c) 0 ≤ k
    by true c = h c
    by false c = omega arith

-- the addresses of a slot as the code has them
pub slot_taken : (rest slot tier amount : ℕ) → rest ≤ 64 → amount ≡ rest - tier → tier ≡ tier_of slot → 1 * 2 ^ amount % 2 ^ 128 ≡ 2 ^ (rest - tier_of slot)
slot_taken rest slot tier amount h f e = one_shl amount 128 (omega arith) ∙ ap (λ (k : ℕ). 2 ^ k) (f ∙ ap (λ (l : ℕ). rest - l) e)
