-- A number of addresses is all of them, or fits 64 bits.
use Rattle.std.proofs.Common.{◌≡◌, ℕ, ◌*◌, ◌%◌, ◌^◌, ◌<◌, ◌≤◌, nat_eq, inl, inr, sym, ◌∙◌, arith, pow_mono}
use Rattle.std.proofs.lemmas.Bool.{cases_eq, cond-true, cond-false, eq-eqb, ne_eqb}
use Rattle.std.proofs.lemmas.Nat.{one_shl}
use Rattle.coverage.specs.Counts.{count_of}
use Rattle.coverage.specs.declared.AddressCount.TheVariants.{Number, Whole}

module _ (m w : ℕ) (h : w ≤ 64) where
  all : 1 * 2 ^ w % 2 ^ 128 ≡ 2 ^ w
  all = one_shl w 128 (omega arith)

  pub whole_is : m ≡ 1 * 2 ^ w % 2 ^ 128 → Whole ≡ count_of m (2 ^ w)
  whole_is e = sym (cond-true (nat_eq m (2 ^ w)) Whole (Number m) (eq-eqb m (2 ^ w) (e ∙ all)))

  pub number_is : (m ≡ 1 * 2 ^ w % 2 ^ 128 → ⊥) → Number m ≡ count_of m (2 ^ w)
  number_is n = sym (cond-false (nat_eq m (2 ^ w)) Whole (Number m) (ne_eqb m (2 ^ w) (λ e. n (e ∙ sym all))))

  pub number_fits : m ≤ 2 ^ w → (m ≡ 1 * 2 ^ w % 2 ^ 128 → ⊥) → m < 2 ^ 64
  number_fits l n =
      let p : 2 ^ w ≤ 2 ^ 64 = pow_mono h in
      elim (cases_eq m (2 ^ w)) [
        | inl e ↦ absurd (n (e ∙ sym all))
        | inr ne ↦ omega (arith, ne, p)
      ]
