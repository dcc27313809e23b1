-- Sums: of equal terms, of two functions, of the parts of a range, of pairs, and with one term set apart.
use Rattle.std.proofs.Common.{◌≡◌, ℕ, zero, suc, ◌+◌, ◌*◌, ◌<◌, ◌≤◌, refl, ap, ◌∙◌, inl, inr, arith, ap₂, add-suc}
use Rattle.std.proofs.lemmas.Bool.{cases_eq}
use Rattle.addresses.specs.Sums.{sum_below}

pub sum_same : (n : ℕ) (f g : ℕ → ℕ) → ((b : ℕ) → b < n → f b ≡ g b) → sum_below n f ≡ sum_below n g
sum_same zero f g h = refl
sum_same (suc n) f g h = ap₂ (λ (x y : ℕ). x + y) (sum_same n f g (λ b l. h b (omega arith))) (h n (omega arith))

pub sum_both : (n : ℕ) (f g : ℕ → ℕ) → sum_below n (λ b. f b + g b) ≡ sum_below n f + sum_below n g
sum_both zero f g = refl
sum_both (suc n) f g = omega (arith, sum_both n f g)

pub sum_nothing : (n : ℕ) (f : ℕ → ℕ) → ((b : ℕ) → b < n → f b ≡ 0) → sum_below n f ≡ 0
sum_nothing zero f h = refl
sum_nothing (suc n) f h = omega (arith, sum_nothing n f (λ b l. h b (omega arith)), h n (omega arith))

pub sum_parts : (n m : ℕ) (f : ℕ → ℕ) → sum_below (n + m) f ≡ sum_below n f + sum_below m (λ b. f (n + b))
sum_parts n zero f =
    let e : n + 0 ≡ n = omega arith in
    let s : sum_below (n + 0) f ≡ sum_below n f = ap (λ (x : ℕ). sum_below x f) e in
    omega (arith, s)
sum_parts n (suc m) f = rw (add-suc n m) (omega (arith, sum_parts n m f))

-- in pairs
pub sum_pairs : (n : ℕ) (f : ℕ → ℕ) → sum_below (2 * n) f ≡ sum_below n (λ b. f (2 * b) + f (2 * b + 1))
sum_pairs zero f = refl
sum_pairs (suc n) f =
    let e : 2 * suc n ≡ suc (suc (2 * n)) = omega arith in
    let s : f (suc (2 * n)) ≡ f (2 * n + 1) = ap f (omega arith) in
    ap (λ (x : ℕ). sum_below x f) e ∙ omega (arith, sum_pairs n f, s)

pub sum_most : (n k : ℕ) (f : ℕ → ℕ) → ((b : ℕ) → b < n → f b ≤ k) → sum_below n f ≤ n * k
sum_most zero k f h = omega arith
sum_most (suc n) k f h = omega (arith, sum_most n k f (λ b l. h b (omega arith)), h n (omega arith))

-- with the term of c set apart, where g has none for it and f's for the others
pub sum_apart : (n c : ℕ) (f g : ℕ → ℕ) → c < n → g c ≡ 0 → ((b : ℕ) → b < n → (b ≡ c → ⊥) → f b ≡ g b) → sum_below n f ≡ f c + sum_below n g
sum_apart zero c f g l z h = let e : ⊥ = omega arith in absurd e
sum_apart (suc n) c f g l z h =
    elim (cases_eq n c) [
      | inl e ↦ (
          let s = sum_same n f g (λ b k. h b (omega arith) (λ q. omega arith)) in
          let fc : f n ≡ f c = ap f e in
          let gc : g n ≡ g c = ap g e in
          omega (arith, s, fc, gc, z)
          )
      | inr ne ↦ (
          let s = sum_apart n c f g (omega (arith, ne)) z (λ b k q. h b (omega arith) q) in
          omega (arith, s, h n (omega arith) ne)
          )
    ]
