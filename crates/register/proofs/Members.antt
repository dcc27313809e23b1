-- A member of a list, by recursion on the list and by its index.
use Rattle.std.proofs.Common.{◌≡◌, ℕ, zero, suc, ◌<◌, List, [], ◌∷◌, length, get_or, sym, inl, inr, arith}
use mathlib.Core.List.Memᴰ
use mathlib.Core.List.{Memᴰ}
use Rattle.std.specs.Prelude.{Contains}

module _ {A : Type 0} where
  pub contains_mem : (xs : List A) (x : A) → Memᴰ x xs → Contains xs x
  contains_mem [] x m = absurd (Memᴰ.not-nil m)
  contains_mem (y ∷ xs) x m =
      elim (Memᴰ.cases_cons m) [
        | inl e ↦ (0, omega arith, sym e)
        | inr t ↦ (let r = contains_mem xs x t in (suc r.0, omega (arith, r.1), r.2))
      ]

  pub mem_contains : (xs : List A) (x : A) → Contains xs x → Memᴰ x xs
  mem_contains xs x c = at xs c.0 c.1 c.2
    where
      at : (ys : List A) (k : ℕ) → k < length ys → get_or ys k x ≡ x → Memᴰ x ys
      at [] k l e = let z : ⊥ = omega arith in absurd z
      at (y ∷ ys) zero l e = Memᴰ.head (sym e)
      at (y ∷ ys) (suc k) l e = Memᴰ.tail (at ys k (omega arith) e)
