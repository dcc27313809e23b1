-- The highest and the lowest are what their names say, and nothing else is.
use Rattle.std.proofs.Common.{◌≡◌, ℕ, zero, suc, ◌<◌, Bool, true, false, cond, T, Some, None, Option, sym, refl, ap, ◌∙◌, subst, ap₂, inl, inr, not-suc-le-zero, arith}
use Rattle.std.proofs.lemmas.Bool.{cases_lt, cases_order}
use Rattle.std.specs.Option.{option_or}
use Rattle.slots.specs.Picks.{highest, lowest, IsHighest, IsLowest}

-- a test that fails at each c below k and at k fails below suc k
none_more : (k : ℕ) (f : ℕ → Bool) → f k ≡ false → ((c : ℕ) → c < k → T (f c) → ⊥) → (c : ℕ) → c < suc k → T (f c) → ⊥
none_more k f e none c h t = elim (cases_lt c k) [
  | inl l ↦ none c l t
  | inr g ↦ (let s : c ≡ k = omega arith in subst T (ap f s ∙ e) t)
]

highest_more : (k : ℕ) (f : ℕ → Bool) (r : Option ℕ) (t : Bool) → f k ≡ t → IsHighest k f r → IsHighest (suc k) f (cond t (Some k) r)
highest_more k f r true e h = (omega arith, subst T (sym e) tt, λ c l g _. omega arith)
highest_more k f None false e h = none_more k f e h
highest_more k f (Some b) false e h = (
  omega (arith, h.0),
  h.1,
  λ c l g t. elim (cases_lt c k) [
    | inl m ↦ h.2 c l m t
    | inr m ↦ (let s : c ≡ k = omega arith in subst T (ap f s ∙ e) t)
  ],
)

pub highest_is : (k : ℕ) (f : ℕ → Bool) → IsHighest k f (highest k f)
unfolding highest
highest_is zero f = λ c h t. not-suc-le-zero h
highest_is (suc k) f = highest_more k f (highest k f) (f k) refl (highest_is k f)

lowest_more : (k : ℕ) (f : ℕ → Bool) (r : Option ℕ) (t : Bool) → f k ≡ t → IsLowest k f r → IsLowest (suc k) f (option_or r (cond t (Some k) None))
lowest_more k f None true e h = (omega arith, subst T (sym e) tt, h)
lowest_more k f None false e h = none_more k f e h
lowest_more k f (Some b) t e h = (omega (arith, h.0), h.1, h.2)

pub lowest_is : (k : ℕ) (f : ℕ → Bool) → IsLowest k f (lowest k f)
unfolding lowest
lowest_is zero f = λ c h t. not-suc-le-zero h
lowest_is (suc k) f = lowest_more k f (lowest k f) (f k) refl (lowest_is k f)

highest_one : (k : ℕ) (f : ℕ → Bool) (r s : Option ℕ) → IsHighest k f r → IsHighest k f s → r ≡ s
highest_one k f None None h g = refl
highest_one k f None (Some c) h g = absurd (h c g.0 g.1)
highest_one k f (Some b) None h g = absurd (g b h.0 h.1)
highest_one k f (Some b) (Some c) h g = elim (cases_order b c) [
  | inl e ↦ ap (λ (x : ℕ). Some x) e
  | inr (inl l) ↦ absurd (h.2 c l g.0 g.1)
  | inr (inr l) ↦ absurd (g.2 b l h.0 h.1)
]

lowest_one : (k : ℕ) (f : ℕ → Bool) (r s : Option ℕ) → IsLowest k f r → IsLowest k f s → r ≡ s
lowest_one k f None None h g = refl
lowest_one k f None (Some c) h g = absurd (h c g.0 g.1)
lowest_one k f (Some b) None h g = absurd (g b h.0 h.1)
lowest_one k f (Some b) (Some c) h g = elim (cases_order b c) [
  | inl e ↦ ap (λ (x : ℕ). Some x) e
  | inr (inl l) ↦ absurd (g.2 b l h.1)
  | inr (inr l) ↦ absurd (h.2 c l g.1)
]

pub highest_found : (k : ℕ) (f : ℕ → Bool) (r : Option ℕ) → IsHighest k f r → r ≡ highest k f
highest_found k f r h = highest_one k f r (highest k f) h (highest_is k f)

pub lowest_found : (k : ℕ) (f : ℕ → Bool) (r : Option ℕ) → IsLowest k f r → r ≡ lowest k f
lowest_found k f r h = lowest_one k f r (lowest k f) h (lowest_is k f)

-- tests that agree below k have one highest and one lowest
pub highest_same : (k : ℕ) (f g : ℕ → Bool) → ((c : ℕ) → c < k → f c ≡ g c) → highest k f ≡ highest k g
unfolding highest
highest_same zero f g e = refl
highest_same (suc k) f g e =
    ap₂ (λ (t : Bool) (r : Option ℕ). cond t (Some k) r) (e k (omega arith)) (highest_same k f g (λ c h. e c (omega arith)))

pub lowest_same : (k : ℕ) (f g : ℕ → Bool) → ((c : ℕ) → c < k → f c ≡ g c) → lowest k f ≡ lowest k g
unfolding lowest
lowest_same zero f g e = refl
lowest_same (suc k) f g e =
    ap₂ (λ (t : Bool) (r : Option ℕ). option_or r (cond t (Some k) None)) (e k (omega arith)) (lowest_same k f g (λ c h. e c (omega arith)))
