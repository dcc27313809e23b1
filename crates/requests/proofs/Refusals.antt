-- A refusal in place of one answer is one in place of any other, and an answer that is given was not refused.
use Rattle.std.proofs.Common.{◌≡◌, ℕ, ◌≤◌, Bool, true, false, cond, Some, None, Option, refl, sym, ap, ◌∙◌, arith}
use Rattle.std.proofs.lemmas.Bool.{eqb-true, leb-true}
use Rattle.std.specs.Prelude.{◌==◌, nat_le}
use Rattle.nodes.specs.Faults.{given, refused}
use Rattle.requests.specs.Requests.{refusal, unless_refused}

pub apart : {A : Type 0} (x : A) (k : ℕ) → given x ≡ refused k → ⊥
apart x k e = let z : ◌≡◌ {A = ℕ} 0 1 = cc in omega arith

module _ {A B : Type 0} where
  pub refused_too : (r : Option ℕ) (k : ℕ) (x : A) (y : B) → refused k ≡ unless_refused r x → refused k ≡ unless_refused r y
  refused_too None k x y e = absurd (apart x k (sym e))
  refused_too (Some j) k x y e = let same : k ≡ j = cc in ap refused same

  pub given_too : (r : Option ℕ) (x y : A) (z : B) → given x ≡ unless_refused r y → given z ≡ unless_refused r z
  given_too None x y z e = refl
  given_too (Some j) x y z e = absurd (apart x j e)

pub given_same : {A : Type 0} (r : Option ℕ) (x y : A) → given x ≡ unless_refused r y → x ≡ y
given_same None x y e = cc
given_same (Some j) x y e = absurd (apart x j e)

-- a prefix that is not refused has the image's width, and is no longer
pub admitted : {A : Type 0} (w k n : ℕ) (x y : A) → given x ≡ unless_refused (refusal w k n) y → (k ≡ w) × (n ≤ w)
admitted w k n x y e = by (k == w) (nat_le n w) refl refl
  where
    by : (b c : Bool) → (k == w) ≡ b → nat_le n w ≡ c → (k ≡ w) × (n ≤ w)
    by true true f g = (eqb-true k w f, leb-true n w g)
    by true false f g = absurd (apart x 12 (e ∙ ap (λ (t : Bool). unless_refused (cond t (cond (nat_le n w) None (Some 12)) (Some 13)) y) f ∙ ap (λ (t : Bool). unless_refused (cond t None (Some 12)) y) g))
    by false c f g = absurd (apart x 13 (e ∙ ap (λ (t : Bool). unless_refused (cond t (cond (nat_le n w) None (Some 12)) (Some 13)) y) f))
