-- The highest and the lowest below a sum, from those of its two parts, and where nothing is met past a number.
use Rattle.std.proofs.Common.{◌≡◌, ℕ, zero, suc, ◌+◌, ◌-◌, ◌<◌, ◌≤◌, Bool, true, false, cond, T, IfSome, Some, None, Option, sym, refl, ap, ◌∙◌, subst, ap₂, add-zero, add-suc, arith}
use native.Mathlib.Decide.{le_ind}
use Rattle.std.proofs.lemmas.Bool.{cond-false}
use Rattle.std.specs.Option.{option_map, option_or}
use Rattle.slots.proofs.Picks.{highest_is, lowest_is}
use Rattle.slots.specs.Picks.{highest, lowest, IsHighest, IsLowest}

pub mapped_mapped : {A B C : Type 0} (f : A → B) (g : B → C) (o : Option A) → option_map g (option_map f o) ≡ option_map (λ x. g (f x)) o
mapped_mapped f g None = refl
mapped_mapped f g (Some x) = refl

pub mapped_or : {A B : Type 0} (f : A → B) (o p : Option A) → option_or (option_map f o) (option_map f p) ≡ option_map f (option_or o p)
mapped_or f None p = refl
mapped_or f (Some x) p = refl

pub mapped_same : {A B : Type 0} (f g : A → B) (o : Option A) → IfSome o (λ x. f x ≡ g x) → option_map f o ≡ option_map g o
mapped_same f g None h = refl
mapped_same f g (Some x) h = ap (λ y. Some y) h

pub or_none : {A : Type 0} (o : Option A) → o ≡ option_or o None
or_none None = refl
or_none (Some x) = refl

pub highest_parts : (d l : ℕ) (f : ℕ → Bool) → option_or (option_map (λ j. d + j) (highest l (λ j. f (d + j)))) (highest d f) ≡ highest (d + l) f
unfolding highest
highest_parts d zero f = rw (add-zero d) refl
highest_parts d (suc l) f = rw (add-suc d l, ← highest_parts d l f) (by (f (d + l)) (highest l (λ j. f (d + j))))
  where
    by : (b : Bool) (o : Option ℕ) → option_or (option_map (λ j. d + j) (cond b (Some l) o)) (highest d f) ≡ cond b (Some (d + l)) (option_or (option_map (λ j. d + j) o) (highest d f))
    by true o = refl
    by false o = refl

pub lowest_parts : (d l : ℕ) (f : ℕ → Bool) → option_or (lowest d f) (option_map (λ j. d + j) (lowest l (λ j. f (d + j)))) ≡ lowest (d + l) f
unfolding lowest
lowest_parts d zero f = rw (add-zero d) (sym (or_none (lowest d f)))
lowest_parts d (suc l) f = rw (add-suc d l, ← lowest_parts d l f) (by (f (d + l)) (lowest d f) (lowest l (λ j. f (d + j))))
  where
    by : (b : Bool) (o p : Option ℕ) → option_or o (option_map (λ j. d + j) (option_or p (cond b (Some l) None))) ≡ option_or (option_or o (option_map (λ j. d + j) p)) (cond b (Some (d + l)) None)
    by b (Some x) p = refl
    by b None (Some y) = refl
    by true None None = refl
    by false None None = refl

module _ (k n : ℕ) (f : ℕ → Bool) (h : k ≤ n) (none : (m : ℕ) → k ≤ m → m < n → f m ≡ false) where
  pub highest_stop : highest k f ≡ highest n f
  unfolding highest
  highest_stop =
      le_ind (λ m. m ≤ n → highest k f ≡ highest m f) (λ _. refl)
      (λ m l before b. before (omega arith) ∙ sym (cond-false (f m) (Some m) (highest m f) (none m l b))) n h (omega arith)

  pub lowest_stop : lowest k f ≡ lowest n f
  unfolding lowest
  lowest_stop =
      le_ind (λ m. m ≤ n → lowest k f ≡ lowest m f) (λ _. refl)
      (λ m l before b. before (omega arith) ∙ or_none (lowest m f) ∙ ap (option_or (lowest m f)) (sym (cond-false (f m) (Some m) None (none m l b)))) n h (omega arith)

-- a number that is picked is below the bound, and the test holds of it
abbrev pub Met : ℕ → (ℕ → Bool) → Option ℕ → Type 0
Met k f o = IfSome o (λ n. (n < k) × T (f n))

pub highest_met : (k : ℕ) (f : ℕ → Bool) → Met k f (highest k f)
highest_met k f = by (highest k f) (highest_is k f)
  where
    by : (o : Option ℕ) → IsHighest k f o → Met k f o
    by None h = tt
    by (Some n) h = (h.0, h.1)

pub lowest_met : (k : ℕ) (f : ℕ → Bool) → Met k f (lowest k f)
lowest_met k f = by (lowest k f) (lowest_is k f)
  where
    by : (o : Option ℕ) → IsLowest k f o → Met k f o
    by None h = tt
    by (Some n) h = (h.0, h.1)

pub met_below : (k : ℕ) (f : ℕ → Bool) (o p : Option ℕ) → p ≡ o → Met k f o → IfSome p (λ n. n < k)
met_below k f None p e met = subst (λ (x : Option ℕ). IfSome x (λ n. n < k)) (sym e) tt
met_below k f (Some n) p e met = subst (λ (x : Option ℕ). IfSome x (λ n. n < k)) (sym e) met.0

-- the pick so far and that of a second part are the pick of both
module _ {A : Type 0} (g : ℕ → A) (d l : ℕ) (f : ℕ → Bool) (r : Option A) where
  pub highest_more : (best : Option A) → r ≡ option_map g (option_map (λ j. d + j) (highest l (λ j. f (d + j)))) → best ≡ option_map g (highest d f) → option_or r best ≡ option_map g (highest (d + l) f)
  highest_more best e b =
      ap₂ option_or e b ∙ (mapped_or g (option_map (λ j. d + j) (highest l (λ j. f (d + j)))) (highest d f) ∙ ap (option_map g) (highest_parts d l f))

  pub lowest_more : r ≡ option_map g (option_map (λ j. d + j) (lowest l (λ j. f (d + j)))) → lowest d f ≡ None → r ≡ option_map g (lowest (d + l) f)
  lowest_more e none =
      e ∙ ap (option_map g) (ap (λ (o : Option ℕ). option_or o (option_map (λ j. d + j) (lowest l (λ j. f (d + j))))) (sym none) ∙ lowest_parts d l f)

pub lowest_keeps : (k n m : ℕ) (f : ℕ → Bool) → k ≤ n → lowest k f ≡ Some m → lowest n f ≡ Some m
lowest_keeps k n m f h e =
    let s : k + (n - k) ≡ n = omega arith in
    ap (λ (x : ℕ). lowest x f) (sym s) ∙ (sym (lowest_parts k (n - k) f) ∙ ap (λ (o : Option ℕ). option_or o (option_map (λ j. k + j) (lowest (n - k) (λ j. f (k + j))))) e)
