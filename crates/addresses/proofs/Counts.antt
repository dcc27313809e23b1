-- Tests over a range of numbers: what holds of each number, how many there are at most, ranges end to end, and tests that agree.
use Rattle.std.proofs.Common.{◌≡◌, ℕ, zero, suc, ◌+◌, ◌<◌, ◌≤◌, Bool, true, false, ◌&&◌, cond, eqb, sym, refl, ap, ◌∙◌, subst, inl, inr, arith}
use Rattle.std.specs.Prelude.{count_by}
use Rattle.std.specs.List.{list_all, range_with_len}
use Rattle.std.proofs.lemmas.Bool.{cases_Bool, cases_eq, and_parts, and_from, eq-eqb, eqb-true, cond-true, cond-false, ne_eqb}
use Rattle.std.proofs.lemmas.List.Sums.{sum_by-cons}

-- f holds of each of the n numbers from a on, and of how many of them it holds
abbrev pub each : (ℕ → Bool) → ℕ → ℕ → Bool
each f a n = list_all f (range_with_len a n)

abbrev pub count : (ℕ → Bool) → ℕ → ℕ → ℕ
count f a n = count_by f (range_with_len a n)

suc_eqb : (m n : ℕ) → eqb m n ≡ eqb (suc m) (suc n)
suc_eqb m n = elim (cases_eq m n) [
  | inl e ↦ eq-eqb m n e ∙ sym (eq-eqb (suc m) (suc n) (omega arith))
  | inr d ↦ ne_eqb m n d ∙ sym (ne_eqb (suc m) (suc n) (λ e. omega arith))
]

module _ (f : ℕ → Bool) where
  count_cons : (a n : ℕ) → count f a (suc n) ≡ cond (f a) 1 0 + count f (a + 1) n
  count_cons a n = sum_by-cons (λ x. cond (f x) 1 0) a (range_with_len (a + 1) n)

  count_set : (a n : ℕ) → f a ≡ true → count f a (suc n) ≡ suc (count f (a + 1) n)
  count_set a n t = let c : cond {A = ℕ} (f a) 1 0 ≡ 1 = cond-true {A = ℕ} (f a) 1 0 t in omega (arith, count_cons a n)

  count_clear : (a n : ℕ) → f a ≡ false → count f a (suc n) ≡ count f (a + 1) n
  count_clear a n z = let c : cond {A = ℕ} (f a) 1 0 ≡ 0 = cond-false {A = ℕ} (f a) 1 0 z in omega (arith, count_cons a n)

  pub each_at : (a n x : ℕ) → each f a n ≡ true → a ≤ x → x < a + n → f x ≡ true
  each_at a zero x h l u = absurd (omega arith)
  each_at a (suc n) x h l u =
      let p = and_parts (f a) (each f (a + 1) n) h in
      elim (cases_eq a x) [
        | inl e ↦ subst (λ k. f k ≡ true) e p.0
        | inr d ↦ each_at (a + 1) n x p.1 (omega arith) (omega arith)
      ]

  pub each_from : (a n : ℕ) → ((x : ℕ) → a ≤ x → x < a + n → f x ≡ true) → each f a n ≡ true
  each_from a zero h = refl
  each_from a (suc n) h =
      and_from (f a) (each f (a + 1) n) (h a (omega arith) (omega arith))
      (each_from (a + 1) n (λ x l u. h x (omega arith) (omega arith)))

  pub count_le : (a n : ℕ) → count f a n ≤ n
  count_le a zero = omega arith
  count_le a (suc n) =
      elim (cases_Bool (f a)) [
        | inl t ↦ omega (arith, count_set a n t, count_le (a + 1) n)
        | inr z ↦ omega (arith, count_clear a n z, count_le (a + 1) n)
      ]

  pub each_count : (a n : ℕ) → each f a n ≡ eqb (count f a n) n
  each_count a zero = refl
  each_count a (suc n) =
      elim (cases_Bool (f a)) [
        | inl t ↦ ap (λ b. b && each f (a + 1) n) t ∙ (each_count (a + 1) n ∙ suc_eqb (count f (a + 1) n) n ∙ ap (λ k. eqb k (suc n)) (sym (count_set a n t)))
        | inr z ↦ ap (λ b. b && each f (a + 1) n) z ∙ sym (ne_eqb (count f a (suc n)) (suc n) (λ q. omega (arith, count_clear a n z, q, count_le (a + 1) n)))
      ]

  pub count_all : (a n : ℕ) → each f a n ≡ true → count f a n ≡ n
  count_all a n h = eqb-true (count f a n) n (sym (each_count a n) ∙ h)

  pub all_count : (a n : ℕ) → count f a n ≡ n → each f a n ≡ true
  all_count a n h = each_count a n ∙ eq-eqb (count f a n) n h

  pub count_add : (a n m : ℕ) → count f a (n + m) ≡ count f a n + count f (a + n) m
  count_add a zero m = let e : 0 + m ≡ m = omega arith in let g : a + 0 ≡ a = omega arith in rw (e, g) (omega arith)
  count_add a (suc n) m =
      let e : suc n + m ≡ suc (n + m) = omega arith in
      let g : a + suc n ≡ a + 1 + n = omega arith in
      rw (e, g) (omega (arith, count_cons a (n + m), count_cons a n, count_add (a + 1) n m))

-- two tests that agree on the range
module _ (f g : ℕ → Bool) where
  pub count_same : (a n : ℕ) → ((x : ℕ) → a ≤ x → x < a + n → f x ≡ g x) → count f a n ≡ count g a n
  count_same a zero h = refl
  count_same a (suc n) h =
      let here : cond {A = ℕ} (f a) 1 0 ≡ cond {A = ℕ} (g a) 1 0 = ap (λ b. cond {A = ℕ} b 1 0) (h a (omega arith) (omega arith)) in
      let rest : count f (a + 1) n ≡ count g (a + 1) n = count_same (a + 1) n (λ x l u. h x (omega arith) (omega arith)) in
      omega (arith, count_cons f a n, count_cons g a n, here, rest)

  pub each_same : (a n : ℕ) → ((x : ℕ) → a ≤ x → x < a + n → f x ≡ g x) → each f a n ≡ each g a n
  each_same a n h = each_count f a n ∙ (ap (λ k. eqb k n) (count_same a n h) ∙ sym (each_count g a n))

-- a test that holds of all of them, or of none
module _ (f : ℕ → Bool) (a n : ℕ) where
  pub count_true : ((x : ℕ) → a ≤ x → x < a + n → f x ≡ true) → count f a n ≡ n
  count_true h = count_all f a n (each_from f a n h)

  pub count_false : ((x : ℕ) → a ≤ x → x < a + n → f x ≡ false) → count f a n ≡ 0
  count_false h = count_same f (λ x. false) a n h ∙ none a n
    where
      none : (b m : ℕ) → count (λ x. false) b m ≡ 0
      none b zero = refl
      none b (suc m) = omega (arith, count_cons (λ x. false) b m, none (b + 1) m)
