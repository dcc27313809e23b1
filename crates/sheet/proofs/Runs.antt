-- Texts set one behind another: where the front text of each kind is one at most, so is the run of them.
use Rattle.std.proofs.Common.{◌≡◌, ℕ, ◌<◌, List, [], ◌∷◌, ◌++◌, length, sym, refl, ap, ◌∙◌, append_assoc, arith}
use Rattle.std.specs.List.{flat_map, AllByRecursion}
use Rattle.std.proofs.lemmas.List.{flat_map_more}

-- a text begins with the text of one good x at most
abbrev pub Cancels : {X : Type 0} → (X → Type 0) → (X → List ℕ) → Type 0
Cancels {X} Good text =
    (x y : X) (r t : List ℕ) → Good x → Good y → text x ++ r ≡ text y ++ t → (x ≡ y) × (r ≡ t)

module _ {X : Type 0} (Good : X → Type 0) (text : X → List ℕ) where
  split_first : (x y : X) (xs ys : List X) (r t : List ℕ) → flat_map text (x ∷ xs) ++ r ≡ flat_map text (y ∷ ys) ++ t
      → text x ++ (flat_map text xs ++ r) ≡ text y ++ (flat_map text ys ++ t)
  split_first x y xs ys r t e =
      sym (append_assoc (text x) (flat_map text xs) r) ∙ e ∙ append_assoc (text y) (flat_map text ys) t

  pub run_cancels : Cancels Good text → (xs ys : List X) (r t : List ℕ) → AllByRecursion Good xs → AllByRecursion Good ys → length xs ≡ length ys
      → flat_map text xs ++ r ≡ flat_map text ys ++ t → (xs ≡ ys) × (r ≡ t)
  run_cancels one [] [] r t g h l e = (refl, e)
  run_cancels one [] (y ∷ ys) r t g h l e = absurd (omega arith)
  run_cancels one (x ∷ xs) [] r t g h l e = absurd (omega arith)
  run_cancels one (x ∷ xs) (y ∷ ys) r t g h l e =
      let first = one x y (flat_map text xs ++ r) (flat_map text ys ++ t) g.0 h.0 (split_first x y xs ys r t e) in
      let others = run_cancels one xs ys r t g.1 h.1 (omega arith) first.1 in
      (cc (first.0, others.0), others.1)

  -- where no good text stands after the run xs, no longer run begins the whole
  pub run_stops : Cancels Good text → (xs ys : List X) (r t : List ℕ) → AllByRecursion Good xs → AllByRecursion Good ys → length xs < length ys
      → ((x : X) (u : List ℕ) → Good x → r ≡ text x ++ u → ⊥) → flat_map text xs ++ r ≡ flat_map text ys ++ t → ⊥
  run_stops one [] [] r t g h l no' e = omega arith
  run_stops one (x ∷ xs) [] r t g h l no' e = omega arith
  run_stops one [] (y ∷ ys) r t g h l no' e =
      no' y (flat_map text ys ++ t) h.0 (e ∙ append_assoc (text y) (flat_map text ys) t)
  run_stops one (x ∷ xs) (y ∷ ys) r t g h l no' e =
      let first = one x y (flat_map text xs ++ r) (flat_map text ys ++ t) g.0 h.0 (split_first x y xs ys r t e) in
      run_stops one xs ys r t g.1 h.1 (omega arith) no' first.1

  -- one more text behind the run
  pub run_more : (xs : List X) (x : X) (s r u : List ℕ) → s ≡ flat_map text xs ++ r → r ≡ text x ++ u
      → s ≡ flat_map text (xs ++ x ∷ []) ++ u
  run_more xs x s r u e k =
      e ∙ ap (λ (v : List ℕ). flat_map text xs ++ v) k ∙ sym (append_assoc (flat_map text xs) (text x) u)
      ∙ ap (λ (v : List ℕ). v ++ u) (flat_map_more text [] xs x)
