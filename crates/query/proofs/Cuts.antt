-- A text is cut at its first byte of a kind in one way only.
use Rattle.std.proofs.Common.{◌≡◌, ℕ, ◌+◌, ◌-◌, ◌≤◌, List, [], ◌∷◌, ◌++◌, length, take, drop, Some, None, sym, refl, ap, ◌∙◌, subst, arith}
use Rattle.std.specs.Char.{is_newline}
use Rattle.std.specs.List.{AllByRecursion, after_first, before_first, position, position_or_len}
use Rattle.std.proofs.lemmas.Grind.{common_steps}
use Rattle.std.proofs.lemmas.List.{drop_all, take_all, take_rest}

-- no byte of the text is c
abbrev pub Lacks : ℕ → List ℕ → Type 0
Lacks c s = AllByRecursion (λ b. b ≡ c → ⊥) s

not_in : (c : ℕ) (xs r : List ℕ) → Lacks c (xs ++ (c ∷ r)) → ⊥
not_in c [] r g = g.0 refl
not_in c (x ∷ xs) r g = not_in c xs r g.1

pub not_lacking : (c : ℕ) (s xs r : List ℕ) → Lacks c s → s ≡ xs ++ (c ∷ r) → ⊥
not_lacking c s xs r g e = not_in c xs r (subst (Lacks c) e g)

pub cut_one : (c : ℕ) (xs ys r t : List ℕ) → Lacks c xs → Lacks c ys → xs ++ (c ∷ r) ≡ ys ++ (c ∷ t) → (xs ≡ ys) × (r ≡ t)
cut_one c [] [] r t g h e = (refl, cc)
cut_one c [] (y ∷ ys) r t g h e = let k : y ≡ c = cc in absurd (h.0 k)
cut_one c (x ∷ xs) [] r t g h e = let k : x ≡ c = cc in absurd (g.0 k)
cut_one c (x ∷ xs) (y ∷ ys) r t g h e =
    let k : xs ++ (c ∷ r) ≡ ys ++ (c ∷ t) = cc in
    let others = cut_one c xs ys r t g.1 h.1 k in
    (cc others.0, others.1)

newline_at : (s : List ℕ) (i : ℕ) → Some i ≡ position is_newline s → position_or_len is_newline s ≡ i
newline_at s i e = grind (arith, common_steps)

no_newline : (s : List ℕ) → None ≡ position is_newline s → length s ≤ position_or_len is_newline s
no_newline s e = grind (arith, common_steps)

-- a text with an end of line, cut there
pub ended_line : (s : List ℕ) (i : ℕ) → Some i ≡ position is_newline s → take i s ≡ before_first is_newline s
ended_line s i e = ap (λ (n : ℕ). take n s) (sym (newline_at s i e))

pub ended_rest : (s : List ℕ) (i : ℕ) → Some i ≡ position is_newline s → take (length s - (i + 1)) (drop (i + 1) s) ≡ after_first is_newline s
ended_rest s i e = take_rest s (i + 1) ∙ ap (λ (n : ℕ). drop (n + 1) s) (sym (newline_at s i e))

-- and one without
pub unended_line : (s : List ℕ) → None ≡ position is_newline s → s ≡ before_first is_newline s
unended_line s e = sym (take_all (position_or_len is_newline s) s (no_newline s e))

pub unended_rest : (s : List ℕ) → None ≡ position is_newline s → [] ≡ after_first is_newline s
unended_rest s e = sym (drop_all (position_or_len is_newline s + 1) s (omega (arith, no_newline s e)))

pub ruleset cuts = (ended_line, ended_rest, unended_line, unended_rest)
