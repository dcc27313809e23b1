-- The digits of a column write its number back, and no text has two columns at its front.
use Rattle.std.proofs.Common.{◌≡◌, ℕ, zero, suc, ◌+◌, ◌*◌, ◌/◌, ◌%◌, ◌^◌, ◌<◌, ◌≤◌, true, false, ◌||◌, eqb, leb, List, [], ◌∷◌, ◌++◌, length, take, drop, set, reverse, add-one, sym, refl, ap, ◌∙◌, subst, inl, inr, ◌⊎◌, ⊎_elim, pow-suc, div-add-mod', div-one, arith}
use native.Mathlib.Nat.{div-div-eq-div-mul, div-eq_of_lt, one-le-pow, lt-div-mul-add}
use Rattle.std.proofs.lemmas.Nat.{mod_below}
use Rattle.std.proofs.lemmas.Grind.{common_steps}
use Rattle.std.specs.Cmp.Lexicographic.{pointwise}
use Rattle.std.proofs.lemmas.Slice.Eq.{bytes_eq-Decides}
use Rattle.std.proofs.lemmas.List.{take_at, take_all, take_more_set, reverse-append, append_cancel_left}
use Rattle.std.proofs.lemmas.Bool.{cases_Bool, false≢true, le-leb, and_from, cond-true, cond-false, or_parts, or_from, or_right, ne_eqb, lt-leb, leb-false}
use Rattle.sheet.specs.Columns.{mark, marks, column, FitsColumn}
use Rattle.sheet.specs.Digits.{with_digit, column_value}

ten_pos : (j : ℕ) → 0 < 10 ^ j
ten_pos j = one-le-pow j 10 (omega arith)

next_rest : (n j : ℕ) → n / 10 ^ j / 10 ≡ n / 10 ^ suc j
next_rest n j = div-div-eq-div-mul n (10 ^ j) 10 ∙ ap (λ (p : ℕ). n / p) (sym (pow-suc 10 j))

-- the mark at place j is a digit where the number without the digits right of it is not 0, or at the right end
pub digit_marked : (n j r : ℕ) → r ≡ n / 10 ^ j → 0 < r → 48 + r % 10 ≡ mark n j
digit_marked n j r e h =
    let there : leb (10 ^ j) n ≡ true =
    ⊎_elim (λ (t : leb (10 ^ j) n ≡ true). t)
    (λ (f : leb (10 ^ j) n ≡ false). absurd (omega (arith, h, e, div-eq_of_lt (leb-false (10 ^ j) n f))))
    (cases_Bool (leb (10 ^ j) n)) in
    ap (λ (q : ℕ). 48 + q % 10) e ∙ sym (cond-true _ (48 + n / 10 ^ j % 10) 32 (or_right (eqb j 0) (leb (10 ^ j) n) there))

pub last_marked : (n r : ℕ) → r ≡ n / 10 ^ 0 → 48 + r % 10 ≡ mark n 0
last_marked n r e = ap (λ (q : ℕ). 48 + q % 10) e

-- and else a space
pub space_marked : (n j r : ℕ) → r ≡ n / 10 ^ j → r ≡ 0 → 0 < j → 32 ≡ mark n j
space_marked n j r e z h =
    let near : n < 0 * 10 ^ j + 10 ^ j = subst (λ (q : ℕ). n < q * 10 ^ j + 10 ^ j) (sym e ∙ z) (lt-div-mul-add (ten_pos j)) in
    let small : n < 10 ^ j = omega (arith, near) in
    sym (cond-false _ (48 + n / 10 ^ j % 10) 32 (or_from (eqb j 0) (leb (10 ^ j) n) (ne_eqb j 0 (λ k. omega (arith, k, h))) (lt-leb (10 ^ j) n small)))

-- the mark by what is left of the number
pub ruleset rest_marked = (digit_marked, last_marked, space_marked, common_steps)

-- one more mark, of those that stand from the right to the left
pub mark_more : (n j m : ℕ) (ms : List ℕ) → j < length ms → m ≡ mark n j → reverse (take j ms) ≡ marks j n
    → reverse (take (j + 1) (set ms j m)) ≡ marks (j + 1) n
mark_more n j m ms h e k =
    ap reverse (take_more_set ms j m h)
    ∙ reverse-append (take j ms) (m ∷ [])
    ∙ ap (λ (t : List ℕ). m ∷ t) k
    ∙ ap (λ (x : ℕ). x ∷ marks j n) e
    ∙ ap (λ (i : ℕ). marks i n) (sym (add-one j))

-- the number without one digit more
-- the first part gives a premise back: it is there so that the check finds the term
pub rest_more : (n j r : ℕ) → r ≡ n / 10 ^ j → (r ≡ n / 10 ^ j) × (r / 10 ≡ n / 10 ^ (j + 1))
rest_more n j r e = (e, ap (λ (q : ℕ). q / 10) e ∙ next_rest n j ∙ ap (λ (k : ℕ). n / 10 ^ k) (sym (add-one j)))

-- all eleven marks, from the left to the right
pub all_marked : (n j : ℕ) (ms : List ℕ) → j ≡ 11 → length ms ≡ 11 → reverse (take j ms) ≡ marks j n → reverse ms ≡ column n
unfolding column
all_marked n j ms d l e = ap reverse (sym (take_all j ms (omega (arith, d, l)))) ∙ e ∙ ap (λ (k : ℕ). marks k n) d

-- the marks set one after another
pub ruleset marked = (rest_more, mark_more, all_marked, common_steps)

-- a digit's mark carries the number on by one place
digit_carries : (v r : ℕ) → r < 10 → with_digit v (48 + r) ≡ v * 10 + r
digit_carries v r h =
    cond-true _ _ _ (and_from _ _ (le-leb 48 (48 + r) (omega arith)) (le-leb (48 + r) 57 (omega arith)))
    ∙ (omega arith)

carries : (n j : ℕ) → with_digit (n / 10 ^ suc j) (mark n j) ≡ n / 10 ^ j
carries n j =
    ⊎_elim
    (λ (e : (eqb j 0 || leb (10 ^ j) n) ≡ true).
    ap (with_digit (n / 10 ^ suc j)) (cond-true _ (48 + n / 10 ^ j % 10) 32 e)
    ∙ digit_carries (n / 10 ^ suc j) (n / 10 ^ j % 10) (mod_below (n / 10 ^ j) 10 (omega arith))
    ∙ omega (arith, div-add-mod' (n / 10 ^ j) 10, next_rest n j))
    (λ (e : (eqb j 0 || leb (10 ^ j) n) ≡ false).
    let small : n < 10 ^ j = leb-false (10 ^ j) n (or_parts (eqb j 0) (leb (10 ^ j) n) e).1 in
    ap (with_digit (n / 10 ^ suc j)) (cond-false _ (48 + n / 10 ^ j % 10) 32 e)
    ∙ sym (next_rest n j) ∙ omega (arith, div-eq_of_lt small))
    (cases_Bool (eqb j 0 || leb (10 ^ j) n))

back : (j n : ℕ) → column_value (n / 10 ^ j) (marks j n) ≡ n
back zero n = div-one n
back (suc j) n = ap (λ (v : ℕ). column_value v (marks j n)) (carries n j) ∙ back j n

pub worth_column : (n : ℕ) → FitsColumn n → column_value 0 (column n) ≡ n
unfolding column
worth_column n h = ap (λ (v : ℕ). column_value v (marks 11 n)) (sym (div-eq_of_lt (omega arith))) ∙ back 11 n

pub length_column : (n : ℕ) → length (column n) ≡ 11
unfolding column
length_column n = refl

worth_more : (v b : ℕ) → v ≤ with_digit v b
worth_more v b = grind (arith, common_steps)

-- more characters write no smaller number
pub worth_grows : (v : ℕ) (bs : List ℕ) → v ≤ column_value v bs
worth_grows v [] = omega arith
worth_grows v (b ∷ bs) = omega (arith, worth_more v b, worth_grows (with_digit v b) bs)

-- a text that a column stands in front of
-- the first part is refl: it is there so that the check finds the term
pub column_front : (n : ℕ) (t : List ℕ) → (column n ++ t ≡ column n ++ t) × (length (column n ++ t) ≡ 11 + length t)
    × (take 11 (column n ++ t) ≡ column n) × (drop 11 (column n ++ t) ≡ t)
unfolding column
column_front n t = (refl, omega arith, refl, refl)

pub same_front : (n : ℕ) (s t : List ℕ) → FitsColumn n → s ≡ column n ++ t → column_value 0 (take 11 s) ≡ n
same_front n s t h e =
    ap (λ (u : List ℕ). column_value 0 (take 11 u)) e
    ∙ ap (column_value 0) (take_at (column n) t 11 (length_column n)) ∙ worth_column n h

-- a text begins with the column of one number at most
pub column_cancel : (m n : ℕ) (r t : List ℕ) → FitsColumn m → FitsColumn n → column m ++ r ≡ column n ++ t → (m ≡ n) × (r ≡ t)
column_cancel m n r t h k e =
    let same : m ≡ n = sym (same_front m (column m ++ r) r h refl) ∙ same_front n (column m ++ r) t k e in
    (same, append_cancel_left (column m) r t (e ∙ ap (λ (x : ℕ). column x ++ t) (sym same)))

-- a text is its first k characters and the others
-- the first part is refl: it is there so that the check finds the term
pub halves : (k : ℕ) (s : List ℕ) → (drop k s ≡ drop k s) × (s ≡ take k s ++ drop k s)
halves k s = (refl, grind (arith, common_steps))

-- two texts are the same, or not
-- the first part is refl: it is there so that the check finds the term
pub same_marks : (xs ys : List ℕ) → (pointwise eqb xs ys ≡ pointwise eqb xs ys)
    × (((pointwise eqb xs ys ≡ true) × (xs ≡ ys)) ⊎ ((pointwise eqb xs ys ≡ false) × (xs ≡ ys → ⊥)))
same_marks xs ys =
    let d = bytes_eq-Decides xs ys in
    (refl, ⊎_elim (λ t. inl (t, d.0 t)) (λ f. inr (f, λ e. false≢true (sym f ∙ d.1 e))) (cases_Bool (pointwise eqb xs ys)))

-- what tells that a text begins with a column
pub ruleset fronts = (column_front, worth_column, halves, same_marks)
