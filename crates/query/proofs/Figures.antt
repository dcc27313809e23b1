-- What a number's text is made of, and the texts that are no number's.
use Rattle.std.proofs.Common.{◌≡◌, ℕ, ◌^◌, ◌<◌, ◌≤◌, true, false, eqb, ltb, ◌&&◌, List, length, get_or, decimal, sym, ap, ◌∙◌, subst, ⊎_elim, arith}
use Rattle.std.specs.Str.Parse.{AllDigits, IsNumeral, digits_value, without_leading_plus}
use Rattle.std.specs.Int.{IsInRange}
use Rattle.std.proofs.lemmas.Fmt.{digits_decimal, decimal_injective, decimal_nonempty, decimal_digit, first_decimal, decimal_is_IsNumeral, decimal-digits_value}
use Rattle.std.proofs.ByRecursion.{All-from_get_or}
use Rattle.std.proofs.lemmas.Str.Parse.{IsNumeralModel, numerals_by_value, tells_digits, not_in_digits, digit_at, without_leading_plus_none}
use Rattle.std.proofs.lemmas.Bool.{and_from, and_parts, cases_lt, eqb-true, eq-eqb, false≢true, lt-ltb, ltb-true, or_cases, or_parts}
use Rattle.query.specs.Spellings.{FitsNumber, IsTextOfNone, is_signed_or_padded}
use Rattle.query.proofs.Cuts.{Lacks}

pub digits_model : IsNumeralModel (AllDigits 10) (digits_value 10)
digits_model = numerals_by_value (AllDigits 10) tells_digits

pub decimal_digits : (n : ℕ) → FitsNumber n → AllDigits 10 (decimal n)
decimal_digits n h = digits_decimal digits_model n (omega arith)

-- a mark that is no digit does not stand in a number's text
pub decimal_lacks : (c n : ℕ) → FitsNumber n → (IsInRange 48 57 c → ⊥) → Lacks c (decimal n)
decimal_lacks c n h apart =
    All-from_get_or (λ b. b ≡ c → ⊥) (decimal n) 0 (λ i l. not_in_digits digits_model (decimal n) c (decimal_digits n h) apart i l)

pub decimal_one : (m n : ℕ) → FitsNumber m → FitsNumber n → decimal m ≡ decimal n → m ≡ n
decimal_one m n h k e = decimal_injective m n (omega arith) (omega arith) e

first_digit : (n : ℕ) → FitsNumber n → IsInRange 48 57 (get_or (decimal n) 0 0)
first_digit n h = digit_at (decimal n) 0 (decimal_digits n h) (decimal_nonempty n (omega arith))

lone_zero : (n : ℕ) → FitsNumber n → get_or (decimal n) 0 0 ≡ 48 → length (decimal n) ≡ 1
lone_zero n h e =
    ⊎_elim
    (λ (k : 0 < n). omega (arith, first_decimal n k (omega arith)))
    (λ (k : n ≤ 0). let none : n ≡ 0 = omega arith in ap (λ (m : ℕ). length (decimal m)) none ∙ ap length (decimal_digit 0 (omega arith)))
    (cases_lt 0 n)

unpadded : (n : ℕ) → FitsNumber n → is_signed_or_padded (decimal n) ≡ true → ⊥
unpadded n h t =
    ⊎_elim
    (λ p. omega (arith, eqb-true (get_or (decimal n) 0 0) 43 p, first_digit n h))
    (λ z. let both = and_parts (ltb 1 (length (decimal n))) (eqb (get_or (decimal n) 0 0) 48) z in
    omega (arith, ltb-true 1 (length (decimal n)) both.0, lone_zero n h (eqb-true (get_or (decimal n) 0 0) 48 both.1)))
    (or_cases (eqb (get_or (decimal n) 0 0) 43) (ltb 1 (length (decimal n)) && eqb (get_or (decimal n) 0 0) 48) t)

pub number_padded : (s : List ℕ) → is_signed_or_padded s ≡ true → IsTextOfNone FitsNumber decimal s
unfolding IsTextOfNone
number_padded s t n h e = unpadded n h (ap is_signed_or_padded (sym e) ∙ t)

-- a text that std's parse refuses is no number's
pub number_unread : (s : List ℕ) → (IsNumeral 10 (without_leading_plus s) × (digits_value 10 (without_leading_plus s) < 2 ^ 32) → ⊥) → IsTextOfNone FitsNumber decimal s
unfolding IsTextOfNone
number_unread s none n h e =
    let plain : without_leading_plus s ≡ s =
    without_leading_plus_none s (λ k. omega (arith, first_digit n h, ap (λ (t : List ℕ). get_or t 0 0) e)) in
    let numeral = decimal_is_IsNumeral n (omega arith) in
    let G : List ℕ → Type 0 = λ t. IsNumeral 10 t × (digits_value 10 t < 2 ^ 32) in
    none (subst G (sym (plain ∙ e)) (numeral.0, omega (arith, numeral.1)))

-- and one that it takes is the text of what it gives
pub number_read : (s : List ℕ) (n : ℕ) → IsNumeral 10 (without_leading_plus s) → digits_value 10 (without_leading_plus s) < 2 ^ 32
    → n ≡ digits_value 10 (without_leading_plus s) → is_signed_or_padded s ≡ false → FitsNumber n × (s ≡ decimal n)
number_read s n g l e t =
    let parts = or_parts (eqb (get_or s 0 0) 43) (ltb 1 (length s) && eqb (get_or s 0 0) 48) t in
    let plain : without_leading_plus s ≡ s =
    without_leading_plus_none s (λ k. false≢true (sym parts.0 ∙ eq-eqb (get_or s 0 0) 43 k)) in
    let numeral = subst (IsNumeral 10) plain g in
    let value : digits_value 10 s ≡ n = ap (digits_value 10) (sym plain) ∙ sym e in
    let lead : get_or s 0 0 ≡ 48 → length s ≡ 1 = λ z.
    ⊎_elim
    (λ (k : 1 < length s). absurd (false≢true (sym parts.1 ∙ and_from (ltb 1 (length s)) (eqb (get_or s 0 0) 48) (lt-ltb 1 (length s) k) (eq-eqb (get_or s 0 0) 48 z))))
    (λ (k : length s ≤ 1). let one : length s ≡ 1 = omega (arith, numeral.0) in one)
    (cases_lt 1 (length s)) in
    (omega (arith, l, e), sym (decimal-digits_value digits_model s numeral.1 numeral.0 lead (omega (arith, value, l, e))) ∙ ap decimal value)
