-- A number's text has no comma, so what a text begins with is the number before its first comma.
use Rattle.std.proofs.Common.{◌≡◌, ◌≢◌, ℕ, zero, suc, ◌<◌, List, ◌∷◌, length, drop, Option, None, Some, Result, Ok, Err, MatchOption, IsOkAnd, Bor, refl, sym, ap, subst, ◌∙◌, inl, inr, arith, lit<}
use Rattle.std.proofs.lemmas.List.{get_or-drop, length-drop, length-append}
use Rattle.std.proofs.Math.ListN.{get_or}
use Rattle.std.proofs.Math.Seq.{get_or-append_seam}
use Rattle.std.proofs.lemmas.Bool.Decides.{eqb_tells}
use Rattle.std.proofs.lemmas.Str.Parse.{digit_at, without_leading_plus_none, without_leading_plus_plus}
use Rattle.std.proofs.lemmas.Str.Pattern.{IsSplitOnceResult, split_parts, split_after}
use Rattle.std.specs.Str.Parse.{ParsesUnsigned, without_leading_plus, AllDigits}
use Rattle.tables.specs.Words.{Writes, Begins, comma}

-- digits have no comma, with a plus before them or none
lacks_plain : (ds : List ℕ) → AllDigits 10 ds → (i : ℕ) → i < length ds → get_or ds i 0 ≢ comma
lacks_plain ds all i h e = let d = digit_at ds i all h in omega arith

lacks_behind : (a : List ℕ) → AllDigits 10 (drop 1 a) → get_or a 0 0 ≡ 43 → (i : ℕ) → i < length a → get_or a i 0 ≢ comma
lacks_behind a all plus zero h e = omega arith
lacks_behind a all plus (suc i) h e = lacks_plain (drop 1 a) all i (omega (arith, length-drop 1 a)) (get_or-drop 1 a i 0 ∙ ap (λ j. get_or a j 0) (omega arith) ∙ e)

lacks : (a : List ℕ) → AllDigits 10 (without_leading_plus a) → (i : ℕ) → i < length a → get_or a i 0 ≢ comma
lacks a all i h = elim (eqb_tells (get_or a 0 0) 43) [
  | inl (_, plus) ↦ lacks_behind a (subst (AllDigits 10) (without_leading_plus_plus a plus) all) plus i h
  | inr (_, none) ↦ lacks_plain a (subst (AllDigits 10) (without_leading_plus_none a none) all) i h
]

pub begins : (text : List ℕ) (r : Option (Bor (List ℕ) × Bor (List ℕ))) → IsSplitOnceResult comma text r → (n : ℕ) (o : Option (List ℕ)) → Begins text n o
    → MatchOption r ((o ≡ None) × Writes text n) (λ x. (o ≡ Some x.1.now) × Writes x.0.now n)
begins text None split n None b = (refl, b)
begins text (Some x) split n None b =
    let (e, _) = split_parts comma text (Some x) split (lit< tt) in
    let inside : length x.0.now < length text = omega (arith, ap length e, length-append x.0.now (comma ∷ x.1.now)) in
    absurd (lacks text b.0.1 (length x.0.now) inside (ap (λ t. get_or t (length x.0.now) 0) e ∙ get_or-append_seam x.0.now comma x.1.now 0))
begins text None split n (Some rest) (number, e, w) = absurd (split_after comma text number rest None split (lit< tt) e (lacks number w.0.1))
begins text (Some x) split n (Some rest) (number, e, w) =
    let (front, back) = split_after comma text number rest (Some x) split (lit< tt) e (lacks number w.0.1) in
    (ap Some (sym back), subst (λ t. Writes t n) (sym front) w)

pub parsed : {E : Type 0} (text : List ℕ) (r : Result ℕ E) (n : ℕ) → ParsesUnsigned 32 10 text r → Writes text n → IsOkAnd r (λ m. m ≡ n)
parsed text (Ok m) n (p, is) (digits, value, fits) = is ∙ value
parsed text (Err e) n p (digits, value, fits) = absurd (p (digits, rw value fits))

-- what `first_number` reads at a text without a comma, and at one with
pub alone : {E : Type 0} (text : List ℕ) (r : Result ℕ E) → IsSplitOnceResult comma text None → ParsesUnsigned 32 10 text r
    → (n : ℕ) (o : Option (List ℕ)) → Begins text n o → IsOkAnd r (λ m. (m ≡ n) × (None ≡ o))
alone {E = E} text (Ok m) split p n o b = let (e, w) = begins text None split n o b in (parsed {E = E} text (Ok m) n p w, sym e)
alone text (Err e) split p n o b = let (_, w) = begins text None split n o b in parsed text (Err e) n p w

pub followed : {E : Type 0} (text : List ℕ) (x : Bor (List ℕ) × Bor (List ℕ)) (r : Result ℕ E) → IsSplitOnceResult comma text (Some x) → ParsesUnsigned 32 10 x.0.now r
    → (n : ℕ) (o : Option (List ℕ)) → Begins text n o → IsOkAnd r (λ m. (m ≡ n) × (Some x.1.now ≡ o))
followed {E = E} text x (Ok m) split p n o b = let (e, w) = begins text (Some x) split n o b in (parsed {E = E} x.0.now (Ok m) n p w, sym e)
followed text x (Err e) split p n o b = let (_, w) = begins text (Some x) split n o b in parsed x.0.now (Err e) n p w
