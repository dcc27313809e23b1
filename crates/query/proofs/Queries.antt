-- A query's text is that of one query: the slash ends the address.
use Rattle.std.proofs.Common.{◌≡◌, ℕ, ◌/◌, ◌^◌, ◌<◌, List, [], ◌∷◌, ◌++◌, get_or, Some, None, IfSome, Bor, decimal, Option, sym, refl, ap, ◌∙◌, subst, append-nil, lit<, arith}
use Rattle.std.specs.Str.{IsAscii, IsUtf8}
use Rattle.std.proofs.ByRecursion.{All-append, All-from_get_or}
use Rattle.std.proofs.lemmas.Fmt.{IsAscii-decimal}
use Rattle.std.proofs.lemmas.Str.{IsAscii-append, IsUtf8-from_ascii}
use Rattle.std.proofs.lemmas.Str.Ascii.{IsAscii-from_reads, IsAscii-nil}
use Rattle.std.proofs.lemmas.Str.Pattern.{IsSplitOnceResult, split_parts}
use Rattle.query.specs.declared.address.Style.{Style}
use Rattle.query.specs.declared.address.Style.TheVariants.{Number, Quad}
use Rattle.query.specs.declared.address.Address.{Address}
use Rattle.query.specs.declared.query.Query.{Query}
use Rattle.query.specs.Spellings.{AtMostOneQuery, FitsAddress, FitsNumber, FitsQuery, IsTextOfNone, address_text, key_text, length_text, quad_text, query_text}
use Rattle.query.proofs.Cuts.{Lacks, cut_one, not_lacking}
use Rattle.query.proofs.Figures.{decimal_lacks, decimal_one}
use Rattle.query.proofs.Quads.{first, second, third, fourth, first_octet, low_octet, no_dot, quad_one}

no_slash : (n : ℕ) → FitsNumber n → Lacks 47 (decimal n)
no_slash n h = decimal_lacks 47 n h (λ i. omega (arith, i.0, i.1))

-- no slash stands in a key's text
key_lacks : (st : Style) (k : ℕ) → FitsNumber k → Lacks 47 (key_text st k)
key_lacks Number k h = no_slash k h
key_lacks Quad k h =
    let apart : ◌≡◌ {A = ℕ} 46 47 → ⊥ = λ e. omega arith in
    let F : ℕ → Type 0 = λ b. b ≡ 47 → ⊥ in
    All-append F (decimal (first k)) _ (no_slash (first k) (omega (arith, first_octet k h))) (
      apart,
      All-append F (decimal (second k)) _ (no_slash (second k) (omega (arith, low_octet (k / 2 ^ 16)))) (
        apart,
        All-append F (decimal (third k)) _ (no_slash (third k) (omega (arith, low_octet (k / 2 ^ 8))))
            (apart, no_slash (fourth k) (omega (arith, low_octet k))),
      ),
    )

key_one : (st su : Style) (j k : ℕ) → FitsNumber j → FitsNumber k → key_text st j ≡ key_text su k → (st ≡ su) × (j ≡ k)
key_one Number Number j k g h e = (refl, decimal_one j k g h e)
key_one Number Quad j k g h e = absurd (not_lacking 46 (decimal j) (decimal (first k)) _ (no_dot j g) e)
key_one Quad Number j k g h e = absurd (not_lacking 46 (decimal k) (decimal (first j)) _ (no_dot k h) (sym e))
key_one Quad Quad j k g h e = (refl, quad_one j k g h e)

make_address : Style → ℕ → Address
make_address st k = record { style = st; key = k }

address_again : (a : Address) → make_address a.style a.key ≡ a
unfolding make_address
address_again a = refl

address_one : (a b : Address) → FitsAddress a → FitsAddress b → address_text a ≡ address_text b → a ≡ b
address_one a b g h e =
    let same = key_one a.style b.style a.key b.key g h e in
    cc (address_again a, address_again b, same.0, same.1)

-- a text is no address where it is neither a number nor four octets
pub no_address : (s : List ℕ) → IsTextOfNone FitsNumber decimal s → IsTextOfNone FitsNumber quad_text s → IsTextOfNone FitsAddress address_text s
unfolding IsTextOfNone
no_address s numbers quads a h e = neither a.style a.key h e
  where
    neither : (st : Style) (k : ℕ) → FitsNumber k → s ≡ key_text st k → ⊥
    neither Number k g d = numbers k g d
    neither Quad k g d = quads k g d

-- a query whose text has a slash, and one whose text has none
slashed : (a : Address) (l : Option ℕ) (front back : List ℕ) → FitsAddress a → IfSome l FitsNumber → Lacks 47 front
    → front ++ (47 ∷ back) ≡ address_text a ++ length_text l → (n : ℕ) × (l ≡ Some n) × FitsNumber n × (front ≡ address_text a) × (back ≡ decimal n)
slashed a None front back g h f e =
    absurd (not_lacking 47 (address_text a) front back (key_lacks a.style a.key g) (sym (append-nil (address_text a)) ∙ sym e))
slashed a (Some n) front back g h f e =
    let same = cut_one 47 front (address_text a) back (decimal n) f (key_lacks a.style a.key g) e in
    (n, refl, h, same.0, same.1)

plain : (a : Address) (l : Option ℕ) (s : List ℕ) → FitsAddress a → IfSome l FitsNumber → Lacks 47 s
    → s ≡ address_text a ++ length_text l → (l ≡ None) × (s ≡ address_text a)
plain a None s g h f e = (refl, e ∙ append-nil (address_text a))
plain a (Some n) s g h f e = absurd (not_lacking 47 s (address_text a) (decimal n) f e)

make_query : Address → Option ℕ → Query
make_query a l = record { address = a; len = l }

query_again : (q : Query) → make_query q.address q.len ≡ q
unfolding make_query
query_again q = refl

parts_one : (a b : Address) (l m : Option ℕ) → FitsAddress a → FitsAddress b → IfSome l FitsNumber → IfSome m FitsNumber
    → address_text a ++ length_text l ≡ address_text b ++ length_text m → (a ≡ b) × (l ≡ m)
parts_one a b None m g h i j e =
    let same = plain b m (address_text a) h j (key_lacks a.style a.key g) (sym (append-nil (address_text a)) ∙ e) in
    (address_one a b g h same.1, sym same.0)
parts_one a b (Some n) m g h i j e =
    let same = slashed b m (address_text a) (decimal n) h j (key_lacks a.style a.key g) e in
    (address_one a b g h same.3, ap Some (decimal_one n same.0 i same.2 same.4) ∙ sym same.1)

pub one_query : AtMostOneQuery
unfolding AtMostOneQuery
one_query p q g h e =
    let same = parts_one p.address q.address p.len q.len g.0 h.0 g.1 h.1 e in
    cc (query_again p, query_again q, same.0, same.1)

-- the first slash of a text, and a text without one
split_lacks : (s : List ℕ) (x : Bor (List ℕ) × Bor (List ℕ)) → IsSplitOnceResult 47 s (Some x) → (s ≡ x.0.now ++ (47 ∷ x.1.now)) × Lacks 47 x.0.now
split_lacks s x p =
    let parts = split_parts 47 s (Some x) p (lit< tt) in
    (parts.0, All-from_get_or (λ b. b ≡ 47 → ⊥) x.0.now 0 parts.1)

whole_lacks : (s : List ℕ) → IsSplitOnceResult 47 s None → Lacks 47 s
whole_lacks s p = All-from_get_or (λ b. b ≡ 47 → ⊥) s 0 (split_parts 47 s None p (lit< tt))

pub split_address : (s : List ℕ) (x : Bor (List ℕ) × Bor (List ℕ)) → IsSplitOnceResult 47 s (Some x)
    → IsTextOfNone FitsAddress address_text x.0.now → IsTextOfNone FitsQuery query_text s
unfolding IsTextOfNone
split_address s x p none q g e =
    let cut = split_lacks s x p in
    let parts = slashed q.address q.len x.0.now x.1.now g.0 g.1 cut.1 (sym cut.0 ∙ e) in
    none q.address g.0 parts.3

pub split_length : (s : List ℕ) (x : Bor (List ℕ) × Bor (List ℕ)) → IsSplitOnceResult 47 s (Some x)
    → IsTextOfNone FitsNumber decimal x.1.now → IsTextOfNone FitsQuery query_text s
unfolding IsTextOfNone
split_length s x p none q g e =
    let cut = split_lacks s x p in
    let parts = slashed q.address q.len x.0.now x.1.now g.0 g.1 cut.1 (sym cut.0 ∙ e) in
    none parts.0 parts.2 parts.4

pub whole_address : (s : List ℕ) → IsSplitOnceResult 47 s None → IsTextOfNone FitsAddress address_text s → IsTextOfNone FitsQuery query_text s
unfolding IsTextOfNone
whole_address s p none q g e = none q.address g.0 (plain q.address q.len s g.0 g.1 (whole_lacks s p) e).1

pub split_text : (s : List ℕ) (x : Bor (List ℕ) × Bor (List ℕ)) (a : Address) (n : ℕ) → IsSplitOnceResult 47 s (Some x)
    → x.0.now ≡ address_text a → x.1.now ≡ decimal n → s ≡ address_text a ++ (47 ∷ decimal n)
split_text s x a n p e f =
    (split_lacks s x p).0 ∙ ap (λ (t : List ℕ). t ++ (47 ∷ x.1.now)) e ∙ ap (λ (t : List ℕ). address_text a ++ (47 ∷ t)) f

pub whole_text : (a : Address) → address_text a ≡ address_text a ++ []
whole_text a = sym (append-nil (address_text a))

-- what each part of a text says of the query
pub ruleset queries = (split_address, split_length, whole_address, split_text, whole_text)

octet_ascii : (n : ℕ) → n < 256 → IsAscii (decimal n)
octet_ascii n h = IsAscii-decimal n (omega arith)

mark_read : (c : ℕ) → c < 128 → (k : ℕ) → k < 1 → get_or (c ∷ []) k 0 < 128
mark_read c h k l = let none : k ≡ 0 = omega arith in rw none h

mark_ascii : (c : ℕ) (s : List ℕ) → c < 128 → IsAscii s → IsAscii (c ∷ s)
mark_ascii c s h g = IsAscii-append (c ∷ []) s (IsAscii-from_reads (c ∷ []) 1 (omega arith) (mark_read c h)) g

key_ascii : (st : Style) (k : ℕ) → FitsNumber k → IsAscii (key_text st k)
key_ascii Number k h = IsAscii-decimal k (omega arith)
key_ascii Quad k h =
    IsAscii-append (decimal (first k)) _ (octet_ascii (first k) (first_octet k h))
    (mark_ascii 46 _ (omega arith) (IsAscii-append (decimal (second k)) _ (octet_ascii (second k) (low_octet (k / 2 ^ 16)))
    (mark_ascii 46 _ (omega arith) (IsAscii-append (decimal (third k)) _ (octet_ascii (third k) (low_octet (k / 2 ^ 8)))
    (mark_ascii 46 _ (omega arith) (octet_ascii (fourth k) (low_octet k)))))))

length_ascii : (l : Option ℕ) → IfSome l FitsNumber → IsAscii (length_text l)
length_ascii None h = IsAscii-nil
length_ascii (Some n) h = mark_ascii 47 (decimal n) (omega arith) (IsAscii-decimal n (omega arith))

-- bytes that are no text are no query's
pub no_text : (s : List ℕ) → (IsUtf8 s → ⊥) → IsTextOfNone FitsQuery query_text s
unfolding IsTextOfNone
no_text s none q g e =
    none (subst IsUtf8 (sym e) (IsUtf8-from_ascii (query_text q) (IsAscii-append (address_text q.address) (length_text q.len) (key_ascii q.address.style q.address.key g.0) (length_ascii q.len g.1))))
