-- How numbers, addresses and queries are written, and what a reading of such a text answers.
use Rattle.std.specs.Prelude.{◌≡◌, ℕ, ◌/◌, ◌%◌, ◌^◌, ◌<◌, Bool, ◌&&◌, ◌||◌, List, [], ◌∷◌, ◌++◌, length, slice_index, Some, None, Ok, Err, IfSome, decimal, Option, Result, ◌==◌, ◌≢◌, nat_lt}
use Rattle.std.specs.List.{join_with_byte}
use Rattle.nodes.specs.declared.error.ArchiveError.{ArchiveError}
use Rattle.nodes.specs.Faults.{number}
use Rattle.query.specs.declared.address.Style.{Style}
use Rattle.query.specs.declared.address.Style.TheVariants.{Number, Quad}
use Rattle.query.specs.declared.address.Address.{Address}
use Rattle.query.specs.declared.query.Query.{Query}

-- s is the text of no good x
unfoldable pub IsTextOfNone : {X : Type 0} → (X → Type 0) → (X → List ℕ) → List ℕ → Type 0
IsTextOfNone {X} Good text s = (x : X) → Good x → s ≢ text x

-- the good x whose text s is, or fault 15 where there is none
abbrev pub ParsesWhole : {X : Type 0} → (X → Type 0) → (X → List ℕ) → List ℕ → Result X ArchiveError → Type 0
ParsesWhole Good text s (Ok x) = Good x × (s ≡ text x)
ParsesWhole Good text s (Err e) = (number e ≡ 15) × IsTextOfNone Good text s

-- a number that a query may have
abbrev pub FitsNumber : ℕ → Type 0
FitsNumber n = n < 2 ^ 32

-- s begins with a plus, or with a zero before more digits
abbrev pub is_signed_or_padded : List ℕ → Bool
is_signed_or_padded s = slice_index s 0 == 43 || (nat_lt 1 (length s) && slice_index s 0 == 48)

-- the four octets of a key of 32 bits, with dots (byte 46) between them
abbrev pub quad_text : ℕ → List ℕ
quad_text k = join_with_byte 46 (decimal (k / 2 ^ 24) ∷ decimal (k / 2 ^ 16 % 256) ∷ decimal (k / 2 ^ 8 % 256) ∷ decimal (k % 256) ∷ [])

abbrev pub key_text : Style → ℕ → List ℕ
key_text Number k = decimal k
key_text Quad k = quad_text k

abbrev pub address_text : Address → List ℕ
address_text a = key_text a.style a.key

abbrev pub FitsAddress : Address → Type 0
FitsAddress a = FitsNumber a.key

-- a length behind its slash (byte 47), where there is one
abbrev pub length_text : Option ℕ → List ℕ
length_text None = []
length_text (Some n) = 47 ∷ decimal n

abbrev pub query_text : Query → List ℕ
query_text q = address_text q.address ++ length_text q.len

-- the numbers of a query are below 2^32
abbrev pub FitsQuery : Query → Type 0
FitsQuery q = FitsAddress q.address × IfSome q.len FitsNumber

-- a text is that of one query at most
unfoldable pub AtMostOneQuery : Type 0
AtMostOneQuery = (p q : Query) → FitsQuery p → FitsQuery q → query_text p ≡ query_text q → p ≡ q
