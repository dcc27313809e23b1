-- The words of a table, and what they say.
use Rattle.std.specs.Prelude.{◌≡◌, ◌≢◌, ℕ, ◌<◌, ◌^◌, ◌==◌, ◌||◌, Bool, List, [], ◌∷◌, ◌++◌, length, slice_index, Option, None, Some, Result, Ok, Err, ⊤}
use Rattle.std.specs.Fmt.{decimal}
use Rattle.std.specs.List.{join_with_byte}
use Rattle.std.specs.Str.Parse.{IsNumeral, digits_value, without_leading_plus}
use Rattle.nodes.specs.declared.node.Node.{Node}
use Rattle.tables.specs.declared.node_word.NodeWord.{NodeWord}
use Rattle.tables.specs.declared.node_word.NodeWordError.{NodeWordError}
use Rattle.tables.specs.declared.node_word.NodeWordError.TheVariants.{Number, NoChildBitmap, NoDataIndex, NoChildrenIndex, MoreThanFour}
use Rattle.tables.specs.declared.width.Width.{Width}
use Rattle.tables.specs.declared.width.Width.TheVariants.{Bits8, Bits16, Bits32, Bits64}

abbrev pub bits : Width → ℕ
bits Bits8 = 8
bits Bits16 = 16
bits Bits32 = 32
bits Bits64 = 64

-- the width with these bits, or that none has them
abbrev pub NamesWidth : {E : Type 0} → List ℕ → Result Width E → Type 0
NamesWidth word (Ok w) = word ≡ decimal (bits w)
NamesWidth word (Err _) = (w : Width) → word ≢ decimal (bits w)

-- a line that is empty or begins with `#`
abbrev pub is_remark : List ℕ → Bool
is_remark line = (length line == 0) || (slice_index line 0 == 35)

-- the text is decimal digits of the number n of 32 bits, with a plus before them or none
abbrev pub Writes : List ℕ → ℕ → Type 0
Writes text n = IsNumeral 10 (without_leading_plus text) × (digits_value 10 (without_leading_plus text) ≡ n) × (n < 2 ^ 32)

abbrev pub comma : ℕ
comma = 44

-- the text is a number alone, or a number, a comma and the rest
abbrev pub Begins : List ℕ → ℕ → Option (List ℕ) → Type 0
Begins text n None = Writes text n
Begins text n (Some rest) = (number : List ℕ) × (text ≡ number ++ (comma ∷ rest)) × Writes number n

-- the word is the node's four numbers with commas between them
abbrev pub IsNodeWord : List ℕ → Node → Type 0
IsNodeWord word n = (a : List ℕ) × (b : List ℕ) × (c : List ℕ) × (d : List ℕ) × (word ≡ join_with_byte comma (a ∷ b ∷ c ∷ d ∷ []))
    × Writes a n.data_bitmap × Writes b n.child_bitmap × Writes c n.data_idx × Writes d n.children_idx

-- what is wrong with the word, where its numbers are too few or too many
abbrev pub Explains : List ℕ → NodeWordError → Type 0
Explains word (Number _) = ⊤
Explains word NoChildBitmap = (a : ℕ) × Begins word a None
Explains word NoDataIndex = (a : ℕ) × (s : List ℕ) × Begins word a (Some s) × (b : ℕ) × Begins s b None
Explains word NoChildrenIndex = (a : ℕ) × (s : List ℕ) × Begins word a (Some s) × (b : ℕ) × (t : List ℕ) × Begins s b (Some t) × (c : ℕ) × Begins t c None
Explains word MoreThanFour = (a : ℕ) × (s : List ℕ) × Begins word a (Some s) × (b : ℕ) × (t : List ℕ) × Begins s b (Some t)
    × (c : ℕ) × (u : List ℕ) × Begins t c (Some u) × (d : ℕ) × (rest : List ℕ) × Begins u d (Some rest)

-- the node that the word is, or that it is none, and why
abbrev pub NamesNode : List ℕ → Result NodeWord NodeWordError → Type 0
NamesNode word (Ok w) = IsNodeWord word w.0
NamesNode word (Err e) = ((n : Node) → ¬ IsNodeWord word n) × Explains word e
