-- The text of numbers: a column of eleven characters for each, a line of columns for each entry of a list; and what it is to read such a text from the front.
use Rattle.std.specs.Prelude.{◌≡◌, ℕ, zero, suc, ◌+◌, ◌/◌, ◌%◌, ◌^◌, ◌<◌, ◌≤◌, cond, ◌||◌, List, [], ◌∷◌, ◌++◌, length, drop, Some, None, Option, ◌==◌, ◌≢◌, nat_le}
use Rattle.std.specs.Borrow.{Bor}
use Rattle.std.specs.List.{flat_map, AllByRecursion}

-- what stands j places from the right end of n's column: a digit, or a space left of the first digit
abbrev pub mark : ℕ → ℕ → ℕ
mark n j = cond (j == 0 || nat_le (10 ^ j) n) (48 + n / 10 ^ j % 10) 32

-- the marks of the k rightmost places, left to right
abbrev pub marks : ℕ → ℕ → List ℕ
marks zero n = []
marks (suc j) n = mark n j ∷ marks j n

unfoldable pub column : ℕ → List ℕ
column n = marks 11 n

-- the columns side by side, then the line's end
abbrev pub line : List ℕ → List ℕ
line ns = flat_map column ns ++ (10 ∷ [])

-- the lines of a list, each of the numbers of its entry
abbrev pub lines : {X : Type 0} → (X → List ℕ) → List X → List ℕ
lines numbers xs = flat_map (λ x. line (numbers x)) xs

-- a number that a column can hold
abbrev pub FitsColumn : ℕ → Type 0
FitsColumn n = n < 2 ^ 32

-- numbers that the columns of a line can hold
abbrev pub FitsLine : List ℕ → Type 0
FitsLine ns = AllByRecursion FitsColumn ns

-- the numbers of a line of k columns
abbrev pub IsRow : ℕ → List ℕ → Type 0
IsRow k ns = FitsLine ns × (length ns ≡ k)

-- entries whose numbers lines can hold
abbrev pub FitsLines : {X : Type 0} → (X → List ℕ) → List X → Type 0
FitsLines numbers xs = AllByRecursion (λ x. FitsLine (numbers x)) xs

-- the entries of m lines
abbrev pub AreRows : {X : Type 0} → (X → List ℕ) → ℕ → List X → Type 0
AreRows numbers m xs = FitsLines numbers xs × (length xs ≡ m)

-- each entry has equally many numbers, and no two entries have the same
pub record IsLineKind {X : Type 0} (numbers : X → List ℕ) : Type 0 where
  pub count : ℕ
  pub has_count : (x : X) → length (numbers x) ≡ count
  pub identified : (x y : X) → numbers x ≡ numbers y → x ≡ y

-- s begins with the text of no good x
unfoldable pub BeginsWithNone : {X : Type 0} → (X → Type 0) → (X → List ℕ) → List ℕ → Type 0
BeginsWithNone {X} Good text s = (x : X) (t : List ℕ) → Good x → s ≢ text x ++ t

-- from the front of s: a good x whose text s begins with, and what follows it; none where there is none
abbrev pub ParsesFront : {X : Type 0} → (X → Type 0) → (X → List ℕ) → List ℕ → Option (X × Bor (List ℕ)) → Type 0
ParsesFront Good text s None = BeginsWithNone Good text s
ParsesFront Good text s (Some p) = Good p.0 × (s ≡ text p.0 ++ p.1.now)

-- the columns that s begins with, as many as there are up to k, hold the numbers ns
unfoldable pub IsLongestFront : ℕ → List ℕ → List ℕ → Type 0
IsLongestFront k s ns =
    (r : List ℕ) × FitsLine ns × (length ns ≤ k) × (s ≡ flat_map column ns ++ r)
    × (length ns < k → BeginsWithNone FitsColumn column r)

-- those numbers in place of the first of the numbers before, and the others as they were
unfoldable pub OverwritesFront : List ℕ → List ℕ → List ℕ → Type 0
OverwritesFront s before after =
    (ns : List ℕ) × IsLongestFront (length before) s ns × (after ≡ ns ++ drop (length ns) before)

-- a line from the front of s: its numbers in place of those before, and what follows it; where there
-- is none, the numbers of the columns that s begins with in place of as many of those before
abbrev pub ParsesFrontInto : List ℕ → List ℕ → List ℕ → Option (Bor (List ℕ)) → Type 0
ParsesFrontInto s before after None = BeginsWithNone (IsRow (length before)) line s × OverwritesFront s before after
ParsesFrontInto s before after (Some r) = IsRow (length before) after × (s ≡ line after ++ r.now)

-- s does not begin with m lines
unfoldable pub LacksLines : {X : Type 0} → (X → List ℕ) → ℕ → List ℕ → Type 0
LacksLines numbers m s = BeginsWithNone (AreRows numbers m) (lines numbers) s

-- s begins with m lines, and r follows them
unfoldable pub FollowsLines : {X : Type 0} → (X → List ℕ) → ℕ → List ℕ → List ℕ → Type 0
FollowsLines {X} numbers m s r = (xs : List X) × AreRows numbers m xs × (s ≡ lines numbers xs ++ r)

-- what follows the m lines that s begins with; none where it does not
abbrev pub SkipsLines : {X : Type 0} → (X → List ℕ) → ℕ → List ℕ → Option (Bor (List ℕ)) → Type 0
SkipsLines numbers m s None = LacksLines numbers m s
SkipsLines numbers m s (Some r) = FollowsLines numbers m s r.now
