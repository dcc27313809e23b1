-- What a sheet says, its text, and what it is to read one.
use Rattle.std.specs.Prelude.{◌≡◌, ℕ, List, ◌++◌, length, Some, None, Ok, Err, Option, Result, ◌≢◌}
use Rattle.std.specs.Borrow.{Bor}
use Rattle.nodes.specs.declared.error.ArchiveError.{ArchiveError}
use Rattle.nodes.specs.declared.node.Node.{Node}
use Rattle.nodes.specs.Faults.{number}
use Rattle.sheet.specs.declared.head.Head.{Head}
use Rattle.sheet.specs.Columns.{line, lines, FitsLines}
use Rattle.sheet.specs.Entries.{head_numbers, node_numbers, value_numbers, IsAllowedHead}

pub record Contents : Type 0 where
  pub width : ℕ
  pub nodes : List Node
  pub values : List ℕ

abbrev pub head_of : Contents → Head
head_of c = record { width = c.width; nodes = length c.nodes; values = length c.values }

-- the node lines, then the value lines
abbrev pub body_text : Contents → List ℕ
body_text c = lines node_numbers c.nodes ++ lines value_numbers c.values

-- the head's line, then the others
abbrev pub sheet_text : Contents → List ℕ
sheet_text c = line (head_numbers (head_of c)) ++ body_text c

-- within the limits, and every number fits its column
abbrev pub FitsSheet : Contents → Type 0
FitsSheet c = IsAllowedHead (head_of c) × FitsLines node_numbers c.nodes × FitsLines value_numbers c.values

-- the text of some sheet, and of none
unfoldable pub Wellformed : List ℕ → Type 0
Wellformed s = (c : Contents) × FitsSheet c × (s ≡ sheet_text c)

unfoldable pub Malformed : List ℕ → Type 0
Malformed s = (c : Contents) → FitsSheet c → s ≢ sheet_text c

-- a text is that of one sheet at most
unfoldable pub WritingIsInjective : Type 0
WritingIsInjective = (c d : Contents) → FitsSheet c → FitsSheet d → sheet_text c ≡ sheet_text d → c ≡ d

-- s is the text of a sheet with the head h
unfoldable pub HasHead : List ℕ → Head → Type 0
HasHead s h = (c : Contents) × FitsSheet c × (head_of c ≡ h) × (s ≡ sheet_text c)

-- the head of a sheet's text; 15 for any other
abbrev pub ChecksSheet : List ℕ → Result Head ArchiveError → Type 0
ChecksSheet s (Ok h) = HasHead s h
ChecksSheet s (Err e) = (number e ≡ 15) × Malformed s

-- s is the text of a sheet with the head h; r follows the head's line, and t the lines of the nodes
unfoldable pub HasParts : List ℕ → Head → List ℕ → List ℕ → Type 0
HasParts s h r t =
    (c : Contents) × FitsSheet c × (head_of c ≡ h) × (s ≡ sheet_text c) × (r ≡ body_text c) × (t ≡ lines value_numbers c.values)

-- those parts of a sheet's text; none of any other
abbrev pub FindsParts : List ℕ → Option (Head × Bor (List ℕ) × Bor (List ℕ)) → Type 0
FindsParts s None = Malformed s
FindsParts s (Some p) = HasParts s p.0 p.1.now p.2.now
