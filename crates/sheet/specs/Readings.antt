-- What a sheet in memory says, and what it is to read a sheet, or lines, into memory.
use Rattle.std.specs.Prelude.{◌≡◌, ℕ, List, ◌++◌, Ok, Err, Result, Vec, vec_items}
use Rattle.std.specs.declared.alloc.Global.{Global}
use Rattle.nodes.specs.Faults.{number}
use Rattle.sheet.specs.declared.error.ReadError.{ReadError}
use Rattle.sheet.specs.declared.error.ReadError.TheVariants.{Fault, OutOfMemory}
use Rattle.sheet.specs.declared.sheet.Sheet.{Sheet}
use Rattle.sheet.specs.Columns.{AreRows, LacksLines, FollowsLines, lines}
use Rattle.sheet.specs.Sheets.{Contents, FitsSheet, Wellformed, Malformed, sheet_text}

abbrev pub contents_of : Sheet → Contents
contents_of s = record { width = s.width; nodes = vec_items s.nodes; values = vec_items s.values }

-- the sheet whose text t is; 15 for any other text; want of memory only for a sheet's
abbrev pub ReadsSheet : List ℕ → Result Sheet ReadError → Type 0
ReadsSheet t (Ok s) = FitsSheet (contents_of s) × (t ≡ sheet_text (contents_of s))
ReadsSheet t (Err (Fault e)) = (number e ≡ 15) × Malformed t
ReadsSheet t (Err OutOfMemory) = Wellformed t

-- s begins with m lines
abbrev pub HasLines : {X : Type 0} → (X → List ℕ) → ℕ → List ℕ → Type 0
HasLines numbers m s = (r : List ℕ) × FollowsLines numbers m s r

-- the entries of the m lines that s begins with; 15 where it does not; want of memory only where it does
abbrev pub LoadsLines : {X : Type 0} → (X → List ℕ) → ℕ → List ℕ → Result (Vec X Global) ReadError → Type 0
LoadsLines numbers m s (Ok v) = AreRows numbers m (vec_items v) × ((t : List ℕ) × (s ≡ lines numbers (vec_items v) ++ t))
LoadsLines numbers m s (Err (Fault e)) = (number e ≡ 15) × LacksLines numbers m s
LoadsLines numbers m s (Err OutOfMemory) = HasLines numbers m s
