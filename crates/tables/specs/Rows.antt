-- The counts of a row, and how they are printed.
use Rattle.std.specs.Prelude.{ℕ, ◌-◌, List, ◌++◌, length, codes}
use Rattle.std.specs.List.{repeat}
use Rattle.std.specs.Fmt.{decimal}
use Rattle.tables.specs.declared.row.Row.{Row}
use Rattle.tables.specs.declared.width.Width.{Width}
use Rattle.tables.specs.declared.width.Width.TheVariants.{Bits8, Bits16, Bits32, Bits64}

abbrev pub count : Row → Width → ℕ
count r Bits8 = r.bits8
count r Bits16 = r.bits16
count r Bits32 = r.bits32
count r Bits64 = r.bits64

-- the number with spaces before it, eight characters in all where it has no more digits
abbrev pub cell : ℕ → List ℕ
cell n = repeat (8 - length (decimal n)) (codes " ") ++ decimal n

-- the cells of the four counts
abbrev pub row_text : Row → List ℕ
row_text r = cell r.bits8 ++ (cell r.bits16 ++ (cell r.bits32 ++ cell r.bits64))
