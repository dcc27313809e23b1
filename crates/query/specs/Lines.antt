-- The lines of a text: each stands before a byte 10, and the last one may lack it.
use Rattle.std.specs.Prelude.{◌≡◌, ℕ, ◌<◌, List, [], length, Some, None, Option}
use Rattle.std.specs.Borrow.{Bor}
use Rattle.std.specs.Char.{is_newline}
use Rattle.std.specs.List.{after_first, before_first}
use Rattle.query.specs.declared.lines.Lines.{Lines}

-- the text whose lines are still to come
abbrev pub text_left : Lines → List ℕ
text_left l = l.rest.now

-- the next line of the text s, if any is left, and the text that is left behind it
abbrev pub NextLine : List ℕ → Option (Bor (List ℕ)) → List ℕ → Type 0
NextLine s None left = (s ≡ []) × (left ≡ [])
NextLine s (Some line) left = (0 < length s) × (line.now ≡ before_first is_newline s) × (left ≡ after_first is_newline s)
