-- What a reader sees of a span.
use Rattle.std.specs.Prelude.{ℕ}
use Rattle.prefix.specs.Spans.{length_of}
use Rattle.prefix.specs.declared.span.Span.{Span}

abbrev pub first_address : Span → ℕ
first_address s = s.first

abbrev pub last_address : Span → ℕ
last_address s = s.last

abbrev pub span_length : Span → ℕ
span_length s = length_of s.first s.last

-- the two addresses
abbrev pub ends : Span → ℕ × ℕ
ends s = (s.first, s.last)
