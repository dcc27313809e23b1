-- What the pair and the span make of a block: its length and its address, with zeros past the length.
use Rattle.std.specs.Prelude.{◌≡◌, ℕ}
use Rattle.keys.specs.Blocks.{Block}
use Rattle.prefix.specs.declared.pair.Pair.{Pair}
use Rattle.prefix.specs.declared.span.Span.{Span}
use Rattle.prefix.specs.Ends.{first_address, span_length}

-- a pair whose keys have these numbers
abbrev pub MakesPair : {K : Type 0} → (K → ℕ) → Block → Pair K → Type 0
MakesPair num b p = (p.len ≡ b.len) × (num p.repr ≡ b.address)

abbrev pub MakesSpan : Block → Span → Type 0
MakesSpan b s = (span_length s ≡ b.len) × (first_address s ≡ b.address)
