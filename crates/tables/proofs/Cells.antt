-- A number printed with `{:>8}` is its cell.
use Rattle.std.proofs.Common.{◌≡◌, ℕ, ◌-◌, ◌^◌, [], false, arith}
use Rattle.std.proofs.lemmas.Grind.{common_steps}
use Rattle.std.specs.Fmt.{decimal, padded_integral, format_spec, char_count}
use Rattle.tables.specs.Rows.{cell}

pub cell_padded : (n : ℕ) → padded_integral (format_spec 32 3 0 8 (2 ^ 64 - 1)) false [] (decimal n) ≡ cell n
unfolding padded_integral char_count
cell_padded n = grind (arith, common_steps)
