-- How large a sheet may be: the width of its keys in bits, and how many nodes and values it has.
use Rattle.std.specs.Prelude.{◌≡◌, ℕ, ◌≤◌, Bool, true, ◌||◌, ◌==◌}

abbrev pub is_sheet_width : ℕ → Bool
is_sheet_width w = w == 8 || (w == 16 || w == 32)

abbrev pub AreWithinLimits : ℕ → ℕ → ℕ → Type 0
AreWithinLimits w n v = (is_sheet_width w ≡ true) × (n ≤ 512) × (v ≤ 1024)
