-- The number that the digits of a text write, which is the only one whose column the text can be.
use Rattle.std.specs.Prelude.{ℕ, ◌+◌, ◌-◌, ◌*◌, cond, ◌&&◌, List, nat_le}
use Rattle.std.specs.List.{fold}

-- v with the digit b set behind it; a character that is no digit changes nothing
abbrev pub with_digit : ℕ → ℕ → ℕ
with_digit v b = cond (nat_le 48 b && nat_le b 57) (v * 10 + (b - 48)) v

-- the number that the digits among the characters bs write behind v
abbrev pub column_value : ℕ → List ℕ → ℕ
column_value v bs = fold with_digit v bs
