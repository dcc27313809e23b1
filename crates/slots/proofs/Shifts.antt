-- The four bits after a depth are a shift of the key.
use Rattle.std.proofs.Common.{◌≡◌, ℕ, ◌+◌, ◌-◌, ◌*◌, ◌/◌, ◌%◌, ◌^◌, ◌<◌, ◌≤◌, sym, ap, ◌∙◌, mul_assoc, arith, pow-add, shr-shr}
use Rattle.keys.proofs.Shifts.{shifted_out}
use lib.Pow.{mod-mod-pow, shl-shr}

-- fewer than four bits are left
pub four_left : (a rest : ℕ) → rest ≤ 4 → a * 2 ^ (4 - rest) % 2 ^ 64 % 16 ≡ a * 16 / 2 ^ rest % 16
four_left a rest h =
    let k : ℕ = 4 - rest in
    let e : k + rest ≡ 4 = omega arith in
    let s : a * 2 ^ k * 2 ^ rest ≡ a * 16 = mul_assoc a (2 ^ k) (2 ^ rest) ∙ ap (λ (x : ℕ). a * x) (sym (pow-add 2 k rest) ∙ ap (λ (x : ℕ). 2 ^ x) e) in
    mod-mod-pow (a * 2 ^ k) 60 4 ∙ ap (λ (x : ℕ). x % 16) (sym (shl-shr (a * 2 ^ k) rest) ∙ ap (λ (x : ℕ). x / 2 ^ rest) s)

pub four_right : (a rest : ℕ) → 4 ≤ rest → a / 2 ^ (rest - 4) ≡ a * 16 / 2 ^ rest
four_right a rest h =
    let k : ℕ = rest - 4 in
    let e : 4 + k ≡ rest = omega arith in
    ap (λ (x : ℕ). x / 2 ^ k) (sym (shl-shr a 4)) ∙ shr-shr (a * 16) 4 k ∙ ap (λ (x : ℕ). a * 16 / 2 ^ x) e

-- none is left
pub four_past : (a rest : ℕ) → a < 2 ^ 64 → 68 ≤ rest → a * 16 / 2 ^ rest % 16 ≡ 0
four_past a rest h l =
    let z : a / 2 ^ (rest - 4) ≡ 0 = shifted_out a (rest - 4) h (omega arith) in
    omega (arith, z, four_right a rest (omega arith))
