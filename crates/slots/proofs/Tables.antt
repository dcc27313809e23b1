-- A table that passes the test of a rule has the rule's mask at every tier and four bits.
use Rattle.std.proofs.Common.{◌≡◌, ℕ, zero, suc, ◌+◌, ◌*◌, ◌/◌, ◌%◌, ◌<◌, ◌≤◌, Bool, T, eqb, List, [], ◌∷◌, length, get_or, ap, ◌∙◌, le_of_suc-le-suc, not-suc-le-zero, arith, eqb→eq}
use Rattle.slots.proofs.Bits.{both_left, both_right}
use Rattle.slots.specs.Masks.{mask, mask_below, follows, follows_from}

entry_from : (rule : ℕ → ℕ → ℕ → Bool) (xs : List ℕ) (i : ℕ) → T (follows_from i rule xs) → (k : ℕ) → k < length xs → get_or xs k 0 ≡ mask (rule ((i + k) / 16) ((i + k) % 16))
unfolding mask
entry_from rule [] i t k h = absurd (not-suc-le-zero h)
entry_from rule (x ∷ xs) i t zero h =
    eqb→eq x _ (both_left _ (follows_from (suc i) rule xs) t) ∙ ap (λ (n : ℕ). mask_below 32 (rule (n / 16) (n % 16))) (let e : i ≡ i + 0 = omega arith in e)
entry_from rule (x ∷ xs) i t (suc k) h =
    entry_from rule xs (suc i) (both_right (eqb x (mask_below 32 (rule (i / 16) (i % 16)))) _ t) k (le_of_suc-le-suc h)
    ∙ ap (λ (n : ℕ). mask_below 32 (rule (n / 16) (n % 16))) (let e : suc i + k ≡ i + suc k = omega arith in e)

pub table_mask : (rule : ℕ → ℕ → ℕ → Bool) (xs : List ℕ) (l v : ℕ) → T (follows rule xs) → v < 16 → 16 * l + v < length xs → get_or xs (16 * l + v) 0 ≡ mask (rule l v)
table_mask rule xs l v t h k =
    let a : (0 + (16 * l + v)) / 16 ≡ l = omega arith in
    let b : (0 + (16 * l + v)) % 16 ≡ v = omega arith in
    entry_from rule xs 0 t (16 * l + v) k ∙ ap (λ (n : ℕ). mask (rule n ((0 + (16 * l + v)) % 16))) a ∙ ap (λ (n : ℕ). mask (rule l n)) b

-- a table of 80 entries, five tiers of sixteen
pub table_entry : (rule : ℕ → ℕ → ℕ → Bool) (xs : List ℕ) (l v : ℕ) → T (follows rule xs) → length xs ≡ 80 → l ≤ 4 → v < 16 → get_or xs (16 * l + v) 0 ≡ mask (rule l v)
table_entry rule xs l v t e h k = table_mask rule xs l v t k (omega arith)
