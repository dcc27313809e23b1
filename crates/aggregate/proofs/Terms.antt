-- Each bit of a term of shifts, ors and masks comes from one bit of its input: so the terms that push a tier down or fold it up have the bits that they should.
use Rattle.std.proofs.Common.{◌≡◌, ℕ, zero, suc, ◌+◌, ◌-◌, ◌*◌, ◌/◌, ◌%◌, ◌^◌, ◌<◌, Bool, true, false, cond, ◌&&◌, ◌||◌, eqb, nat_le, nat_lt, List, [], ◌∷◌, ◌++◌, sym, refl, ap, ap₂, ◌∙◌, not-suc-le-zero, arith, pow_pos, shr-shr}
use lib.Bits.{bit_and, bit_or, or_lt, and_le_l}
use lib.Pointwise.{pointwise, bytes_decides}
use Rattle.std.proofs.lemmas.Bool.{agree_below, agree_below_at}
use Rattle.std.proofs.lemmas.Nat.{shr_le}
use Rattle.nodes.specs.Bitmaps.{bit}
use Rattle.aggregate.proofs.Bits.{bit_bit_or, bit_left, bit_right, mask_bits, mask_same, where_true, tier_from}
use Rattle.aggregate.specs.Halves.{parent}
use Rattle.aggregate.specs.Steps.{folded, folded_in, pushed, pushed_out}
use Rattle.slots.proofs.Bits.{bit_bit_and}
use Rattle.slots.specs.Masks.{mask, mask_below, of_tier}

pub data Term : Type 0 where
  input : Term
  keep : ℕ → Term → Term
  left : ℕ → Term → Term
  right : ℕ → Term → Term
  either : Term → Term → Term

abbrev pub value : Term → ℕ → ℕ
value input m = m
value (keep c e) m = bit_and (value e m) c
value (left k e) m = value e m * 2 ^ k % 2 ^ 32
value (right k e) m = value e m / 2 ^ k
value (either d e) m = bit_or (value d m) (value e m)

-- the bits of the input that make bit i
abbrev sources : Term → ℕ → List ℕ
sources input i = i ∷ []
sources (keep c e) i = cond (bit c i) (sources e i) []
sources (left k e) i = cond (nat_le k i && nat_lt i 32) (sources e (i - k)) []
sources (right k e) i = sources e (k + i)
sources (either d e) i = sources d i ++ sources e i

some_set : ℕ → List ℕ → Bool
some_set m [] = false
some_set m (j ∷ js) = bit m j || some_set m js

or_false : (t : Bool) → t ≡ (t || false)
or_false true = refl
or_false false = refl

set_when : (t : Bool) (m : ℕ) (js : List ℕ) → cond t (some_set m js) false ≡ some_set m (cond t js [])
unfolding some_set
set_when true m js = refl
set_when false m js = refl

and_when : (s t : Bool) → (s && t) ≡ cond t s false
and_when true true = refl
and_when true false = refl
and_when false true = refl
and_when false false = refl

or_assoc : (r s t : Bool) → ((r || s) || t) ≡ (r || (s || t))
or_assoc true s t = refl
or_assoc false s t = refl

set_append : (m : ℕ) (is js : List ℕ) → (some_set m is || some_set m js) ≡ some_set m (is ++ js)
unfolding some_set
set_append m [] js = refl
set_append m (i ∷ is) js = or_assoc (bit m i) (some_set m is) (some_set m js) ∙ ap (λ (t : Bool). bit m i || t) (set_append m is js)

bit_value : (e : Term) (m i : ℕ) → bit (value e m) i ≡ some_set m (sources e i)
unfolding some_set
bit_value input m i = or_false (bit m i)
bit_value (keep c e) m i =
    bit_bit_and (value e m) c i ∙ and_when (bit (value e m) i) (bit c i) ∙ ap (λ (t : Bool). cond (bit c i) t false) (bit_value e m i) ∙ set_when (bit c i) m (sources e i)
bit_value (left k e) m i =
    bit_left (value e m) k i ∙ ap (λ (t : Bool). cond (nat_le k i && nat_lt i 32) t false) (bit_value e m (i - k)) ∙ set_when (nat_le k i && nat_lt i 32) m (sources e (i - k))
bit_value (right k e) m i = bit_right (value e m) k i ∙ bit_value e m (k + i)
bit_value (either d e) m i =
    bit_bit_or (value d m) (value e m) i ∙ ap₂ (λ (s t : Bool). s || t) (bit_value d m i) (bit_value e m i) ∙ set_append m (sources d i) (sources e i)

value_lt : (e : Term) (m : ℕ) → m < 2 ^ 32 → value e m < 2 ^ 32
value_lt input m h = h
value_lt (keep c e) m h = omega (arith, value_lt e m h, and_le_l (value e m) c)
value_lt (left k e) m h = omega arith
value_lt (right k e) m h = omega (arith, value_lt e m h, shr_le (value e m) k)
value_lt (either d e) m h = or_lt 32 (value d m) (value e m) (value_lt d m h) (value_lt e m h)

-- the bits of which f says true come from the bit at, and the others from none
abbrev takes : Term → (ℕ → Bool) → (ℕ → ℕ) → Bool
takes e f at = agree_below (λ i. pointwise eqb (sources e i) (cond (f i) (at i ∷ []) [])) (λ _. true) 32

pub taken : (e : Term) (m : ℕ) (f : ℕ → Bool) (at : ℕ → ℕ) → m < 2 ^ 32 → takes e f at ≡ true → value e m ≡ mask (λ i. f i && bit m (at i))
unfolding some_set
taken e m f at h t =
    mask_bits (value e m) (λ i. f i && bit m (at i)) (value_lt e m h) (λ i l. (
    let same : sources e i ≡ cond (f i) (at i ∷ []) [] = (bytes_decides (sources e i) (cond (f i) (at i ∷ []) [])).0 (agree_below_at (λ i. pointwise eqb (sources e i) (cond (f i) (at i ∷ []) [])) (λ _. true) 32 i t l) in
    bit_value e m i ∙ ap (some_set m) same ∙ one (f i) (at i)))
  where
    one : (s : Bool) (j : ℕ) → some_set m (cond s (j ∷ []) []) ≡ (s && bit m j)
    one true j = sym (or_false (bit m j))
    one false j = refl

-- among size places from base on, every other group of k
abbrev groups : ℕ → ℕ → ℕ → ℕ
groups base size k = mask_below 32 (λ i. nat_le base i && nat_lt i (base + size) && nat_lt ((i - base) % (2 * k)) k)

-- groups of 2^j bits spread to every other place, and each then doubled
abbrev spread : ℕ → ℕ → ℕ → Term → Term
spread base size zero e = either e (left 1 e)
spread base size (suc j) e = spread base size j (keep (groups base size (2 ^ j)) (either e (left (2 ^ j) e)))

-- from a tier to the one below it
abbrev pub push : ℕ → Term
push l = spread (2 ^ suc l - 1) (2 ^ suc l) l (left (2 ^ l) (keep (mask_below 32 (of_tier l)) input))

pub push_is : (n m : ℕ) → 0 < n → n < 5 → m < 2 ^ 32 → mask (pushed n m) ≡ value (push (n - 1)) m
unfolding pushed
push_is zero m z h b = absurd (not-suc-le-zero z)
push_is (suc l) m z h b =
    let e : suc l - 1 ≡ l = omega arith in
    sym (taken (push l) m (of_tier (suc l)) parent b (agree_below_at (λ l. takes (push l) (of_tier (suc l)) parent) (λ _. true) 4 l refl (omega arith))) ∙ ap (λ (x : ℕ). value (push x) m) (sym e)

abbrev pub push_out : Term
push_out = spread 0 32 4 (keep 65535 (right 15 input))

pub push_out_is : (m : ℕ) → m < 2 ^ 32 → mask (pushed_out m) ≡ value push_out m
unfolding pushed_out
push_out_is m b = sym (taken push_out m (λ _. true) (λ c. parent (31 + c)) b refl)

-- the groups of every other place packed together, from groups of 2^i bits on, j times
abbrev pack : ℕ → ℕ → ℕ → ℕ → Term → Term
pack base size i zero e = e
pack base size i (suc j) e = pack base size (suc i) j (keep (groups base size (2 ^ suc i)) (either e (right (2 ^ i) e)))

-- to a tier from the one below it: the input has at a place the and of it and the next
abbrev pub fold : ℕ → Term
fold l = pack (2 ^ l - 1) (2 ^ suc l) 0 l (keep (groups (2 ^ l - 1) (2 ^ suc l) 1) input)

abbrev pub pairs : ℕ → ℕ
pairs s = bit_and s (s / 2 ^ 1)

bit_pairs : (s b : ℕ) → bit (pairs s) b ≡ (bit s b && bit s (1 + b))
bit_pairs s b = bit_bit_and s (s / 2 ^ 1) b ∙ ap (λ (t : Bool). bit s b && t) (bit_right s 1 b)

pairs_lt : (s : ℕ) → s < 2 ^ 32 → pairs s < 2 ^ 32
pairs_lt s h = omega (arith, h, and_le_l s (s / 2 ^ 1))

halves_at : (m l b : ℕ) → of_tier l b ≡ true → bit (pairs (m / 2 ^ (2 ^ l))) (2 * b - (2 ^ l - 1)) ≡ (bit m (2 * b + 1) && bit m (2 * b + 2))
halves_at m l b t =
    let k : ℕ = 2 ^ l in
    let j : ℕ = 2 * b - (k - 1) in
    let first : k + j ≡ 2 * b + 1 = omega (arith, tier_from l b t, pow_pos l) in
    let second : k + (1 + j) ≡ 2 * b + 2 = omega (arith, first) in
    bit_pairs (m / 2 ^ k) j ∙ ap₂ (λ (r s : Bool). r && s) (bit_right m k j ∙ ap (bit m) first) (bit_right m k (1 + j) ∙ ap (bit m) second)

pub fold_is : (l m : ℕ) → l < 4 → m < 2 ^ 32 → mask (folded l m) ≡ value (fold l) (pairs (m / 2 ^ (2 ^ l)))
unfolding folded
fold_is l m h b =
    let s : ℕ = m / 2 ^ (2 ^ l) in
    let lt : s < 2 ^ 32 = omega (arith, b, shr_le m (2 ^ l)) in
    sym
    (taken (fold l) (pairs s) (of_tier l) (λ i. 2 * i - (2 ^ l - 1)) (pairs_lt s lt) (agree_below_at (λ l. takes (fold l) (of_tier l) (λ i. 2 * i - (2 ^ l - 1))) (λ _. true) 4 l refl h)
    ∙ mask_same _ _ (λ i _. where_true (of_tier l i) (halves_at m l i)))

-- the top tier by one shift for each half
pub fold_top_is : (m : ℕ) → m < 2 ^ 32 → mask (folded 0 m) ≡ bit_and (bit_and (m / 2 ^ 1) (m / 2 ^ 2)) 1
fold_top_is m b = fold_is 0 m (omega arith) b ∙ ap (λ (x : ℕ). bit_and (bit_and (m / 2 ^ 1) x) 1) (shr-shr m 1 1)

abbrev pub fold_in : Term
fold_in = left 15 (pack 0 32 0 4 (keep (groups 0 32 1) input))

child_halves_at : (m b : ℕ) → of_tier 4 b ≡ true → bit (pairs m) (2 * b - 30) ≡ (bit m (2 * b + 1 - 31) && bit m (2 * b + 2 - 31))
child_halves_at m b t =
    let first : 2 * b - 30 ≡ 2 * b + 1 - 31 = omega arith in
    let second : 1 + (2 * b - 30) ≡ 2 * b + 2 - 31 = omega (arith, tier_from 4 b t) in
    bit_pairs m (2 * b - 30) ∙ ap₂ (λ (r s : Bool). r && s) (ap (bit m) first) (ap (bit m) second)

pub fold_in_is : (m : ℕ) → m < 2 ^ 32 → mask (folded_in m) ≡ value fold_in (pairs m)
unfolding folded_in
fold_in_is m b =
    sym (taken fold_in (pairs m) (of_tier 4) (λ i. 2 * i - 30) (pairs_lt m b) refl ∙ mask_same _ _ (λ i _. where_true (of_tier 4 i) (child_halves_at m i)))
