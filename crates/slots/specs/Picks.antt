-- The highest and the lowest number of which a test holds.
use Rattle.std.specs.Prelude.{ℕ, zero, suc, ◌<◌, Bool, cond, T, Some, None, Option}
use Rattle.std.specs.Option.{option_or}

-- the highest below k
unfoldable pub highest : ℕ → (ℕ → Bool) → Option ℕ
highest zero f = None
highest (suc k) f = cond (f k) (Some k) (highest k f)

-- the lowest below k
unfoldable pub lowest : ℕ → (ℕ → Bool) → Option ℕ
lowest zero f = None
lowest (suc k) f = option_or (lowest k f) (cond (f k) (Some k) None)

-- what the highest and the lowest are
abbrev pub IsHighest : ℕ → (ℕ → Bool) → Option ℕ → Type 0
IsHighest k f None = (c : ℕ) → c < k → T (f c) → ⊥
IsHighest k f (Some b) = (b < k) × T (f b) × ((c : ℕ) → b < c → c < k → T (f c) → ⊥)

abbrev pub IsLowest : ℕ → (ℕ → Bool) → Option ℕ → Type 0
IsLowest k f None = (c : ℕ) → c < k → T (f c) → ⊥
IsLowest k f (Some b) = (b < k) × T (f b) × ((c : ℕ) → c < b → T (f c) → ⊥)
