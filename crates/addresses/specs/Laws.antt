-- What it is that an address is matched, a block covered, and so many addresses matched.
use Rattle.std.specs.Prelude.{◌≡◌, ℕ, ◌^◌, ◌<◌, ◌≤◌, true, List, Contains, is_some}
use Rattle.keys.specs.Blocks.{Block, Proper, address_block, contains}
use Rattle.register.specs.Entries.{Entry, longest}
use Rattle.addresses.specs.Addresses.{matched, covered, matched_addresses}

-- the block contains the address a
abbrev pub HasAddress : ℕ → Block → ℕ → Type 0
HasAddress w b a = (a < 2 ^ w) × (contains w b (address_block w a) ≡ true)

-- the address a lies in an entry
abbrev pub LiesIn : {A : Type 0} → ℕ → List (Entry A) → ℕ → Type 0
LiesIn {A} w es a = (e : Entry A) × Contains es e × (contains w e.block (address_block w a) ≡ true)

pub record AddressLaws {A : Type 0} (w : ℕ) (es : List (Entry A)) : Type 0 where
  -- an address is matched where it lies in an entry, and nowhere else
  pub matched_lies : (a : ℕ) → matched w es a ≡ true → LiesIn w es a
  pub lies_matched : (a : ℕ) → LiesIn w es a → matched w es a ≡ true
  -- and there it has a longest match, and nowhere else
  pub has_longest : (a : ℕ) → is_some (longest w (address_block w a) es) ≡ matched w es a
  -- a block is covered where each address that it contains is matched, and nowhere else
  pub covered_each : (b : Block) → Proper w b → covered w b es ≡ true → (a : ℕ) → HasAddress w b a → matched w es a ≡ true
  pub each_covered : (b : Block) → Proper w b → ((a : ℕ) → HasAddress w b a → matched w es a ≡ true) → covered w b es ≡ true
  -- no more addresses are matched than there are, and as many as there are where each is, and nowhere else
  pub at_most : matched_addresses w es ≤ 2 ^ w
  pub whole_each : matched_addresses w es ≡ 2 ^ w → (a : ℕ) → a < 2 ^ w → matched w es a ≡ true
  pub each_whole : ((a : ℕ) → a < 2 ^ w → matched w es a ≡ true) → matched_addresses w es ≡ 2 ^ w
