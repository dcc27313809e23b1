-- Addresses, which are keys of whole length: which lie in a block of a register, whether all of a block do, and how many do.
use Rattle.std.specs.Prelude.{ℕ, ◌-◌, ◌^◌, Bool, List, count_by}
use Rattle.std.specs.List.{list_all, list_any, range_with_len}
use Rattle.keys.specs.Blocks.{Block, address_block, contains}
use Rattle.register.specs.Entries.{Entry}

-- some entry contains the address a, under keys of w bits: as a block of length w, which has no other address
abbrev pub matched : {A : Type 0} → ℕ → List (Entry A) → ℕ → Bool
matched w es a = list_any (λ e. contains w e.block (address_block w a)) es

-- each address of the block is matched: a block of length n has 2^(w - n) of them, from its own on
abbrev pub covered : {A : Type 0} → ℕ → Block → List (Entry A) → Bool
covered w b es = list_all (matched w es) (range_with_len b.address (2 ^ (w - b.len)))

-- how many addresses are
abbrev pub matched_addresses : {A : Type 0} → ℕ → List (Entry A) → ℕ
matched_addresses w es = count_by (matched w es) (range_with_len 0 (2 ^ w))
