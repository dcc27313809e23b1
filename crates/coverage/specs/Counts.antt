-- What the count of addresses answers.
use Rattle.std.specs.Prelude.{ℕ, ◌^◌, cond, List, ◌==◌}
use Rattle.addresses.specs.Addresses.{matched_addresses}
use Rattle.register.specs.Entries.{Entry}
use Rattle.coverage.specs.declared.AddressCount.{AddressCount}
use Rattle.coverage.specs.declared.AddressCount.TheVariants.{Number, Whole}

-- where n of so many addresses are matched
abbrev pub count_of : ℕ → ℕ → AddressCount
count_of n all = cond (n == all) Whole (Number n)

-- all where each of the 2^w addresses is matched, else how many are
abbrev pub address_count : {A : Type 0} → ℕ → List (Entry A) → AddressCount
address_count w es = count_of (matched_addresses w es) (2 ^ w)
