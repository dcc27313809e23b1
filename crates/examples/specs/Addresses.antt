-- Of the examples, how many addresses are matched, and which blocks are covered.
use Rattle.std.specs.Prelude.{◌≡◌, true, false}
use Rattle.addresses.specs.Addresses.{covered}
use Rattle.coverage.specs.Counts.{address_count}
use Rattle.coverage.specs.declared.AddressCount.TheVariants.{Number, Whole}
use Rattle.keys.specs.Blocks.{block_of}
use Rattle.examples.specs.Matches.{register_s, register_z, register_o}

abbrev pub Addresses : Type 0
Addresses =
    (address_count 8 register_s ≡ Number 200)
    × (address_count 8 register_z ≡ Whole)
    × (address_count 8 register_o ≡ Number 0)
    × (covered 8 (block_of 8 176 5) register_s ≡ true)
    × (covered 8 (block_of 8 176 4) register_s ≡ false)
