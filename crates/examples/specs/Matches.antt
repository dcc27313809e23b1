-- The registers of the examples, and their matches.
use Rattle.std.specs.Prelude.{◌≡◌, ℕ, List, [], ◌∷◌, Some, None}
use Rattle.keys.specs.Blocks.{block_of}
use Rattle.register.specs.Entries.{Entry, Held, exact, longest, shortest}
use Rattle.register.specs.Register.{register}
use Rattle.examples.specs.Images.{image_s, image_z, image_o}

-- an entry by address, length, place and value
abbrev pub entry : ℕ → ℕ → ℕ → ℕ → Entry (Held ℕ)
entry a n p v = record { block = record { address = a; len = n }; item = record { place = p; value = v } }

abbrev pub register_s : List (Entry (Held ℕ))
register_s = register 8 image_s (11 ∷ 12 ∷ 13 ∷ 14 ∷ 15 ∷ 16 ∷ [])

abbrev pub register_z : List (Entry (Held ℕ))
register_z = register 8 image_z (11 ∷ 12 ∷ [])

abbrev pub register_o : List (Entry (Held ℕ))
register_o = register 8 image_o (11 ∷ [])

abbrev pub Registers : Type 0
Registers =
    (register_s ≡ (entry 0 1 0 11 ∷ entry 176 6 2 13 ∷ entry 180 7 3 14 ∷ entry 182 8 4 15 ∷ entry 183 8 5 16 ∷ entry 192 2 1 12 ∷ []))
    × (register_o ≡ [])

abbrev pub Matches : Type 0
Matches =
    (exact (block_of 8 178 6) register_s ≡ Some (entry 176 6 2 13))
    × (longest 8 (block_of 8 178 8) register_s ≡ Some (entry 176 6 2 13))
    × (longest 8 (block_of 8 184 8) register_s ≡ None)
    × (longest 8 (block_of 8 176 5) register_s ≡ None)
    × (longest 8 (block_of 8 5 8) register_z ≡ Some (entry 0 1 1 12))
    × (shortest 8 (block_of 8 5 8) register_z ≡ Some (entry 0 0 0 11))
