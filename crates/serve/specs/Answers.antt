-- What is kept of the answers of a pass: what each adds to a sum, and its words in a digest.
use Rattle.std.specs.Prelude.{ℕ, ◌+◌, ◌-◌, ◌*◌, ◌%◌, ◌^◌, bit_xor, cond, Option, Some, None, List, [], ◌∷◌}
use Rattle.serve.specs.declared.tally.Answer.{Answer}
use Rattle.serve.specs.declared.tally.Answer.TheVariants.{Verdict, Value, Entry, Covered, Count}

abbrev pub added : Answer → ℕ
added (Verdict refused) = cond refused 1 0
added (Value value) = value + 1
added (Entry address len value) = address + len + value
added (Covered covered) = cond covered 1 0
added (Count count) = count

-- the sum, which wraps: an absent answer adds nothing
abbrev pub summed : ℕ → Option Answer → ℕ
summed sum None = sum
summed sum (Some answer) = (sum + added answer) % 2 ^ 64

-- the words of an answer; that of an absent one is the last
abbrev pub words : Option Answer → List ℕ
words None = (2 ^ 64 - 1) ∷ []
words (Some (Verdict refused)) = cond refused 1 0 ∷ []
words (Some (Value value)) = value ∷ []
words (Some (Entry address len value)) = address ∷ (len ∷ (value ∷ []))
words (Some (Covered covered)) = cond covered 1 0 ∷ []
words (Some (Count count)) = count ∷ []

-- the state of an FNV-1a hash after a word
abbrev pub hashed : ℕ → ℕ → ℕ
hashed state word = bit_xor state word * 1099511628211 % 2 ^ 64

abbrev pub hashed_all : ℕ → List ℕ → ℕ
hashed_all state [] = state
hashed_all state (w ∷ ws) = hashed_all (hashed state w) ws

abbrev pub digested : ℕ → Option Answer → ℕ
digested state answer = hashed_all state (words answer)
