-- What may be asked of an image: a prefix of the image's width that is no longer than its keys. And how an answer is read: entries by their blocks and places, values by their places.
use Rattle.std.specs.Prelude.{ℕ, cond, List, slice_get, Some, None, Option, ◌==◌, nat_le}
use Rattle.std.specs.Option.{option_map}
use Rattle.accept.specs.Images.{nodes_of, values_of, width_of}
use Rattle.accept.specs.declared.image.Image.{Image}
use Rattle.keys.specs.Blocks.{Block, block_of}
use Rattle.nodes.specs.Faults.{Outcome, given, refused}
use Rattle.register.specs.Entries.{Entry, Held}
use Rattle.register.specs.Register.{register}

-- the entries of an image
abbrev pub register_of : {T : Type 0} → Image T → List (Entry (Held T))
register_of i = register (width_of i) (nodes_of i) (values_of i)

-- the value at a place of an image
abbrev pub value_of : {T : Type 0} → Image T → ℕ → Option T
value_of i place = slice_get (values_of i) place

-- why an image with keys of w bits refuses a prefix of length n with a key of k bits: 13 where the widths differ, else 12 where the prefix is longer than the keys
abbrev pub refusal : ℕ → ℕ → ℕ → Option ℕ
refusal w k n = cond (k == w) (cond (nat_le n w) None (Some 12)) (Some 13)

-- the answer x, unless there is a refusal
abbrev pub unless_refused : {A : Type 0} → Option ℕ → A → Outcome A
unless_refused None x = given x
unless_refused (Some k) x = refused k

-- the value at a place, or 14 where there is none
abbrev pub value_answer : {A : Type 0} → Option A → Outcome A
value_answer None = refused 14
value_answer (Some v) = given v

-- what f makes of a given answer
abbrev pub outcome_map : {A B : Type 0} → (A → B) → Outcome A → Outcome B
outcome_map f (given x) = given (f x)
outcome_map f (refused k) = refused k

-- the block that a prefix means, by the raw key and the length that its kind shows of it
abbrev pub shown_block : {P : Type 0} → ℕ → (P → ℕ) → (P → ℕ) → P → Block
shown_block w raw shown p = block_of w (raw p) (shown p)

-- an entry by its place
abbrev pub entry_place : {T : Type 0} → Option (Entry (Held T)) → Option ℕ
entry_place o = option_map (λ e. e.item.place) o

-- an entry by its block and its place
abbrev pub block_and_place : {T : Type 0} → Option (Entry (Held T)) → Option (Block × ℕ)
block_and_place o = option_map (λ e. (e.block, e.item.place)) o
