-- The children that are needed and not left are covered.
use Rattle.std.proofs.Common.{◌≡◌, ℕ, ◌<◌, true, false, T}
use Rattle.nodes.specs.Bitmaps.{bit}
use Rattle.coverage.proofs.Covers.{child_covered}
use Rattle.coverage.specs.Slots.{BitsWithin}
use Rattle.coverage.proofs.block.+bit_covered.Given as goal

abbrev pub invariant-loop-child : goal.invariant-loop-child
invariant-loop-child l =
    BitsWithin l.left l.initial.left
    × ((c : ℕ) → c < 32 → T (bit l.initial.left c) → bit l.left c ≡ false → child_covered l.nodes l.at l.rest c ≡ true)

abbrev pub decreases-loop-child : goal.decreases-loop-child
decreases-loop-child l = l.left

abbrev pub decreases-bit_covered : goal.decreases-bit_covered
decreases-bit_covered l = l.rest
