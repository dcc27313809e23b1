-- What is counted and what the slots left would add make the sum.
use Rattle.std.proofs.Common.{◌≡◌, ◌+◌, ◌-◌, ◌^◌, ◌<◌}
use Rattle.addresses.specs.Standing.{tier_of}
use Rattle.addresses.specs.Sums.{bit_sum}
use Rattle.coverage.proofs.count.slot_addresses.Given as goal

abbrev pub invariant-loop-slot : goal.invariant-loop-slot
invariant-loop-slot l = (l.count + bit_sum l.left (λ b. 2 ^ (l.rest - tier_of b)) ≡ bit_sum l.slots (λ b. 2 ^ (l.rest - tier_of b))) × (l.left < 2 ^ 31)

abbrev pub decreases-loop-slot : goal.decreases-loop-slot
decreases-loop-slot l = l.left
