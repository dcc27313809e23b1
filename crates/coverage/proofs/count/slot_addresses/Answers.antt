-- The slots' addresses add up, one set bit after another, and are fewer than 32 times those of a node.
use Rattle.std.proofs.Common.{ℕ, ◌-◌, ◌*◌, ◌^◌, ◌≤◌, arith, pow_mono}
use Rattle.aggregate.proofs.Lowest.{split_none, split_some}
use Rattle.addresses.specs.Standing.{tier_of}
use Rattle.addresses.specs.Sums.{bit_sum}
use Rattle.coverage.proofs.Turns.{bit_below, sum_bound, sum_none, sum_turn}
use Rattle.coverage.proofs.count.slot_addresses.Goals as goal

bounded : (rest slots : ℕ) → rest ≤ 64 → bit_sum slots (λ b. 2 ^ (rest - tier_of b)) ≤ 32 * 2 ^ 64
bounded rest slots h = sum_bound slots (2 ^ 64) (λ b. 2 ^ (rest - tier_of b)) (λ b. let l : rest - tier_of b ≤ 64 = omega arith in pow_mono l)

pub addresses_in-count-requires-clause-slot : goal.addresses_in-count-requires-clause-slot
addresses_in-count-requires-clause-slot c = bit_below c.loop-slot.left c.in-Some.slot c.in-Some.others (split_some c.loop-slot.left c.in-Some.slot c.in-Some.others c.in-Some.ensures) 31 c.loop-slot.invariant.1

pub overflow_add-count : goal.overflow_add-count
overflow_add-count c =
    omega (
      arith,
      c.loop-slot.invariant.0,
      c.addresses_in-count.ensures,
      sum_turn c.loop-slot.left c.in-Some.slot c.in-Some.others (split_some c.loop-slot.left c.in-Some.slot c.in-Some.others c.in-Some.ensures) (λ b. 2 ^ (c.args.rest - tier_of b)),
      bounded c.args.rest c.args.slots c.requires.rest,
    )

pub loop-slot-preserved : goal.loop-slot-preserved
loop-slot-preserved c = (
  omega (
    arith,
    c.loop-slot.invariant.0,
    c.addresses_in-count.ensures,
    sum_turn c.loop-slot.left c.in-Some.slot c.in-Some.others (split_some c.loop-slot.left c.in-Some.slot c.in-Some.others c.in-Some.ensures) (λ b. 2 ^ (c.args.rest - tier_of b)),
  ),
  omega (arith, (split_some c.loop-slot.left c.in-Some.slot c.in-Some.others c.in-Some.ensures).2, c.loop-slot.invariant.1),
)

pub loop-slot-smaller : goal.loop-slot-smaller
loop-slot-smaller c = (split_some c.loop-slot.left c.in-Some.slot c.in-Some.others c.in-Some.ensures).2

pub returns : goal.returns
returns c =
    omega (
      arith,
      c.loop-slot.invariant.0,
      sum_none c.loop-slot.left (λ b. 2 ^ (c.args.rest - tier_of b)) (split_none c.loop-slot.left c.in_default.ensures),
    )
