-- The addresses of the node add up, child after child, to its size.
use Rattle.std.proofs.Common.{ℕ, ◌+◌, ◌^◌, ◌≤◌, Some, sym, ap, ◌∙◌, arith, pow_mono}
use Rattle.register.specs.Register.{node_slot}
use Rattle.aggregate.proofs.Lowest.{split_none, split_some}
use Rattle.addresses.proofs.Sizes.{size_le}
use Rattle.addresses.proofs.Standing.{node_in, short}
use Rattle.addresses.specs.Sums.{bit_sum}
use Rattle.coverage.proofs.Children.{child_found, child_size, free_below, free_there, loc_none, node_sum}
use Rattle.coverage.proofs.Turns.{kept, sum_none, sum_turn}
use Rattle.coverage.proofs.count.+address_count_at.Goals as goal

pub bounds-nodes-at : goal.bounds-nodes-at
bounds-nodes-at t c = node_in c.requires

pub slot_addresses-count-requires-clause-slots : goal.slot_addresses-count-requires-clause-slots
slot_addresses-count-requires-clause-slots t c = free_below c.requires c.free_parts-slots.result.0 c.free_parts-slots.ensures.slots

pub loop-child-init : goal.loop-child-init
loop-child-init t c = (
  ap (λ (x : ℕ). x + bit_sum c.free_parts-slots.result.1 (child_size c.requires)) c.slot_addresses-count.ensures
      ∙ node_sum c.requires c.free_parts-slots.result.0 c.free_parts-slots.result.1 c.free_parts-slots.ensures.slots c.free_parts-slots.ensures.children,
  free_there c.requires c.free_parts-slots.result.1 c.free_parts-slots.ensures.children,
)

pub overflow_sub-rest : goal.overflow_sub-rest
overflow_sub-rest t c =
    let s = split_some c.loop-child.left c.in-Some.child c.in-Some.others c.in-Some.ensures in
    let b = s.0 in
    (child_found c.requires c.in-Some.child c.in-Some-child_loc.loc b.0 (c.loop-child.invariant.1 c.in-Some.child b.0 b.1) (sym c.in-Some-child_loc.is ∙ c.child_loc.ensures.loc)).1

pub address_count_at-count-requires : goal.address_count_at-count-requires
address_count_at-count-requires t c =
    let s = split_some c.loop-child.left c.in-Some.child c.in-Some.others c.in-Some.ensures in
    let b = s.0 in
    let f = child_found c.requires c.in-Some.child c.in-Some-child_loc.loc b.0 (c.loop-child.invariant.1 c.in-Some.child b.0 b.1) (sym c.in-Some-child_loc.is ∙ c.child_loc.ensures.loc) in
    (omega (arith, c.decreases, f.1), f.0)

pub overflow_add-count : goal.overflow_add-count
overflow_add-count t c =
    let s = split_some c.loop-child.left c.in-Some.child c.in-Some.others c.in-Some.ensures in
    let b = s.0 in
    let f = child_found c.requires c.in-Some.child c.in-Some-child_loc.loc b.0 (c.loop-child.invariant.1 c.in-Some.child b.0 b.1) (sym c.in-Some-child_loc.is ∙ c.child_loc.ensures.loc) in
    let p : 2 ^ c.args.rest ≤ 2 ^ 64 = pow_mono (short c.requires) in
    omega (
      arith,
      c.loop-child.invariant.0,
      c.address_count_at-count.ensures,
      f.2,
      sum_turn c.loop-child.left c.in-Some.child c.in-Some.others s (child_size c.requires),
      size_le c.args.rest c.args.nodes.now (Some (node_slot c.args.at)),
      p,
    )

pub loop-child-preserved-in-Some-child_loc : goal.loop-child-preserved-in-Some-child_loc
loop-child-preserved-in-Some-child_loc t c =
    let s = split_some c.loop-child.left c.in-Some.child c.in-Some.others c.in-Some.ensures in
    let b = s.0 in
    let f = child_found c.requires c.in-Some.child c.in-Some-child_loc.loc b.0 (c.loop-child.invariant.1 c.in-Some.child b.0 b.1) (sym c.in-Some-child_loc.is ∙ c.child_loc.ensures.loc) in (
      omega (
        arith,
        c.loop-child.invariant.0,
        c.address_count_at-count.ensures,
        f.2,
        sum_turn c.loop-child.left c.in-Some.child c.in-Some.others s (child_size c.requires),
      ),
      (λ d l n. c.loop-child.invariant.1 d l (kept c.loop-child.left c.in-Some.child c.in-Some.others s d n)),
    )

pub loop-child-preserved : goal.loop-child-preserved
loop-child-preserved t c =
    let s = split_some c.loop-child.left c.in-Some.child c.in-Some.others c.in-Some.ensures in
    let b = s.0 in
    absurd (loc_none c.requires c.in-Some.child b.0 (c.loop-child.invariant.1 c.in-Some.child b.0 b.1) (sym c.in_default-child_loc.is ∙ c.child_loc.ensures.loc))

pub loop-child-smaller-in-Some-child_loc : goal.loop-child-smaller-in-Some-child_loc
loop-child-smaller-in-Some-child_loc t c = (split_some c.loop-child.left c.in-Some.child c.in-Some.others c.in-Some.ensures).2

pub loop-child-smaller : goal.loop-child-smaller
loop-child-smaller t c = (split_some c.loop-child.left c.in-Some.child c.in-Some.others c.in-Some.ensures).2

pub returns : goal.returns
returns t c =
    omega (
      arith,
      c.loop-child.invariant.0,
      sum_none c.loop-child.left (child_size c.requires) (split_none c.loop-child.left c.in_default.ensures),
    )
