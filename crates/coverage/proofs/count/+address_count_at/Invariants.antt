-- What is counted and what the children left would add make the node's size.
use Rattle.std.proofs.Common.{◌≡◌, ℕ, ◌+◌, ◌-◌, ◌<◌, Some, T}
use Rattle.addresses.specs.Sizes.{size}
use Rattle.addresses.specs.Sums.{bit_sum}
use Rattle.nodes.specs.Bitmaps.{bit}
use Rattle.register.specs.Register.{child_node, first_slot, node_slot}
use Rattle.coverage.proofs.count.+address_count_at.Given as goal

abbrev pub invariant-loop-child : goal.invariant-loop-child
invariant-loop-child l =
    (l.count + bit_sum l.left (λ c. size (l.rest - 5) l.nodes (first_slot (child_node l.nodes l.at c))) ≡ size l.rest l.nodes (Some (node_slot l.at)))
    × ((c : ℕ) → c < 32 → T (bit l.left c) → T (bit l.node.child_bitmap c))

abbrev pub decreases-loop-child : goal.decreases-loop-child
decreases-loop-child l = l.left

abbrev pub decreases-address_count_at : goal.decreases-address_count_at
decreases-address_count_at l = l.rest
