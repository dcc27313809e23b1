-- The location of the child bit leads to the child. With its lemmas named on the function, the check leaves these goals open.
use Rattle.std.proofs.Common.{◌≡◌, ℕ, sym, ap, ◌∙◌, Some, None, arith}
use Rattle.std.specs.Option.{option_map}
use Rattle.nodes.specs.declared.node.Node.{Node}
use Rattle.slots.specs.Places.{loc_of}
use Rattle.tree.specs.Levels.{node_at}
use Rattle.descent.proofs.Nodes.{child_here, child_of, child_some}
use Rattle.descent.specs.Searches.{cursor_data}
use Rattle.descent.proofs.cursor.Cursor.child.Goals as goal

pub invariant_of-result : goal.invariant_of-result
invariant_of-result c =
    let cursor = c.args.self.now in
    let node : Node = node_at cursor.query.nodes.now cursor.at in
    let e : Some c.in_ok-loc.loc ≡ child_of cursor =
    sym c.in_ok-loc.was
    ∙ (c.child_loc.ensures.loc
    ∙ (ap (λ (n : Node). loc_of n.child_bitmap n.children_idx c.next_five.result) c.node.ensures
    ∙ ap (λ (b : ℕ). loc_of node.child_bitmap node.children_idx b) c.next_five.ensures))
    in
    record { on_path = child_some cursor c.in_ok-loc.loc (omega arith) e }

pub returns-in_err-loc-clause-child : goal.returns-in_err-loc-clause-child
returns-in_err-loc-clause-child c =
    let cursor = c.args.self.now in
    let node : Node = node_at cursor.query.nodes.now cursor.at in
    let e : None ≡ child_of cursor =
    sym c.in_err-loc.was
    ∙ (c.child_loc.ensures.loc
    ∙ (ap (λ (n : Node). loc_of n.child_bitmap n.children_idx c.next_five.result) c.node.ensures
    ∙ ap (λ (b : ℕ). loc_of node.child_bitmap node.children_idx b) c.next_five.ensures))
    in
    ap (option_map cursor_data) c.from_residual.ensures ∙ child_here cursor None (omega arith) e
