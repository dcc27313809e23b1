-- The first fault of the node is the first of all.
use Rattle.std.proofs.lemmas.Result.{err_from_is_err_and}
use Rattle.accept.proofs.Cursors.{behind_fault}
use Rattle.accept.proofs.verify.verify_nodes.Goals as goal

pub returns-in_err-test_node : goal.returns-in_err-test_node
returns-in_err-test_node c =
    let e = c.enter-here.ensures in
    let refusal = c.in_err-test_node.ensures in
    let p = err_from_is_err_and c.from_residual.result c.from_residual.ensures.1 in
    rw (p.1, p.2) (behind_fault _ _ _ _ _ _ _ c.loop-i.invariant c.loop-i-test.true _ _ (rw (e.depth, e.values, e.children) at refusal))
