use Rattle.accept.proofs.Cursors.{Behind}
use Rattle.accept.proofs.verify.verify_nodes.Given as goal

abbrev pub invariant-loop-i : goal.invariant-loop-i
invariant-loop-i l = Behind l.width l.nodes l.i l.at.data l.at.child l.at.depth l.at.next_level
