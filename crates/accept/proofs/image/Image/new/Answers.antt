-- A node list that is accepted for its number of values is accepted for what its data bitmaps call for, which is that number.
use Rattle.std.proofs.Common.{length}
use Rattle.tree.proofs.Meaning.{called_values, accepted_as_called}
use Rattle.accept.proofs.image.Image.new.Goals as goal

pub invariant_of-result-clause-accepted : goal.invariant_of-result-clause-accepted
invariant_of-result-clause-accepted g c =
    rw c.bits.ensures (accepted_as_called g.K.Key.width c.args.nodes.now (length c.args.values.now) c.requires)

pub invariant_of-result-clause-filled : goal.invariant_of-result-clause-filled
invariant_of-result-clause-filled g c = called_values g.K.Key.width c.args.nodes.now (length c.args.values.now) c.requires
