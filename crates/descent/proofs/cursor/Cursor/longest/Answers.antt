-- The hit of the highest data bit on the path is the longest of the node. With its lemma named on the function, the check leaves this goal open.
use Rattle.descent.proofs.Nodes.{longest_here}
use Rattle.descent.proofs.cursor.Cursor.longest.Goals as goal

pub returns : goal.returns
returns c = longest_here c.args.self.now c.longest_bit.result c.hit.result c.hit.ensures c.longest_bit.ensures.bit
