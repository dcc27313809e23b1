-- The hit of the lowest data bit on the path is the shortest of the node. With its lemma named on the function, the check leaves this goal open.
use Rattle.descent.proofs.Nodes.{shortest_here}
use Rattle.descent.proofs.cursor.Cursor.shortest.Goals as goal

pub returns : goal.returns
returns c = shortest_here c.args.self.now c.shortest_bit.result c.hit.result c.hit.ensures c.shortest_bit.ensures.bit
