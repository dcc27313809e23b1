-- The logarithm of a bit gives its tier. With its lemmas named on the function, the check leaves these goals open.
use Rattle.std.proofs.Common.{sym, ◌∙◌}
use Rattle.descent.proofs.Steps.{hit_tier}
use Rattle.descent.proofs.cursor.Cursor.hit.Goals as goal

pub returns : goal.returns
returns c v o four small e =
    hit_tier c.args.self.now.at c.args.self.now.depth c.in_ok-bit.bit c.ilog2.result c.ilog2.ensures.power_le c.ilog2.ensures.next_power_gt v o four small
    (sym c.in_ok-bit.was ∙ e)
