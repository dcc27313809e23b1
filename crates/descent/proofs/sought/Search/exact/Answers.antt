-- The place of the whole length, where the way goes so far. With its lemmas named on the function, the check leaves these goals open.
use Rattle.std.proofs.Common.{sym, ◌∙◌, arith}
use Rattle.descent.proofs.Ways.{at_in, exact_none, way_ends}
use Rattle.descent.proofs.sought.Search.exact.Goals as goal

pub returns-in_err-cursor-clause-place : goal.returns-in_err-cursor-clause-place
returns-in_err-cursor-clause-place c =
    let same = c.loop-cursor.invariant in
    c.from_residual.ensures ∙ sym (exact_none c.args.self.now c.loop-cursor.cursor same (way_ends c.loop-cursor.cursor c.in_err-cursor.ensures.child) (omega (arith, c.loop-cursor-test.true)))

pub place_in-requires : goal.place_in-requires
place_in-requires c = at_in c.args.self.now c.loop-cursor.cursor c.loop-cursor.invariant
