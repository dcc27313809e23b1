-- The first entry on the way covers the block, and at the end of the way there was none.
use Rattle.std.proofs.Common.{refl, sym, subst}
use Rattle.slots.specs.Picks.{lowest}
use Rattle.descent.proofs.Ways.{none_below}
use Rattle.coverage.proofs.Descents.{no_hit}
use Rattle.coverage.proofs.block.block_covered.Goals as goal

pub loop-cursor-init : goal.loop-cursor-init
unfolding lowest
loop-cursor-init c = (c.start-cursor.ensures.query, subst (λ d. none_below c.start-cursor.result.query d) (sym c.start-cursor.ensures.depth) refl)

pub end_covered-requires : goal.end_covered-requires
end_covered-requires c = no_hit c.loop-cursor.cursor c.if-has_hit.ensures.hit c.loop-cursor.invariant.1 c.in-None.ensures.child
