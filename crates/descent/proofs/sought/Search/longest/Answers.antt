-- The longest hit so far, node by node, and at the end of the way the longest of all. With its lemmas named on the function, the check leaves these goals open.
use Rattle.std.proofs.Common.{sym, ap, ◌∙◌}
use Rattle.slots.specs.Picks.{highest}
use Rattle.descent.proofs.Ways.{last_below, longest_hit_on, longest_next, longest_nothing, longest_whole, way_ends, way_on}
use Rattle.descent.proofs.sought.Search.longest.Goals as goal

pub loop-next-init : goal.loop-next-init
unfolding highest
loop-next-init c = (c.start-cursor.ensures.query, ap (λ d. last_below c.start-cursor.result.query d) (sym c.start-cursor.ensures.depth))

pub found-requires : goal.found-requires
found-requires c =
    let all = longest_whole c.args.self.now c.loop-next.cursor c.loop-next.invariant.0 c.longest.result c.loop-next.best c.or-best.result c.or-best.ensures c.longest.ensures c.loop-next.invariant.1 (way_ends c.loop-next.cursor c.in-None.ensures.child) in
    (longest_hit_on c.args.self.now c.in_ok-best-in-None.field-0 (sym c.in_ok-best-in-None.was ∙ all)).0

pub returns-in-None-clause-found : goal.returns-in-None-clause-found
returns-in-None-clause-found c =
    let all = longest_whole c.args.self.now c.loop-next.cursor c.loop-next.invariant.0 c.longest.result c.loop-next.best c.or-best.result c.or-best.ensures c.longest.ensures c.loop-next.invariant.1 (way_ends c.loop-next.cursor c.in-None.ensures.child) in
    c.found.ensures ∙ (longest_hit_on c.args.self.now c.in_ok-best-in-None.field-0 (sym c.in_ok-best-in-None.was ∙ all)).1

pub loop-next-preserved : goal.loop-next-preserved
loop-next-preserved c =
    let on = way_on c.loop-next.cursor c.in-Some.next c.in-Some.ensures.child in
    (on.0 ∙ c.loop-next.invariant.0, c.or-best.ensures ∙ longest_next c.loop-next.cursor c.in-Some.next on.0 on.1 c.longest.result c.loop-next.best c.longest.ensures c.loop-next.invariant.1)

pub returns-in_err-best-in-None-clause-found : goal.returns-in_err-best-in-None-clause-found
returns-in_err-best-in-None-clause-found c =
    let all = longest_whole c.args.self.now c.loop-next.cursor c.loop-next.invariant.0 c.longest.result c.loop-next.best c.or-best.result c.or-best.ensures c.longest.ensures c.loop-next.invariant.1 (way_ends c.loop-next.cursor c.in-None.ensures.child) in
    c.from_residual.ensures ∙ longest_nothing c.args.self.now (sym c.in_err-best-in-None.was ∙ all)
