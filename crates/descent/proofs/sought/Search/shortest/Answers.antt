-- No hit so far, node by node, and at the first hit or at the end of the way the shortest of all. With its lemmas named on the function, the check leaves these goals open.
use Rattle.std.proofs.Common.{◌≡◌, sym, refl, ◌∙◌, subst}
use Rattle.slots.specs.Picks.{lowest}
use Rattle.descent.proofs.Ways.{none_below, shortest_hit_on, shortest_next, way_on}
use Rattle.descent.specs.Way.{HitOn, found_of, shortest_on}
use Rattle.descent.specs.declared.sought.Search.{Search}
use Rattle.descent.proofs.sought.Search.shortest.Goals as goal

pub loop-hit-init : goal.loop-hit-init
unfolding lowest
loop-hit-init c = (c.start-cursor.ensures.query, subst (λ d. none_below c.start-cursor.result.query d) (sym c.start-cursor.ensures.depth) refl)

pub found-requires : goal.found-requires
found-requires c =
    subst (λ (q : Search). HitOn q.key.width q.nodes.now q.key.bits c.in-Some.hit) c.loop-hit.invariant.0
    (shortest_hit_on c.loop-hit.cursor c.shortest.result c.in-Some.hit c.shortest.ensures c.loop-hit.invariant.1 c.in-Some.is).0

pub returns-in-Some-clause-found : goal.returns-in-Some-clause-found
returns-in-Some-clause-found c =
    c.found.ensures
    ∙ subst (λ (q : Search). found_of q.key.width q.nodes.now q.key.bits c.in-Some.hit.len ≡ shortest_on q.key.width q.nodes.now q.key.bits q.len) c.loop-hit.invariant.0
    (shortest_hit_on c.loop-hit.cursor c.shortest.result c.in-Some.hit c.shortest.ensures c.loop-hit.invariant.1 c.in-Some.is).1

pub loop-hit-preserved : goal.loop-hit-preserved
loop-hit-preserved c =
    let on = way_on c.loop-hit.cursor c.in_ok-cursor.cursor c.in_ok-cursor.ensures.child in
    (on.0 ∙ c.loop-hit.invariant.0, shortest_next c.loop-hit.cursor c.in_ok-cursor.cursor on.0 on.1 c.shortest.result c.shortest.ensures c.loop-hit.invariant.1 c.in_default.is)
