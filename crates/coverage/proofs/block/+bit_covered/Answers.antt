-- A slot is covered where each child that it needs is, one after another.
use Rattle.std.proofs.Common.{ℕ, ◌-◌, ◌^◌, eqb, sym, ap, ◌∙◌, arith}
use Rattle.aggregate.proofs.Halves.{under_top}
use Rattle.aggregate.proofs.Lowest.{split_none, split_some}
use Rattle.addresses.proofs.Standing.{node_in}
use Rattle.coverage.proofs.Children.{child_found, loc_none}
use Rattle.coverage.proofs.Covers.{all_there, needed_there, none_enough, one_missing, rest_turn, root_slot}
use Rattle.coverage.proofs.block.+bit_covered.Goals as goal

pub bounds-nodes-at : goal.bounds-nodes-at
bounds-nodes-at t c = node_in c.requires.stands

pub returns-in_default : goal.returns-in_default
returns-in_default t c = none_enough c.requires.stands c.args.slot c.requires.slot c.in_default.ensures

pub returns-in_default-child_loc : goal.returns-in_default-child_loc
returns-in_default-child_loc t c =
    let s = split_some c.loop-child.left c.in-Some-split_lowest.child c.in-Some-split_lowest.others c.in-Some-split_lowest.ensures in
    let b = s.0 in
    let child = c.in-Some-split_lowest.child in
    absurd (loc_none c.requires.stands child b.0 (needed_there c.requires.stands c.args.slot c.requires.slot c.in-Some.left c.in-Some.ensures child b.0 (c.loop-child.invariant.0 child b.0 b.1)) (sym c.in_default-child_loc.is ∙ c.child_loc.ensures.loc))

pub overflow_sub-rest : goal.overflow_sub-rest
overflow_sub-rest t c =
    let s = split_some c.loop-child.left c.in-Some-split_lowest.child c.in-Some-split_lowest.others c.in-Some-split_lowest.ensures in
    let b = s.0 in
    let child = c.in-Some-split_lowest.child in
    (child_found c.requires.stands child c.in-Some-child_loc.loc b.0 (needed_there c.requires.stands c.args.slot c.requires.slot c.in-Some.left c.in-Some.ensures child b.0 (c.loop-child.invariant.0 child b.0 b.1)) (sym c.in-Some-child_loc.is ∙ c.child_loc.ensures.loc)).1

pub bit_covered-requires : goal.bit_covered-requires
bit_covered-requires t c =
    let s = split_some c.loop-child.left c.in-Some-split_lowest.child c.in-Some-split_lowest.others c.in-Some-split_lowest.ensures in
    let b = s.0 in
    let child = c.in-Some-split_lowest.child in
    let f = child_found c.requires.stands child c.in-Some-child_loc.loc b.0 (needed_there c.requires.stands c.args.slot c.requires.slot c.in-Some.left c.in-Some.ensures child b.0 (c.loop-child.invariant.0 child b.0 b.1)) (sym c.in-Some-child_loc.is ∙ c.child_loc.ensures.loc) in
    (omega (arith, c.decreases, f.1), (f.0, (omega arith, under_top _)))

pub returns-then-not-bit_covered : goal.returns-then-not-bit_covered
returns-then-not-bit_covered t c =
    let s = split_some c.loop-child.left c.in-Some-split_lowest.child c.in-Some-split_lowest.others c.in-Some-split_lowest.ensures in
    let b = s.0 in
    let child = c.in-Some-split_lowest.child in
    let needed = c.loop-child.invariant.0 child b.0 b.1 in
    let f = child_found c.requires.stands child c.in-Some-child_loc.loc b.0 (needed_there c.requires.stands c.args.slot c.requires.slot c.in-Some.left c.in-Some.ensures child b.0 needed) (sym c.in-Some-child_loc.is ∙ c.child_loc.ensures.loc) in
    one_missing c.requires.stands c.args.slot c.requires.slot c.in-Some.left c.in-Some.ensures child b.0 needed
    (ap (λ (x : ℕ). eqb x (2 ^ (c.args.rest - 5))) f.2 ∙ (sym (root_slot c.args.nodes.now c.in-Some-child_loc.loc.idx (c.args.rest - 5)) ∙ (sym c.bit_covered.ensures ∙ c.if-not-bit_covered.true)))

pub loop-child-preserved : goal.loop-child-preserved
loop-child-preserved t c =
    let s = split_some c.loop-child.left c.in-Some-split_lowest.child c.in-Some-split_lowest.others c.in-Some-split_lowest.ensures in
    let b = s.0 in
    let child = c.in-Some-split_lowest.child in
    let needed = c.loop-child.invariant.0 child b.0 b.1 in
    let f = child_found c.requires.stands child c.in-Some-child_loc.loc b.0 (needed_there c.requires.stands c.args.slot c.requires.slot c.in-Some.left c.in-Some.ensures child b.0 needed) (sym c.in-Some-child_loc.is ∙ c.child_loc.ensures.loc) in
    rest_turn c.requires.stands c.args.slot c.requires.slot c.in-Some.left c.in-Some.ensures c.loop-child.left child c.in-Some-split_lowest.others c.loop-child.invariant s
    (ap (λ (x : ℕ). eqb x (2 ^ (c.args.rest - 5))) f.2 ∙ (sym (root_slot c.args.nodes.now c.in-Some-child_loc.loc.idx (c.args.rest - 5)) ∙ (sym c.bit_covered.ensures ∙ c.if-not-bit_covered.false)))

pub loop-child-smaller : goal.loop-child-smaller
loop-child-smaller t c = (split_some c.loop-child.left c.in-Some-split_lowest.child c.in-Some-split_lowest.others c.in-Some-split_lowest.ensures).2

pub returns : goal.returns
returns t c = all_there c.requires.stands c.args.slot c.requires.slot c.in-Some.left c.in-Some.ensures c.loop-child.left c.loop-child.invariant (split_none c.loop-child.left c.in_default-split_lowest.ensures)
