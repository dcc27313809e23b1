-- Without a location the slot has no place. With its lemmas named on the function, the check leaves these goals open.
use Rattle.std.proofs.Common.{ℕ, sym, ap, ◌∙◌}
use Rattle.std.specs.Option.{option_map}
use Rattle.nodes.specs.declared.node.Node.{Node}
use Rattle.slots.specs.Places.{loc_of}
use Rattle.slots.specs.declared.loc.Loc.{Loc}
use Rattle.tree.specs.Levels.{node_at}
use Rattle.descent.proofs.Nodes.{slot_index}
use Rattle.descent.proofs.sought.Search.place_in.Goals as goal

pub returns-in_err-loc : goal.returns-in_err-loc
returns-in_err-loc c =
    let query = c.args.self.now in
    let node : Node = node_at query.nodes.now c.args.node in
    c.from_residual.ensures
    ∙ (ap (option_map (λ (l : Loc). l.idx)) (sym c.in_err-loc.was ∙ (c.data_loc.ensures.loc ∙ ap (λ (b : ℕ). loc_of node.data_bitmap node.data_idx b) c.data_bit.ensures))
    ∙ slot_index query c.args.len c.args.node c.requires)
