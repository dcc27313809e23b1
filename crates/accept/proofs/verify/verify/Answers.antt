-- The verdict is the definition's, and so it has its meaning.
use Rattle.std.proofs.Common.{◌≡◌, rules}
use Rattle.nodes.specs.Faults.{number, outcome}
use Rattle.tree.proofs.Meaning.{right}
use Rattle.tree.specs.Verdict.{verdict}
use Rattle.accept.proofs.verify.verify.Goals as goal

pub returns-clause-meaning : goal.returns-clause-meaning
returns-clause-meaning c =
    let v : outcome number c.verify_nodes.result ≡ verdict c.args.width c.args.nodes.now c.args.values = search rules in
    right _ _ _ _ v
