-- What was made of what the search found is the shortest entry. With its lemmas named on the function, the check leaves these goals open.
use Rattle.matches.proofs.Answers.{shortest_answer, shortest_within}
use Rattle.matches.proofs.get_spm.Goals as goal

pub made-requires : goal.made-requires
made-requires g c =
    shortest_within c.args.image.now g.P.R.Key.width (g.P.Prefix.raw c.args.q.now) (g.P.Prefix.shown c.args.q.now) c.in_ok-query.query c.in_ok-query.ensures.sought
    c.shortest_found.result c.shortest_found.ensures.found

pub returns-clause-entry : goal.returns-clause-entry
returns-clause-entry g c =
    shortest_answer c.args.image.now g.P.R.Key.width (g.P.Prefix.raw c.args.q.now) (g.P.Prefix.shown c.args.q.now) c.in_ok-query.query c.in_ok-query.ensures.sought
    g.P.Prefix.raw g.P.Prefix.shown c.shortest_found.result c.made.result c.made.ensures.block c.shortest_found.ensures.found
