-- What was made of what the search found is the longest entry. With its lemmas named on the function, the check leaves these goals open.
use Rattle.matches.proofs.Answers.{longest_answer, longest_within}
use Rattle.matches.proofs.get_lpm.Goals as goal

pub made-requires : goal.made-requires
made-requires g c =
    longest_within c.args.image.now g.P.R.Key.width (g.P.Prefix.raw c.args.q.now) (g.P.Prefix.shown c.args.q.now) c.in_ok-query.query c.in_ok-query.ensures.sought
    c.longest_found.result c.longest_found.ensures.found

pub returns-clause-entry : goal.returns-clause-entry
returns-clause-entry g c =
    longest_answer c.args.image.now g.P.R.Key.width (g.P.Prefix.raw c.args.q.now) (g.P.Prefix.shown c.args.q.now) c.in_ok-query.query c.in_ok-query.ensures.sought
    g.P.Prefix.raw g.P.Prefix.shown c.longest_found.result c.made.result c.made.ensures.block c.longest_found.ensures.found
