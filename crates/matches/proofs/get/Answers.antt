-- What the search for the whole block finds is the place of the entry with it. With its lemmas named on the function, the check leaves this goal open.
use Rattle.matches.proofs.Answers.{exact_answer}
use Rattle.matches.proofs.get.Goals as goal

pub returns-clause-entry : goal.returns-clause-entry
returns-clause-entry g c =
    exact_answer c.args.image.now g.P.R.Key.width (g.P.Prefix.raw c.args.q.now) (g.P.Prefix.shown c.args.q.now) c.in_ok-query.query c.in_ok-query.ensures.sought
    c.exact_place.result c.exact_place.ensures.place
