-- What the search finds is the answer, and the laws of addresses hold of every register.
use Rattle.coverage.proofs.Images.{cover_answer, image_addresses}
use Rattle.coverage.proofs.is_covered_in_aggregate.Goals as goal

pub returns-in_err-query-clause-addresses : goal.returns-in_err-query-clause-addresses
returns-in_err-query-clause-addresses g c = image_addresses c.args.image.now

pub returns-clause-addresses : goal.returns-clause-addresses
returns-clause-addresses g c = image_addresses c.args.image.now

pub returns-clause-block : goal.returns-clause-block
returns-clause-block g c =
    cover_answer c.args.image.now g.P.R.Key.width (g.P.Prefix.raw c.args.q.now) (g.P.Prefix.shown c.args.q.now) c.in_ok-query.query c.in_ok-query.ensures.sought
    c.block_covered.result c.block_covered.ensures
