-- A data slot's tier is at most the fourth.
use Rattle.addresses.proofs.Tiers.{log_small}
use Rattle.coverage.proofs.masks.tier.Goals as goal

pub returns-clause-last : goal.returns-clause-last
returns-clause-last c = log_small c.args.slot c.ilog2.result c.requires c.ilog2.ensures.power_le
