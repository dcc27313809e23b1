-- The addresses at the root of an image are those that its register matches.
use Rattle.coverage.proofs.Images.{image_count, image_stands}
use Rattle.coverage.proofs.matched_addresses.Goals as goal

pub address_count_at-requires : goal.address_count_at-requires
address_count_at-requires g c = image_stands c.args.image.now c.nodes.result.now c.width.result c.nodes.ensures.nodes c.width.ensures.width

pub returns-clause-matched : goal.returns-clause-matched
returns-clause-matched g c = (image_count c.args.image.now c.nodes.result.now c.width.result c.address_count_at.result c.nodes.ensures.nodes c.width.ensures.width c.address_count_at.ensures).0

pub returns-clause-most : goal.returns-clause-most
returns-clause-most g c = (image_count c.args.image.now c.nodes.result.now c.width.result c.address_count_at.result c.nodes.ensures.nodes c.width.ensures.width c.address_count_at.ensures).1
