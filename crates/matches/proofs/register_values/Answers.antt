-- The register of an image keeps its laws. With its lemma named on the function, the check leaves this goal open.
use Rattle.matches.proofs.Images.{image_laws}
use Rattle.matches.proofs.register_values.Goals as goal

pub returns-clause-register : goal.returns-clause-register
returns-clause-register g c = image_laws c.args.image.now
