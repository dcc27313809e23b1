-- A text that is no address of std's is no key's.
use Rattle.std.proofs.Common.{refl}
use Rattle.query.proofs.Quads.{quad_unread}
use Rattle.query.proofs.address.parse_quad.Goals as goal

pub returns-in-Err : goal.returns-in-Err
returns-in-Err c = (refl, quad_unread c.args.text.now c.in-Err.ensures.value)
