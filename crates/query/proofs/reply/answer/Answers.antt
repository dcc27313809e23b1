-- What was found has the value at its place, which is there.
use Rattle.std.proofs.Common.{◌%◌, ◌^◌, sym, ap, ◌∙◌}
use Rattle.accept.specs.Images.{width_of}
use Rattle.keys.specs.Blocks.{block_of}
use Rattle.nodes.specs.Faults.{given, number}
use Rattle.query.proofs.Replies.{found_outcome, never_past}
use Rattle.query.proofs.reply.answer.Goals as goal

pub returns-in_err-site-clause-reply : goal.returns-in_err-site-clause-reply
returns-in_err-site-clause-reply g c =
    let asked = c.in-Some.ensures in
    let found = c.in_ok-block.ensures in
    let block = c.in-Some-2.block in
    absurd
    (never_past c.args.image.now g.K.Key.width c.args.query (g.K.Key.num c.in-Some.asked.repr) c.in-Some.asked.len asked.key asked.len
    c.site_at.ensures.register found.laws (block_of (width_of c.args.image.now) (g.K.Key.num block.repr) (block.len % 2 ^ 8)) c.in-Some-2.place
    (rw c.in-Some-2.is at found.entry) (number c.in_err-site.field-0.0) c.in_err-site.ensures.site)

pub returns-clause-reply : goal.returns-clause-reply
returns-clause-reply g c =
    let asked = c.in-Some.ensures in
    let found = c.in_ok-block.ensures in
    let block = c.in-Some-2.block in
    let made = rw c.in-Some-2.is at found.makes in
    let m = c.matched.ensures in (
      sym asked.belongs,
      found_outcome c.args.image.now g.K.Key.width c.args.query (g.K.Key.num c.in-Some.asked.repr) c.in-Some.asked.len asked.key asked.len
          c.site_at.ensures.register found.laws (block_of (width_of c.args.image.now) (g.K.Key.num block.repr) (block.len % 2 ^ 8)) c.in-Some-2.place
          (rw c.in-Some-2.is at found.entry) c.matched.result m.style (m.key ∙ made.1) (m.len ∙ made.0) m.place (ap given m.site ∙ c.in_ok-site.ensures.site),
    )
