-- The nodes of the image were accepted under keys of the query's kind. With its lemmas named on the function, the check leaves these goals open.
use Rattle.std.proofs.Common.{◌≡◌, ◌∙◌, arith, rules}
use Rattle.descent.proofs.Images.{image_accepted}
use Rattle.accept.proofs.Images.{image_narrow}
use Rattle.accept.specs.Images.{width_of}
use Rattle.requests.proofs.Refusals.{admitted, given_same}
use Rattle.requests.specs.Requests.{refusal}
use Rattle.descent.proofs.sought.Search.new.Goals as goal

pub invariant_of-result : goal.invariant_of-result
invariant_of-result g c =
    let image = c.args.image.now in
    let n = g.P.Prefix.shown c.args.q.now in
    let fit = admitted (width_of image) g.P.R.Key.width n c.in_ok-len.len n c.in_ok-len.ensures.length in
    let same = given_same (refusal (width_of image) g.P.R.Key.width n) c.in_ok-len.len n c.in_ok-len.ensures.length in
    let wide : c.of.result.width ≡ width_of image = c.of.ensures.width ∙ fit.0 in
    record {
      accepted = image_accepted image c.of.result.width c.nodes.result.now wide c.nodes.ensures.nodes;
      narrow = omega (arith, wide, image_narrow image);
      below = search rules;
      short = omega (arith, wide, fit.1, same);
    }
