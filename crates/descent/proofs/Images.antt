-- A search that was not refused goes through the nodes of the image.
use Rattle.std.proofs.Common.{◌≡◌, ℕ, List, sym, ap, ◌∙◌, subst}
use Rattle.nodes.specs.declared.node.Node.{Node}
use Rattle.accept.specs.declared.image.Image.{Image}
use Rattle.register.specs.Register.{register}
use Rattle.requests.proofs.Refusals.{admitted, given_same, given_too}
use Rattle.requests.specs.Requests.{refusal, register_of, unless_refused}
use Rattle.nodes.specs.Faults.{given}
use Rattle.accept.specs.Images.{nodes_of, values_of, width_of}
use Rattle.accept.proofs.Images.{image_sound}
use Rattle.tree.specs.Levels.{data_ones}
use Rattle.tree.specs.Meaning.{Sound}
use Rattle.tree.specs.Verdict.{Accepted}
use Rattle.descent.specs.Searches.{Sought, sought_by, sought_in}
use Rattle.descent.specs.declared.sought.Search.{Search}

pub image_accepted : {A : Type 0} (i : Image A) (w : ℕ) (ns : List Node) → w ≡ width_of i → ns ≡ nodes_of i → Accepted w ns (data_ones ns)
image_accepted i w ns e f =
    subst (λ (x : ℕ). Accepted x ns (data_ones ns)) (sym e) (subst (λ (x : List Node). Accepted (width_of i) x (data_ones x)) (sym f) i.accepted)

-- the search s for the first n bits of a key, of a kind of keys of k bits
module _ {A : Type 0} (i : Image A) (k key n : ℕ) (s : Search) (is : given (sought_by s) ≡ unless_refused (refusal (width_of i) k n) (sought_in i key n)) where
  pub sought : sought_by s ≡ sought_in i key n
  sought = given_same (refusal (width_of i) k n) (sought_by s) (sought_in i key n) is

  pub kind : k ≡ (width_of i)
  kind = (admitted (width_of i) k n (sought_by s) (sought_in i key n) is).0

  pub sound_with : Sound s.key.width s.nodes.now (data_ones (nodes_of i))
  sound_with = subst (λ (x : Sought). Sound x.width x.nodes (data_ones (nodes_of i))) (sym sought) (image_sound i)

  pub whole : register s.key.width s.nodes.now (values_of i) ≡ register_of i
  whole = ap (λ (x : Sought). register x.width x.nodes (values_of i)) sought

  -- an answer by what the search goes by is one by the image, the key and the length
  pub answered : {B : Type 0} (f : Sought → B) (x : B) → x ≡ f (sought_by s) → given x ≡ unless_refused (refusal (width_of i) k n) (f (sought_in i key n))
  answered f x e =
      given_too (refusal (width_of i) k n) (sought_by s) (sought_in i key n) x is
      ∙ ap (λ y. unless_refused (refusal (width_of i) k n) y) (e ∙ ap f sought)
