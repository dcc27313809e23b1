-- What the descents find on an accepted image is what its register says: of a block, and of all addresses.
use Rattle.std.proofs.Common.{◌≡◌, ℕ, ◌^◌, ◌≤◌, Bool, List, Some, sym, refl, ◌∙◌, subst, arith, ap₂}
use Rattle.accept.specs.declared.image.Image.{Image}
use Rattle.keys.specs.Blocks.{block_of}
use Rattle.nodes.specs.declared.node.Node.{Node}
use Rattle.register.specs.Register.{places, register, root, node_slot}
use Rattle.nodes.specs.Faults.{given}
use Rattle.accept.proofs.Images.{image_filled, image_narrow, image_sound}
use Rattle.accept.specs.Images.{nodes_of, values_of, width_of}
use Rattle.tree.specs.Levels.{data_ones}
use Rattle.descent.proofs.Images.{answered, sound_with}
use Rattle.descent.specs.Searches.{sought_by, sought_in}
use Rattle.requests.specs.Requests.{refusal, register_of, unless_refused}
use Rattle.descent.specs.declared.sought.Search.{Search}
use Rattle.addresses.proofs.Covered.{covered_register}
use Rattle.addresses.proofs.Laws.{address_laws}
use Rattle.addresses.proofs.Sizes.{count_matched, size_le}
use Rattle.addresses.specs.Addresses.{covered, matched_addresses}
use Rattle.addresses.specs.Laws.{AddressLaws}
use Rattle.addresses.specs.Sizes.{size}
use Rattle.addresses.specs.Standing.{Standing}

-- of a search in the nodes of an image
module _ {A : Type 0} (i : Image A) (k key n : ℕ) (s : Search) (is : given (sought_by s) ≡ unless_refused (refusal (width_of i) k n) (sought_in i key n)) where
  pub cover_answer : (b : Bool) → b ≡ covered s.key.width (block_of s.key.width s.key.bits s.len) (places s.key.width s.nodes.now) → given b ≡ unless_refused (refusal (width_of i) k n) (covered (width_of i) (block_of (width_of i) key n) (register_of i))
  cover_answer b e =
      answered i k key n s is (λ x. covered x.width (block_of x.width x.key x.len) (register x.width x.nodes (values_of i))) b
      (e ∙ sym (covered_register s.key.width s.nodes.now (values_of i) (data_ones (nodes_of i)) (sound_with i k key n s is) (image_filled i) (block_of s.key.width s.key.bits s.len)))

module _ {A : Type 0} (i : Image A) where
  -- the root of an image
  pub image_stands : (ns : List Node) (w : ℕ) → ns ≡ (nodes_of i) → w ≡ (width_of i) → Standing ns 0 w
  image_stands ns w e f =
      subst (λ (x : List Node). Standing x 0 w) (sym e) (subst (λ (x : ℕ). Standing (nodes_of i) 0 x) (sym f) (record {
        width = (width_of i);
        values = data_ones (nodes_of i);
        sound = image_sound i;
        narrow = image_narrow i;
        level = 0;
        reached = refl;
        left = omega arith;
      }))

  pub image_count : (ns : List Node) (w n : ℕ) → ns ≡ (nodes_of i) → w ≡ (width_of i) → n ≡ size w ns (Some (node_slot 0)) → (n ≡ matched_addresses (width_of i) (register_of i)) × (n ≤ 2 ^ (width_of i))
  image_count ns w n e f g =
      let s : n ≡ size (width_of i) (nodes_of i) (Some root) = g ∙ ap₂ (λ (x : ℕ) (y : List Node). size x y (Some root)) f e in
      (s ∙ sym (count_matched (width_of i) (nodes_of i) (values_of i) (data_ones (nodes_of i)) (image_sound i) (image_filled i)), omega (arith, s, size_le (width_of i) (nodes_of i) (Some root)))

  pub image_addresses : AddressLaws (width_of i) (register_of i)
  image_addresses = address_laws (width_of i) (register_of i)
