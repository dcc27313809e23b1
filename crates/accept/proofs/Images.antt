-- What every image keeps: its node list is sound for what its data bitmaps call for, and it has no fewer values.
use Rattle.std.proofs.Common.{◌≤◌, length, arith}
use Rattle.accept.specs.Images.{width_of, nodes_of, values_of}
use Rattle.accept.specs.declared.image.Image.{Image}
use Rattle.tree.proofs.Meaning.{accepted_sound}
use Rattle.tree.specs.Levels.{data_ones}
use Rattle.tree.specs.Meaning.{Sound}

pub image_sound : {T : Type 0} (i : Image T) → Sound (width_of i) (nodes_of i) (data_ones (nodes_of i))
image_sound i = accepted_sound (width_of i) (nodes_of i) (data_ones (nodes_of i)) i.accepted

pub image_filled : {T : Type 0} (i : Image T) → data_ones (nodes_of i) ≤ length (values_of i)
image_filled i = omega (arith, i.filled)

pub image_narrow : {T : Type 0} (i : Image T) → width_of i ≤ 64
image_narrow i = i.narrow
