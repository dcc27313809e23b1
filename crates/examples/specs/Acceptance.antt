-- The verdicts of the examples.
use Rattle.std.specs.Prelude.{◌≡◌, [], ◌∷◌}
use Rattle.nodes.specs.Faults.{given, refused}
use Rattle.tree.specs.Verdict.{verdict}
use Rattle.examples.specs.Images.{node, image_s, image_z, image_o, root}

abbrev pub AcceptedLists : Type 0
AcceptedLists =
    (verdict 8 image_s 6 ≡ given tt)
    × (verdict 8 image_z 2 ≡ given tt)
    × (verdict 8 image_o 1 ≡ given tt)
    × (verdict 8 root 0 ≡ given tt)

abbrev pub RefusedLists : Type 0
RefusedLists =
    (verdict 8 (node 0 0 0 0 ∷ []) 0 ≡ refused 3)
    × (verdict 8 [] 0 ≡ refused 10)
    × (verdict 8 image_s 5 ≡ refused 6)
    × (verdict 8 image_s 7 ≡ refused 5)
    × (verdict 8 (node 66 4194304 0 1 ∷ []) 2 ≡ refused 2)
    × (verdict 8 (node 1 0 0 1 ∷ node 1 0 1 1 ∷ []) 2 ≡ refused 1)
