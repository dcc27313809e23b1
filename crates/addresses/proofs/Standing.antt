-- Where a descent stands: the node is in the list, its slots fit, and a child is stood in with five bits less.
use Rattle.std.proofs.Common.{ℕ, suc, ◌+◌, ◌-◌, ◌<◌, ◌≤◌, T, List, length, refl, inl, inr, arith}
use Rattle.std.proofs.lemmas.Bool.{cases_lt}
use Rattle.nodes.specs.Bitmaps.{bit, ones_below}
use Rattle.nodes.specs.declared.node.Node.{Node}
use Rattle.tree.proofs.Meaning.{sound_tree}
use Rattle.tree.specs.Levels.{node_at}
use Rattle.tree.specs.Meaning.{IsDataSlot, Tree}
use Rattle.addresses.specs.Standing.{Standing}

module _ {ns : List Node} {at rest : ℕ} (st : Standing ns at rest) where
  tree : Tree st.width ns
  tree = sound_tree st.width ns st.values st.sound

  pub node_in : at < length ns
  node_in = tree.in_list st.level at st.reached

  pub short : rest ≤ 64
  short = omega (arith, st.left, st.narrow)

  -- a set slot's tier is within the bits that are left
  pub slot_fits : (b : ℕ) → T (bit (node_at ns at).data_bitmap b) → (l : ℕ) × (p : ℕ) × IsDataSlot b l p × (l ≤ rest)
  slot_fits b t =
      let f = (tree.in_key st.level at st.reached).1 b t in
      (f.0, f.1, f.2, omega (arith, f.3, st.left))

  pub childless : (c : ℕ) → c < 32 → T (bit (node_at ns at).child_bitmap c) → 5 ≤ rest
  childless c h t =
      elim (cases_lt rest 5) [
        | inl l ↦ absurd (tree.no_child st.level at st.reached (omega (arith, st.left)) ((node_at ns at).children_idx + ones_below c (node_at ns at).child_bitmap) (c, (h, t, refl)))
        | inr g ↦ g
      ]

  pub child_stands : (c : ℕ) → c < 32 → T (bit (node_at ns at).child_bitmap c) → Standing ns ((node_at ns at).children_idx + ones_below c (node_at ns at).child_bitmap) (rest - 5)
  child_stands c h t =
      let g = childless c h t in
      record {
        width = st.width;
        values = st.values;
        sound = st.sound;
        narrow = st.narrow;
        level = suc st.level;
        reached = (at, st.reached, (c, (h, t, refl)));
        left = omega (arith, st.left, g);
      }
