-- The cursors behind the first nodes of a list: what one node more makes of them, and what they say where a node has a fault and at the end.
use Rattle.std.proofs.Common.{◌≡◌, ℕ, suc, ◌+◌, ◌-◌, ◌*◌, ◌<◌, ◌≤◌, Bool, true, false, cond, eqb, List, [], ◌++◌, length, take, take_all, sym, refl, ap, ◌∙◌, arith, rules}
use Rattle.nodes.proofs.Counts.{ones32_le}
use Rattle.nodes.specs.Bitmaps.{ones32}
use Rattle.nodes.specs.Faults.{given, refused}
use Rattle.nodes.specs.declared.node.Node.{Node}
use Rattle.tree.specs.Levels.{node_at, data_ones, child_ones, depth, level, level_start}
use Rattle.tree.specs.Verdict.{node_faults, faults_before, total_faults, first_fault}
use Rattle.tree.proofs.Steps.{sum_more, sum_le, entered_depth, entered_next, faults_more, first_left, first_at, first_none}
use Rattle.tree.proofs.Clear.{clear_from}

pub data_ones_le : (ns : List Node) (i : ℕ) → data_ones (take i ns) ≤ 32 * i
data_ones_le ns i = sum_le (λ n. ones32 n.data_bitmap) 32 (λ n. ones32_le n.data_bitmap) ns i

pub child_ones_le : (ns : List Node) (i : ℕ) → child_ones (take i ns) ≤ 32 * i
child_ones_le ns i = sum_le (λ n. ones32 n.child_bitmap) 32 (λ n. ones32_le n.child_bitmap) ns i

one_level : (b : Bool) (d : ℕ) → cond b (d + 5) d ≤ d + 5
one_level true d = omega arith
one_level false d = omega arith

-- the cursors behind the first i nodes, which have no fault
pub record Behind (w : ℕ) (ns : List Node) (i values children d next : ℕ) : Type 0 where
  pub no_fault : faults_before w ns i ≡ []
  pub values_are : values ≡ data_ones (take i ns)
  pub children_are : children ≡ 1 + child_ones (take i ns)
  pub depth_is : d ≡ depth ns (i - 1)
  pub next_is : next ≡ level_start ns (suc (level ns (i - 1)))
  pub shallow : d ≤ 5 * i

pub behind_none : (w : ℕ) (ns : List Node) → Behind w ns 0 0 1 0 1
behind_none w ns = search rules

module _ (w : ℕ) (ns : List Node) (i values children d next : ℕ) (at : Behind w ns i values children d next) (lt : i < length ns) where
  at_depth : cond (eqb i next) (d + 5) d ≡ depth ns i
  at_depth = entered_depth ns i d next at.depth_is at.next_is

  -- the node has no fault at the depth that it stands at
  pub behind_more : given tt ≡ first_fault (node_faults w i (cond (eqb i next) (d + 5) d) values children (node_at ns i))
      → Behind w ns (i + 1) (values + ones32 (node_at ns i).data_bitmap) (children + ones32 (node_at ns i).child_bitmap) (cond (eqb i next) (d + 5) d) (cond (eqb i next) (node_at ns i).children_idx next)
  behind_more passed =
      let back : i + 1 - 1 ≡ i = omega arith in
      let clear = clear_from w i _ _ _ (node_at ns i) (first_none _ passed) in
      record {
        no_fault = faults_more w ns i _ _ _ at.no_fault at_depth at.values_are at.children_are passed;
        values_are = omega (arith, at.values_are, sum_more (λ n. ones32 n.data_bitmap) ns i lt);
        children_are = omega (arith, at.children_are, sum_more (λ n. ones32 n.child_bitmap) ns i lt);
        depth_is = at_depth ∙ ap (λ (k : ℕ). depth ns k) (sym back);
        next_is = entered_next ns i d next at.depth_is at.next_is _ (clear.children_idx_is ∙ at.children_are) ∙ ap (λ (k : ℕ). level_start ns (suc (level ns k))) (sym back);
        shallow = omega (arith, at.shallow, one_level (eqb i next) d);
      }

  -- the node has a fault there: it is the first of all
  pub behind_fault : (k bits : ℕ) → refused k ≡ first_fault (node_faults w i (cond (eqb i next) (d + 5) d) values children (node_at ns i))
      → refused k ≡ first_fault (faults_before w ns (length ns) ++ total_faults (1 + child_ones ns) (length ns) (data_ones ns) bits)
  behind_fault k bits refusal =
      first_left (faults_before w ns (length ns)) _ k (first_at w ns i (length ns) k lt at.no_fault (rw (at_depth, at.values_are, at.children_are) at refusal))

pub behind_all : (w : ℕ) (ns : List Node) (values children d next bits : ℕ) → Behind w ns (length ns) values children d next
    → first_fault (total_faults children (length ns) values bits) ≡ first_fault (faults_before w ns (length ns) ++ total_faults (1 + child_ones ns) (length ns) (data_ones ns) bits)
behind_all w ns values children d next bits at =
    let whole = take_all (length ns) ns (omega arith) in
    let called : children ≡ 1 + child_ones ns = at.children_are ∙ ap (λ (l : List Node). 1 + child_ones l) whole in
    let have : values ≡ data_ones ns = at.values_are ∙ ap data_ones whole in
    rw (at.no_fault, ← called, ← have) refl
