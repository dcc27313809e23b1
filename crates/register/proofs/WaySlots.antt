-- The slots on a key's way, a node at a time: five bits lead from a node's own slot to the child that they name, and the node is reached by the key's path.
use Rattle.std.proofs.Common.{◌≡◌, ℕ, zero, suc, ◌+◌, ◌-◌, ◌*◌, ◌/◌, ◌%◌, ◌^◌, ◌<◌, ◌≤◌, Bool, true, false, T, List, [], ◌∷◌, length, sum_by, take, Some, None, Option, sym, refl, ap, ◌∙◌, subst, inl, inr, append-nil, add-zero, add-suc, mod-lt, pow-suc, mul-suc, add-one, arith}
use native.Mathlib.Decide.{le_ind}
use native.Mathlib.Nat.{mod-one}
use lib.Pow.{mod-pow-add}
use Rattle.std.specs.Bool.{then_some}
use Rattle.std.proofs.lemmas.Bool.{cases_lt, lt-ltb}
use Rattle.std.proofs.lemmas.List.Sums.{sum_by-cons}
use Rattle.keys.specs.Blocks.{first_bits}
use Rattle.nodes.specs.Bitmaps.{bit, ones_below, ones32}
use Rattle.nodes.specs.declared.node.Node.{Node}
use Rattle.tree.proofs.Meaning.{sound_tree}
use Rattle.tree.proofs.Ones.{ones32_lt}
use Rattle.tree.proofs.Steps.{sum_suc}
use Rattle.tree.specs.Levels.{node_at}
use Rattle.tree.specs.Meaning.{Leads, Reached, Sound}
use Rattle.register.proofs.Hits.{hits}
use Rattle.register.specs.Laws.{five_bits, WayTo}
use Rattle.register.specs.Register.{Slot, root, child_node, first_slot, node_slot, step_slot}
use Rattle.register.specs.Ways.{key_bit, slot_at, slot_of}
use Rattle.register.proofs.Under.{half, T_true, true_T}

-- the l bits of the key behind its first m
abbrev run : ℕ → ℕ → ℕ → ℕ → ℕ
run w key m zero = 0
run w key m (suc l) = 2 * run w key m l + key_bit w (m + l) key

run_lt : (w key m l : ℕ) → run w key m l < 2 ^ l
run_lt w key m zero = omega arith
run_lt w key m (suc l) = omega (arith, run_lt w key m l, pow-suc 2 l)

pub first_half : (w n key : ℕ) → suc n ≤ w → first_bits w n key ≡ first_bits w (suc n) key / 2
first_half w n key h = let e : w - n ≡ suc (w - suc n) = omega arith in rw e (half key (w - suc n))

run_bits : (w key m l : ℕ) → m + l ≤ w → run w key m l ≡ first_bits w (m + l) key % 2 ^ l
run_bits w key m zero h = sym (mod-one (first_bits w (m + 0) key))
run_bits w key m (suc l) h =
    let x : ℕ = first_bits w (suc (m + l)) key in
    let e : x % 2 ^ (l + 1) ≡ (x / 2 % 2 ^ l) * 2 + x % 2 = mod-pow-add x l 1 in
    let before = run_bits w key m l (omega arith) in
    let f = first_half w (m + l) key (omega arith) in
    rw (before, f, add-suc, ← add-one l) (omega arith)

module _ (w : ℕ) (ns : List Node) (key m i : ℕ) (at : slot_at w ns key m ≡ Some (node_slot i)) where
  run_in : (l : ℕ) → l ≤ 4 → slot_at w ns key (m + l) ≡ Some (record { node = i; tier = l; path = run w key m l })
  run_in zero h = rw (add-zero m) at
  run_in (suc l) h =
      rw (add-suc m l, run_in l (omega arith), lt-ltb l 4 h, add-one l) refl

  run_on : slot_at w ns key (m + 5) ≡ first_slot (child_node ns i (run w key m 5))
  run_on = rw (add-suc m 4, run_in 4 (omega arith)) refl

  pub slot_in : (l : ℕ) → l ≤ 4 → m + l ≤ w → slot_at w ns key (m + l) ≡ Some (slot_of w key (m + l) i l)
  slot_in l h b = rw (← run_bits w key m l b) (run_in l h)

  pub slot_on : m + 5 ≤ w → slot_at w ns key (m + 5) ≡ first_slot (child_node ns i (five_bits w m key))
  slot_on b = run_on ∙ ap (λ (c : ℕ). first_slot (child_node ns i c)) (run_bits w key m 5 b)

-- past a missing child there is nothing
pub none_on : (w : ℕ) (ns : List Node) (key m n : ℕ) → m ≤ n → slot_at w ns key m ≡ None → slot_at w ns key n ≡ None
none_on w ns key m n h e = le_ind (λ k. slot_at w ns key k ≡ None) e (λ k l before. ap (step_slot ns (key_bit w k key)) before) n h

pub hits_on : (w : ℕ) (ns : List Node) (key m n : ℕ) → m ≤ n → slot_at w ns key (suc m) ≡ None → hits w ns key n ≡ hits w ns key m
hits_on w ns key m n h e =
    le_ind (λ k. hits w ns key k ≡ hits w ns key m) refl
    (λ k l before. rw (none_on w ns key (suc m) (suc k) (omega arith) e, append-nil, before) refl) n h

leads_child : (ns : List Node) (i c j : ℕ) → Leads ns i c j → child_node ns i c ≡ Some j
leads_child ns i c j h = rw (T_true (bit (node_at ns i).child_bitmap c) h.1, h.2) refl

child_leads : (ns : List Node) (i c : ℕ) (s : Slot) → c < 32 → first_slot (child_node ns i c) ≡ Some s → (s ≡ node_slot s.node) × Leads ns i c s.node
child_leads ns i c s h = by_bit (bit (node_at ns i).child_bitmap c) refl
  where
    by_bit : (b : Bool) → bit (node_at ns i).child_bitmap c ≡ b → first_slot (then_some b ((node_at ns i).children_idx + ones_below c (node_at ns i).child_bitmap)) ≡ Some s
        → (s ≡ node_slot s.node) × Leads ns i c s.node
    by_bit true e g =
        let t : node_slot ((node_at ns i).children_idx + ones_below c (node_at ns i).child_bitmap) ≡ s = cc in
        (subst (λ (x : Slot). x ≡ node_slot x.node) t refl, (h, true_T _ e, sym (ap (λ (x : Slot). x.node) t)))
    by_bit false e g = absurd (let z : ◌≡◌ {A = ℕ} 0 1 = cc in omega arith)

pub path_reached : (w : ℕ) (ns : List Node) (key k i : ℕ) → WayTo w ns key k i → Reached ns k i
path_reached w ns key zero i h = h
path_reached w ns key (suc k) j h = (h.0, path_reached w ns key k h.0 h.1, (five_bits w (5 * k) key, h.2))

pub path_slot : (w : ℕ) (ns : List Node) (key k i : ℕ) → 5 * k ≤ w → WayTo w ns key k i → slot_at w ns key (5 * k) ≡ Some (node_slot i)
path_slot w ns key zero i h e = ap (λ (x : ℕ). Some (node_slot x)) (sym e)
path_slot w ns key (suc k) j h p =
    let before = path_slot w ns key k p.0 (omega arith) p.1 in
    rw (mul-suc 5 k, slot_on w ns key (5 * k) p.0 before (omega arith), leads_child ns p.0 (five_bits w (5 * k) key) j p.2) refl

-- the slot s of the key's first n bits is in a node that the key's path leads to
pub record OnWay (w : ℕ) (ns : List Node) (key n : ℕ) (s : Slot) : Type 0 where
  pub level : ℕ
  pub tier : ℕ
  pub node : ℕ
  pub split : n ≡ 5 * level + tier
  pub in_node : tier < 5
  pub way : WayTo w ns key level node
  pub here : s ≡ slot_of w key n node tier

module _ (w : ℕ) (ns : List Node) (values : ℕ) (sound : Sound w ns values) (key : ℕ) where
  abbrev OnPath : ℕ → Slot → Type 0
  OnPath k s = (s ≡ node_slot s.node) × WayTo w ns key k s.node

  path_on : (k : ℕ) (s t : Slot) → slot_at w ns key (5 * k) ≡ Some t → OnPath k t → slot_at w ns key (5 * k + 5) ≡ Some s → OnPath (suc k) s
  path_on k s t g p e =
      let at : slot_at w ns key (5 * k) ≡ Some (node_slot t.node) = g ∙ ap (λ (x : Slot). Some x) p.0 in
      elim (cases_lt w (5 * k + 5)) [
        | inl deep ↦ absurd (
            let c = child_leads ns t.node (run w key (5 * k) 5) s (run_lt w key (5 * k) 5) (sym (run_on w ns key (5 * k) t.node at) ∙ e) in
            (sound_tree w ns values sound).no_child k t.node (path_reached w ns key k t.node p.1) deep s.node (run w key (5 * k) 5, c.1)
            )
        | inr in_key ↦ (
            let c = child_leads ns t.node (five_bits w (5 * k) key) s (mod-lt _ (omega arith)) (sym (slot_on w ns key (5 * k) t.node at in_key) ∙ e) in
            (c.0, (t.node, p.1, c.1))
            )
      ]

  pub slot_path : (k : ℕ) (s : Slot) → slot_at w ns key (5 * k) ≡ Some s → (s ≡ node_slot s.node) × WayTo w ns key k s.node
  slot_path zero s e = (let t : root ≡ s = cc in (subst (λ (x : Slot). x ≡ node_slot x.node) t refl, sym (ap (λ (x : Slot). x.node) t)))
  slot_path (suc k) s e = from (λ t. slot_path k t) (slot_at w ns key (5 * k)) refl
    where
      from : ((t : Slot) → slot_at w ns key (5 * k) ≡ Some t → OnPath k t) → (o : Option Slot) → slot_at w ns key (5 * k) ≡ o → OnPath (suc k) s
      from above None g = absurd (let z : ◌≡◌ {A = ℕ} 0 1 = (let n = none_on w ns key (5 * k) (5 * suc k) (omega arith) g in cc) in omega arith)
      from above (Some t) g = path_on k s t g (above t g) (rw mul-suc at e)

  pub slot_way : (n : ℕ) (s : Slot) → n ≤ w → slot_at w ns key n ≡ Some s → OnWay w ns key n s
  slot_way n s h e = from (n / 5) (n % 5) (omega arith) (omega arith) (slot_at w ns key (5 * (n / 5))) refl
    where
      from : (k l : ℕ) → n ≡ 5 * k + l → l < 5 → (o : Option Slot) → slot_at w ns key (5 * k) ≡ o → OnWay w ns key n s
      from k l d b None g = absurd (let z : ◌≡◌ {A = ℕ} 0 1 = (let n = none_on w ns key (5 * k) n (omega arith) g in cc) in omega arith)
      from k l d b (Some t) g =
          let p = slot_path k t g in
          let here : slot_at w ns key n ≡ Some (slot_of w key n t.node l) =
          rw d (slot_in w ns key (5 * k) t.node (g ∙ ap (λ (x : Slot). Some x) p.0) l (omega arith) (omega arith)) in
          record { level = k; tier = l; node = t.node; split = d; in_node = b; way = p.1; here = cc }

sum_take : (f : Node → ℕ) (ns : List Node) (i : ℕ) → sum_by f (take i ns) ≤ sum_by f ns
sum_take f ns zero = omega arith
sum_take f [] (suc i) = omega arith
sum_take f (n ∷ ns) (suc i) = omega (arith, sum_by-cons f n (take i ns), sum_by-cons f n ns, sum_take f ns i)

module _ (w : ℕ) (ns : List Node) (values : ℕ) (sound : Sound w ns values) where
  pub place_below : (i b : ℕ) → i < length ns → b < 32 → T (bit (node_at ns i).data_bitmap b) → (node_at ns i).data_idx + ones_below b (node_at ns i).data_bitmap < values
  place_below i b h l set =
      omega (
        arith,
        sound.data_index i h,
        sound.value_total,
        ones32_lt b (node_at ns i).data_bitmap l set,
        sum_suc (λ (n : Node). ones32 n.data_bitmap) ns i h,
        sum_take (λ (n : Node). ones32 n.data_bitmap) ns (suc i),
      )

  pub child_below : (i c : ℕ) → i < length ns → c < 32 → T (bit (node_at ns i).child_bitmap c) → (node_at ns i).children_idx + ones_below c (node_at ns i).child_bitmap < length ns
  child_below i c h l set =
      omega (
        arith,
        sound.children_index i h,
        sound.node_total,
        ones32_lt c (node_at ns i).child_bitmap l set,
        sum_suc (λ (n : Node). ones32 n.child_bitmap) ns i h,
        sum_take (λ (n : Node). ones32 n.child_bitmap) ns (suc i),
      )

  pub path_in : (key k i : ℕ) → WayTo w ns key k i → i < length ns
  path_in key k i p = (sound_tree w ns values sound).in_list k i (path_reached w ns key k i p)
