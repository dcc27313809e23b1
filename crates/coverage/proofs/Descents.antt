-- The descent along a block's key: an entry on the way covers the block, and at the end of the way the block is a slot of the node, or nothing.
use Rattle.std.proofs.Common.{◌≡◌, ℕ, zero, suc, ◌+◌, ◌-◌, ◌*◌, ◌/◌, ◌%◌, ◌^◌, ◌<◌, ◌≤◌, Bool, true, false, ◌||◌, T, eqb, List, is_some, Some, None, Option, sym, refl, ap, ◌∙◌, subst, inl, inr, arith, ap₂, mod-lt, pow_pos, pow-suc, add-one}
use lib.Pow.{field}
use Rattle.std.specs.Option.{option_and_then}
use Rattle.std.proofs.lemmas.Bool.{false≢true, cases_Bool, ne_eqb}
use Rattle.keys.specs.Blocks.{block_of, first_bits}
use Rattle.nodes.specs.Bitmaps.{bit}
use Rattle.nodes.specs.declared.node.Node.{Node}
use Rattle.tree.specs.Levels.{data_ones, node_at}
use Rattle.register.specs.Ways.{slot_at, slot_of}
use Rattle.register.proofs.WaySlots.{first_half, path_reached, slot_in, slot_path}
use Rattle.register.proofs.Under.{T_true}
use Rattle.register.specs.Register.{places, Slot, value_place, node_slot}
use Rattle.slots.proofs.Picks.{lowest_is}
use Rattle.slots.specs.Picks.{IsLowest, lowest}
use Rattle.descent.proofs.Loops.{shortest_end, shortest_met}
use Rattle.descent.proofs.Nodes.{sound}
use Rattle.descent.proofs.Ways.{first_in, none_below, shortest_next, way_ends, way_on}
use Rattle.descent.specs.Searches.{child_data, cursor_data}
use Rattle.descent.specs.Way.{has, place_on}
use Rattle.descent.specs.declared.cursor.Cursor.{Cursor}
use Rattle.aggregate.proofs.Halves.{under_half, under_top}
use Rattle.aggregate.specs.Halves.{under_set}
use Rattle.addresses.proofs.Nodes.{tier_number}
use Rattle.addresses.proofs.Slots.{number, number_below}
use Rattle.addresses.proofs.Covered.{block_size, entry_covers}
use Rattle.addresses.specs.Addresses.{covered}
use Rattle.addresses.specs.Sizes.{set_at, size}
use Rattle.addresses.specs.Standing.{Standing, tier_of}
use Rattle.coverage.proofs.Children.{size_none}
use Rattle.coverage.specs.Slots.{Ended, slot_covered}
use Rattle.std.specs.Bool.{then_some}

pub some_if : (b : Bool) (x : ℕ) → is_some (then_some b x) ≡ b
some_if true x = refl
some_if false x = refl

halved_mod : (x l : ℕ) → x % 2 ^ suc l / 2 ≡ x / 2 % 2 ^ l
halved_mod x l = ap (λ (k : ℕ). x % 2 ^ k / 2) (sym (add-one l)) ∙ field x l 1

-- nothing is met below where there is no lowest
pub none_met : (k : ℕ) (f : ℕ → Bool) → lowest k f ≡ None → (c : ℕ) → c < k → f c ≡ false
none_met k f e c l =
    elim (cases_Bool (f c)) [
      | inl t ↦ absurd (subst (IsLowest k f) e (lowest_is k f) c l (subst T (sym t) tt))
      | inr z ↦ z
    ]

has_spot : (w : ℕ) (ns : List Node) (key m : ℕ) (s : Slot) → slot_at w ns key m ≡ Some s → has w ns key m ≡ set_at ns s
unfolding has place_on
has_spot w ns key m s e = ap (λ (o : Option Slot). is_some (option_and_then (value_place ns) o)) e ∙ some_if (set_at ns s) _

hit_spot : (w : ℕ) (ns : List Node) (key m : ℕ) → T (has w ns key m) → (s : Slot) × (slot_at w ns key m ≡ Some s)
unfolding has place_on
hit_spot w ns key m t = by (slot_at w ns key m) t
  where
    by : (o : Option Slot) → T (is_some (option_and_then (value_place ns) o)) → (s : Slot) × (o ≡ Some s)
    by None t = absurd t
    by (Some s) t = (s, refl)

abbrev pub covers : Cursor → Bool
covers c = covered c.query.key.width (block_of c.query.key.width c.query.key.bits c.query.len) (places c.query.key.width c.query.nodes.now)

is_there : {A : Type 0} (o : Option A) → true ≡ is_some o → (x : A) × (o ≡ Some x)
is_there None e = absurd (false≢true (sym e))
is_there (Some x) e = (x, refl)

is_none : {A : Type 0} (o : Option A) → false ≡ is_some o → o ≡ None
is_none None e = refl
is_none (Some x) e = absurd (false≢true e)

-- a hit on the way covers
pub hit_covers : (c : Cursor) → true ≡ is_some (first_in c) → none_below c.query c.depth → true ≡ covers c
hit_covers c some before =
    let w : ℕ = c.query.key.width in
    let ns : List Node = c.query.nodes.now in
    let key : ℕ = c.query.key.bits in
    let x = is_there (first_in c) some in
    let m = (shortest_met (sound c.query) c.on_path refl before x.0 x.1).1 in
    let i = subst (IsLowest (suc c.query.len) (has w ns key)) m (lowest_is (suc c.query.len) (has w ns key)) in
    let s = hit_spot w ns key x.0.len i.1 in
    sym (entry_covers w ns key c.query.len x.0.len c.query.below c.query.short (omega (arith, i.0)) s.0 s.1 (sym (has_spot w ns key x.0.len s.0 s.1) ∙ T_true _ i.1))

-- the way ends without one
pub no_hit : (c : Cursor) → false ≡ is_some (first_in c) → none_below c.query c.depth → None ≡ child_data c → Ended c
no_hit c none before end = let ends = way_ends c end in (ends, shortest_end (sound c.query) c.on_path refl before (is_none (first_in c) none) ends)

-- the way goes on without one
pub none_yet : (c n : Cursor) → Some (cursor_data n) ≡ child_data c → false ≡ is_some (first_in c) → none_below c.query c.depth → none_below n.query n.depth
none_yet c n next none before = let on = way_on c n next in shortest_next c n on.0 on.1 (first_in c) refl before (is_none (first_in c) none)

module _ (c : Cursor) (h : Ended c) where
  abbrev w : ℕ
  w = c.query.key.width

  abbrev ns : List Node
  ns = c.query.nodes.now

  abbrev key : ℕ
  key = c.query.key.bits

  abbrev len : ℕ
  len = c.query.len

  without_hit : covers c ≡ eqb (size (w - len) ns (slot_at w ns key len)) (2 ^ (w - len))
  without_hit = block_size w ns key len c.query.below c.query.short (λ m d s at. sym (has_spot w ns key m s at) ∙ none_met (suc len) (has w ns key) h.1 m (omega arith))

  pub past_end : c.depth + 5 ≤ len → false ≡ covers c
  past_end l =
      let none : size (w - len) ns (slot_at w ns key len) ≡ 0 = ap (size (w - len) ns) (h.0 len l (omega arith)) ∙ size_none (w - len) ns in
      sym (without_hit ∙ ne_eqb _ _ (λ e. omega (arith, none, e, pow_pos (w - len))))

  pub stands : Standing ns c.at (w - c.depth)
  stands =
      let e : 5 * (c.depth / 5) ≡ c.depth = omega (arith, c.on_path.whole) in
      let at : slot_at w ns key (5 * (c.depth / 5)) ≡ Some (node_slot c.at) = ap (λ (k : ℕ). slot_at w ns key k) e ∙ c.on_path.slot in
      record {
        width = w;
        values = data_ones ns;
        sound = sound c.query;
        narrow = c.query.narrow;
        level = c.depth / 5;
        reached = path_reached w ns key (c.depth / 5) c.at (slot_path w ns (data_ones ns) (sound c.query) key (c.depth / 5) (node_slot c.at) at).1;
        left = omega (arith, e, c.on_path.reached, c.query.short);
      }

  -- the slots on the key's path, tier by tier
  abbrev slot_to : ℕ → ℕ
  slot_to l = number l (first_bits w (c.depth + l) key % 2 ^ l)

  unset : (l : ℕ) → l ≤ 4 → c.depth + l ≤ len → bit (node_at ns c.at).data_bitmap (slot_to l) ≡ false
  unfolding has place_on
  unset l d b =
      sym (some_if (bit (node_at ns c.at).data_bitmap (slot_to l)) _)
      ∙ (ap (λ (o : Option Slot). is_some (option_and_then (value_place ns) o)) (sym (slot_in w ns key c.depth c.at c.on_path.slot l d (omega (arith, b, c.query.short))))
      ∙ none_met (suc len) (has w ns key) h.1 (c.depth + l) (omega arith))

  free : (l : ℕ) → l ≤ 4 → c.depth + l ≤ len → under_set (node_at ns c.at).data_bitmap (slot_to l) ≡ false
  free zero d b =
      let e : slot_to 0 ≡ 0 = omega arith in
      ap (λ (x : ℕ). under_set (node_at ns c.at).data_bitmap x) e ∙ under_top _
  free (suc l) d b =
      let q : ℕ = first_bits w (c.depth + suc l) key % 2 ^ suc l in
      let up : c.depth + suc l ≡ suc (c.depth + l) = omega arith in
      let half : first_bits w (c.depth + l) key ≡ first_bits w (c.depth + suc l) key / 2 =
      first_half w (c.depth + l) key (omega (arith, b, c.query.short)) ∙ ap (λ (k : ℕ). first_bits w k key / 2) (sym up) in
      let low : q / 2 ≡ first_bits w (c.depth + l) key % 2 ^ l = halved_mod (first_bits w (c.depth + suc l) key) l ∙ ap (λ (x : ℕ). x % 2 ^ l) (sym half) in
      let e : (slot_to (suc l) - 1) / 2 ≡ slot_to l = omega (arith, low, pow-suc 2 l, pow_pos l) in
      let small : slot_to (suc l) < 31 = number_below (suc l) q d (mod-lt _ (pow_pos (suc l))) in
      under_half (node_at ns c.at).data_bitmap (slot_to (suc l)) (omega (arith, pow-suc 2 l, pow_pos l)) (omega arith)
      ∙ (ap (λ (x : ℕ). bit (node_at ns c.at).data_bitmap x || under_set (node_at ns c.at).data_bitmap x) e
      ∙ ap₂ (λ x y. x || y) (unset l (omega arith) (omega arith)) (free l (omega arith) (omega arith)))

  -- the slot of the block
  abbrev pub slot_bit_of : ℕ
  slot_bit_of = 2 ^ (len % 5) - 1 + first_bits w len key % 2 ^ (len % 5)

  module _ (l : len < c.depth + 5) where
    tier : len % 5 ≡ len - c.depth
    tier = omega (arith, c.on_path.whole, c.on_path.reached)

    is_slot : slot_bit_of ≡ slot_to (len - c.depth)
    is_slot =
        let e : c.depth + (len - c.depth) ≡ len = omega (arith, c.on_path.reached) in
        ap (λ (k : ℕ). number k (first_bits w len key % 2 ^ k)) tier ∙ ap (λ (k : ℕ). number (len - c.depth) (first_bits w k key % 2 ^ (len - c.depth))) (sym e)

    pub slot_small : slot_bit_of < 31
    slot_small = number_below (len % 5) (first_bits w len key % 2 ^ (len % 5)) (omega arith) (mod-lt _ (pow_pos (len % 5)))

    pub slot_free : under_set (node_at ns c.at).data_bitmap slot_bit_of ≡ false
    slot_free = ap (λ (x : ℕ). under_set (node_at ns c.at).data_bitmap x) is_slot ∙ free (len - c.depth) (omega arith) (omega (arith, c.on_path.reached))

    pub in_end : slot_covered ns c.at (w - c.depth) slot_bit_of ≡ covers c
    in_end =
        let j : ℕ = len - c.depth in
        let p : ℕ = first_bits w len key % 2 ^ j in
        let e : c.depth + j ≡ len = omega (arith, c.on_path.reached) in
        let s : slot_bit_of ≡ number j p = ap (λ (k : ℕ). number k (first_bits w len key % 2 ^ k)) tier in
        let lv : tier_of (number j p) ≡ j = tier_number j p (omega arith) (mod-lt _ (pow_pos j)) in
        let bits : number j p + 1 - 2 ^ j ≡ p = omega (arith, pow_pos j) in
        let left : w - c.depth - j ≡ w - len = omega (arith, c.on_path.reached) in
        let spot : slot_at w ns key len ≡ Some (slot_of w key len c.at j) =
        subst (λ (k : ℕ). slot_at w ns key k ≡ Some (slot_of w key k c.at j)) e (slot_in w ns key c.depth c.at c.on_path.slot j (omega arith) (omega (arith, e, c.query.short))) in
        ap (λ (b : ℕ). slot_covered ns c.at (w - c.depth) b) s
        ∙ (ap (λ (k : ℕ). eqb (size (w - c.depth - k) ns (Some (record { node = c.at; tier = k; path = number j p + 1 - 2 ^ k }))) (2 ^ (w - c.depth - k))) lv
        ∙ (ap₂ (λ (k x : ℕ). eqb (size k ns (Some (record { node = c.at; tier = j; path = x }))) (2 ^ k)) left bits
        ∙ (ap (λ (o : Option Slot). eqb (size (w - len) ns o) (2 ^ (w - len))) (sym spot) ∙ sym without_hit)))
