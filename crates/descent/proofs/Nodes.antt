-- A node on the way of a query, as the code reads it: it is in the list, its child's location leads on, and a slot's location is its place.
use Rattle.std.proofs.Common.{refl, leb, ◌≡◌, ℕ, Bool, true, ◌+◌, ◌-◌, ◌/◌, ◌%◌, ◌^◌, ◌<◌, ◌≤◌, length, is_some, IfSome, Some, None, Option, sym, ap, ◌∙◌, ap₂, min, arith}
use Rattle.std.proofs.lemmas.Bool.{cond-false, cond-true, le-leb, lt-leb}
use Rattle.std.specs.Option.{option_map}
use Rattle.keys.specs.Blocks.{first_bits}
use Rattle.register.proofs.WaySlots.{place_below, slot_on}
use Rattle.register.specs.Ways.{slot_of}
use Rattle.std.specs.Bool.{then_some}
use Rattle.register.proofs.Under.{true_T}
use Rattle.register.specs.Register.{Slot, value_place, first_slot}
use Rattle.slots.specs.Masks.{mask, on_path}
use Rattle.slots.specs.Places.{loc_of}
use Rattle.slots.specs.declared.loc.Loc.{Loc}
use Rattle.slots.specs.Picks.{highest, lowest}
use Rattle.tree.specs.Levels.{data_ones, node_at}
use Rattle.tree.specs.Meaning.{Sound}
use Rattle.tree.proofs.Meaning.{accepted_sound}
use Rattle.descent.proofs.Picks.{highest_met, lowest_met, met_below}
use Rattle.descent.proofs.Steps.{OfBit, child_index, child_on, five_four, hit_node, longest_hit, node_in, shortest_hit, slot_below, slot_place, some_if}
use Rattle.descent.specs.Way.{HitOn, LeadsTo, first_bit, last_bit, has, tier_to, first_hit, found_of, last_hit, path_mask}
use Rattle.descent.specs.Searches.{child_data}
use Rattle.descent.specs.declared.cursor.Cursor.{Cursor}
use Rattle.descent.specs.declared.sought.Search.{Search}
use Rattle.descent.specs.declared.found.Hit.{Hit}
use Rattle.nodes.specs.Bitmaps.{bit, ones_below}

pub sound : (q : Search) → Sound q.key.width q.nodes.now (data_ones q.nodes.now)
sound q = accepted_sound q.key.width q.nodes.now (data_ones q.nodes.now) q.accepted

module _ (c : Cursor) where
  pub in_list : c.at < length c.query.nodes.now
  in_list = node_in (sound c.query) c.on_path

  -- the location of the child bit on the path
  abbrev pub child_of : Option Loc
  child_of = loc_of (node_at c.query.nodes.now c.at).child_bitmap (node_at c.query.nodes.now c.at).children_idx (first_bits c.query.key.width (c.depth + 5) c.query.key.bits % 32)

  -- it is the next node on the way, and the key's next five bits lead there
  pub child_some : (l : Loc) → c.depth + 5 ≤ c.query.len → Some l ≡ child_of → LeadsTo c.query.key.width c.query.nodes.now c.query.key.bits c.query.len l.idx (c.depth + 5)
  child_some l h e = child_on (sound c.query) c.on_path l.idx h (ap (option_map (λ (x : Loc). x.idx)) e ∙ child_index (sound c.query) c.on_path)

  pub child_here : (r : Option Loc) → c.depth + 5 ≤ c.query.len → r ≡ child_of → option_map (λ (l : Loc). (c.query, l.idx, c.depth + 5)) r ≡ child_data c
  child_here r h e =
      sym (moved r)
      ∙ (ap (λ (o : Option ℕ). option_map to (first_slot o)) (ap (option_map (λ (x : Loc). x.idx)) e ∙ child_index (sound c.query) c.on_path)
      ∙ (ap (option_map to) (sym (slot_on c.query.key.width c.query.nodes.now c.query.key.bits c.depth c.at c.on_path.slot (omega (arith, h, c.query.short))))
      ∙ ap (option_map to) (sym (cond-true (leb (c.depth + 5) c.query.len) _ None (le-leb (c.depth + 5) c.query.len h)))))
    where
      to : Slot → Search × ℕ × ℕ
      to s = (c.query, s.node, c.depth + 5)

      moved : (o : Option Loc) → option_map to (first_slot (option_map (λ (x : Loc). x.idx) o)) ≡ option_map (λ (l : Loc). (c.query, l.idx, c.depth + 5)) o
      moved None = refl
      moved (Some l) = refl

  pub child_past : c.query.len < c.depth + 5 → None ≡ child_data c
  child_past h = ap (option_map (λ (s : Slot). (c.query, s.node, c.depth + 5))) (sym (cond-false (leb (c.depth + 5) c.query.len) _ None (lt-leb (c.depth + 5) c.query.len h)))

  pub longest_here : (b : Option ℕ) (r : Option Hit) → OfBit {w = c.query.key.width} {ns = c.query.nodes.now} (sound c.query) c.on_path b r → b ≡ last_bit (node_at c.query.nodes.now c.at).data_bitmap c.query.key.width c.depth c.query.key.bits c.query.len → r ≡ last_hit c.query.key.width c.query.nodes.now c.query.key.bits c.query.len c.depth
  longest_here b r of e = longest_hit (sound c.query) c.on_path of e

  pub shortest_here : (b : Option ℕ) (r : Option Hit) → OfBit {w = c.query.key.width} {ns = c.query.nodes.now} (sound c.query) c.on_path b r → b ≡ first_bit (node_at c.query.nodes.now c.at).data_bitmap c.query.key.width c.depth c.query.key.bits c.query.len → r ≡ first_hit c.query.key.width c.query.nodes.now c.query.key.bits c.query.len c.depth
  shortest_here b r of e = shortest_hit (sound c.query) c.on_path of e

-- in a node that the length goes through, the path is that of the first four of the child's five bits
pub whole_path : (c : Cursor) → c.depth + 5 ≤ c.query.len → mask (on_path (min 4 4) (first_bits c.query.key.width (c.depth + 5) c.query.key.bits % 32 / 2 % 16)) ≡ path_mask c.query.key.width c.query.key.bits c.query.len c.depth
whole_path c h =
    let w : ℕ = c.query.key.width in
    let tier : min 4 4 ≡ tier_to c.depth c.query.len = omega arith in
    ap₂ (λ (l v : ℕ). mask (on_path l v)) tier (five_four w c.depth c.query.key.bits (omega (arith, h, c.query.short)))

module _ (q : Search) where
  -- the location of a slot
  pub slot_index : (n at : ℕ) → at < length q.nodes.now → option_map (λ (l : Loc). l.idx) (loc_of (node_at q.nodes.now at).data_bitmap (node_at q.nodes.now at).data_idx (2 ^ (n % 5) - 1 + first_bits q.key.width n q.key.bits % 2 ^ (n % 5))) ≡ value_place q.nodes.now (slot_of q.key.width q.key.bits n at (n % 5))
  slot_index n at h = slot_place (sound q) q.key.bits n at h

  pub hit_below : (hit : Hit) → HitOn q.key.width q.nodes.now q.key.bits hit → hit.node < length q.nodes.now
  hit_below hit on = (hit_node (sound q) hit on).0

  -- the data bit of a hit's block, in its node
  abbrev pub bit_of_hit : Hit → ℕ
  bit_of_hit hit = 2 ^ (hit.len % 5) - 1 + first_bits q.key.width hit.len q.key.bits % 2 ^ (hit.len % 5)

  abbrev pub place_of_hit : Hit → ℕ
  place_of_hit hit = (node_at q.nodes.now hit.node).data_idx + ones_below (bit_of_hit hit) (node_at q.nodes.now hit.node).data_bitmap

  set_here : (hit : Hit) → HitOn q.key.width q.nodes.now q.key.bits hit → bit (node_at q.nodes.now hit.node).data_bitmap (bit_of_hit hit) ≡ true
  unfolding has
  set_here hit on =
      sym (some_if (bit (node_at q.nodes.now hit.node).data_bitmap (bit_of_hit hit)) (place_of_hit hit))
      ∙ (ap (λ (o : Option ℕ). is_some o) (hit_node (sound q) hit on).1 ∙ on.set)

  pub hit_fits : (hit : Hit) → HitOn q.key.width q.nodes.now q.key.bits hit → place_of_hit hit < 2 ^ 32
  hit_fits hit on =
      omega (
        arith,
        place_below q.key.width q.nodes.now (data_ones q.nodes.now) (sound q) hit.node (bit_of_hit hit) (hit_below hit on)
            (slot_below q.key.width q.key.bits hit.len (hit.len % 5) (omega arith)) (true_T (bit (node_at q.nodes.now hit.node).data_bitmap (bit_of_hit hit)) (set_here hit on)),
        (sound q).value_limit,
      )

  pub hit_found : (hit : Hit) → HitOn q.key.width q.nodes.now q.key.bits hit → Some (record { place = place_of_hit hit; len = hit.len }) ≡ found_of q.key.width q.nodes.now q.key.bits hit.len
  unfolding found_of
  hit_found hit on =
      ap (option_map (λ (place : ℕ). record { place = place; len = hit.len }))
      (ap (λ (b : Bool). then_some b (place_of_hit hit)) (sym (set_here hit on)) ∙ (hit_node (sound q) hit on).1)

-- the highest and the lowest are below the bound
pub highest_below : (k : ℕ) (f : ℕ → Bool) (r : Option ℕ) → r ≡ highest k f → IfSome r (λ b. b < k)
highest_below k f r e = met_below k f (highest k f) r e (highest_met k f)

pub lowest_below : (k : ℕ) (f : ℕ → Bool) (r : Option ℕ) → r ≡ lowest k f → IfSome r (λ b. b < k)
lowest_below k f r e = met_below k f (lowest k f) r e (lowest_met k f)
