-- One node on a key's way: it is in the list, its data bits on the path are the hits of its lengths, and its child bit leads on or the way ends.
use Rattle.std.proofs.Common.{◌≡◌, ℕ, suc, ◌+◌, ◌-◌, ◌*◌, ◌/◌, ◌%◌, ◌^◌, ◌<◌, ◌≤◌, Bool, true, false, T, List, length, is_some, IfSome, Some, None, Option, sym, refl, ap, ◌∙◌, subst, inl, inr, mod-lt, pow-suc, arith, pow_pos, pow_mono, shr-shr, shr_lt}
use lib.Pow.{field, shl-shr}
use Rattle.std.proofs.lemmas.Bool.{both_ways, cases_Bool, cases_lt, lt-ltb}
use Rattle.std.specs.Option.{option_and_then, option_map}
use Rattle.keys.specs.Blocks.{first_bits}
use Rattle.nodes.specs.Bitmaps.{bit, ones_below, place_of}
use Rattle.nodes.specs.declared.node.Node.{Node}
use Rattle.register.proofs.WaySlots.{child_below, path_in, place_below, slot_in, slot_on, slot_path, slot_way}
use Rattle.register.specs.Ways.{slot_at, slot_of}
use Rattle.std.specs.Bool.{then_some}
use Rattle.register.proofs.Under.{T_true, true_T}
use Rattle.register.specs.Laws.{five_bits}
use Rattle.register.specs.Register.{Slot, child_node, node_slot, value_place, slot_bit, first_slot}
use Rattle.slots.proofs.Paths.{highest_path_mask, lowest_path_mask}
use Rattle.slots.proofs.Shifts.{four_right}
use Rattle.slots.proofs.Picks.{highest_same, lowest_same}
use Rattle.slots.specs.Masks.{next_four, path_bit}
use Rattle.slots.specs.Picks.{highest, lowest}
use Rattle.slots.specs.Places.{loc_of}
use Rattle.tree.specs.Levels.{node_at}
use Rattle.tree.specs.Meaning.{Sound}
use Rattle.descent.proofs.Picks.{Met, highest_met, lowest_met, mapped_mapped, mapped_same}
use Rattle.descent.specs.Way.{Ends, HitOn, LeadsTo, first_bit, has, hit_of, last_bit, tier_to, node_of, place_on}
use Rattle.descent.specs.declared.found.Hit.{Hit}

-- where a set bit's place fits, its location is there
pub loc_index : (m first b : ℕ) → (T (bit m b) → first + ones_below b m < 2 ^ 32) → option_map (λ l. l.idx) (loc_of m first b) ≡ then_some (bit m b) (first + ones_below b m)
loc_index m first b below = elim (cases_Bool (bit m b)) [
  | inl t ↦ rw (t, lt-ltb (place_of m first b) (2 ^ 32) (below (true_T (bit m b) t))) refl
  | inr f ↦ rw f refl
]

-- the logarithm of a bit on a path, counted from one, is its tier
pub path_log : (v l r : ℕ) → v < 16 → l ≤ 4 → 2 ^ r ≤ path_bit v l + 1 → path_bit v l + 1 < 2 * 2 ^ r → r ≡ l
path_log v l r h d low up =
    let e : l + (4 - l) ≡ 4 = omega arith in
    let q : v / 2 ^ (4 - l) < 2 ^ l = four_part v l h d in
    elim (cases_lt r l) [
      | inl lt ↦ (let p : 2 ^ suc r ≤ 2 ^ l = pow_mono lt in absurd (omega (arith, p, pow-suc 2 r, pow_pos l)))
      | inr ge ↦ elim (cases_lt l r) [
        | inl lt ↦ (let p : 2 ^ suc l ≤ 2 ^ r = pow_mono lt in absurd (omega (arith, p, pow-suc 2 l, pow_pos l)))
        | inr le ↦ omega arith
      ]
    ]
  where
    four_part : (v l : ℕ) → v < 16 → l ≤ 4 → v / 2 ^ (4 - l) < 2 ^ l
    four_part v l h d =
        let e : l + (4 - l) ≡ 4 = omega arith in
        let b : v < 2 ^ (l + (4 - l)) = rw e h in
        shr_lt l (4 - l) b

-- the hit of a data bit, by the bit's tier
pub hit_tier : (at depth b r : ℕ) → 2 ^ r ≤ b + 1 → b + 1 < 2 * 2 ^ r → (v : ℕ) (o : Option ℕ) → v < 16 → IfSome o (λ l. l ≤ 4) → Some b ≡ option_map (path_bit v) o
    → ◌≡◌ {A = Option Hit} (Some (record { node = at; len = depth + r })) (option_map (λ l. record { node = at; len = depth + l }) o)
hit_tier at depth b r low up v None h d e = absurd (let z : ◌≡◌ {A = ℕ} 0 1 = cc in omega arith)
hit_tier at depth b r low up v (Some l) h d e =
    let f : b ≡ path_bit v l = cc in
    ap (λ (x : ℕ). Some (record { node = at; len = depth + x })) (path_log v l r h d (omega (arith, f, low)) (omega (arith, f, up)))

-- the first l of the four bits after a depth are the last l of the first bits so far
four_first : (w d l key : ℕ) → l ≤ 4 → d + l ≤ w → next_four w d key / 2 ^ (4 - l) ≡ first_bits w (d + l) key % 2 ^ l
four_first w d l key h b =
    let k : ℕ = 4 - l in
    let x : ℕ = key * 16 / 2 ^ (w - d) in
    let e : l + k ≡ 4 = omega arith in
    let f : (w - d) + k ≡ 4 + (w - (d + l)) = omega arith in
    ap (λ (n : ℕ). x % 2 ^ n / 2 ^ k) (sym e)
    ∙ (field x l k
    ∙ ap (λ (n : ℕ). n % 2 ^ l) (shr-shr (key * 16) (w - d) k
    ∙ (ap (λ (n : ℕ). key * 16 / 2 ^ n) f
    ∙ (sym (shr-shr (key * 16) 4 (w - (d + l)))
    ∙ ap (λ (n : ℕ). n / 2 ^ (w - (d + l))) (shl-shr key 4)))))

-- the first four of the five bits after a depth
pub five_four : (w d key : ℕ) → d + 5 ≤ w → first_bits w (d + 5) key % 32 / 2 % 16 ≡ next_four w d key
five_four w d key h =
    let k : ℕ = w - (d + 5) in
    let x : ℕ = key / 2 ^ k in
    let e : k + 1 ≡ (w - d) - 4 = omega arith in
    let half : x / 2 ≡ key * 16 / 2 ^ (w - d) = shr-shr key k 1 ∙ (ap (λ (n : ℕ). key / 2 ^ n) e ∙ four_right key (w - d) (omega arith)) in
    omega (arith, half)

pub some_if : (b : Bool) (x : ℕ) → is_some (then_some b x) ≡ b
some_if true x = refl
some_if false x = refl

pub slot_below : (w key n l : ℕ) → l ≤ 4 → 2 ^ l - 1 + first_bits w n key % 2 ^ l < 32
slot_below w key n l h =
    let p : 2 ^ l ≤ 2 ^ 4 = pow_mono h in
    omega (arith, p, mod-lt (first_bits w n key) (pow_pos l))

module _ {w : ℕ} {ns : List Node} {values : ℕ} (sound : Sound w ns values) where
  -- the place of a slot in a node of the list
  pub slot_place : (key n at : ℕ) → at < length ns → option_map (λ l. l.idx) (loc_of (node_at ns at).data_bitmap (node_at ns at).data_idx (2 ^ (n % 5) - 1 + first_bits w n key % 2 ^ (n % 5))) ≡ value_place ns (slot_of w key n at (n % 5))
  slot_place key n at h =
      let b : ℕ = 2 ^ (n % 5) - 1 + first_bits w n key % 2 ^ (n % 5) in
      loc_index (node_at ns at).data_bitmap (node_at ns at).data_idx b
      (λ t. omega (arith, place_below w ns values sound at b h (slot_below w key n (n % 5) (omega arith)) t, sound.value_limit))

  -- a hit is in the list, and its place is that of its length
  pub hit_node : {key : ℕ} (hit : Hit) → HitOn w ns key hit → (hit.node < length ns) × (value_place ns (slot_of w key hit.len hit.node (hit.len % 5)) ≡ place_on w ns key hit.len)
  unfolding has place_on hit_of
  hit_node {key} hit on = by (slot_at w ns key hit.len) refl
    where
      by : (o : Option Slot) → slot_at w ns key hit.len ≡ o → (hit.node < length ns) × (value_place ns (slot_of w key hit.len hit.node (hit.len % 5)) ≡ place_on w ns key hit.len)
      by None e = absurd (both_ways (has w ns key hit.len) (ap (λ (o : Option Slot). is_some (option_and_then (value_place ns) o)) e) on.set)
      by (Some s) e =
          let way = slot_way w ns values sound key hit.len s on.short e in
          let tier : way.tier ≡ hit.len % 5 = omega (arith, way.split, way.in_node) in
          let node : hit.node ≡ way.node = ap (λ (x : Hit). x.node) on.here ∙ (ap node_of e ∙ ap (λ (x : Slot). x.node) way.here) in
          let P : ℕ → Type 0 = λ i. i < length ns in (
            subst P (sym node) (path_in w ns values sound key way.level way.node way.way),
            ap (λ (i : ℕ). value_place ns (slot_of w key hit.len i (hit.len % 5))) node
                ∙ (ap (λ (l : ℕ). value_place ns (slot_of w key hit.len way.node l)) (sym tier)
                ∙ (ap (value_place ns) (sym way.here) ∙ ap (option_and_then (value_place ns)) (sym e))),
          )

  -- the hit of a length that was picked
  pub hit_picked : {key : ℕ} (k : ℕ) (o : Option ℕ) (hit : Hit) → k ≤ suc w → Met k (has w ns key) o → Some hit ≡ option_map (hit_of w ns key) o → HitOn w ns key hit × (o ≡ Some hit.len)
  unfolding hit_of
  hit_picked k None hit h met e = absurd (let z : ◌≡◌ {A = ℕ} 0 1 = cc in omega arith)
  hit_picked {key} k (Some n) hit h met e =
      let f : hit ≡ hit_of w ns key n = cc in
      let l : hit.len ≡ n = ap (λ (x : Hit). x.len) f in (
        record {
          short = omega (arith, met.0);
          here = f ∙ ap (hit_of w ns key) (sym l);
          set = ap (has w ns key) l ∙ T_true (has w ns key n) met.1;
        },
        ap (λ (x : ℕ). Some x) (sym l),
      )

  module _ {key len at depth : ℕ} (on : LeadsTo w ns key len at depth) where
    pub node_in : at < length ns
    node_in =
        let k : ℕ = depth / 5 in
        let e : depth ≡ 5 * k = omega (arith, on.whole) in
        let P : ℕ → Type 0 = λ n. slot_at w ns key n ≡ Some (node_slot at) in
        path_in w ns values sound key k at (slot_path w ns values sound key k (node_slot at) (subst P e on.slot)).1

    in_node : (l : ℕ) → l ≤ 4 → depth + l ≤ w → slot_at w ns key (depth + l) ≡ Some (slot_of w key (depth + l) at l)
    in_node = slot_in w ns key depth at on.slot

    -- the place of the whole length, where the node has it
    pub place_here : len < depth + 5 → value_place ns (slot_of w key len at (len % 5)) ≡ place_on w ns key len
    unfolding place_on
    place_here h =
        let l : ℕ = len % 5 in
        let e : depth + l ≡ len = omega (arith, on.whole, on.reached) in
        let P : ℕ → Type 0 = λ n. slot_at w ns key n ≡ Some (slot_of w key n at l) in
        ap (option_and_then (value_place ns)) (sym (subst P e (in_node l (omega arith) (omega (arith, on.short)))))

    pub child_on : (next : ℕ) → depth + 5 ≤ len → Some next ≡ child_node ns at (five_bits w depth key) → LeadsTo w ns key len next (depth + 5)
    child_on next h e = record {
      short = on.short;
      whole = omega (arith, on.whole);
      reached = h;
      slot = slot_on w ns key depth at on.slot (omega (arith, on.short)) ∙ ap first_slot (sym e);
    }

    pub child_index : option_map (λ l. l.idx) (loc_of (node_at ns at).child_bitmap (node_at ns at).children_idx (five_bits w depth key)) ≡ child_node ns at (five_bits w depth key)
    child_index =
        loc_index (node_at ns at).child_bitmap (node_at ns at).children_idx (five_bits w depth key)
        (λ t. omega (arith, child_below w ns values sound at (five_bits w depth key) node_in (mod-lt _ (omega arith)) t, sound.node_limit))

    abbrev reach : ℕ
    reach = tier_to depth len

    abbrev map_bit : ℕ → Bool
    map_bit l = bit (node_at ns at).data_bitmap (path_bit (next_four w depth key) l)

    bit_has : (l : ℕ) → l < suc reach → map_bit l ≡ has w ns key (depth + l)
    unfolding has place_on
    bit_has l h =
        let d : l ≤ 4 = omega arith in
        let b : depth + l ≤ w = omega (arith, on.short, on.reached) in
        let m : ℕ = (node_at ns at).data_bitmap in
        ap (λ (x : ℕ). bit m (2 ^ l - 1 + x)) (four_first w depth l key d b)
        ∙ (sym (some_if (bit m (slot_bit (slot_of w key (depth + l) at l))) _) ∙ ap (λ (o : Option Slot). is_some (option_and_then (value_place ns) o)) (sym (in_node l d b)))

    -- the hits of the tiers that are met
    hits_of : (o : Option ℕ) → Met (suc reach) map_bit o → option_map (λ l. record { node = at; len = depth + l }) o ≡ option_map (hit_of w ns key) (option_map (λ l. depth + l) o)
    unfolding hit_of
    hits_of o met = mapped_same (λ (l : ℕ). record { node = at; len = depth + l }) (λ l. hit_of w ns key (depth + l)) o (each o met) ∙ sym (mapped_mapped (λ (l : ℕ). depth + l) (hit_of w ns key) o)
      where
        each : (o : Option ℕ) → Met (suc reach) map_bit o → IfSome o (λ l. record { node = at; len = depth + l } ≡ hit_of w ns key (depth + l))
        each None m = tt
        each (Some l) m = ap (λ (s : Option Slot). record { node = node_of s; len = depth + l }) (sym (in_node l (omega (arith, m.0)) (omega (arith, m.0, on.short, on.reached))))

    small : (o : Option ℕ) → Met (suc reach) map_bit o → IfSome o (λ l. l ≤ 4)
    small None m = tt
    small (Some l) m = omega (arith, m.0)

    -- what is known of the hit of a data bit, for the tier of that bit
    abbrev pub OfBit : Option ℕ → Option Hit → Type 0
    OfBit b r = (v : ℕ) (o : Option ℕ) → v < 16 → IfSome o (λ l. l ≤ 4) → b ≡ option_map (path_bit v) o → r ≡ option_map (λ l. record { node = at; len = depth + l }) o

    hit_of_met : (o : Option ℕ) → Met (suc reach) map_bit o → (b : Option ℕ) (r : Option Hit) → OfBit b r → b ≡ option_map (path_bit (next_four w depth key)) o → r ≡ option_map (hit_of w ns key) (option_map (λ l. depth + l) o)
    hit_of_met o met b r of e = of (next_four w depth key) o (mod-lt _ (omega arith)) (small o met) e ∙ hits_of o met

    abbrev bits_of : ℕ
    bits_of = (node_at ns at).data_bitmap

    module _ {b : Option ℕ} {r : Option Hit} (of : OfBit b r) where
      pub longest_hit : b ≡ last_bit bits_of w depth key len → r ≡ option_map (hit_of w ns key) (option_map (λ l. depth + l) (highest (suc reach) (λ l. has w ns key (depth + l))))
      longest_hit e =
          hit_of_met (highest (suc reach) map_bit) (highest_met (suc reach) map_bit) b r of
          (e ∙ highest_path_mask bits_of reach (next_four w depth key) (omega arith) (mod-lt _ (omega arith)))
          ∙ ap (λ (o : Option ℕ). option_map (hit_of w ns key) (option_map (λ l. depth + l) o)) (highest_same (suc reach) map_bit (λ l. has w ns key (depth + l)) bit_has)

      pub shortest_hit : b ≡ first_bit bits_of w depth key len → r ≡ option_map (hit_of w ns key) (option_map (λ l. depth + l) (lowest (suc reach) (λ l. has w ns key (depth + l))))
      shortest_hit e =
          hit_of_met (lowest (suc reach) map_bit) (lowest_met (suc reach) map_bit) b r of
          (e ∙ lowest_path_mask bits_of reach (next_four w depth key) (omega arith) (mod-lt _ (omega arith)))
          ∙ ap (λ (o : Option ℕ). option_map (hit_of w ns key) (option_map (λ l. depth + l) o)) (lowest_same (suc reach) map_bit (λ l. has w ns key (depth + l)) bit_has)

    -- past the end of the way there is no value
    pub ended : Ends w ns key len depth → (n : ℕ) → depth + suc reach ≤ n → n < suc len → has w ns key n ≡ false
    unfolding has place_on
    ended ends n l h =
        ap (λ (o : Option Slot). is_some (option_and_then (value_place ns) o)) (ends n (omega (arith, on.reached)) (omega arith))

    pub ended_place : Ends w ns key len depth → depth + 5 ≤ len → None ≡ place_on w ns key len
    unfolding place_on
    ended_place ends h = sym (ap (option_and_then (value_place ns)) (ends len h (omega arith)))
