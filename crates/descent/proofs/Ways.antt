-- A query's cursors, turn by turn: what is found so far, and what is found at the end of the way.
use Rattle.std.proofs.Common.{true, leb, ◌≡◌, length, ℕ, suc, ◌+◌, ◌%◌, ◌<◌, ◌≤◌, Some, None, Option, sym, ap, ◌∙◌, subst, arith}
use Rattle.std.proofs.lemmas.Bool.{cond-true, le-leb}
use Rattle.std.specs.Option.{option_and_then, option_map, option_or}
use Rattle.register.proofs.WaySlots.{none_on}
use Rattle.register.specs.Ways.{slot_at, slot_of}
use Rattle.register.specs.Register.{Slot, value_place}
use Rattle.slots.specs.Picks.{highest, lowest}
use Rattle.descent.proofs.Loops.{longest_end, longest_met, longest_turn, mapped_none, shortest_end, shortest_met, shortest_turn}
use Rattle.descent.proofs.Nodes.{in_list, sound}
use Rattle.descent.proofs.Steps.{ended_place, place_here}
use Rattle.descent.specs.Way.{Ends, HitOn, first_hit, found_of, has, hit_of, last_hit, longest_on, place_on, shortest_on, slot_within}
use Rattle.descent.specs.Searches.{child_data, cursor_data}
use Rattle.descent.specs.declared.cursor.Cursor.{Cursor}
use Rattle.descent.specs.declared.sought.Search.{Search}
use Rattle.descent.specs.declared.found.Hit.{Hit}

-- the longest and the shortest hit of the key's first bits below k
abbrev pub last_below : Search → ℕ → Option Hit
last_below q k = option_map (hit_of q.key.width q.nodes.now q.key.bits) (highest k (has q.key.width q.nodes.now q.key.bits))

abbrev pub none_below : Search → ℕ → Type 0
none_below q k = lowest k (has q.key.width q.nodes.now q.key.bits) ≡ None

abbrev pub EndsAt : Cursor → Type 0
EndsAt c = Ends c.query.key.width c.query.nodes.now c.query.key.bits c.query.len c.depth

abbrev pub last_of : Cursor → Option Hit
last_of c = last_hit c.query.key.width c.query.nodes.now c.query.key.bits c.query.len c.depth

abbrev pub first_in : Cursor → Option Hit
first_in c = first_hit c.query.key.width c.query.nodes.now c.query.key.bits c.query.len c.depth

mapped_from : {A B : Type 0} (g : A → B) (o : Option A) (y : B) → Some y ≡ option_map g o → (x : A) × (y ≡ g x)
mapped_from g None y e = absurd (let z : ◌≡◌ {A = ℕ} 0 1 = cc in omega arith)
mapped_from g (Some x) y e = (x, cc)

-- the cursor's way goes on, or it ends
module _ (c : Cursor) where
  abbrev to : Slot → Search × ℕ × ℕ
  to s = (c.query, s.node, c.depth + 5)

  pub way_on : (n : Cursor) → Some (cursor_data n) ≡ child_data c → (n.query ≡ c.query) × (n.depth ≡ c.depth + 5)
  way_on n e =
      let s = mapped_from to (slot_within c.query.key.width c.query.nodes.now c.query.key.bits c.query.len (c.depth + 5)) (cursor_data n) e in
      (ap (λ (t : Search × ℕ × ℕ). t.0) s.1, ap (λ (t : Search × ℕ × ℕ). t.2) s.1)

  pub way_ends : None ≡ child_data c → EndsAt c
  way_ends e n l h =
      let within : leb (c.depth + 5) c.query.len ≡ true = le-leb (c.depth + 5) c.query.len (omega arith) in
      let here = slot_at c.query.key.width c.query.nodes.now c.query.key.bits (c.depth + 5) in
      none_on c.query.key.width c.query.nodes.now c.query.key.bits (c.depth + 5) n l
      (mapped_none to here (e ∙ ap (option_map to) (cond-true (leb (c.depth + 5) c.query.len) here None within)))

module _ (c : Cursor) where
  pub exact_end : EndsAt c → c.depth + 5 ≤ c.query.len → None ≡ place_on c.query.key.width c.query.nodes.now c.query.key.bits c.query.len
  exact_end ends h = ended_place (sound c.query) c.on_path ends h

  pub exact_here : c.query.len < c.depth + 5 → value_place c.query.nodes.now (slot_of c.query.key.width c.query.key.bits c.query.len c.at (c.query.len % 5)) ≡ place_on c.query.key.width c.query.nodes.now c.query.key.bits c.query.len
  exact_here h = place_here (sound c.query) c.on_path h

  -- the cursor behind the next child
  module _ (n : Cursor) (q : n.query ≡ c.query) (d : n.depth ≡ c.depth + 5) where
    further : c.depth + 5 ≤ c.query.len
    further = omega (arith, d, ap (λ (x : Search). x.len) q, n.on_path.reached)

    pub longest_next : (r best : Option Hit) → r ≡ last_of c → best ≡ last_below c.query c.depth → option_or r best ≡ last_below n.query n.depth
    longest_next r best here before =
        longest_turn (sound c.query) c.on_path here before further
        ∙ (ap (last_below c.query) (sym d) ∙ ap (λ (x : Search). last_below x n.depth) (sym q))

    pub shortest_next : (r : Option Hit) → r ≡ first_in c → none_below c.query c.depth → r ≡ None → none_below n.query n.depth
    shortest_next r here before none =
        subst (λ (x : Search). none_below x n.depth) (sym q) (
        subst (λ (k : ℕ). none_below c.query k) (sym d) (shortest_turn (sound c.query) c.on_path here before none further))

  pub longest_last : (r best : Option Hit) → r ≡ last_of c → best ≡ last_below c.query c.depth → EndsAt c → option_or r best ≡ last_below c.query (suc c.query.len)
  longest_last r best here before ends = longest_end (sound c.query) c.on_path here before ends

  pub shortest_hit_on : (r : Option Hit) (x : Hit) → r ≡ first_in c → none_below c.query c.depth → r ≡ Some x → HitOn c.query.key.width c.query.nodes.now c.query.key.bits x × (found_of c.query.key.width c.query.nodes.now c.query.key.bits x.len ≡ shortest_on c.query.key.width c.query.nodes.now c.query.key.bits c.query.len)
  shortest_hit_on r x here before is =
      let m = shortest_met (sound c.query) c.on_path here before x is in
      (m.0, ap (option_and_then (found_of c.query.key.width c.query.nodes.now c.query.key.bits)) (sym m.1))

  pub shortest_last : (r : Option Hit) → r ≡ first_in c → none_below c.query c.depth → r ≡ None → EndsAt c → None ≡ shortest_on c.query.key.width c.query.nodes.now c.query.key.bits c.query.len
  shortest_last r here before none ends =
      ap (option_and_then (found_of c.query.key.width c.query.nodes.now c.query.key.bits)) (sym (shortest_end (sound c.query) c.on_path here before none ends))

module _ (q : Search) where
  pub longest_hit_on : (x : Hit) → Some x ≡ last_below q (suc q.len) → HitOn q.key.width q.nodes.now q.key.bits x × (found_of q.key.width q.nodes.now q.key.bits x.len ≡ longest_on q.key.width q.nodes.now q.key.bits q.len)
  longest_hit_on x e =
      let m = longest_met (sound q) q.short x e in
      (m.0, ap (option_and_then (found_of q.key.width q.nodes.now q.key.bits)) (sym m.1))

  pub longest_nothing : None ≡ last_below q (suc q.len) → None ≡ longest_on q.key.width q.nodes.now q.key.bits q.len
  longest_nothing e =
      ap (option_and_then (found_of q.key.width q.nodes.now q.key.bits)) (sym (mapped_none (hit_of q.key.width q.nodes.now q.key.bits) (highest (suc q.len) (has q.key.width q.nodes.now q.key.bits)) e))

-- at the end of the way, what is kept of all turns is the longest hit of the query
pub longest_whole : (q : Search) (c : Cursor) → c.query ≡ q → (r best o : Option Hit) → o ≡ option_or r best → r ≡ last_of c → best ≡ last_below c.query c.depth → EndsAt c → o ≡ last_below q (suc q.len)
longest_whole q c same r best o e here before ends =
    e ∙ subst (λ (x : Search). option_or r best ≡ last_below x (suc x.len)) same (longest_last c r best here before ends)

-- the same of a cursor of this query
module _ (q : Search) (c : Cursor) (same : c.query ≡ q) where
  pub at_in : c.at < length q.nodes.now
  at_in = subst (λ (x : Search). c.at < length x.nodes.now) same (in_list c)

  pub exact_none : EndsAt c → c.depth + 5 ≤ q.len → place_on q.key.width q.nodes.now q.key.bits q.len ≡ None
  exact_none ends h =
      sym (subst (λ (x : Search). None ≡ place_on x.key.width x.nodes.now x.key.bits x.len) same (exact_end c ends (omega (arith, h, ap (λ (x : Search). x.len) same))))

  pub exact_some : (p : Option ℕ) → p ≡ value_place q.nodes.now (slot_of q.key.width q.key.bits q.len c.at (q.len % 5)) → q.len < c.depth + 5 → p ≡ place_on q.key.width q.nodes.now q.key.bits q.len
  exact_some p e h =
      e
      ∙ subst (λ (x : Search). value_place x.nodes.now (slot_of x.key.width x.key.bits x.len c.at (x.len % 5)) ≡ place_on x.key.width x.nodes.now x.key.bits x.len) same
      (exact_here c (omega (arith, h, ap (λ (x : Search). x.len) same)))
