-- A turn of the two loops: what is picked so far, where the way goes on and where it ends.
use Rattle.std.proofs.Common.{◌≡◌, ℕ, suc, ◌+◌, ◌≤◌, Bool, List, Some, None, Option, sym, refl, ap, ◌∙◌, arith}
use Rattle.std.specs.Option.{option_map, option_or}
use Rattle.nodes.specs.declared.node.Node.{Node}
use Rattle.slots.specs.Picks.{highest, lowest}
use Rattle.tree.specs.Meaning.{Sound}
use Rattle.descent.proofs.Picks.{highest_met, highest_more, highest_stop, lowest_keeps, lowest_met, lowest_more, lowest_stop}
use Rattle.descent.proofs.Steps.{ended, hit_picked}
use Rattle.descent.specs.Way.{Ends, HitOn, LeadsTo, has, hit_of, tier_to}
use Rattle.descent.specs.declared.found.Hit.{Hit}

pub mapped_none : {A B : Type 0} (g : A → B) (o : Option A) → None ≡ option_map g o → o ≡ None
mapped_none g None e = refl
mapped_none g (Some x) e = absurd (let z : ◌≡◌ {A = ℕ} 0 1 = cc in omega arith)

-- the root is on every path
pub on_root : (w : ℕ) (ns : List Node) (key len : ℕ) → len ≤ w → LeadsTo w ns key len 0 0
on_root w ns key len h = record { short = h; whole = refl; reached = omega arith; slot = refl }

pub longest_met : {w : ℕ} {ns : List Node} {values : ℕ} (sound : Sound w ns values) {key len : ℕ} → len ≤ w → (x : Hit) → Some x ≡ option_map (hit_of w ns key) (highest (suc len) (has w ns key)) → HitOn w ns key x × (highest (suc len) (has w ns key) ≡ Some x.len)
longest_met {w} {ns} sound {key} {len} h x e = hit_picked sound (suc len) (highest (suc len) (has w ns key)) x (omega arith) (highest_met (suc len) (has w ns key)) e

module _ {w : ℕ} {ns : List Node} {values : ℕ} (sound : Sound w ns values) {key len at depth : ℕ} (on : LeadsTo w ns key len at depth) where
  abbrev hit : ℕ → Hit
  hit = hit_of w ns key

  abbrev met : ℕ → Bool
  met = has w ns key

  abbrev tier : ℕ
  tier = tier_to depth len

  module _ {r best : Option Hit} (here : r ≡ option_map hit (option_map (λ l. depth + l) (highest (suc tier) (λ l. met (depth + l))))) (before : best ≡ option_map hit (highest depth met)) where
    so_far : option_or r best ≡ option_map hit (highest (depth + suc tier) met)
    so_far = highest_more hit depth (suc tier) met r best here before

    pub longest_turn : depth + 5 ≤ len → option_or r best ≡ option_map hit (highest (depth + 5) met)
    longest_turn h =
        let e : suc tier ≡ 5 = omega arith in
        so_far ∙ ap (λ (k : ℕ). option_map hit (highest (depth + k) met)) e

    pub longest_end : Ends w ns key len depth → option_or r best ≡ option_map hit (highest (suc len) met)
    longest_end ends =
        so_far ∙ ap (option_map hit) (highest_stop (depth + suc tier) (suc len) met (omega (arith, on.reached)) (ended sound on ends))

  module _ {r : Option Hit} (here : r ≡ option_map hit (option_map (λ l. depth + l) (lowest (suc tier) (λ l. met (depth + l))))) (before : lowest depth met ≡ None) where
    first_so_far : r ≡ option_map hit (lowest (depth + suc tier) met)
    first_so_far = lowest_more hit depth (suc tier) met r here before

    pub shortest_turn : r ≡ None → depth + 5 ≤ len → lowest (depth + 5) met ≡ None
    shortest_turn none h =
        let e : 5 ≡ suc tier = omega arith in
        ap (λ (k : ℕ). lowest (depth + k) met) e ∙ mapped_none hit (lowest (depth + suc tier) met) (sym none ∙ first_so_far)

    pub shortest_end : r ≡ None → Ends w ns key len depth → lowest (suc len) met ≡ None
    shortest_end none ends =
        sym (lowest_stop (depth + suc tier) (suc len) met (omega (arith, on.reached)) (ended sound on ends))
        ∙ mapped_none hit (lowest (depth + suc tier) met) (sym none ∙ first_so_far)

    pub shortest_met : (x : Hit) → r ≡ Some x → HitOn w ns key x × (lowest (suc len) met ≡ Some x.len)
    shortest_met x e =
        let p = hit_picked sound (depth + suc tier) (lowest (depth + suc tier) met) x (omega (arith, on.short, on.reached)) (lowest_met (depth + suc tier) met) (sym e ∙ first_so_far) in
        (p.0, lowest_keeps (depth + suc tier) (suc len) x.len met (omega (arith, on.reached)) p.1)
