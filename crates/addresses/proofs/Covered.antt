-- Which blocks a register covers: one that a set spot leads to or past, and otherwise one whose spot's size is all of its addresses.
use Rattle.std.proofs.Common.{◌≡◌, ℕ, zero, suc, ◌+◌, ◌-◌, ◌*◌, ◌/◌, ◌%◌, ◌^◌, ◌<◌, ◌≤◌, Bool, true, false, ◌||◌, eqb, List, length, Some, None, Option, sym, refl, ap, ◌∙◌, inl, inr, arith}
use native.Mathlib.Nat.{div-eq_of_lt}
use Rattle.std.proofs.lemmas.Bool.{cases_eq, or_right}
use Rattle.keys.specs.Blocks.{Block, first_bits, cut, block_of}
use Rattle.nodes.specs.declared.node.Node.{Node}
use Rattle.tree.specs.Meaning.{Sound}
use Rattle.register.specs.Entries.{Entry}
use Rattle.register.specs.Register.{Slot, step_slot, slot_entries, entries_below, places, register}
use Rattle.register.proofs.Hits.{later, hit_at}
use Rattle.register.proofs.Under.{half}
use Rattle.addresses.specs.Addresses.{matched, covered}
use Rattle.addresses.specs.Sizes.{set_at, size}
use Rattle.addresses.proofs.Counts.{each_count, each_from, each_same}
use Rattle.addresses.proofs.Matched.{matched_register}
use Rattle.addresses.proofs.Sizes.{range_bits, own_clear, below_matched, lower_half, upper_half, count_below}
use Rattle.register.specs.Ways.{slot_at}

-- the entries below the spot that the key's first m bits lead to
abbrev pub rest : ℕ → List Node → ℕ → ℕ → List (Entry ℕ)
rest w ns key m = entries_below w (w - m) ns (first_bits w m key) (slot_at w ns key m)

rest_whole : (w : ℕ) (ns : List Node) (key : ℕ) → key < 2 ^ w → rest w ns key 0 ≡ places w ns
rest_whole w ns key h = let e : w - 0 ≡ w = omega arith in rw (e, div-eq_of_lt h) refl

-- of an address that goes the key's way
module _ (w : ℕ) (ns : List Node) (key x : ℕ) where
  bit_down : (r : ℕ) (s : Option Slot) → suc r ≤ w → x / 2 ^ r ≡ key / 2 ^ r
      → matched w (entries_below w (suc r) ns (key / 2 ^ suc r) s) x
      ≡ (matched w (slot_entries w (suc r) ns (key / 2 ^ suc r) s) x || matched w (entries_below w r ns (key / 2 ^ r) (step_slot ns (key / 2 ^ r % 2) s)) x)
  bit_down r s h agree =
      let a : ℕ = key / 2 ^ suc r in
      let q : ℕ = key / 2 ^ r in
      let here : Bool = matched w (slot_entries w (suc r) ns a s) x in
      let e : a ≡ q / 2 = half key r in
      elim (cases_eq (q % 2) 0) [
        | inl z ↦ (let c : 2 * a ≡ q = omega arith in
            lower_half w r ns a s x h (agree ∙ sym c)
            ∙ ap (λ b. here || b) (ap (λ k. matched w (entries_below w r ns k (step_slot ns 0 s)) x) c ∙ ap (λ k. matched w (entries_below w r ns q (step_slot ns k s)) x) (sym z)))
        | inr o ↦ (let z : q % 2 ≡ 1 = omega arith in
            let c : 2 * a + 1 ≡ q = omega arith in
            upper_half w r ns a s x h (agree ∙ sym c)
            ∙ ap (λ b. here || b) (ap (λ k. matched w (entries_below w r ns k (step_slot ns 1 s)) x) c ∙ ap (λ k. matched w (entries_below w r ns q (step_slot ns k s)) x) (sym z)))
      ]

  module _ (n : ℕ) (l : n ≤ w) (agree : first_bits w n x ≡ first_bits w n key) where
    rest_on : (m : ℕ) → m < n → matched w (rest w ns key m) x ≡ (matched w (hit_at w ns key m) x || matched w (rest w ns key (suc m)) x)
    rest_on m h =
        let e : w - m ≡ suc (w - suc m) = omega arith in
        rw e (bit_down (w - suc m) (slot_at w ns key m) (omega arith) (later (w - n) (w - suc m) x key (omega arith) agree))

    -- what is matched further on is matched from the start
    rest_matched : key < 2 ^ w → (m : ℕ) → m ≤ n → matched w (rest w ns key m) x ≡ true → matched w (places w ns) x ≡ true
    rest_matched h zero d t = ap (λ (es : List (Entry ℕ)). matched w es x) (sym (rest_whole w ns key h)) ∙ t
    rest_matched h (suc m) d t =
        rest_matched h m (omega arith) (rest_on m (omega arith) ∙ or_right (matched w (hit_at w ns key m) x) _ t)

    set_matched : key < 2 ^ w → (m : ℕ) → m ≤ n → (s : Slot) → slot_at w ns key m ≡ Some s → set_at ns s ≡ true → matched w (places w ns) x ≡ true
    set_matched h m d s at t =
        rest_matched h m d (
        ap (λ (o : Option Slot). matched w (entries_below w (w - m) ns (first_bits w m key) o) x) at
        ∙ below_matched w (w - m) ns (first_bits w m key) s x (omega arith) (later (w - n) (w - m) x key (omega arith) agree) t
        )

    module _ (h : key < 2 ^ w) (clear : (m : ℕ) → m < n → (s : Slot) → slot_at w ns key m ≡ Some s → set_at ns s ≡ false) where
      hit_none : (m : ℕ) → m < n → matched w (hit_at w ns key m) x ≡ false
      hit_none m d = by (slot_at w ns key m) (clear m d)
        where
          by : (o : Option Slot) → ((s : Slot) → o ≡ Some s → set_at ns s ≡ false) → matched w (slot_entries w (w - m) ns (first_bits w m key) o) x ≡ false
          by None c = refl
          by (Some s) c = ap (λ (es : List (Entry ℕ)). matched w es x) (own_clear w (w - m) ns (first_bits w m key) s (c s refl))

      -- with no set spot before it, all that is matched is matched below the spot of the first m bits
      rest_same : (m : ℕ) → m ≤ n → matched w (places w ns) x ≡ matched w (rest w ns key m) x
      rest_same zero d = ap (λ (es : List (Entry ℕ)). matched w es x) (sym (rest_whole w ns key h))
      rest_same (suc m) d =
          rest_same m (omega arith) ∙ (rest_on m (omega arith) ∙ ap (λ b. b || matched w (rest w ns key (suc m)) x) (hit_none m (omega arith)))

module _ (w : ℕ) (ns : List Node) where
  pub entry_covers : (key n m : ℕ) → key < 2 ^ w → n ≤ w → m ≤ n → (s : Slot) → slot_at w ns key m ≡ Some s → set_at ns s ≡ true → covered w (block_of w key n) (places w ns) ≡ true
  entry_covers key n m h l d s at t =
      each_from (matched w (places w ns)) (cut w n key) (2 ^ (w - n))
      (λ x low up. set_matched w ns key x n l (range_bits (w - n) (first_bits w n key) x low up) h m d s at t)

  pub block_size : (key n : ℕ) → key < 2 ^ w → n ≤ w → ((m : ℕ) → m < n → (s : Slot) → slot_at w ns key m ≡ Some s → set_at ns s ≡ false)
      → covered w (block_of w key n) (places w ns) ≡ eqb (size (w - n) ns (slot_at w ns key n)) (2 ^ (w - n))
  block_size key n h l clear =
      each_same (matched w (places w ns)) (matched w (rest w ns key n)) (cut w n key) (2 ^ (w - n))
      (λ x low up. rest_same w ns key x n l (range_bits (w - n) (first_bits w n key) x low up) h clear n (omega arith))
      ∙ (each_count (matched w (rest w ns key n)) (cut w n key) (2 ^ (w - n))
      ∙ ap (λ k. eqb k (2 ^ (w - n))) (count_below w (w - n) ns (first_bits w n key) (slot_at w ns key n) (omega arith)))

-- the register covers what the entries with their places do
pub covered_register : {A : Type 0} (w : ℕ) (ns : List Node) (vs : List A) (called : ℕ) → Sound w ns called → called ≤ length vs → (b : Block) → covered w b (register w ns vs) ≡ covered w b (places w ns)
covered_register w ns vs called sound room b =
    each_same (matched w (register w ns vs)) (matched w (places w ns)) b.address (2 ^ (w - b.len)) (λ x low up. matched_register w ns vs called sound room x)
