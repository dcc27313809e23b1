-- How many addresses under a spot are matched by the entries below it: its size, which is no more than there are.
use Rattle.std.proofs.Common.{◌≡◌, ℕ, zero, suc, ◌+◌, ◌-◌, ◌*◌, ◌/◌, ◌^◌, ◌<◌, ◌≤◌, Bool, true, false, ◌||◌, leb, List, [], ◌∷◌, ◌++◌, length, Some, None, Option, sym, refl, ap, ◌∙◌, inl, inr, arith, pow-suc}
use lib.Pow.{shl-shr}
use native.Mathlib.Nat.{div-eq_of_lt-le}
use Rattle.std.proofs.ByRecursion.{All-weaker}
use Rattle.std.proofs.lemmas.Bool.{cases_Bool, and_parts, and_from, or_left, le-leb, eq-eqb, eqb-true, cond-true, cond-false, cond_both, false_from_ne_true}
use Rattle.keys.specs.Blocks.{Block, cut, block_of, contains}
use Rattle.nodes.specs.Bitmaps.{ones_below}
use Rattle.nodes.specs.declared.node.Node.{Node}
use Rattle.tree.specs.Levels.{node_at}
use Rattle.tree.specs.Meaning.{Sound}
use Rattle.register.specs.Entries.{Entry}
use Rattle.register.specs.Register.{Slot, root, next_slot, step_slot, entry_at, slot_entries, entries_below, places, register, slot_bit}
use Rattle.register.proofs.Hits.{later}
use Rattle.register.proofs.Under.{block_at, Under, under_below}
use Rattle.addresses.specs.Addresses.{matched, matched_addresses}
use Rattle.addresses.specs.Sizes.{set_at, size}
use Rattle.addresses.proofs.Counts.{count, count_add, count_false, count_same, count_true}
use Rattle.addresses.proofs.Matched.{has, matched_append, matched_none, matched_register}
use Rattle.std.specs.Bool.{then_some}

size_none : (r : ℕ) (ns : List Node) → size r ns None ≡ 0
size_none zero ns = refl
size_none (suc r) ns = refl

pub size_le : (r : ℕ) (ns : List Node) (s : Option Slot) → size r ns s ≤ 2 ^ r
size_le r ns None = omega (arith, size_none r ns)
size_le zero ns (Some s) = cond_both (set_at ns s) 1 0 (λ n. n ≤ 2 ^ 0) (λ _. omega arith) (λ _. omega arith)
size_le (suc r) ns (Some s) =
    cond_both (set_at ns s) (2 ^ suc r) (size r ns (next_slot ns 0 s) + size r ns (next_slot ns 1 s)) (λ n. n ≤ 2 ^ suc r)
    (λ _. omega arith)
    (λ _. omega (arith, pow-suc 2 r, size_le r ns (next_slot ns 0 s), size_le r ns (next_slot ns 1 s)))

pub cut_whole : (w x : ℕ) → cut w w x ≡ x
cut_whole w x = let e : w - w ≡ 0 = omega arith in rw e (omega arith)

-- the addresses from c * 2^r on, 2^r of them, begin with the bits c
pub range_bits : (r c x : ℕ) → c * 2 ^ r ≤ x → x < c * 2 ^ r + 2 ^ r → x / 2 ^ r ≡ c
range_bits r c x l u = div-eq_of_lt-le (2 ^ r) (omega arith) (omega arith)

-- an address in a block under the bits a begins with them
contains_under : (w r a x : ℕ) (b : Block) → Under w r a b → contains w b (block_of w x w) ≡ true → x / 2 ^ r ≡ a
contains_under w r a x b u t =
    let agree : b.address / 2 ^ (w - b.len) ≡ cut w w x / 2 ^ (w - b.len) = eqb-true _ _ (and_parts (leb b.len w) _ t).1 in
    sym (sym u.3 ∙ (later (w - b.len) r b.address (cut w w x) (omega (arith, u.0)) agree ∙ ap (λ (k : ℕ). k / 2 ^ r) (cut_whole w x)))

contains_at : (w r a x : ℕ) → r ≤ w → x / 2 ^ r ≡ a → contains w (block_at w r a) (block_of w x w) ≡ true
contains_at w r a x h e =
    let back : w - (w - r) ≡ r = omega arith in
    and_from _ _ (le-leb (w - r) w (omega arith))
    (eq-eqb _ _ (rw back (shl-shr a r ∙ (sym e ∙ ap (λ (k : ℕ). k / 2 ^ r) (sym (cut_whole w x))))))

none_below : (w r : ℕ) (ns : List Node) (a : ℕ) → entries_below w r ns a None ≡ []
none_below w zero ns a = refl
none_below w (suc r) ns a = rw (none_below w r ns (2 * a), none_below w r ns (2 * a + 1)) refl

-- what is below the bits a matches no address that begins otherwise
none_apart : (w r : ℕ) (ns : List Node) (a : ℕ) (s : Option Slot) (x : ℕ) → r ≤ w → (x / 2 ^ r ≡ a → ⊥) → matched w (entries_below w r ns a s) x ≡ false
none_apart w r ns a s x h ne =
    matched_none w x (entries_below w r ns a s)
    (All-weaker (λ (e : Entry ℕ). Under w r a e.block) (λ e. has w x e ≡ false)
    (λ e u. false_from_ne_true (has w x e) (λ t. ne (contains_under w r a x e.block u t)))
    (entries_below w r ns a s) (under_below w r ns a s h))

module _ (w r : ℕ) (ns : List Node) (a : ℕ) (s : Slot) where
  pub own_clear : set_at ns s ≡ false → slot_entries w r ns a (Some s) ≡ []
  own_clear z = ap (λ t. entry_at w r a (then_some t ((node_at ns s.node).data_idx + ones_below (slot_bit s) (node_at ns s.node).data_bitmap))) z

  -- a set spot's own entry matches each address that begins with its bits
  own_matched : (x : ℕ) → r ≤ w → x / 2 ^ r ≡ a → set_at ns s ≡ true → matched w (slot_entries w r ns a (Some s)) x ≡ true
  own_matched x h e t =
      let place : ℕ = (node_at ns s.node).data_idx + ones_below (slot_bit s) (node_at ns s.node).data_bitmap in
      let q : slot_entries w r ns a (Some s) ≡ record { block = block_at w r a; item = place } ∷ [] = ap (λ b. entry_at w r a (then_some b place)) t in
      ap (λ (l : List (Entry ℕ)). matched w l x) q
      ∙ or_left _ _ (contains_at w r a x h e)

pub below_matched : (w r : ℕ) (ns : List Node) (a : ℕ) (s : Slot) (x : ℕ) → r ≤ w → x / 2 ^ r ≡ a → set_at ns s ≡ true → matched w (entries_below w r ns a (Some s)) x ≡ true
below_matched w zero ns a s x h e t = own_matched w 0 ns a s x h e t
below_matched w (suc r) ns a s x h e t =
    matched_append w x (slot_entries w (suc r) ns a (Some s)) (entries_below w r ns (2 * a) (step_slot ns 0 (Some s)) ++ entries_below w r ns (2 * a + 1) (step_slot ns 1 (Some s)))
    ∙ or_left _ _ (own_matched w (suc r) ns a s x h e t)

or_false : (b : Bool) → (b || false) ≡ b
or_false true = refl
or_false false = refl

-- an address under a spot is matched by the spot's own entry, or by those of the half that it is in
module _ (w r : ℕ) (ns : List Node) (a : ℕ) (s : Option Slot) (x : ℕ) (h : suc r ≤ w) where
  halves : matched w (entries_below w (suc r) ns a s) x ≡ (matched w (slot_entries w (suc r) ns a s) x || (matched w (entries_below w r ns (2 * a) (step_slot ns 0 s)) x || matched w (entries_below w r ns (2 * a + 1) (step_slot ns 1 s)) x))
  halves =
      matched_append w x (slot_entries w (suc r) ns a s) (entries_below w r ns (2 * a) (step_slot ns 0 s) ++ entries_below w r ns (2 * a + 1) (step_slot ns 1 s))
      ∙ ap (λ b. matched w (slot_entries w (suc r) ns a s) x || b) (matched_append w x (entries_below w r ns (2 * a) (step_slot ns 0 s)) (entries_below w r ns (2 * a + 1) (step_slot ns 1 s)))

  pub lower_half : x / 2 ^ r ≡ 2 * a → matched w (entries_below w (suc r) ns a s) x ≡ (matched w (slot_entries w (suc r) ns a s) x || matched w (entries_below w r ns (2 * a) (step_slot ns 0 s)) x)
  lower_half e =
      let none : matched w (entries_below w r ns (2 * a + 1) (step_slot ns 1 s)) x ≡ false = none_apart w r ns (2 * a + 1) (step_slot ns 1 s) x (omega arith) (λ q. omega arith) in
      halves ∙ ap (λ b. matched w (slot_entries w (suc r) ns a s) x || b)
      (ap (λ b. matched w (entries_below w r ns (2 * a) (step_slot ns 0 s)) x || b) none ∙ or_false (matched w (entries_below w r ns (2 * a) (step_slot ns 0 s)) x))

  pub upper_half : x / 2 ^ r ≡ 2 * a + 1 → matched w (entries_below w (suc r) ns a s) x ≡ (matched w (slot_entries w (suc r) ns a s) x || matched w (entries_below w r ns (2 * a + 1) (step_slot ns 1 s)) x)
  upper_half e =
      let none : matched w (entries_below w r ns (2 * a) (step_slot ns 0 s)) x ≡ false = none_apart w r ns (2 * a) (step_slot ns 0 s) x (omega arith) (λ q. omega arith) in
      halves ∙ ap (λ b. matched w (slot_entries w (suc r) ns a s) x || (b || matched w (entries_below w r ns (2 * a + 1) (step_slot ns 1 s)) x)) none

count_halves : (f : ℕ → Bool) (a r : ℕ) → count f (a * 2 ^ suc r) (2 ^ suc r) ≡ count f (2 * a * 2 ^ r) (2 ^ r) + count f ((2 * a + 1) * 2 ^ r) (2 ^ r)
count_halves f a r =
    let p : 2 ^ suc r ≡ 2 ^ r + 2 ^ r = omega (arith, pow-suc 2 r) in
    let l : a * (2 ^ r + 2 ^ r) ≡ 2 * a * 2 ^ r = omega arith in
    let u : 2 * a * 2 ^ r + 2 ^ r ≡ (2 * a + 1) * 2 ^ r = omega arith in
    ap (λ n. count f (a * n) n) p ∙ (ap (λ k. count f k (2 ^ r + 2 ^ r)) l ∙ (count_add f (2 * a * 2 ^ r) (2 ^ r) (2 ^ r) ∙ ap (λ k. count f (2 * a * 2 ^ r) (2 ^ r) + count f k (2 ^ r)) u))

-- the addresses that begin with the bits a and are matched below them
pub count_below : (w r : ℕ) (ns : List Node) (a : ℕ) (s : Option Slot) → r ≤ w → count (matched w (entries_below w r ns a s)) (a * 2 ^ r) (2 ^ r) ≡ size r ns s
count_below w r ns a None h =
    count_false (matched w (entries_below w r ns a None)) (a * 2 ^ r) (2 ^ r) (λ x l u. ap (λ (es : List (Entry ℕ)). matched w es x) (none_below w r ns a)) ∙ sym (size_none r ns)
count_below w zero ns a (Some s) h =
    elim (cases_Bool (set_at ns s)) [
      | inl t ↦ (
          count_true (matched w (entries_below w 0 ns a (Some s))) (a * 2 ^ 0) (2 ^ 0) (λ x l u. below_matched w 0 ns a s x h (range_bits 0 a x l u) t)
          ∙ sym (cond-true {A = ℕ} (set_at ns s) 1 0 t)
          )
      | inr z ↦ (
          count_false (matched w (entries_below w 0 ns a (Some s))) (a * 2 ^ 0) (2 ^ 0) (λ x l u. ap (λ (es : List (Entry ℕ)). matched w es x) (own_clear w 0 ns a s z))
          ∙ sym (cond-false {A = ℕ} (set_at ns s) 1 0 z)
          )
    ]
count_below w (suc r) ns a (Some s) h =
    let all : ℕ → Bool = matched w (entries_below w (suc r) ns a (Some s)) in
    let lower : ℕ → Bool = matched w (entries_below w r ns (2 * a) (next_slot ns 0 s)) in
    let upper : ℕ → Bool = matched w (entries_below w r ns (2 * a + 1) (next_slot ns 1 s)) in
    elim (cases_Bool (set_at ns s)) [
      | inl t ↦ (
          count_true all (a * 2 ^ suc r) (2 ^ suc r) (λ x l u. below_matched w (suc r) ns a s x h (range_bits (suc r) a x l u) t)
          ∙ sym (cond-true (set_at ns s) (2 ^ suc r) (size r ns (next_slot ns 0 s) + size r ns (next_slot ns 1 s)) t)
          )
      | inr z ↦ (
          let clear : (x : ℕ) → matched w (slot_entries w (suc r) ns a (Some s)) x ≡ false = λ x. ap (λ (es : List (Entry ℕ)). matched w es x) (own_clear w (suc r) ns a s z) in
          let low : count all (2 * a * 2 ^ r) (2 ^ r) ≡ size r ns (next_slot ns 0 s) =
          count_same all lower (2 * a * 2 ^ r) (2 ^ r) (λ x l u. lower_half w r ns a (Some s) x h (range_bits r (2 * a) x l u) ∙ ap (λ b. b || lower x) (clear x))
          ∙ count_below w r ns (2 * a) (next_slot ns 0 s) (omega arith) in
          let up : count all ((2 * a + 1) * 2 ^ r) (2 ^ r) ≡ size r ns (next_slot ns 1 s) =
          count_same all upper ((2 * a + 1) * 2 ^ r) (2 ^ r) (λ x l u. upper_half w r ns a (Some s) x h (range_bits r (2 * a + 1) x l u) ∙ ap (λ b. b || upper x) (clear x))
          ∙ count_below w r ns (2 * a + 1) (next_slot ns 1 s) (omega arith) in
          count_halves all a r ∙ (rw (low, up) refl ∙ sym (cond-false (set_at ns s) (2 ^ suc r) (size r ns (next_slot ns 0 s) + size r ns (next_slot ns 1 s)) z))
          )
    ]

pub count_matched : {A : Type 0} (w : ℕ) (ns : List Node) (vs : List A) (called : ℕ) → Sound w ns called → called ≤ length vs → matched_addresses w (register w ns vs) ≡ size w ns (Some root)
count_matched w ns vs called sound room =
    let z : 0 * 2 ^ w ≡ 0 = omega arith in
    count_same (matched w (register w ns vs)) (matched w (places w ns)) 0 (2 ^ w) (λ x l u. matched_register w ns vs called sound room x)
    ∙ (ap (λ k. count (matched w (places w ns)) k (2 ^ w)) (sym z) ∙ count_below w w ns 0 (Some root) (omega arith))
