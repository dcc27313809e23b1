-- The first and the last of the entries that a key meets, by the lowest and the highest length that has a value, and so what a search answers.
use Rattle.std.proofs.Common.{◌≡◌, ℕ, zero, suc, ◌-◌, ◌^◌, ◌<◌, ◌≤◌, cond, T, List, [], ◌∷◌, ◌++◌, length, is_some, IfSome, Some, None, Option, sym, refl, ap, ◌∙◌, subst, append-nil, arith, MatchOption}
use Rattle.std.specs.Option.{option_and_then, option_map, option_or}
use Rattle.accept.specs.Images.{nodes_of, values_of, width_of}
use Rattle.accept.proofs.Images.{image_filled}
use Rattle.tree.specs.Levels.{data_ones}
use Rattle.accept.specs.declared.image.Image.{Image}
use Rattle.descent.proofs.Images.{answered, kind, sought, sound_with}
use Rattle.keys.specs.Blocks.{Block, block_of, cut, first_bits}
use Rattle.nodes.specs.declared.node.Node.{Node}
use Rattle.register.proofs.Hits.{covering_hits, exact_own, hit_start, hit_at, hits}
use Rattle.register.specs.Ways.{slot_at}
use Rattle.register.proofs.Laws.{register_exact, register_longest, register_shortest}
use Rattle.register.proofs.Values.{strip}
use Rattle.register.specs.Entries.{Entry, Held, exact, first_element, last_element, longest, shortest}
use Rattle.register.specs.Register.{Slot, entry_at, slot_entries, value_place, register}
use Rattle.slots.specs.Picks.{highest, lowest}
use Rattle.tree.specs.Meaning.{Sound}
use Rattle.descent.specs.Searches.{Sought, sought_by, sought_in}
use Rattle.descent.specs.declared.sought.Search.{Search}
use Rattle.descent.proofs.Picks.{Met, highest_met, lowest_met, mapped_mapped, mapped_or, or_none}
use Rattle.requests.specs.Requests.{block_and_place, entry_place, refusal, register_of, shown_block, unless_refused}
use Rattle.nodes.specs.Faults.{Outcome, given}
use Rattle.descent.specs.Way.{entry_of, found_of, has, longest_on, place_on, shortest_on}
use Rattle.descent.specs.declared.found.Found.{Found}

last_one : {A : Type 0} (xs : List A) (e : A) → last_element (xs ++ (e ∷ [])) ≡ Some e
last_one [] e = refl
last_one (x ∷ []) e = refl
last_one (x ∷ (y ∷ xs)) e = last_one (y ∷ xs) e

first_append : {A : Type 0} (xs ys : List A) → first_element (xs ++ ys) ≡ option_or (first_element xs) (first_element ys)
first_append [] ys = refl
first_append (x ∷ xs) ys = refl

or_some : {A B : Type 0} (f : A → B) (o : Option A) (p : Option B) → T (is_some o) → option_or (option_map f o) p ≡ option_map f o
or_some f None p h = absurd h
or_some f (Some x) p h = refl

-- an entry by its block and its place
abbrev pair_of : Entry ℕ → Block × ℕ
pair_of e = (e.block, e.item)

module _ (w : ℕ) (ns : List Node) (key : ℕ) where
  abbrev pair_at : ℕ → Option (Block × ℕ)
  pair_at n = option_map (λ p. (block_of w key n, p)) (place_on w ns key n)

  hit_list : (n : ℕ) → hit_at w ns key n ≡ entry_at w (w - n) (first_bits w n key) (place_on w ns key n)
  unfolding place_on
  hit_list n = by (slot_at w ns key n)
    where
      by : (o : Option Slot) → slot_entries w (w - n) ns (first_bits w n key) o ≡ entry_at w (w - n) (first_bits w n key) (option_and_then (value_place ns) o)
      by None = refl
      by (Some s) = refl

  pair_some : (n place : ℕ) → n ≤ w → ◌≡◌ {A = Block × ℕ} (record { address = cut w n key; len = w - (w - n) }, place) (block_of w key n, place)
  pair_some n place h =
      let back : w - (w - n) ≡ n = omega arith in
      ap (λ (k : ℕ). (record { address = cut w n key; len = k }, place)) back

  last_more : (n : ℕ) (xs : List (Entry ℕ)) → n ≤ w → option_map pair_of (last_element (xs ++ hit_at w ns key n)) ≡ option_or (pair_at n) (option_map pair_of (last_element xs))
  last_more n xs h = ap (λ (l : List (Entry ℕ)). option_map pair_of (last_element (xs ++ l))) (hit_list n) ∙ by (place_on w ns key n)
    where
      by : (o : Option ℕ) → option_map pair_of (last_element (xs ++ entry_at w (w - n) (first_bits w n key) o)) ≡ option_or (option_map (λ p. (block_of w key n, p)) o) (option_map pair_of (last_element xs))
      by None = ap (λ (l : List (Entry ℕ)). option_map pair_of (last_element l)) (append-nil xs)
      by (Some p) = ap (option_map pair_of) (last_one xs _) ∙ ap (λ (x : Block × ℕ). Some x) (pair_some n p h)

  first_hit : (n : ℕ) → n ≤ w → option_map pair_of (first_element (hit_at w ns key n)) ≡ pair_at n
  first_hit n h = ap (λ (l : List (Entry ℕ)). option_map pair_of (first_element l)) (hit_list n) ∙ by (place_on w ns key n)
    where
      by : (o : Option ℕ) → option_map pair_of (first_element (entry_at w (w - n) (first_bits w n key) o)) ≡ option_map (λ p. (block_of w key n, p)) o
      by None = refl
      by (Some p) = ap (λ (x : Block × ℕ). Some x) (pair_some n p h)

  first_more : (n : ℕ) (xs : List (Entry ℕ)) → n ≤ w → option_map pair_of (first_element (xs ++ hit_at w ns key n)) ≡ option_or (option_map pair_of (first_element xs)) (pair_at n)
  first_more n xs h =
      ap (option_map pair_of) (first_append xs (hit_at w ns key n))
      ∙ (sym (mapped_or pair_of (first_element xs) (first_element (hit_at w ns key n))) ∙ ap (option_or (option_map pair_of (first_element xs))) (first_hit n h))

  -- the pick of one more length
  one_more : (n : ℕ) (o : Option ℕ) → option_or (pair_at n) (option_and_then pair_at o) ≡ option_and_then pair_at (cond (has w ns key n) (Some n) o)
  unfolding has
  one_more n o = by (place_on w ns key n) refl
    where
      by : (p : Option ℕ) → place_on w ns key n ≡ p → option_or (option_map (λ x. (block_of w key n, x)) p) (option_and_then pair_at o) ≡ option_and_then pair_at (cond (is_some p) (Some n) o)
      by None e = refl
      by (Some x) e = sym (ap (option_map (λ (y : ℕ). (block_of w key n, y))) e)

  lowest_more : (n : ℕ) (o : Option ℕ) → Met n (has w ns key) o → option_or (option_and_then pair_at o) (pair_at n) ≡ option_and_then pair_at (option_or o (cond (has w ns key n) (Some n) None))
  unfolding has
  lowest_more n None met = or_none (pair_at n) ∙ one_more n None
  lowest_more n (Some m) met = or_some (λ (p : ℕ). (block_of w key m, p)) (place_on w ns key m) (pair_at n) met.1

  module _ (h : key < 2 ^ w) where
    last_hits : (n : ℕ) → n ≤ w → option_map pair_of (last_element (hits w ns key n)) ≡ option_and_then pair_at (highest (suc n) (has w ns key))
    unfolding highest
    last_hits zero l = ap (λ (es : List (Entry ℕ)). option_map pair_of (last_element es)) (sym (hit_start w key h ns)) ∙ (last_more 0 [] l ∙ one_more 0 None)
    last_hits (suc n) l =
        last_more (suc n) (hits w ns key n) l
        ∙ (ap (option_or (pair_at (suc n))) (last_hits n (omega arith)) ∙ one_more (suc n) (highest (suc n) (has w ns key)))

    first_hits : (n : ℕ) → n ≤ w → option_map pair_of (first_element (hits w ns key n)) ≡ option_and_then pair_at (lowest (suc n) (has w ns key))
    unfolding lowest
    first_hits zero l = ap (λ (es : List (Entry ℕ)). option_map pair_of (first_element es)) (sym (hit_start w key h ns)) ∙ (first_more 0 [] l ∙ lowest_more 0 None tt)
    first_hits (suc n) l =
        first_more (suc n) (hits w ns key n) l
        ∙ (ap (λ (o : Option (Block × ℕ)). option_or o (pair_at (suc n))) (first_hits n (omega arith)) ∙ lowest_more (suc n) (lowest (suc n) (has w ns key)) (lowest_met (suc n) (has w ns key)))

  -- what is found at a length is the entry of that length
  found_pair : (o : Option ℕ) → option_map (entry_of w key) (option_and_then (found_of w ns key) o) ≡ option_and_then pair_at o
  unfolding found_of
  found_pair None = refl
  found_pair (Some n) = mapped_mapped (λ (p : ℕ). record { place = p; len = n }) (entry_of w key) (place_on w ns key n)

  found_within : (n : ℕ) (o : Option ℕ) → Met (suc n) (has w ns key) o → IfSome (option_and_then (found_of w ns key) o) (λ f. f.len ≤ n)
  unfolding found_of
  found_within n None met = tt
  found_within n (Some m) met = by (place_on w ns key m)
    where
      by : (p : Option ℕ) → MatchOption {T = Found} (option_map (λ (x : ℕ). record { place = x; len = m }) p) (Unit {0}) (λ f. f.len ≤ n)
      by None = tt
      by (Some x) = omega (arith, met.0)

module _ {A : Type 0} (w : ℕ) (ns : List Node) (vs : List A) (called : ℕ) (sound : Sound w ns called) (room : called ≤ length vs) {key len : ℕ} (h : key < 2 ^ w) (l : len ≤ w) where
  pub exact_place : place_on w ns key len ≡ entry_place (exact (block_of w key len) (register w ns vs))
  exact_place = sym (
      sym (mapped_mapped strip (λ (e : Entry ℕ). e.item) (exact (block_of w key len) (register w ns vs)))
      ∙ (ap (option_map (λ (e : Entry ℕ). e.item)) (register_exact w ns vs called sound room (block_of w key len) ∙ ap first_element (exact_own w ns key len h l ∙ hit_list w ns key len))
      ∙ by (place_on w ns key len))
      )
    where
      by : (o : Option ℕ) → option_map (λ (e : Entry ℕ). e.item) (first_element (entry_at w (w - len) (first_bits w len key) o)) ≡ o
      by None = refl
      by (Some p) = refl

  -- a search that ends with a length's hit finds the longest or the shortest entry, by the length
  abbrev Finds : Option Found → Option (Entry (Held A)) → Type 0
  Finds r o = (option_map (entry_of w key) r ≡ block_and_place o) × IfSome r (λ f. f.len ≤ len)

  pub longest_found : (r : Option Found) → r ≡ option_and_then (found_of w ns key) (highest (suc len) (has w ns key)) → Finds r (longest w (block_of w key len) (register w ns vs))
  longest_found r e = subst (λ (x : Option Found). Finds x (longest w (block_of w key len) (register w ns vs))) (sym e) (
    found_pair w ns key (highest (suc len) (has w ns key))
        ∙ sym (
        sym (mapped_mapped strip pair_of (longest w (block_of w key len) (register w ns vs)))
        ∙ (ap (option_map pair_of) (register_longest w ns vs called sound room (block_of w key len) ∙ ap last_element (covering_hits w ns key len h l))
        ∙ last_hits w ns key h len l)
        ),
    found_within w ns key len (highest (suc len) (has w ns key)) (highest_met (suc len) (has w ns key)),
  )

  pub shortest_found : (r : Option Found) → r ≡ option_and_then (found_of w ns key) (lowest (suc len) (has w ns key)) → Finds r (shortest w (block_of w key len) (register w ns vs))
  shortest_found r e = subst (λ (x : Option Found). Finds x (shortest w (block_of w key len) (register w ns vs))) (sym e) (
    found_pair w ns key (lowest (suc len) (has w ns key))
        ∙ sym (
        sym (mapped_mapped strip pair_of (shortest w (block_of w key len) (register w ns vs)))
        ∙ (ap (option_map pair_of) (register_shortest w ns vs called sound room (block_of w key len) ∙ ap first_element (covering_hits w ns key len h l))
        ∙ first_hits w ns key h len l)
        ),
    found_within w ns key len (lowest (suc len) (has w ns key)) (lowest_met (suc len) (has w ns key)),
  )

shorter : (n m : ℕ) (r : Option Found) → n ≤ m → IfSome r (λ f. f.len ≤ n) → IfSome r (λ f. f.len ≤ m)
shorter n m None l h = tt
shorter n m (Some f) l h = omega (arith, h)

-- the same of the search s in an image, for the first n bits of a key of k bits
module _ {A : Type 0} (i : Image A) (k key n : ℕ) (s : Search) (is : given (sought_by s) ≡ unless_refused (refusal (width_of i) k n) (sought_in i key n)) where
  abbrev unrefused : {B : Type 0} → B → Outcome B
  unrefused x = unless_refused (refusal (width_of i) k n) x

  pub exact_answer : (p : Option ℕ) → p ≡ place_on s.key.width s.nodes.now s.key.bits s.len → given p ≡ unrefused (entry_place (exact (block_of (width_of i) key n) (register_of i)))
  exact_answer p e =
      answered i k key n s is (λ x. entry_place (exact (block_of x.width x.key x.len) (register x.width x.nodes (values_of i)))) p
      (e ∙ exact_place s.key.width s.nodes.now (values_of i) (data_ones (nodes_of i)) (sound_with i k key n s is) (image_filled i) s.below s.short)

  within : (o : Option ℕ) → Met (suc s.len) (has s.key.width s.nodes.now s.key.bits) o → (r : Option Found) → r ≡ option_and_then (found_of s.key.width s.nodes.now s.key.bits) o → IfSome r (λ f. f.len ≤ k)
  within o met r e =
      let wide : s.key.width ≡ k = ap (λ (x : Sought). x.width) (sought i k key n s is) ∙ sym (kind i k key n s is) in
      subst (λ (x : Option Found). IfSome x (λ f. f.len ≤ k)) (sym e)
      (shorter s.len k (option_and_then (found_of s.key.width s.nodes.now s.key.bits) o) (omega (arith, s.short, wide)) (found_within s.key.width s.nodes.now s.key.bits s.len o met))

  pub longest_within : (r : Option Found) → r ≡ longest_on s.key.width s.nodes.now s.key.bits s.len → IfSome r (λ f. f.len ≤ k)
  longest_within r e = within (highest (suc s.len) (has s.key.width s.nodes.now s.key.bits)) (highest_met (suc s.len) (has s.key.width s.nodes.now s.key.bits)) r e

  pub shortest_within : (r : Option Found) → r ≡ shortest_on s.key.width s.nodes.now s.key.bits s.len → IfSome r (λ f. f.len ≤ k)
  shortest_within r e = within (lowest (suc s.len) (has s.key.width s.nodes.now s.key.bits)) (lowest_met (suc s.len) (has s.key.width s.nodes.now s.key.bits)) r e

  -- what was made of what was found has its blocks
  module _ {P : Type 0} (raw shown : P → ℕ) (f : Option Found) (r : Option (P × ℕ))
      (made : option_map (λ (x : P × ℕ). (shown_block k raw shown x.0, x.1)) r ≡ option_map (entry_of k key) f) where
    blocks : option_map (λ (x : P × ℕ). (shown_block (width_of i) raw shown x.0, x.1)) r ≡ option_map (entry_of s.key.width s.key.bits) f
    blocks =
        let wide = kind i k key n s is in
        ap (λ (w : ℕ). option_map (λ (x : P × ℕ). (shown_block w raw shown x.0, x.1)) r) (sym wide)
        ∙ (made ∙ (ap (λ (w : ℕ). option_map (entry_of w key) f) wide
        ∙ ap (λ (x : Sought). option_map (entry_of x.width x.key) f) (sym (sought i k key n s is))))

    pub longest_answer : f ≡ longest_on s.key.width s.nodes.now s.key.bits s.len → given (option_map (λ (x : P × ℕ). (shown_block (width_of i) raw shown x.0, x.1)) r) ≡ unrefused (block_and_place (longest (width_of i) (block_of (width_of i) key n) (register_of i)))
    longest_answer e =
        answered i k key n s is (λ x. block_and_place (longest x.width (block_of x.width x.key x.len) (register x.width x.nodes (values_of i)))) _
        (blocks ∙ (longest_found s.key.width s.nodes.now (values_of i) (data_ones (nodes_of i)) (sound_with i k key n s is) (image_filled i) s.below s.short f e).0)

    pub shortest_answer : f ≡ shortest_on s.key.width s.nodes.now s.key.bits s.len → given (option_map (λ (x : P × ℕ). (shown_block (width_of i) raw shown x.0, x.1)) r) ≡ unrefused (block_and_place (shortest (width_of i) (block_of (width_of i) key n) (register_of i)))
    shortest_answer e =
        answered i k key n s is (λ x. block_and_place (shortest x.width (block_of x.width x.key x.len) (register x.width x.nodes (values_of i)))) _
        (blocks ∙ (shortest_found s.key.width s.nodes.now (values_of i) (data_ones (nodes_of i)) (sound_with i k key n s is) (image_filled i) s.below s.short f e).0)
