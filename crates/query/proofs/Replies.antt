-- The entry that a search found is the register's, with the value at its place.
use Rattle.std.proofs.Common.{◌≡◌, ℕ, ◌%◌, ◌^◌, ◌<◌, ◌≤◌, min, Bool, true, false, cond, eqb, leb, ltb, Some, None, Option, sym, refl, ap, ◌∙◌, ⊎_elim, arith}
use Rattle.std.proofs.lemmas.Bool.{and_parts, cases_Bool, cases_lt, cond-false, eqb-true, lt-leb, ltb-true}
use Rattle.std.specs.Option.{option_map}
use native.Mathlib.Nat.{mod-eq_of_lt}
use Rattle.accept.specs.Images.{nodes_of, values_of, width_of}
use Rattle.accept.specs.declared.image.Image.{Image}
use Rattle.keys.specs.Blocks.{Block, block_of}
use Rattle.requests.proofs.Refusals.{apart}
use Rattle.requests.specs.Requests.{block_and_place, refusal, register_of, unless_refused, value_answer, value_of}
use Rattle.nodes.specs.Faults.{Outcome, given, refused}
use Rattle.register.specs.Entries.{Entry, Held, longest}
use Rattle.register.specs.Laws.{MatchLaws, RegisterLaws}
use Rattle.query.specs.Replies.{belongs, match_of, query_len, query_outcome}
use Rattle.query.specs.declared.address.Style.{Style}
use Rattle.query.specs.declared.address.Style.TheVariants.{Number, Quad}
use Rattle.query.specs.declared.query.Query.{Query}
use Rattle.query.specs.declared.reply.Match.{Match}
use Rattle.query.specs.declared.site.Site.{Site}

-- the last bits of a key that fits are the key
pub narrowed : (w k : ℕ) (st : Style) → belongs w st k ≡ true → (belongs w st k ≡ true) × (k % 2 ^ w ≡ k)
narrowed w k Number e = (e, mod-eq_of_lt (ltb-true k (2 ^ w) e))
narrowed w k Quad e = (e, mod-eq_of_lt (ltb-true k (2 ^ w) (and_parts (ltb k (2 ^ w)) (eqb w 32) e).0))

same_refusal : {A : Type 0} (b : Bool) (x y : A) → unless_refused (cond b (Some 12) (Some 13)) x ≡ unless_refused (cond b (Some 12) (Some 13)) y
same_refusal true x y = refl
same_refusal false x y = refl

-- a length past 255 is refused as 255 is
len_capped : {A : Type 0} (iw w n : ℕ) (f : ℕ → A) → iw ≤ 64
    → unless_refused (refusal iw w (min n 255 % 2 ^ 8)) (f (min n 255 % 2 ^ 8)) ≡ unless_refused (refusal iw w n) (f n)
len_capped iw w n f h =
    ⊎_elim
    (λ (k : n < 256). let same : min n 255 % 2 ^ 8 ≡ n = omega arith in ap (λ (m : ℕ). unless_refused (refusal iw w m) (f m)) same)
    (λ (k : 256 ≤ n).
    let short : leb (min n 255 % 2 ^ 8) iw ≡ false = lt-leb (min n 255 % 2 ^ 8) iw (omega arith) in
    let long : leb n iw ≡ false = lt-leb n iw (omega arith) in
    ap (λ (b : Bool). unless_refused (cond (eqb w iw) (cond b None (Some 12)) (Some 13)) (f (min n 255 % 2 ^ 8))) short
    ∙ same_refusal (eqb w iw) (f (min n 255 % 2 ^ 8)) (f n)
    ∙ ap (λ (b : Bool). unless_refused (cond (eqb w iw) (cond b None (Some 12)) (Some 13)) (f n)) (sym long))
    (cases_lt n 256)

given_one : {A : Type 0} (x y : A) → given x ≡ given y → x ≡ y
given_one x y e = cc

none_some : {A : Type 0} (x : A) → None ≡ Some x → ⊥
none_some x e = let z : ◌≡◌ {A = ℕ} 0 1 = cc in omega arith

not_refused : (iw w n : ℕ) → refusal iw w n ≡ None → w ≡ iw
not_refused iw w n e =
    ⊎_elim (λ t. eqb-true w iw t) (λ t. absurd (none_some {A = ℕ} 13 (sym e ∙ cond-false (eqb w iw) _ _ t))) (cases_Bool (eqb w iw))

unless_given : {A : Type 0} (r : Option ℕ) (x y : A) → given x ≡ unless_refused r y → (r ≡ None) × (x ≡ y)
unless_given None x y e = (refl, cc)
unless_given (Some j) x y e = absurd (apart x j e)

-- an answer at the image's width is one at the query's, since it is refused where they differ
same_width : {A : Type 0} (iw w n : ℕ) (f : ℕ → A) → unless_refused (refusal iw w n) (f iw) ≡ unless_refused (refusal iw w n) (f w)
same_width iw w n f =
    ⊎_elim
    (λ t. ap (λ (v : ℕ). unless_refused (refusal iw w n) (f v)) (sym (eqb-true w iw t)))
    (λ t. ap (λ (r : Option ℕ). unless_refused r (f iw)) (cond-false (eqb w iw) (cond (leb n iw) None (Some 12)) (Some 13) t)
    ∙ ap (λ (r : Option ℕ). unless_refused r (f w)) (sym (cond-false (eqb w iw) (cond (leb n iw) None (Some 12)) (Some 13) t)))
    (cases_Bool (eqb w iw))

make_match : Style → ℕ → ℕ → ℕ → Site → Match
make_match s k l p v = record { address = record { style = s; key = k }; len = l; place = p; site = v }

match_is : (x : Match) → make_match x.address.style x.address.key x.len x.place x.site ≡ x
unfolding make_match
match_is x = refl

match_of_is : (s : Style) (e : Entry (Held Site)) → make_match s e.block.address e.block.len e.item.place e.item.value ≡ match_of s e
unfolding make_match
match_of_is s e = refl

-- the query q on the image i, whose search went for the key k and the length m
module _ (i : Image Site) (w : ℕ) (q : Query) (k m : ℕ) (key : k ≡ q.address.key) (len : m ≡ min (query_len w q) 255) where
  abbrev wanted : ℕ → Option (Entry (Held Site))
  wanted n = longest (width_of i) (block_of (width_of i) q.address.key n) (register_of i)

  abbrev pub refused_by : Option ℕ
  refused_by = refusal (width_of i) w (query_len w q)

  abbrev pub searched : Outcome (Option (Block × ℕ))
  searched =
      unless_refused (refusal (width_of i) w (m % 2 ^ 8))
      (block_and_place (longest (width_of i) (block_of (width_of i) k (m % 2 ^ 8)) (register_of i)))

  searched_is : searched ≡ unless_refused refused_by (block_and_place (wanted (query_len w q)))
  searched_is =
      ap (λ (a : ℕ). unless_refused (refusal (width_of i) w (m % 2 ^ 8)) (block_and_place (longest (width_of i) (block_of (width_of i) a (m % 2 ^ 8)) (register_of i)))) key
      ∙ ap (λ (n : ℕ). unless_refused (refusal (width_of i) w (n % 2 ^ 8)) (block_and_place (wanted (n % 2 ^ 8)))) len
      ∙ len_capped (width_of i) w (query_len w q) (λ n. block_and_place (wanted n)) i.narrow

  outcome_is : query_outcome w i q ≡ unless_refused refused_by (option_map (match_of q.address.style) (wanted (query_len w q)))
  outcome_is =
      sym (same_width (width_of i) w (query_len w q)
      (λ v. option_map (match_of q.address.style) (longest (width_of i) (block_of v q.address.key (query_len w q)) (register_of i))))

  -- the block b at the place p, which the search found
  module _ (laws : RegisterLaws (width_of i) (nodes_of i) (values_of i)) (matches : MatchLaws (width_of i) (register_of i)) (b : Block) (p : ℕ)
      (h : given (Some (b, p)) ≡ searched) where
    u : (refused_by ≡ None) × (Some (b, p) ≡ block_and_place (wanted (query_len w q)))
    u = unless_given refused_by (Some (b, p)) (block_and_place (wanted (query_len w q))) (h ∙ searched_is)

    held : (e : Entry (Held Site)) × (wanted (query_len w q) ≡ Some e) × (e.block ≡ b) × (e.item.place ≡ p) × (value_of i p ≡ Some e.item.value)
    held = by (wanted (query_len w q)) refl u.1
      where
        by : (o : Option (Entry (Held Site))) → wanted (query_len w q) ≡ o → Some (b, p) ≡ block_and_place o
            → (e : Entry (Held Site)) × (o ≡ Some e) × (e.block ≡ b) × (e.item.place ≡ p) × (value_of i p ≡ Some e.item.value)
        by None g d = absurd (none_some (b, p) (sym d))
        by (Some x) g d =
            let pair : ◌≡◌ {A = Block × ℕ} (x.block, x.item.place) (b, p) = cc in
            let place = ap (λ (t : Block × ℕ). t.1) pair in
            let there = ((matches.longest_entry (block_of (width_of i) q.address.key (query_len w q)) x).0 g).0 in
            (x, refl, ap (λ (t : Block × ℕ). t.0) pair, place, ap (value_of i) (sym place) ∙ (laws.placed x there).1)

    pub never_past : (e : ℕ) → refused e ≡ value_answer (value_of i p) → ⊥
    never_past e t = apart held.0.item.value e (sym (ap value_answer held.4) ∙ sym t)

    pub found_outcome : (x : Match) → x.address.style ≡ q.address.style → x.address.key ≡ b.address → x.len ≡ b.len → x.place ≡ p
        → given x.site ≡ value_answer (value_of i p) → given (Some x) ≡ query_outcome w i q
    found_outcome x s a l o v =
        let address : x.address.key ≡ held.0.block.address = a ∙ ap (λ (c : Block). c.address) (sym held.2) in
        let length : x.len ≡ held.0.block.len = l ∙ ap (λ (c : Block). c.len) (sym held.2) in
        let place : x.place ≡ held.0.item.place = o ∙ sym held.3 in
        let value : x.site ≡ held.0.item.value = given_one x.site held.0.item.value (v ∙ ap value_answer held.4) in
        let same : x ≡ match_of q.address.style held.0 = cc (match_is x, match_of_is q.address.style held.0) in
        ap (λ (y : Match). given (Some y)) same
        ∙ ap (λ (y : Option (Entry (Held Site))). given (option_map (match_of q.address.style) y)) (sym held.1)
        ∙ ap (λ (r : Option ℕ). unless_refused r (option_map (match_of q.address.style) (wanted (query_len w q)))) (sym u.0) ∙ sym outcome_is
