-- What the three matches are, of a list in walk order whose entries that contain a block come shorter first; and so of the register of sound lists.
use Rattle.std.proofs.Common.{◌≡◌, ℕ, ◌≤◌, Bool, true, false, T, eqb, ltb, List, [], ◌∷◌, length, Some, None, Option, sym, refl, ap, ◌∙◌, subst, inl, inr, arith}
use mathlib.Core.List.Memᴰ
use mathlib.Core.List.{Memᴰ}
use Rattle.std.specs.Prelude.{◌↔◌, ◌≢◌, ◌<◌, Contains, filter}
use Rattle.std.proofs.lemmas.Bool.{and_from, and_parts, cases_Bool, eq-eqb, eqb-true, false≢true, ltb-true, or_cases}
use Rattle.keys.specs.Blocks.{Block, before, contains, same}
use Rattle.nodes.specs.declared.node.Node.{Node}
use Rattle.tree.specs.Meaning.{Sound}
use Rattle.register.specs.Entries.{Entry, covering, exact, first_element, last_element, longest, shortest}
use Rattle.register.specs.Laws.{Ascending, IsExact, IsLongest, IsShortest, Lengthening, MatchLaws, NoneContains}
use Rattle.register.specs.Register.{register}
use Rattle.register.proofs.Kept.{all_from_mem, all_mem, filter_mem, filter_none, mem_filter}
use Rattle.register.proofs.Laws.{register_laws}
use Rattle.register.proofs.Members.{contains_mem, mem_contains}
use Rattle.register.proofs.Under.{T_true}

none_some : {A : Type 0} (x : A) → None ≡ Some x → ⊥
none_some x e = let z : ◌≡◌ {A = ℕ} 0 1 = cc in omega arith

module _ {A : Type 0} where
  first_mem : (xs : List A) (x : A) → first_element xs ≡ Some x → Memᴰ x xs
  first_mem [] x e = absurd (none_some x e)
  first_mem (y ∷ xs) x e = let s : x ≡ y = cc in Memᴰ.head s

  last_mem : (xs : List A) (x : A) → last_element xs ≡ Some x → Memᴰ x xs
  last_mem [] x e = absurd (none_some x e)
  last_mem (y ∷ []) x e = let s : x ≡ y = cc in Memᴰ.head s
  last_mem (y ∷ (z ∷ xs)) x e = Memᴰ.tail (last_mem (z ∷ xs) x e)

  -- a list with a member has a first and a last
  some_first : (xs : List A) (x : A) → Memᴰ x xs → (y : A) × (first_element xs ≡ Some y)
  some_first [] x m = absurd (Memᴰ.not-nil m)
  some_first (y ∷ xs) x m = (y, refl)

  some_last : (xs : List A) (x : A) → Memᴰ x xs → (y : A) × (last_element xs ≡ Some y)
  some_last [] x m = absurd (Memᴰ.not-nil m)
  some_last (y ∷ xs) x m = by y xs
    where
      by : (y : A) (xs : List A) → (z : A) × (last_element (y ∷ xs) ≡ Some z)
      by y [] = (y, refl)
      by y (z ∷ xs) = by z xs

-- no block comes before itself
not_before : (b : Block) → T (before b b) → ⊥
not_before b t = elim (or_cases (ltb b.address b.address) _ (T_true _ t)) [
  | inl l ↦ omega (arith, ltb-true _ _ l)
  | inr e ↦ omega (arith, ltb-true _ _ (and_parts (eqb b.address b.address) _ e).1)
]

same_true : (a b : Block) → same a b ≡ true → a ≡ b
same_true a b e =
    let p = and_parts (eqb a.address b.address) _ e in
    let x : a.address ≡ b.address = eqb-true _ _ p.0 in
    let l : a.len ≡ b.len = eqb-true _ _ p.1 in
    ap (λ (n : ℕ). record { address = n; len = a.len }) x ∙ ap (λ (n : ℕ). record { address = b.address; len = n }) l

true_same : (a b : Block) → a ≡ b → same a b ≡ true
true_same a b e = and_from _ _ (eq-eqb _ _ (ap (λ (x : Block). x.address) e)) (eq-eqb _ _ (ap (λ (x : Block). x.len) e))

module _ {A : Type 0} where
  -- in walk order no block comes twice
  one_each : (es : List (Entry A)) → Ascending es → (e f : Entry A) → Memᴰ e es → Memᴰ f es → e.block ≡ f.block → e ≡ f
  one_each [] h e f m n s = absurd (Memᴰ.not-nil m)
  one_each (x ∷ es) h e f m n s = elim (Memᴰ.cases_cons m) [
    | inl here ↦ elim (Memᴰ.cases_cons n) [
      | inl there ↦ here ∙ sym there
      | inr t ↦ absurd (not_before f.block (subst (λ (b : Block). T (before b f.block)) (sym (ap (λ (y : Entry A). y.block) here) ∙ s) (all_mem (λ (y : Entry A). T (before x.block y.block)) es f h.0 t)))
    ]
    | inr t ↦ elim (Memᴰ.cases_cons n) [
      | inl there ↦ absurd (not_before e.block (subst (λ (b : Block). T (before b e.block)) (sym (ap (λ (y : Entry A). y.block) there) ∙ sym s) (all_mem (λ (y : Entry A). T (before x.block y.block)) es e h.0 t)))
      | inr u ↦ one_each es h.1 e f t u s
    ]
  ]

  -- shorter first: no length comes twice, the first is the shortest, and the last the longest
  one_length : (es : List (Entry A)) → Lengthening es → (e f : Entry A) → Memᴰ e es → Memᴰ f es → e.block.len ≡ f.block.len → e ≡ f
  one_length [] h e f m n s = absurd (Memᴰ.not-nil m)
  one_length (x ∷ es) h e f m n s = elim (Memᴰ.cases_cons m) [
    | inl here ↦ elim (Memᴰ.cases_cons n) [
      | inl there ↦ here ∙ sym there
      | inr t ↦ absurd (omega (arith, all_mem (λ (y : Entry A). x.block.len < y.block.len) es f h.0 t, s, ap (λ (y : Entry A). y.block.len) here))
    ]
    | inr t ↦ elim (Memᴰ.cases_cons n) [
      | inl there ↦ absurd (omega (arith, all_mem (λ (y : Entry A). x.block.len < y.block.len) es e h.0 t, s, ap (λ (y : Entry A). y.block.len) there))
      | inr u ↦ one_length es h.1 e f t u s
    ]
  ]

  first_shortest : (es : List (Entry A)) → Lengthening es → (e f : Entry A) → first_element es ≡ Some e → Memᴰ f es → e.block.len ≤ f.block.len
  first_shortest [] h e f s m = absurd (Memᴰ.not-nil m)
  first_shortest (x ∷ es) h e f s m =
      let x-is : e ≡ x = cc in
      let len = ap (λ (y : Entry A). y.block.len) x-is in
      elim (Memᴰ.cases_cons m) [
        | inl here ↦ omega (arith, len, ap (λ (y : Entry A). y.block.len) here)
        | inr t ↦ omega (arith, len, all_mem (λ (y : Entry A). x.block.len < y.block.len) es f h.0 t)
      ]

  last_longest : (es : List (Entry A)) → Lengthening es → (e f : Entry A) → last_element es ≡ Some e → Memᴰ f es → f.block.len ≤ e.block.len
  last_longest [] h e f s m = absurd (Memᴰ.not-nil m)
  last_longest (x ∷ []) h e f s m =
      let x-is : e ≡ x = cc in
      omega (arith, ap (λ (y : Entry A). y.block.len) x-is, ap (λ (y : Entry A). y.block.len) (Memᴰ.eq_of_singleton m))
  last_longest (x ∷ (y ∷ es)) h e f s m = elim (Memᴰ.cases_cons m) [
    | inl here ↦ omega (arith, ap (λ (z : Entry A). z.block.len) here, all_mem (λ (z : Entry A). x.block.len < z.block.len) (y ∷ es) e h.0 (last_mem (y ∷ es) e s))
    | inr t ↦ last_longest (y ∷ es) h.1 e f s t
  ]

module _ {A : Type 0} (w : ℕ) (es : List (Entry A)) (ascending : Ascending es) (lengthening : (q : Block) → Lengthening (covering w q es)) (q : Block) where
  abbrev covers : Entry A → Bool
  covers e = contains w e.block q

  abbrev has : Entry A → Bool
  has e = same e.block q

  in_cover : (e : Entry A) → Contains es e → covers e ≡ true → Memᴰ e (covering w q es)
  in_cover e c t = mem_filter covers e es t (mem_contains es e c)

  from_cover : (e : Entry A) → Memᴰ e (covering w q es) → Contains es e × (covers e ≡ true)
  from_cover e m = let r = filter_mem covers e es m in (contains_mem es e r.0, r.1)

  -- none passes a test where what is kept has no end
  none_kept : (f : Entry A → Bool) (g : List (Entry A) → Option (Entry A)) → ((xs : List (Entry A)) (x : Entry A) → Memᴰ x xs → (y : Entry A) × (g xs ≡ Some y))
      → g (filter f es) ≡ None → (e : Entry A) → Contains es e → f e ≡ false
  none_kept f g some none e c = elim (cases_Bool (f e)) [
    | inl t ↦ (let y = some (filter f es) e (mem_filter f e es t (mem_contains es e c)) in absurd (none_some y.0 (sym none ∙ y.1)))
    | inr z ↦ z
  ]

  kept_none : (f : Entry A → Bool) → ((e : Entry A) → Contains es e → f e ≡ false) → filter f es ≡ []
  kept_none f none = filter_none f es (all_from_mem (λ (e : Entry A). f e ≡ false) es (λ e m. none e (contains_mem es e m)))

  exact_entry : (e : Entry A) → (exact q es ≡ Some e) ↔ IsExact q es e
  exact_entry e = (
    (λ s. let r = filter_mem has e es (first_mem (filter has es) e s) in (contains_mem es e r.0, same_true e.block q r.1)),
    (λ i.
        let there = mem_contains es e i.0 in
        let f = some_first (filter has es) e (mem_filter has e es (true_same e.block q i.1) there) in
        let r = filter_mem has f.0 es (first_mem (filter has es) f.0 f.1) in
        f.1 ∙ ap (λ (x : Entry A). Some x) (one_each es ascending f.0 e r.0 there (same_true f.0.block q r.1 ∙ sym i.1))),
  )

  exact_none : (exact q es ≡ None) ↔ ((e : Entry A) → Contains es e → e.block ≢ q)
  exact_none = (
    (λ none e c b. false≢true (sym (none_kept has first_element some_first none e c) ∙ true_same e.block q b)),
    (λ none. ap first_element (kept_none has (λ e c. elim (cases_Bool (has e)) [
      | inl t ↦ absurd (none e c (same_true e.block q t))
      | inr z ↦ z
    ]))),
  )

  longest_entry : (e : Entry A) → (longest w q es ≡ Some e) ↔ IsLongest w q es e
  longest_entry e = (
    (λ s.
        let r = from_cover e (last_mem (covering w q es) e s) in
        (r.0, r.1, λ f c t. last_longest (covering w q es) (lengthening q) e f s (in_cover f c t))),
    (λ i.
        let there = in_cover e i.0 i.1 in
        let f = some_last (covering w q es) e there in
        let m = last_mem (covering w q es) f.0 f.1 in
        let r = from_cover f.0 m in
        let len : f.0.block.len ≡ e.block.len = omega (arith, last_longest (covering w q es) (lengthening q) f.0 e f.1 there, i.2 f.0 r.0 r.1) in
        f.1 ∙ ap (λ (x : Entry A). Some x) (one_length (covering w q es) (lengthening q) f.0 e m there len)),
  )

  longest_none : (longest w q es ≡ None) ↔ NoneContains w q es
  longest_none = (none_kept covers last_element some_last, λ none. ap last_element (kept_none covers none))

  shortest_entry : (e : Entry A) → (shortest w q es ≡ Some e) ↔ IsShortest w q es e
  shortest_entry e = (
    (λ s.
        let r = from_cover e (first_mem (covering w q es) e s) in
        (r.0, r.1, λ f c t. first_shortest (covering w q es) (lengthening q) e f s (in_cover f c t))),
    (λ i.
        let there = in_cover e i.0 i.1 in
        let f = some_first (covering w q es) e there in
        let m = first_mem (covering w q es) f.0 f.1 in
        let r = from_cover f.0 m in
        let len : f.0.block.len ≡ e.block.len = omega (arith, first_shortest (covering w q es) (lengthening q) f.0 e f.1 there, i.2 f.0 r.0 r.1) in
        f.1 ∙ ap (λ (x : Entry A). Some x) (one_length (covering w q es) (lengthening q) f.0 e m there len)),
  )

  shortest_none : (shortest w q es ≡ None) ↔ NoneContains w q es
  shortest_none = (none_kept covers first_element some_first, λ none. ap first_element (kept_none covers none))

pub match_laws : {A : Type 0} (w : ℕ) (es : List (Entry A)) → Ascending es → ((q : Block) → Lengthening (covering w q es)) → MatchLaws w es
match_laws w es ascending lengthening = record {
  exact_entry = exact_entry w es ascending lengthening;
  exact_none = exact_none w es ascending lengthening;
  longest_entry = longest_entry w es ascending lengthening;
  longest_none = longest_none w es ascending lengthening;
  shortest_entry = shortest_entry w es ascending lengthening;
  shortest_none = shortest_none w es ascending lengthening;
}

pub register_matches : {A : Type 0} (w : ℕ) (ns : List Node) (vs : List A) (called : ℕ) → Sound w ns called → called ≤ length vs → MatchLaws w (register w ns vs)
register_matches w ns vs called sound room =
    let laws = register_laws w ns vs called sound room in
    match_laws w (register w ns vs) laws.ascending laws.lengthening
