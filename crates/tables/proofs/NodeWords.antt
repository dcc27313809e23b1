-- A word is a node just where its four numbers follow one another at the commas, and nothing follows the last.
use Rattle.std.proofs.Common.{◌≡◌, ℕ, List, [], ◌∷◌, Option, None, Some, Bor, refl, subst}
use Rattle.std.specs.Option.{option_copied}
use Rattle.nodes.specs.Numbers.{numbers_of}
use Rattle.nodes.specs.declared.node.Node.{Node}
use Rattle.tables.specs.Words.{Begins, IsNodeWord, Explains}
use Rattle.tables.specs.declared.node_word.NodeWordError.TheVariants.{NoChildBitmap, NoDataIndex, NoChildrenIndex, MoreThanFour}

-- the text is these numbers with commas between them, and where there are none there is no text
pub data Lists : List ℕ → Option (List ℕ) → Type 0 where
  ended : Lists [] None
  more : {n : ℕ} {ns : List ℕ} {text : List ℕ} (rest : Option (List ℕ)) → Begins text n rest → Lists ns rest → Lists (n ∷ ns) (Some text)

pub lists : (word : List ℕ) (n : Node) → IsNodeWord word n → Lists (numbers_of n) (Some word)
lists word n (a, b, c, d, e, wa, wb, wc, wd) = more (Some _) (a, e, wa) (more (Some _) (b, refl, wb) (more (Some _) (c, refl, wc) (more None wd ended)))

-- the word is that of no node
abbrev pub NoNode : List ℕ → Type 0
NoNode word = (n : Node) → ¬ IsNodeWord word n

-- the text begins with no number
abbrev pub Unread : List ℕ → Type 0
Unread text = (n : ℕ) (rest : Option (List ℕ)) → Begins text n rest → ⊥

-- the text begins with no other number and rest
abbrev pub Only : List ℕ → ℕ → Option (Bor (List ℕ)) → Type 0
Only text m r = (n : ℕ) (rest : Option (List ℕ)) → Begins text n rest → (m ≡ n) × (option_copied r ≡ rest)

-- the numbers behind the first are in its rest
step : (text : List ℕ) {m : ℕ} (r : Option (Bor (List ℕ))) → Only text m r → {n : ℕ} {ns : List ℕ} → Lists (n ∷ ns) (Some text) → Lists ns (option_copied r)
step text r only {n} (more rest b l) = let (_, same) = only n rest b in rw same l

stuck : (text : List ℕ) → Unread text → {n : ℕ} {ns : List ℕ} → Lists (n ∷ ns) (Some text) → ⊥
stuck text none {n} (more rest b l) = none n rest b

too_few : {n : ℕ} {ns : List ℕ} → Lists (n ∷ ns) None → ⊥
too_few l = elim l [ ]

too_many : {text : List ℕ} → Lists [] (Some text) → ⊥
too_many l = elim l [ ]

-- what is behind a number, where it is known what that is
listed : {ns : List ℕ} {r o : Option (Bor (List ℕ))} → r ≡ o → Lists ns (option_copied r) → Lists ns (option_copied o)
listed {ns} same l = subst (λ x. Lists ns (option_copied x)) same l

begun : (text : List ℕ) (m : ℕ) {r o : Option (Bor (List ℕ))} → r ≡ o → Begins text m (option_copied r) → Begins text m (option_copied o)
begun text m same b = subst (λ x. Begins text m (option_copied x)) same b

-- what is behind one number of a node's word, behind two, three and four
second : (word : List ℕ) {a : ℕ} (r : Option (Bor (List ℕ))) → Only word a r
    → (n : Node) → IsNodeWord word n → Lists (n.child_bitmap ∷ n.data_idx ∷ n.children_idx ∷ []) (option_copied r)
second word r first n is = step word r first (lists word n is)

third : (word : List ℕ) {a : ℕ} {r : Option (Bor (List ℕ))} → Only word a r → {s : Bor (List ℕ)} → r ≡ Some s
    → {b : ℕ} (q : Option (Bor (List ℕ))) → Only s.now b q
    → (n : Node) → IsNodeWord word n → Lists (n.data_idx ∷ n.children_idx ∷ []) (option_copied q)
third word {r = r} first {s} at_s q next n is = step s.now q next (listed at_s (second word r first n is))

fourth : (word : List ℕ) {a : ℕ} {r : Option (Bor (List ℕ))} → Only word a r → {s : Bor (List ℕ)} → r ≡ Some s
    → {b : ℕ} {q : Option (Bor (List ℕ))} → Only s.now b q → {t : Bor (List ℕ)} → q ≡ Some t
    → {d : ℕ} (p : Option (Bor (List ℕ))) → Only t.now d p
    → (n : Node) → IsNodeWord word n → Lists (n.children_idx ∷ []) (option_copied p)
fourth word first at_s {q = q} next {t} at_t p last n is = step t.now p last (listed at_t (third word first at_s q next n is))

-- why a word is no node, by the number that is wrong, missing or too much
pub first_wrong : (word : List ℕ) → Unread word → NoNode word
first_wrong word wrong n is = stuck word wrong (lists word n is)

pub second_missing : (word : List ℕ) {a : ℕ} {r : Option (Bor (List ℕ))} → Begins word a (option_copied r) → Only word a r → r ≡ None
    → NoNode word × Explains word NoChildBitmap
second_missing word {a} {r} sound first none = ((λ n is. too_few (listed none (second word r first n is))), (a, begun word a none sound))

pub second_wrong : (word : List ℕ) {a : ℕ} {r : Option (Bor (List ℕ))} → Only word a r → {s : Bor (List ℕ)} → r ≡ Some s → Unread s.now
    → NoNode word
second_wrong word {r = r} first {s} at_s wrong n is = stuck s.now wrong (listed at_s (second word r first n is))

pub third_missing : (word : List ℕ) {a : ℕ} {r : Option (Bor (List ℕ))} → Begins word a (option_copied r) → Only word a r → {s : Bor (List ℕ)} → r ≡ Some s
    → {b : ℕ} {q : Option (Bor (List ℕ))} → Begins s.now b (option_copied q) → Only s.now b q → q ≡ None
    → NoNode word × Explains word NoDataIndex
third_missing word {a} sound first {s} at_s {b} {q} sound_b next none =
    ((λ n is. too_few (listed none (third word first at_s q next n is))), (a, s.now, (begun word a at_s sound), b, (begun s.now b none sound_b)))

pub third_wrong : (word : List ℕ) {a : ℕ} {r : Option (Bor (List ℕ))} → Only word a r → {s : Bor (List ℕ)} → r ≡ Some s
    → {b : ℕ} {q : Option (Bor (List ℕ))} → Only s.now b q → {t : Bor (List ℕ)} → q ≡ Some t → Unread t.now
    → NoNode word
third_wrong word first at_s {q = q} next {t} at_t wrong n is = stuck t.now wrong (listed at_t (third word first at_s q next n is))

pub fourth_missing : (word : List ℕ) {a : ℕ} {r : Option (Bor (List ℕ))} → Begins word a (option_copied r) → Only word a r → {s : Bor (List ℕ)} → r ≡ Some s
    → {b : ℕ} {q : Option (Bor (List ℕ))} → Begins s.now b (option_copied q) → Only s.now b q → {t : Bor (List ℕ)} → q ≡ Some t
    → {d : ℕ} {p : Option (Bor (List ℕ))} → Begins t.now d (option_copied p) → Only t.now d p → p ≡ None
    → NoNode word × Explains word NoChildrenIndex
fourth_missing word {a} sound first {s} at_s {b} sound_b next {t} at_t {d} {p} sound_d last none =
    ((λ n is. too_few (listed none (fourth word first at_s next at_t p last n is))), (a, s.now, (begun word a at_s sound), b, t.now, (begun s.now b at_t sound_b), d, (begun t.now d none sound_d)))

pub fourth_wrong : (word : List ℕ) {a : ℕ} {r : Option (Bor (List ℕ))} → Only word a r → {s : Bor (List ℕ)} → r ≡ Some s
    → {b : ℕ} {q : Option (Bor (List ℕ))} → Only s.now b q → {t : Bor (List ℕ)} → q ≡ Some t
    → {d : ℕ} {p : Option (Bor (List ℕ))} → Only t.now d p → {u : Bor (List ℕ)} → p ≡ Some u → Unread u.now
    → NoNode word
fourth_wrong word first at_s next at_t {p = p} last {u} at_u wrong n is = stuck u.now wrong (listed at_u (fourth word first at_s next at_t p last n is))

pub fifth_found : (word : List ℕ) {a : ℕ} {r : Option (Bor (List ℕ))} → Begins word a (option_copied r) → Only word a r → {s : Bor (List ℕ)} → r ≡ Some s
    → {b : ℕ} {q : Option (Bor (List ℕ))} → Begins s.now b (option_copied q) → Only s.now b q → {t : Bor (List ℕ)} → q ≡ Some t
    → {d : ℕ} {p : Option (Bor (List ℕ))} → Begins t.now d (option_copied p) → Only t.now d p → {u : Bor (List ℕ)} → p ≡ Some u
    → {e : ℕ} {o : Option (Bor (List ℕ))} → Begins u.now e (option_copied o) → Only u.now e o → {v : Bor (List ℕ)} → o ≡ Some v
    → NoNode word × Explains word MoreThanFour
fifth_found word {a} sound first {s} at_s {b} sound_b next {t} at_t {d} {p} sound_d last {u} at_u {e} {o} sound_e beyond {v} at_v = (
  (λ n is. too_many (listed at_v (step u.now o beyond (listed at_u (fourth word first at_s next at_t p last n is))))),
  (a, s.now, (begun word a at_s sound), b, t.now, (begun s.now b at_t sound_b), d, u.now, (begun t.now d at_u sound_d), e, v.now, (begun u.now e at_v sound_e)),
)
