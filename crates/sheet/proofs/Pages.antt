-- A text is that of one sheet at most, part by part: its head, its nodes, its values.
use Rattle.std.proofs.Common.{◌≡◌, ℕ, ◌<◌, ◌≤◌, true, ◌||◌, eqb, List, [], ◌∷◌, ◌++◌, length, sym, refl, ap, ◌∙◌, subst, ⊎_elim, append-nil, arith}
use Rattle.std.proofs.lemmas.List.{nil_from_length}
use Rattle.std.proofs.lemmas.Bool.{or_cases, eqb-true}
use Rattle.nodes.specs.declared.node.Node.{Node}
use Rattle.sheet.specs.declared.head.Head.{Head}
use Rattle.sheet.specs.Columns.{FitsLine, AreRows, line, lines, BeginsWithNone, LacksLines, FollowsLines}
use Rattle.sheet.specs.Limits.{is_sheet_width, AreWithinLimits}
use Rattle.sheet.specs.Entries.{head_numbers, node_numbers, value_numbers, IsAllowedHead}
use Rattle.sheet.specs.Sheets.{Contents, head_of, body_text, sheet_text, FitsSheet, WritingIsInjective, Malformed, Wellformed, HasHead, HasParts}
use Rattle.sheet.specs.Readings.{HasLines}
use Rattle.sheet.proofs.Runs.{Cancels}
use Rattle.sheet.proofs.Rulings.{line_cancels, lines_cancel}

-- a record is made of its fields
make_head : ℕ → ℕ → ℕ → Head
make_head w n v = record { width = w; nodes = n; values = v }

head_again : (h : Head) → make_head h.width h.nodes h.values ≡ h
unfolding make_head
head_again h = refl

make_node : ℕ → ℕ → ℕ → ℕ → Node
make_node d c i j = record { data_bitmap = d; child_bitmap = c; data_idx = i; children_idx = j }

node_again : (n : Node) → make_node n.data_bitmap n.child_bitmap n.data_idx n.children_idx ≡ n
unfolding make_node
node_again n = refl

make_contents : ℕ → List Node → List ℕ → Contents
make_contents w ns vs = record { width = w; nodes = ns; values = vs }

contents_again : (c : Contents) → make_contents c.width c.nodes c.values ≡ c
unfolding make_contents
contents_again c = refl

pub same_contents : (c d : Contents) → c.width ≡ d.width → c.nodes ≡ d.nodes → c.values ≡ d.values → c ≡ d
same_contents c d e f g = cc (contents_again c, contents_again d)

same_head : (x y : Head) → x.width ≡ y.width → x.nodes ≡ y.nodes → x.values ≡ y.values → x ≡ y
same_head x y e f g = cc (head_again x, head_again y)

head_apart : (x y : Head) → head_numbers x ≡ head_numbers y → x ≡ y
head_apart x y e = cc (head_again x, head_again y)

node_apart : (x y : Node) → node_numbers x ≡ node_numbers y → x ≡ y
node_apart x y e = cc (node_again x, node_again y)

value_apart : (x y : ℕ) → value_numbers x ≡ value_numbers y → x ≡ y
value_apart x y e = cc

known_small : (w : ℕ) → is_sheet_width w ≡ true → w ≤ 32
known_small w e =
    ⊎_elim (λ h. omega (arith, eqb-true w 8 h))
    (λ k. ⊎_elim (λ h. omega (arith, eqb-true w 16 h)) (λ h. omega (arith, eqb-true w 32 h)) (or_cases (eqb w 16) (eqb w 32) k))
    (or_cases (eqb w 8) (eqb w 16 || eqb w 32) e)

pub allowed_fit : (h : Head) → IsAllowedHead h → FitsLine (head_numbers h)
allowed_fit h a = (omega (arith, known_small h.width a.0), (omega (arith, a.1), (omega (arith, a.2), tt)))

pub heads_cancel : Cancels (λ h. FitsLine (head_numbers h)) (λ h. line (head_numbers h))
heads_cancel = line_cancels head_numbers 3 (λ _. refl) head_apart

pub nodes_cancel : (m : ℕ) → Cancels (AreRows node_numbers m) (lines node_numbers)
nodes_cancel m = lines_cancel node_numbers 4 (λ _. refl) node_apart m

pub values_cancel : (m : ℕ) → Cancels (AreRows value_numbers m) (lines value_numbers)
values_cancel m = lines_cancel value_numbers 1 (λ _. refl) value_apart m

pub one : WritingIsInjective
unfolding WritingIsInjective
one c d g h e =
    let heads = heads_cancel (head_of c) (head_of d) (body_text c) (body_text d) (allowed_fit (head_of c) g.0) (allowed_fit (head_of d) h.0) e in
    let nodes = nodes_cancel (length c.nodes) c.nodes d.nodes _ _ (g.1, refl) (h.1, ap (λ (x : Head). x.nodes) (sym heads.0)) heads.1 in
    let values = values_cancel (length c.values) c.values d.values [] [] (g.2, refl) (h.2, ap (λ (x : Head). x.values) (sym heads.0)) (ap (λ (u : List ℕ). u ++ []) nodes.1) in
    same_contents c d (ap (λ (x : Head). x.width) heads.0) nodes.0 values.0

-- a sheet whose text this is, where the text begins with the head h
pub head_is : (h : Head) (s r : List ℕ) → IsAllowedHead h → s ≡ line (head_numbers h) ++ r
    → (c : Contents) → FitsSheet c → s ≡ sheet_text c → (head_of c ≡ h) × (r ≡ body_text c)
head_is h s r a e c w k =
    let same = heads_cancel (head_of c) h (body_text c) r (allowed_fit (head_of c) w.0) (allowed_fit h a) (sym k ∙ e) in (same.0, sym same.1)

-- and where the nodes xs follow
pub nodes_are : (h : Head) (xs : List Node) (r t : List ℕ) (c : Contents) → FitsSheet c → head_of c ≡ h → r ≡ body_text c
    → AreRows node_numbers h.nodes xs → r ≡ lines node_numbers xs ++ t → (c.nodes ≡ xs) × (lines value_numbers c.values ≡ t)
nodes_are h xs r t c w e b g k =
    nodes_cancel h.nodes c.nodes xs (lines value_numbers c.values) t (w.1, ap (λ (x : Head). x.nodes) e) g (sym b ∙ k)

-- and where the values vs follow those
pub values_are : (h : Head) (vs : List ℕ) (r t : List ℕ) (c : Contents) → FitsSheet c → head_of c ≡ h → r ≡ lines value_numbers c.values
    → AreRows value_numbers h.values vs → r ≡ lines value_numbers vs ++ t → (c.values ≡ vs) × ([] ≡ t)
values_are h vs r t c w e b g k =
    values_cancel h.values c.values vs [] t (w.2, ap (λ (x : Head). x.values) e) g
    (append-nil (lines value_numbers c.values) ∙ sym b ∙ k)

-- a head, its nodes and its values, with nothing behind them, are a sheet's text
pub assembled : (h : Head) (xs : List Node) (vs s r t u : List ℕ) → IsAllowedHead h → s ≡ line (head_numbers h) ++ r
    → AreRows node_numbers h.nodes xs → r ≡ lines node_numbers xs ++ t
    → AreRows value_numbers h.values vs → t ≡ lines value_numbers vs ++ u → length u ≡ 0
    → (c : Contents) × FitsSheet c × (head_of c ≡ h) × (s ≡ sheet_text c) × (r ≡ body_text c) × (t ≡ lines value_numbers c.values)
assembled h xs vs s r t u a e g d k f z =
    let c : Contents = record { width = h.width; nodes = xs; values = vs } in
    let heads : head_of c ≡ h = same_head (head_of c) h refl g.1 k.1 in
    let last : t ≡ lines value_numbers vs = f ∙ ap (λ (w : List ℕ). lines value_numbers vs ++ w) (nil_from_length u z) ∙ append-nil (lines value_numbers vs) in
    let rest : r ≡ body_text c = d ∙ ap (λ (w : List ℕ). lines node_numbers xs ++ w) last in (
      c,
      (subst IsAllowedHead (sym heads) a, g.0, k.0),
      heads,
      e ∙ ap (λ (w : List ℕ). line (head_numbers h) ++ w) rest ∙ ap (λ (x : Head). line (head_numbers x) ++ body_text c) (sym heads),
      rest,
      last,
    )

-- no line of a head within the limits
pub no_head : (s : List ℕ) → BeginsWithNone (λ h. FitsLine (head_numbers h)) (λ h. line (head_numbers h)) s → BeginsWithNone IsAllowedHead (λ h. line (head_numbers h)) s
unfolding BeginsWithNone
no_head s none h t a e = none h t (allowed_fit h a) e

-- the three numbers of a line are those of a head within the limits, or the text has no such head
-- the first part is refl: it is there so that the check finds the term
pub head_decides : (w n v : ℕ) (r : List ℕ) → FitsLine (w ∷ n ∷ v ∷ []) → (line (w ∷ n ∷ v ∷ []) ++ r ≡ line (w ∷ n ∷ v ∷ []) ++ r)
    × ((AreWithinLimits w n v → ⊥) → BeginsWithNone IsAllowedHead (λ h. line (head_numbers h)) (line (w ∷ n ∷ v ∷ []) ++ r))
unfolding BeginsWithNone make_head
head_decides w n v r f = (
  refl,
  λ out h t a e.
      let same = (heads_cancel (make_head w n v) h r t f (allowed_fit h a) e).0 in
      out (subst IsAllowedHead (sym same) a),
)

-- whether a head's line is there
pub ruleset heads = (no_head, head_decides)

-- where a part is missing, or a byte is left over, the text is no sheet's
pub malformed_head : (s : List ℕ) → BeginsWithNone IsAllowedHead (λ h. line (head_numbers h)) s → Malformed s
unfolding BeginsWithNone Malformed
malformed_head s none c w e = none (head_of c) (body_text c) w.0 e

pub malformed_nodes : (w n v : ℕ) (r : List ℕ) → AreWithinLimits w n v → LacksLines node_numbers n r → Malformed (line (w ∷ n ∷ v ∷ []) ++ r)
unfolding BeginsWithNone Malformed LacksLines make_head
malformed_nodes w n v r a none c g e =
    let top = head_is (make_head w n v) _ r a refl c g e in
    none c.nodes (lines value_numbers c.values) (g.1, ap (λ (x : Head). x.nodes) top.0) top.1

-- the first part gives a premise back: it is there so that the check finds the term
pub malformed_values : (n : ℕ) (r t : List ℕ) → FollowsLines node_numbers n r t → FollowsLines node_numbers n r t
    × ((w v : ℕ) → AreWithinLimits w n v → LacksLines value_numbers v t → Malformed (line (w ∷ n ∷ v ∷ []) ++ r))
unfolding BeginsWithNone Malformed LacksLines FollowsLines make_head
malformed_values n r t b = (
  b,
  λ w v a none c g e.
      let top = head_is (make_head w n v) _ r a refl c g e in
      let same = nodes_are (make_head w n v) b.0 r t c g top.0 top.1 b.1 b.2 in
      none c.values [] (g.2, ap (λ (x : Head). x.values) top.0) (sym same.1 ∙ sym (append-nil (lines value_numbers c.values))),
)

-- the first part gives a premise back: it is there so that the check finds the term
pub malformed_end : (v : ℕ) (t u : List ℕ) → FollowsLines value_numbers v t u → 0 < length u → FollowsLines value_numbers v t u
    × ((w n : ℕ) (r : List ℕ) → AreWithinLimits w n v → FollowsLines node_numbers n r t → Malformed (line (w ∷ n ∷ v ∷ []) ++ r))
unfolding Malformed FollowsLines make_head
malformed_end v t u b l = (
  b,
  λ w n r a k c g e.
      let top = head_is (make_head w n v) _ r a refl c g e in
      let same = nodes_are (make_head w n v) k.0 r t c g top.0 top.1 k.1 k.2 in
      let rest = values_are (make_head w n v) b.0 t u c g top.0 (sym same.1) b.1 b.2 in
      omega (arith, ap length rest.1),
)

-- and where each part is there, it is one
-- the first part gives a premise back: it is there so that the check finds the term
pub parted : (s : List ℕ) (h : Head) (r t u : List ℕ) → FollowsLines value_numbers h.values t u → length u ≡ 0 → FollowsLines value_numbers h.values t u
    × (IsAllowedHead h → s ≡ line (head_numbers h) ++ r → FollowsLines node_numbers h.nodes r t → HasParts s h r t)
unfolding FollowsLines HasParts
parted s h r t u b z = (b, λ a e k. assembled h k.0 b.0 s r t u a e k.1 k.2 b.1 b.2 z)

-- each part of the text decides in turn
pub ruleset surveys = (one, malformed_head, malformed_nodes, malformed_values, malformed_end, parted)

-- a text that is parted is that of a sheet
-- the first part gives a premise back: it is there so that the check finds the term
pub parted_headed : (s : List ℕ) (h : Head) (r t : List ℕ) → HasParts s h r t → HasParts s h r t × HasHead s h
unfolding HasParts HasHead
parted_headed s h r t p = (p, (p.0, p.1, p.2, p.3))

-- what a check says
pub ruleset checks = (one, parted_headed)

-- the lines of a sheet's text are there
-- the first part gives a premise back: it is there so that the check finds the term
pub parted_lines : (s : List ℕ) (h : Head) (r t : List ℕ) → HasParts s h r t → HasParts s h r t × Wellformed s
    × HasLines node_numbers h.nodes r × HasLines value_numbers h.values t
    × (LacksLines node_numbers h.nodes r → ⊥) × (LacksLines value_numbers h.values t → ⊥)
unfolding HasParts Wellformed LacksLines FollowsLines BeginsWithNone
parted_lines s h r t p = (
  p,
  (p.0, p.1, p.3),
  (lines value_numbers (p.0).values, ((p.0).nodes, (p.1.1, ap (λ (x : Head). x.nodes) p.2), p.4)),
  ([], ((p.0).values, (p.1.2, ap (λ (x : Head). x.values) p.2), p.5 ∙ sym (append-nil (lines value_numbers (p.0).values)))),
  (λ none. none (p.0).nodes (lines value_numbers (p.0).values) (p.1.1, ap (λ (x : Head). x.nodes) p.2) p.4),
  (λ none. none (p.0).values [] (p.1.2, ap (λ (x : Head). x.values) p.2) (p.5 ∙ sym (append-nil (lines value_numbers (p.0).values)))),
)

-- and those that are read are the sheet's
-- the first part gives a premise back: it is there so that the check finds the term
pub parted_read : (s : List ℕ) (h : Head) (r t : List ℕ) → HasParts s h r t → HasParts s h r t
    × IsAllowedHead h × (s ≡ line (head_numbers h) ++ r)
    × ((xs : List Node) (u : List ℕ) → AreRows node_numbers h.nodes xs → r ≡ lines node_numbers xs ++ u
    → (lines node_numbers xs ++ u ≡ lines node_numbers xs ++ u) × (u ≡ t))
    × ((vs u : List ℕ) → AreRows value_numbers h.values vs → t ≡ lines value_numbers vs ++ u
    → (lines value_numbers vs ++ u ≡ lines value_numbers vs ++ u) × (t ≡ lines value_numbers vs))
unfolding HasParts
parted_read s h r t p = (
  p,
  subst IsAllowedHead p.2 p.1.0,
  p.3 ∙ ap (λ (u : List ℕ). line (head_numbers (head_of p.0)) ++ u) (sym p.4) ∙ ap (λ (x : Head). line (head_numbers x) ++ r) p.2,
  (λ xs u g e. (refl, sym (nodes_are h xs r u p.0 p.1 p.2 p.4 g e).1 ∙ sym p.5)),
  (λ vs u g e. (refl, p.5 ∙ ap (lines value_numbers) (values_are h vs t u p.0 p.1 p.2 p.5 g e).0)),
)

-- what reading says
pub ruleset readings = (one, parted_lines, parted_read)
