-- The sheet at the front of an input, and the sites behind it, are one each.
use Rattle.std.proofs.Common.{◌≡◌, ℕ, ◌-◌, ◌≤◌, List, [], ◌∷◌, ◌++◌, length, take, sym, refl, ap, subst, ◌∙◌, append_assoc, arith}
use Rattle.std.proofs.lemmas.List.{length-append, take_at}
use Rattle.nodes.specs.declared.node.Node.{Node}
use Rattle.sheet.specs.declared.head.Head.{Head}
use Rattle.sheet.specs.Columns.{FollowsLines, FitsLine, BeginsWithNone, AreRows, LacksLines, line, lines}
use Rattle.sheet.specs.Entries.{head_numbers, node_numbers, value_numbers}
use Rattle.sheet.specs.Sheets.{Contents, HasHead, Malformed, Wellformed, FitsSheet, body_text, head_of, sheet_text}
use Rattle.sheet.proofs.Pages.{allowed_fit, heads_cancel, nodes_cancel, same_contents, values_cancel}
use Rattle.sheet.proofs.Rulings.{lines_cancel}
use Rattle.query.specs.Inputs.{AtMostOneInput, IsInput, IsInputText, IsNoInput, input_text}
use Rattle.query.specs.Parts.{FitsColumns, FollowsContents, HasInputParts, LacksContents}
use Rattle.query.specs.Sites.{site_numbers}
use Rattle.query.specs.declared.site.Site.{Site}

within_fits : (c : Contents) → FitsSheet c → FitsColumns c
within_fits c w = (allowed_fit (head_of c) w.0, w.1, w.2)

-- the head's line of a text, and what follows it
top : (c : Contents) (r : List ℕ) → sheet_text c ++ r ≡ line (head_numbers (head_of c)) ++ (lines node_numbers c.nodes ++ (lines value_numbers c.values ++ r))
top c r =
    append_assoc (line (head_numbers (head_of c))) (body_text c) r
    ∙ ap (λ (u : List ℕ). line (head_numbers (head_of c)) ++ u) (append_assoc (lines node_numbers c.nodes) (lines value_numbers c.values) r)

-- where a text begins with the head h
module _ (h : Head) (c : Contents) (r s : List ℕ) (f : FitsColumns c) (g : FitsLine (head_numbers h)) (e : sheet_text c ++ r ≡ line (head_numbers h) ++ s) where
  pub head_same : (head_of c ≡ h) × (lines node_numbers c.nodes ++ (lines value_numbers c.values ++ r) ≡ s)
  head_same = heads_cancel (head_of c) h _ s f.0 g (sym (top c r) ∙ e)

  pub nodes_same : (xs : List Node) (t : List ℕ) → AreRows node_numbers h.nodes xs → s ≡ lines node_numbers xs ++ t
      → (c.nodes ≡ xs) × (lines value_numbers c.values ++ r ≡ t)
  nodes_same xs t k d =
      nodes_cancel h.nodes c.nodes xs (lines value_numbers c.values ++ r) t (f.1, ap (λ (x : Head). x.nodes) head_same.0) k (head_same.1 ∙ d)

  pub values_same : (vs : List ℕ) (t u : List ℕ) → AreRows value_numbers h.values vs → t ≡ lines value_numbers vs ++ u
      → lines value_numbers c.values ++ r ≡ t → (c.values ≡ vs) × (r ≡ u)
  values_same vs t u k d p =
      values_cancel h.values c.values vs r u (f.2, ap (λ (x : Head). x.values) head_same.0) k (p ∙ d)

-- contents whose lines begin a text are one, and so is what follows them
pub front_one : (c d : Contents) (r t : List ℕ) → FitsColumns c → FitsColumns d → sheet_text c ++ r ≡ sheet_text d ++ t → (c ≡ d) × (r ≡ t)
front_one c d r t f g e =
    let k = e ∙ top d t in
    let nodes = nodes_same (head_of d) c r _ f g.0 k d.nodes (lines value_numbers d.values ++ t) (g.1, refl) refl in
    let values = values_same (head_of d) c r _ f g.0 k d.values (lines value_numbers d.values ++ t) t (g.2, refl) refl nodes.1 in
    (same_contents c d (ap (λ (x : Head). x.width) (head_same (head_of d) c r _ f g.0 k).0) nodes.0 values.0, values.1)

make_head : ℕ → ℕ → ℕ → Head
make_head w n v = record { width = w; nodes = n; values = v }

-- where a line of the sheet is missing
pub no_head : (s : List ℕ) → BeginsWithNone (λ h. FitsLine (head_numbers h)) (λ h. line (head_numbers h)) s → LacksContents s
unfolding BeginsWithNone LacksContents
no_head s none c r f e = none (head_of c) _ f.0 (e ∙ top c r)

pub no_nodes : (w n v : ℕ) (s : List ℕ) → FitsLine (w ∷ n ∷ v ∷ []) → LacksLines node_numbers n s → LacksContents (line (w ∷ n ∷ v ∷ []) ++ s)
unfolding BeginsWithNone LacksContents LacksLines make_head
no_nodes w n v s g none c r f e =
    let same = head_same (make_head w n v) c r s f g (sym e) in
    none c.nodes (lines value_numbers c.values ++ r) (f.1, ap (λ (x : Head). x.nodes) same.0) (sym same.1)

pub no_values : (n : ℕ) (s t : List ℕ) → FollowsLines node_numbers n s t → FollowsLines node_numbers n s t
    × ((w v : ℕ) → FitsLine (w ∷ n ∷ v ∷ []) → LacksLines value_numbers v t → LacksContents (line (w ∷ n ∷ v ∷ []) ++ s))
unfolding BeginsWithNone LacksContents LacksLines FollowsLines make_head
no_values n s t b = (
  b,
  λ w v g none c r f e.
      let same = head_same (make_head w n v) c r s f g (sym e) in
      let nodes = nodes_same (make_head w n v) c r s f g (sym e) b.0 t b.1 b.2 in
      none c.values r (f.2, ap (λ (x : Head). x.values) same.0) (sym nodes.1),
)

-- and where all are there
pub all_lines : (v : ℕ) (t u : List ℕ) → FollowsLines value_numbers v t u → FollowsLines value_numbers v t u
    × ((w n : ℕ) (s : List ℕ) → FitsLine (w ∷ n ∷ v ∷ []) → FollowsLines node_numbers n s t
    → FollowsContents (line (w ∷ n ∷ v ∷ []) ++ s) (record { width = w; nodes = n; values = v }) u × (length u ≤ length (line (w ∷ n ∷ v ∷ []) ++ s)))
unfolding FollowsContents FollowsLines make_head
all_lines v t u b = (
  b,
  λ w n s g k.
      let c : Contents = record { width = w; nodes = k.0; values = b.0 } in
      let heads : head_of c ≡ make_head w n v = ap (λ (x : ℕ). make_head w x (length b.0)) k.1.1 ∙ ap (make_head w n) b.1.1 in
      let rest : s ≡ lines node_numbers k.0 ++ (lines value_numbers b.0 ++ u) = k.2 ∙ ap (λ (x : List ℕ). lines node_numbers k.0 ++ x) b.2 in
      let text : line (w ∷ n ∷ v ∷ []) ++ s ≡ sheet_text c ++ u =
      ap (λ (x : List ℕ). line (w ∷ n ∷ v ∷ []) ++ x) rest
      ∙ ap (λ (x : Head). line (head_numbers x) ++ (lines node_numbers k.0 ++ (lines value_numbers b.0 ++ u))) (sym heads) ∙ sym (top c u) in (
        (c, (subst (λ (x : Head). FitsLine (head_numbers x)) (sym heads) g, k.1.0, b.1.0), heads, text),
        omega (arith, ap length text, length-append (sheet_text c) u),
      ),
)

pub ruleset skips = (no_head, no_nodes, no_values, all_lines)

-- the front of a text
front_is : (t : List ℕ) (c : Contents) (r : List ℕ) → t ≡ sheet_text c ++ r → take (length t - length r) t ≡ sheet_text c
front_is t c r e =
    let long : length t - length r ≡ length (sheet_text c) = omega (arith, ap length e, length-append (sheet_text c) r) in
    ap (λ (n : ℕ). take n t) long ∙ ap (take (length (sheet_text c))) e ∙ take_at (sheet_text c) r (length (sheet_text c)) refl

pub headed_well : (s : List ℕ) (h : Head) → HasHead s h → Wellformed s
unfolding HasHead Wellformed
headed_well s h g = (g.0, g.1, g.3)

-- what each part of an input says of the whole
pub no_sheet : (t : List ℕ) → LacksContents t → IsNoInput t
unfolding LacksContents IsNoInput
no_sheet t none c ss q g e = none c (lines site_numbers ss ++ q) (within_fits c g.0) e

module _ (t : List ℕ) (h : Head) (r : List ℕ) (l : FollowsContents t h r) where
  pub bad_sheet : Malformed (take (length t - length r) t) → IsNoInput t
  unfolding FollowsContents IsNoInput Malformed
  bad_sheet none c ss q g e =
      let same = front_one l.0 c r (lines site_numbers ss ++ q) l.1 (within_fits c g.0) (sym l.3 ∙ e) in
      none c g.0 (front_is t l.0 r l.3 ∙ ap sheet_text same.0)

  pub no_sites : LacksLines site_numbers h.values r → IsNoInput t
  unfolding FollowsContents IsNoInput LacksLines BeginsWithNone
  no_sites none c ss q g e =
      let same = front_one l.0 c r (lines site_numbers ss ++ q) l.1 (within_fits c g.0) (sym l.3 ∙ e) in
      none ss q (g.1.0, g.1.1 ∙ ap (λ (x : Contents). length x.values) (sym same.0) ∙ ap (λ (x : Head). x.values) l.2) same.1

  pub all_parts : (q : List ℕ) → Wellformed (take (length t - length r) t) → FollowsLines site_numbers h.values r q
      → HasInputParts t (take (length t - length r) t) h.values r q
  unfolding FollowsContents Wellformed FollowsLines HasInputParts
  all_parts q w b =
      let front = front_is t l.0 r l.3 in
      let same = front_one l.0 w.0 [] [] l.1 (within_fits w.0 w.1) (ap (λ (x : List ℕ). x ++ []) (sym front ∙ w.2)) in
      let count : length w.0.values ≡ h.values = ap (λ (x : Contents). length x.values) (sym same.0) ∙ ap (λ (x : Head). x.values) l.2 in
      (w.0, b.0, (w.1, (b.1.0, b.1.1 ∙ sym count)), w.2, sym count, b.2, l.3 ∙ ap (λ (x : List ℕ). x ++ r) (sym front))

pub ruleset divides = (no_sheet, bad_sheet, no_sites, all_parts)

make_site : ℕ → ℕ → ℕ → Site
make_site d b l = record { dam = d; borehole = b; logger = l }

site_again : (x : Site) → make_site x.dam x.borehole x.logger ≡ x
unfolding make_site
site_again x = refl

site_apart : (x y : Site) → site_numbers x ≡ site_numbers y → x ≡ y
site_apart x y e = cc (site_again x, site_again y)

-- an input that was divided
module _ (t a : List ℕ) (n : ℕ) (b q : List ℕ) (p : HasInputParts t a n b q) where
  whole : (c : Contents) (ss : List Site) → a ≡ sheet_text c → b ≡ lines site_numbers ss ++ q → t ≡ a ++ b → t ≡ input_text c ss q
  whole c ss e k l = l ∙ ap (λ (x : List ℕ). x ++ b) e ∙ ap (λ (x : List ℕ). sheet_text c ++ x) k

  pub begun : HasInputParts t a n b q × IsInput t × (Malformed a → ⊥) × (LacksLines site_numbers n b → ⊥)
  unfolding HasInputParts IsInput IsInputText Malformed LacksLines BeginsWithNone
  begun = (
    p,
    (p.0, p.1, q, (p.2, whole p.0 p.1 p.3 p.5 p.6)),
    (λ none. none p.0 p.2.0 p.3),
    (λ none. none p.1 q (p.2.1.0, p.2.1.1 ∙ sym p.4) p.5),
  )

  pub given_parts : (c : Contents) (xs : List Site) (u : List ℕ) → FitsSheet c → a ≡ sheet_text c → AreRows site_numbers n xs → b ≡ lines site_numbers xs ++ u
      → IsInputText t c xs q
  unfolding HasInputParts IsInputText
  given_parts c xs u w e g k =
      let same = front_one p.0 c [] [] (within_fits p.0 p.2.0) (within_fits c w) (ap (λ (x : List ℕ). x ++ []) (sym p.3 ∙ e)) in
      let count : n ≡ length c.values = p.4 ∙ ap (λ (x : Contents). length x.values) same.0 in
      let sites = lines_cancel site_numbers 3 (λ _. refl) site_apart n xs p.1 u q g (p.2.1.0, p.2.1.1 ∙ sym p.4) (sym k ∙ p.5) in
      ((w, (g.0, g.1 ∙ count)), whole c xs e (k ∙ ap (λ (x : List ℕ). lines site_numbers xs ++ x) sites.1) p.6)

-- an input's text is that of one sheet, one list of sites and one text of queries
pub one_input : AtMostOneInput
unfolding AtMostOneInput
one_input c d xs ys q r g h e =
    let front = front_one c d (lines site_numbers xs ++ q) (lines site_numbers ys ++ r) (within_fits c g.0) (within_fits d h.0) e in
    let count : length c.values ≡ length d.values = ap (λ (x : Contents). length x.values) front.0 in
    let sites = lines_cancel site_numbers 3 (λ _. refl) site_apart (length c.values) xs ys q r g.1 (h.1.0, h.1.1 ∙ sym count) front.1 in
    (front.0, sites.0, sites.1)

pub ruleset loads = (begun, given_parts, one_input)
