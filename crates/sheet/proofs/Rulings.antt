-- A text begins with one line at most of each kind, and with one list at most of a number of them.
use Rattle.std.proofs.Common.{◌≡◌, ℕ, ◌+◌, ◌<◌, ◌≤◌, List, [], ◌∷◌, ◌++◌, length, take, drop, get_or, true, false, eqb, sym, refl, ap, ◌∙◌, subst, append_assoc, append-nil, arith, ◌≢◌}
use Rattle.std.specs.List.{flat_map}
use Rattle.std.proofs.lemmas.List.{take-append-drop, append_cancel_left, length_push, length-append, length-take-le, drop_all}
use Rattle.std.proofs.lemmas.List.Folds.{length-flat_map-take}
use Rattle.std.proofs.ByRecursion.{All-push}
use Rattle.std.proofs.lemmas.Grind.{common_steps, flat_map-append}
use Rattle.std.proofs.lemmas.Bool.{eqb-true, and_parts, false≢true}
use Rattle.std.specs.Cmp.Lexicographic.{pointwise}
use Rattle.sheet.specs.Columns.{column, line, lines, FitsColumn, FitsLine, FitsLines, IsRow, AreRows, BeginsWithNone, IsLongestFront, OverwritesFront, LacksLines, FollowsLines, IsLineKind}
use Rattle.sheet.proofs.Places.{column_cancel, length_column}
use Rattle.sheet.proofs.Runs.{Cancels, run_cancels, run_stops, run_more}

pub columns_cancel : (k : ℕ) → Cancels (IsRow k) (flat_map column)
columns_cancel k ms ns r t g h e =
    run_cancels FitsColumn column column_cancel ms ns r t g.0 h.0 (g.1 ∙ sym h.1) e

pub line_parts : (ns r : List ℕ) → line ns ++ r ≡ flat_map column ns ++ (10 ∷ r)
line_parts ns r = append_assoc (flat_map column ns) (10 ∷ []) r

module _ {X : Type 0} (numbers : X → List ℕ) (k : ℕ) (has_count : (x : X) → length (numbers x) ≡ k) (identified : (x y : X) → numbers x ≡ numbers y → x ≡ y) where
  pub line_cancels : Cancels (λ x. FitsLine (numbers x)) (λ x. line (numbers x))
  line_cancels x y r t g h e =
      let same = columns_cancel k (numbers x) (numbers y) (10 ∷ r) (10 ∷ t) (g, has_count x) (h, has_count y) (sym (line_parts (numbers x) r) ∙ e ∙ line_parts (numbers y) t) in
      (identified x y same.0, append_cancel_left (10 ∷ []) r t same.1)

  pub lines_cancel : (m : ℕ) → Cancels (AreRows numbers m) (lines numbers)
  lines_cancel m xs ys r t g h e =
      run_cancels (λ x. FitsLine (numbers x)) (λ x. line (numbers x)) line_cancels xs ys r t g.0 h.0 (g.1 ∙ sym h.1) e

-- where no column stands behind some columns, no longer line begins the whole
pub row_stops : (k : ℕ) (ns r : List ℕ) → FitsLine ns → length ns < k → BeginsWithNone FitsColumn column r → BeginsWithNone (IsRow k) line (flat_map column ns ++ r)
unfolding BeginsWithNone
row_stops k ns r g l none ms t h e =
    run_stops FitsColumn column column_cancel ns ms r (10 ∷ t) g h.0 (omega (arith, h.1)) none (e ∙ line_parts ms t)

-- where no line's end stands behind k columns, no line of k columns begins the whole
pub row_unended : (k : ℕ) (ns r : List ℕ) → FitsLine ns → length ns ≡ k → pointwise eqb (take 1 r) (10 ∷ []) ≡ false → BeginsWithNone (IsRow k) line (flat_map column ns ++ r)
unfolding BeginsWithNone
row_unended k ns r g l no' ms t h e =
    let rest : r ≡ 10 ∷ t = (columns_cancel k ns ms r (10 ∷ t) (g, l) h (e ∙ line_parts ms t)).1 in
    false≢true (sym no' ∙ ap (λ (u : List ℕ). pointwise eqb (take 1 u) (10 ∷ [])) rest)

-- what stands behind a line's end
-- the first part is refl: it is there so that the check finds the term
pub ended : (r : List ℕ) → (drop 1 r ≡ drop 1 r) × (pointwise eqb (take 1 r) (10 ∷ []) ≡ true → r ≡ 10 ∷ drop 1 r)
ended [] = (refl, λ e. absurd (false≢true e))
ended (b ∷ bs) = (refl, λ e. ap (λ (c : ℕ). c ∷ bs) (eqb-true b 10 (and_parts _ _ e).0))

pub fit_more : (ns : List ℕ) (n : ℕ) → FitsLine ns → FitsColumn n → FitsLine (ns ++ n ∷ [])
fit_more ns n g h = All-push FitsColumn ns n g h

-- the columns that were read, where no other follows
pub front_kept : (i : ℕ) (ns before r : List ℕ) → FitsLine (take i ns) → length ns ≡ length before → i < length ns
    → drop i ns ≡ drop i before → BeginsWithNone FitsColumn column r
    → OverwritesFront (flat_map column (take i ns) ++ r) before ns
unfolding OverwritesFront IsLongestFront
front_kept i ns before r g l h d none =
    let k : length (take i ns) ≡ i = length-take-le i ns (omega (arith, h)) in (
      take i ns,
      (r, g, omega (arith, k, l, h), refl, λ _. none),
      sym (take-append-drop i ns) ∙ ap (λ (t : List ℕ). take i ns ++ t) d ∙ ap (λ (j : ℕ). take i ns ++ drop j before) (sym k),
    )

-- and where all were read
pub front_full : (ns before r : List ℕ) → FitsLine ns → length ns ≡ length before → OverwritesFront (flat_map column ns ++ r) before ns
unfolding OverwritesFront IsLongestFront
front_full ns before r g l = (
  ns,
  (r, g, omega (arith, l), refl, λ h. absurd (omega (arith, l, h))),
  sym (append-nil ns) ∙ ap (λ (t : List ℕ). ns ++ t) (sym (drop_all (length ns) before (omega (arith, l)))),
)

-- the steps of reading a line column by column
pub ruleset rows = (row_stops, row_unended, ended, fit_more, front_kept, front_full, common_steps)

-- where no x has the numbers of a line, no other line begins its text
pub no_entry : {X : Type 0} (numbers : X → List ℕ) (k : ℕ) (ns r : List ℕ) → ((x : X) → length (numbers x) ≡ k) → FitsLine ns → length ns ≡ k
    → ((x : X) → numbers x ≢ ns) → BeginsWithNone (λ x. FitsLine (numbers x)) (λ x. line (numbers x)) (line ns ++ r)
unfolding BeginsWithNone
no_entry numbers k ns r has_count g l none x t h e =
    none x (columns_cancel k (numbers x) ns (10 ∷ t) (10 ∷ r) (h, has_count x) (g, l) (sym (line_parts (numbers x) t) ∙ sym e ∙ line_parts ns r)).0

-- where no line stands behind some lines, no more lines begin the whole
pub list_stops : {X : Type 0} (numbers : X → List ℕ) (m : ℕ) (xs : List X) (r : List ℕ) → IsLineKind numbers → FitsLines numbers xs → length xs < m
    → BeginsWithNone (λ x. FitsLine (numbers x)) (λ x. line (numbers x)) r → LacksLines numbers m (lines numbers xs ++ r)
unfolding LacksLines BeginsWithNone
list_stops numbers m xs r a g l none ys t h e =
    run_stops (λ y. FitsLine (numbers y)) (λ y. line (numbers y)) (line_cancels numbers a.count a.has_count a.identified) xs ys r t g h.0
    (omega (arith, h.1)) none e

pub fits_more : {X : Type 0} (numbers : X → List ℕ) (xs : List X) (x : X) → FitsLines numbers xs → FitsLine (numbers x) → FitsLines numbers (xs ++ x ∷ [])
fits_more numbers xs x g h = All-push (λ y. FitsLine (numbers y)) xs x g h

-- no line, and one more line
pub behind_none : {X : Type 0} (numbers : X → List ℕ) (s : List ℕ) → FollowsLines numbers 0 s s
unfolding FollowsLines
behind_none numbers s = ([], (tt, refl), refl)

-- the first part gives a premise back: it is there so that the check finds the term
pub behind_more : {X : Type 0} (numbers : X → List ℕ) (m : ℕ) (s : List ℕ) (x : X) (u : List ℕ)
    → FollowsLines numbers m s (line (numbers x) ++ u) → FitsLine (numbers x) → FollowsLines numbers m s (line (numbers x) ++ u) × FollowsLines numbers (m + 1) s u
unfolding FollowsLines
behind_more numbers m s x u h g = (
  h,
  (
    h.0 ++ x ∷ [],
    (fits_more numbers h.0 x h.1.0 g, length_push h.0 x ∙ ap (λ (i : ℕ). i + 1) h.1.1),
    run_more (λ y. FitsLine (numbers y)) (λ y. line (numbers y)) h.0 x s (line (numbers x) ++ u) u h.2 refl,
  ),
)

-- where no line stands behind some lines, no more lines begin the whole
-- the first part gives a premise back: it is there so that the check finds the term
pub behind_stops : {X : Type 0} (numbers : X → List ℕ) (k : ℕ) (s r : List ℕ) → IsLineKind numbers → FollowsLines numbers k s r
    → BeginsWithNone (λ x. FitsLine (numbers x)) (λ x. line (numbers x)) r
    → FollowsLines numbers k s r × ((m : ℕ) → k < m → LacksLines numbers m s)
unfolding FollowsLines
behind_stops numbers k s r a h none =
    (h, λ m l. subst (LacksLines numbers m) (sym h.2) (list_stops numbers m h.0 r a h.1.0 (omega (arith, h.1.1)) none))

pub listed_more : {X : Type 0} (numbers : X → List ℕ) (xs : List X) (x : X) → FitsLines numbers xs → FitsLine (numbers x)
    → FitsLines numbers (xs ++ x ∷ []) × (length (xs ++ x ∷ []) ≡ length xs + 1)
    × ((u : List ℕ) → (lines numbers xs ++ (line (numbers x) ++ u) ≡ lines numbers (xs ++ x ∷ []) ++ u))
listed_more numbers xs x g h = (
  fits_more numbers xs x g h,
  length_push xs x,
  λ u. run_more (λ y. FitsLine (numbers y)) (λ y. line (numbers y)) xs x (lines numbers xs ++ (line (numbers x) ++ u)) (line (numbers x) ++ u) u refl refl,
)

-- the steps of reading lines one by one
pub ruleset listed = (list_stops, listed_more)

pub ruleset skipped = (behind_none, behind_more, behind_stops)

-- the columns before the one at place i, and that one, are shorter than the line
pub row_longer : (ns : List ℕ) (i : ℕ) → i < length ns → length (flat_map column (take i ns)) + 11 < length (line ns)
row_longer ns i l =
    omega (arith, length-flat_map-take column ns i 0 l, length_column (get_or ns i 0), length-append (flat_map column ns) (10 ∷ []))

pub ruleset row_pushed = (row_longer, common_steps)

-- the lines before the one at place i, and that one, are no longer than all
pub lines_longer : {X : Type 0} (numbers : X → List ℕ) (xs : List X) (i : ℕ) (x : X) → i < length xs → x ≡ get_or xs i x
    → length (lines numbers (take i xs)) + length (line (numbers x)) ≤ length (lines numbers xs)
lines_longer numbers xs i x l g =
    subst (λ y. length (lines numbers (take i xs)) + length (line (numbers y)) ≤ length (lines numbers xs)) (sym g)
    (length-flat_map-take (λ y. line (numbers y)) xs i x l)

pub ruleset lines_pushed = (lines_longer, common_steps)
