-- Which addresses are matched, over an append, and of the register as of its places; and that those have a longest match.
use Rattle.std.proofs.Common.{◌≡◌, ℕ, suc, ◌≤◌, Bool, true, false, ◌||◌, cond, List, [], ◌∷◌, ◌++◌, length, Some, None, Option, is_some, sym, refl, ap, ◌∙◌, inl, inr, arith}
use Rattle.std.specs.Option.{option_map}
use Rattle.std.specs.List.{AllByRecursion}
use Rattle.std.proofs.lemmas.Bool.{or_cases, false≢true}
use Rattle.std.proofs.lemmas.List.Elements.{All-from_recursion}
use Rattle.std.proofs.lemmas.List.Folds.{list_any-append, list_any_at, list_any_none}
use Rattle.keys.specs.Blocks.{block_of, contains}
use Rattle.nodes.specs.declared.node.Node.{Node}
use Rattle.tree.specs.Meaning.{Sound}
use Rattle.register.specs.Entries.{Entry, last_element, longest}
use Rattle.register.specs.Register.{places, register}
use Rattle.register.proofs.Laws.{register_longest}
use Rattle.register.proofs.Values.{strip}
use Rattle.addresses.specs.Addresses.{matched}
use Rattle.addresses.specs.Laws.{LiesIn}
use Rattle.std.specs.Prelude.{filter}

last_some : {A : Type 0} (x : A) (xs : List A) → is_some (last_element (x ∷ xs)) ≡ true
last_some x [] = refl
last_some x (y ∷ ys) = last_some y ys

some_map : {A B : Type 0} (f : A → B) (o : Option A) → is_some (option_map f o) ≡ is_some o
some_map f None = refl
some_map f (Some x) = refl

module _ {A : Type 0} (w a : ℕ) where
  -- the entry contains the address a
  abbrev pub has : Entry A → Bool
  has e = contains w e.block (block_of w a w)

  pub matched_append : (es fs : List (Entry A)) → matched w (es ++ fs) a ≡ (matched w es a || matched w fs a)
  matched_append es fs = list_any-append has es fs

  pub matched_none : (es : List (Entry A)) → AllByRecursion (λ e. has e ≡ false) es → matched w es a ≡ false
  matched_none es h = list_any_none has es (All-from_recursion (λ e. has e ≡ false) es h)

  -- an address has a longest match where it is matched, and nowhere else
  pub has_longest : (es : List (Entry A)) → is_some (longest w (block_of w a w) es) ≡ matched w es a
  has_longest [] = refl
  has_longest (e ∷ es) = by (has e) (filter has es) ∙ ap (λ b. has e || b) (has_longest es)
    where
      by : (b : Bool) (l : List (Entry A)) → is_some (last_element (cond b (e ∷ l) l)) ≡ (b || is_some (last_element l))
      by true l = last_some e l
      by false l = refl

  pub lies_matched : (es : List (Entry A)) → LiesIn w es a → matched w es a ≡ true
  lies_matched es l = list_any_at has es l.1.0 l.0 l.1.1 (ap has l.1.2 ∙ l.2)

  pub matched_lies : (es : List (Entry A)) → matched w es a ≡ true → LiesIn w es a
  matched_lies [] h = absurd (false≢true h)
  matched_lies (f ∷ es) h =
      elim (or_cases (has f) (matched w es a) h) [
        | inl t ↦ (f, (0, omega arith, refl), t)
        | inr t ↦ (let r = matched_lies es t in (r.0, (suc r.1.0, omega (arith, r.1.1), r.1.2), r.2))
      ]

-- the register is matched where its places are
pub matched_register : {A : Type 0} (w : ℕ) (ns : List Node) (vs : List A) (called : ℕ) → Sound w ns called → called ≤ length vs → (a : ℕ) → matched w (register w ns vs) a ≡ matched w (places w ns) a
matched_register w ns vs called sound room a =
    sym (has_longest w a (register w ns vs))
    ∙ (sym (some_map strip (longest w (block_of w a w) (register w ns vs)))
    ∙ (ap is_some (register_longest w ns vs called sound room (block_of w a w)) ∙ has_longest w a (places w ns)))
