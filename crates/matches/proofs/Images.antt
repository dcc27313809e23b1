-- The laws of an accepted image, and the value at a place of its list.
use Rattle.std.proofs.Common.{◌≡◌, ℕ, zero, suc, ◌≤◌, Some, None, Option, Result, Bor, List, [], ◌∷◌, length, slice_get, refl, sym, ap, ◌∙◌, le_of_suc-le-suc, not-suc-le-zero}
use Rattle.std.proofs.lemmas.Option.{slice_get-get_or}
use Rattle.std.specs.Option.{ok_or}
use Rattle.std.specs.Slice.{IsItemAt}
use Rattle.nodes.specs.Faults.{given, number, outcome}
use Rattle.nodes.specs.declared.error.ArchiveError.TheVariants.{NoSuchPlace}
use Rattle.nodes.specs.declared.error.ArchiveError.{ArchiveError}
use Rattle.accept.specs.declared.image.Image.{Image}
use Rattle.accept.proofs.Images.{image_filled, image_sound}
use Rattle.accept.specs.Images.{nodes_of, values_of, width_of}
use Rattle.tree.specs.Levels.{data_ones}
use Rattle.register.proofs.Laws.{register_laws}
use Rattle.register.proofs.MatchLaws.{register_matches}
use Rattle.register.specs.Laws.{MatchLaws, RegisterLaws}
use Rattle.requests.specs.Requests.{outcome_map, register_of, value_answer}

pub image_laws : {A : Type 0} (i : Image A) → RegisterLaws (width_of i) (nodes_of i) (values_of i)
image_laws i = register_laws (width_of i) (nodes_of i) (values_of i) (data_ones (nodes_of i)) (image_sound i) (image_filled i)

pub image_matches : {A : Type 0} (i : Image A) → MatchLaws (width_of i) (register_of i)
image_matches i = register_matches (width_of i) (nodes_of i) (values_of i) (data_ones (nodes_of i)) (image_sound i) (image_filled i)

past_end : {A : Type 0} (vs : List A) (place : ℕ) → length vs ≤ place → slice_get vs place ≡ None
past_end [] place h = refl
past_end (v ∷ vs) zero h = absurd (not-suc-le-zero h)
past_end (v ∷ vs) (suc place) h = past_end vs place (le_of_suc-le-suc h)

-- what a lookup by place answers
pub got_value : {A : Type 0} (vs : List A) (place : ℕ) (r : Option (Bor A)) (s : Result (Bor A) ArchiveError) → IsItemAt vs place r → s ≡ ok_or r NoSuchPlace → outcome_map (λ (v : Bor A). v.now) (outcome number s) ≡ value_answer (slice_get vs place)
got_value {A} vs place None s h e =
    ap (λ (x : Result (Bor A) ArchiveError). outcome_map (λ (v : Bor A). v.now) (outcome number x)) e ∙ ap value_answer (sym (past_end vs place h.3))
got_value {A} vs place (Some x) s h e =
    ap (λ (y : Result (Bor A) ArchiveError). outcome_map (λ (v : Bor A). v.now) (outcome number y)) e
    ∙ (ap given (h.3.1 x.now) ∙ ap value_answer (sym (slice_get-get_or vs place x.now h.3.0)))
