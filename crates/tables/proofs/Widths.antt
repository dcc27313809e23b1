-- The decimal texts of the four widths.
use Rattle.std.proofs.Common.{◌≡◌, ◌≢◌, ℕ, List, [], ◌∷◌, refl, ◌∙◌}
use Rattle.std.specs.Fmt.{decimal, digits}
use Rattle.tables.specs.Words.{bits}
use Rattle.tables.specs.declared.width.Width.{Width}
use Rattle.tables.specs.declared.width.Width.TheVariants.{Bits8, Bits16, Bits32, Bits64}

pub width_texts : (decimal 8 ≡ 56 ∷ []) × (decimal 16 ≡ 49 ∷ 54 ∷ []) × (decimal 32 ≡ 51 ∷ 50 ∷ []) × (decimal 64 ≡ 54 ∷ 52 ∷ [])
unfolding digits
width_texts = (refl, refl, refl, refl)

pub no_width : (word : List ℕ) → word ≢ (56 ∷ []) → word ≢ (49 ∷ 54 ∷ []) → word ≢ (51 ∷ 50 ∷ []) → word ≢ (54 ∷ 52 ∷ []) → (w : Width) → word ≢ decimal (bits w)
no_width word a b c d Bits8 e = a (e ∙ width_texts.0)
no_width word a b c d Bits16 e = b (e ∙ width_texts.1)
no_width word a b c d Bits32 e = c (e ∙ width_texts.2)
no_width word a b c d Bits64 e = d (e ∙ width_texts.3)
