-- A site's numbers, and how it is written.
use Rattle.std.specs.Prelude.{ℕ, List, [], ◌∷◌, ◌++◌, codes, decimal}
use Rattle.query.specs.declared.site.Site.{Site}

abbrev pub site_numbers : Site → List ℕ
site_numbers s = s.dam ∷ s.borehole ∷ s.logger ∷ []

abbrev pub site_text : Site → List ℕ
site_text s = codes "dam " ++ (decimal s.dam ++ (codes ", borehole " ++ (decimal s.borehole ++ (codes ", logger " ++ decimal s.logger))))
