-- How the text of an input is divided, as the functions behind `load` say it to one another.
use Rattle.std.specs.Prelude.{◌≡◌, ℕ, List, ◌++◌, length, Some, None, Option, ◌≢◌}
use Rattle.sheet.specs.Columns.{FitsLine, FitsLines, lines}
use Rattle.sheet.specs.Entries.{head_numbers, node_numbers, value_numbers}
use Rattle.sheet.specs.Sheets.{Contents, head_of, sheet_text}
use Rattle.sheet.specs.declared.head.Head.{Head}
use Rattle.query.specs.Inputs.{HasSites, IsNoInput}
use Rattle.query.specs.Sites.{site_numbers}
use Rattle.query.specs.declared.input.Parts.{Parts}
use Rattle.query.specs.declared.site.Site.{Site}

-- every number fits its column, whatever the width and the size
abbrev pub FitsColumns : Contents → Type 0
FitsColumns c = FitsLine (head_numbers (head_of c)) × FitsLines node_numbers c.nodes × FitsLines value_numbers c.values

-- t begins with the lines of such contents, whose head is h, and r follows them
unfoldable pub FollowsContents : List ℕ → Head → List ℕ → Type 0
FollowsContents t h r = (c : Contents) × FitsColumns c × (head_of c ≡ h) × (t ≡ sheet_text c ++ r)

-- t begins with no such lines
unfoldable pub LacksContents : List ℕ → Type 0
LacksContents t = (c : Contents) (r : List ℕ) → FitsColumns c → t ≢ sheet_text c ++ r

-- a is the text of a sheet with n values, b begins with a site for each and q follows them, and a and b are the whole of t
unfoldable pub HasInputParts : List ℕ → List ℕ → ℕ → List ℕ → List ℕ → Type 0
HasInputParts t a n b q =
    (c : Contents) × (sites : List Site) × HasSites c sites
    × (a ≡ sheet_text c) × (n ≡ length c.values) × (b ≡ lines site_numbers sites ++ q) × (t ≡ a ++ b)

abbrev pub FindsInputParts : List ℕ → Option Parts → Type 0
FindsInputParts t None = IsNoInput t
FindsInputParts t (Some p) = HasInputParts t p.sheet.now p.values p.sites.now p.queries.now
