-- An input: the text of a sheet, a line for each of its values with the site of that value, and the queries.
use Rattle.std.specs.Prelude.{◌≡◌, ℕ, List, ◌++◌, length, Ok, Err, vec_items, Result, ◌≢◌}
use Rattle.nodes.specs.Faults.{number}
use Rattle.sheet.specs.Columns.{AreRows, lines}
use Rattle.sheet.specs.Readings.{contents_of}
use Rattle.sheet.specs.Sheets.{Contents, FitsSheet, sheet_text}
use Rattle.sheet.specs.declared.error.ReadError.{ReadError}
use Rattle.sheet.specs.declared.error.ReadError.TheVariants.{Fault, OutOfMemory}
use Rattle.query.specs.Sites.{site_numbers}
use Rattle.query.specs.declared.input.Input.{Input}
use Rattle.query.specs.declared.site.Site.{Site}

-- a sheet, and a site for each of its values
abbrev pub HasSites : Contents → List Site → Type 0
HasSites c sites = FitsSheet c × AreRows site_numbers (length c.values) sites

abbrev pub input_text : Contents → List Site → List ℕ → List ℕ
input_text c sites queries = sheet_text c ++ (lines site_numbers sites ++ queries)

-- t is the text of this sheet, these sites and these queries
unfoldable pub IsInputText : List ℕ → Contents → List Site → List ℕ → Type 0
IsInputText t c sites queries = HasSites c sites × (t ≡ input_text c sites queries)

-- t is the text of some sheet, its sites and some queries, or of none
unfoldable pub IsInput : List ℕ → Type 0
IsInput t = (c : Contents) × (sites : List Site) × (queries : List ℕ) × IsInputText t c sites queries

unfoldable pub IsNoInput : List ℕ → Type 0
IsNoInput t = (c : Contents) (sites : List Site) (queries : List ℕ) → HasSites c sites → t ≢ input_text c sites queries

-- the sheet, the sites and the queries whose text t is, or fault 15 where there are none; want of memory is told of an input alone
abbrev pub LoadsInput : List ℕ → Result Input ReadError → Type 0
LoadsInput t (Ok i) = IsInputText t (contents_of i.sheet) (vec_items i.sites) i.queries.now
LoadsInput t (Err (Fault e)) = (number e ≡ 15) × IsNoInput t
LoadsInput t (Err OutOfMemory) = IsInput t

-- a text is that of one sheet, one list of sites and one text of queries at most
unfoldable pub AtMostOneInput : Type 0
AtMostOneInput =
    (c d : Contents) (xs ys : List Site) (q r : List ℕ) → HasSites c xs → HasSites d ys
    → input_text c xs q ≡ input_text d ys r → (c ≡ d) × (xs ≡ ys) × (q ≡ r)
