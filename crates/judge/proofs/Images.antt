-- What is said of the image in a sheet that was read.
use Rattle.std.proofs.Common.{◌≡◌, ℕ, List, length, refl}
use Rattle.coverage.specs.declared.AddressCount.{AddressCount}
use Rattle.nodes.specs.Faults.{given, refused}
use Rattle.nodes.specs.declared.node.Node.{Node}
use Rattle.sheet.specs.Sheets.{Contents, FitsSheet, sheet_text}
use Rattle.sheet.specs.declared.head.Head.{Head}
use Rattle.tree.specs.Verdict.{verdict}
use Rattle.judge.specs.declared.report.Report.{Report}
use Rattle.judge.specs.Judged.{ReportsSheet, HasFault, CountsAddresses}

abbrev contents : ℕ → List Node → List ℕ → Contents
contents w ns vs = record { width = w; nodes = ns; values = vs }

abbrev counts : ℕ → List Node → List ℕ → Head
counts w ns vs = record { width = w; nodes = length ns; values = length vs }

abbrev report : ℕ → List Node → List ℕ → AddressCount → Report
report w ns vs n = record { head = counts w ns vs; addresses = n }

pub accepted : (t : List ℕ) (w : ℕ) (ns : List Node) (vs : List ℕ) (n : AddressCount) → FitsSheet (contents w ns vs) → t ≡ sheet_text (contents w ns vs)
    → verdict w ns (length vs) ≡ given tt → CountsAddresses w ns vs n → ReportsSheet t (report w ns vs n)
unfolding ReportsSheet
accepted t w ns vs n g e v m = (contents w ns vs, (g, e, v), refl, m)

-- the first part is refl: it is there so that the check finds the term
pub faulty : (w : ℕ) (ns : List Node) (vs : List ℕ) → FitsSheet (contents w ns vs) → (verdict w ns (length vs) ≡ verdict w ns (length vs))
    × ((t : List ℕ) (k : ℕ) → t ≡ sheet_text (contents w ns vs) → verdict w ns (length vs) ≡ refused k → HasFault t k)
unfolding HasFault
faulty w ns vs g = (refl, λ t k e v. (contents w ns vs, (g, e, v)))
