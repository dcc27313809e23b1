-- What is said of a text: 15 where it is no sheet's, else the verdict on its image, and its count of addresses where that is good.
use Rattle.std.specs.Prelude.{◌≡◌, ℕ, ◌⊎◌, List, length, Ok, Err, Result}
use Rattle.coverage.specs.Counts.{address_count}
use Rattle.coverage.specs.declared.AddressCount.{AddressCount}
use Rattle.judge.specs.declared.report.Report.{Report}
use Rattle.nodes.specs.Faults.{Outcome, given, refused, number}
use Rattle.nodes.specs.declared.error.ArchiveError.{ArchiveError}
use Rattle.nodes.specs.declared.node.Node.{Node}
use Rattle.register.specs.Register.{register}
use Rattle.sheet.specs.Sheets.{Contents, FitsSheet, Wellformed, Malformed, head_of, sheet_text}
use Rattle.sheet.specs.declared.error.ReadError.{ReadError}
use Rattle.sheet.specs.declared.error.ReadError.TheVariants.{Fault, OutOfMemory}
use Rattle.tree.specs.Verdict.{Accepted, verdict}

-- n is the count of the addresses that the image of these two lists matches
abbrev pub CountsAddresses : ℕ → List Node → List ℕ → AddressCount → Type 0
CountsAddresses w ns vs n = n ≡ address_count w (register w ns vs)

-- the verdict on two lists, with that count where it is good
abbrev pub CountsAccepted : ℕ → List Node → List ℕ → Result AddressCount ArchiveError → Type 0
CountsAccepted w ns vs (Ok n) = Accepted w ns (length vs) × CountsAddresses w ns vs n
CountsAccepted w ns vs (Err e) = verdict w ns (length vs) ≡ refused (number e)

-- t is the text of the sheet c, and the verdict on its image is a
abbrev pub HasVerdict : List ℕ → Contents → Outcome (Unit {0}) → Type 0
HasVerdict t c a = FitsSheet c × (t ≡ sheet_text c) × (verdict c.width c.nodes (length c.values) ≡ a)

-- t is the text of a sheet whose image is accepted, and r has its head and its count of addresses
unfoldable pub ReportsSheet : List ℕ → Report → Type 0
ReportsSheet t r =
    (c : Contents) × HasVerdict t c (given tt) × (head_of c ≡ r.head) × CountsAddresses c.width c.nodes c.values r.addresses

-- t is the text of a sheet whose image has the fault with the number k
unfoldable pub HasFault : List ℕ → ℕ → Type 0
HasFault t k = (c : Contents) × HasVerdict t c (refused k)

-- the report on the sheet whose text t is; the number of its image's fault; 15 for any other text; want
-- of memory only for a sheet's
abbrev pub JudgesSheet : List ℕ → Result Report ReadError → Type 0
JudgesSheet t (Ok r) = ReportsSheet t r
JudgesSheet t (Err (Fault e)) = HasFault t (number e) ⊎ (Malformed t × (number e ≡ 15))
JudgesSheet t (Err OutOfMemory) = Wellformed t
