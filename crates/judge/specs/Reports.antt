-- What is printed of an accepted sheet.
use Rattle.std.specs.Prelude.{ℕ, List, ◌++◌, codes, decimal}
use Rattle.coverage.specs.declared.AddressCount.{AddressCount}
use Rattle.coverage.specs.declared.AddressCount.TheVariants.{Number, Whole}
use Rattle.judge.specs.declared.report.Report.{Report}

-- where all are covered, no number
abbrev pub addresses_text : AddressCount → List ℕ
addresses_text (Number n) = decimal n ++ codes " addresses covered"
addresses_text Whole = codes "all addresses covered"

-- its head, and how many addresses it covers
abbrev pub report_text : Report → List ℕ
report_text r =
    codes "keys of "
    ++ (decimal r.head.width ++ (codes " bits, " ++ (decimal r.head.nodes ++ (codes " nodes, " ++ (decimal r.head.values ++ (codes " values; " ++ addresses_text r.addresses))))))
