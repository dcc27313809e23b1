-- What is printed of a sheet that was not read.
use Rattle.std.specs.Prelude.{ℕ, List, codes}
use Rattle.nodes.specs.Faults.{text_of}
use Rattle.sheet.specs.declared.error.ReadError.{ReadError}
use Rattle.sheet.specs.declared.error.ReadError.TheVariants.{Fault, OutOfMemory}

abbrev pub read_error_text : ReadError → List ℕ
read_error_text (Fault e) = text_of e
read_error_text OutOfMemory = codes "out of memory"
