-- How it is told why a file cannot be read on.
use Rattle.std.specs.Prelude.{ℕ, List, ◌++◌, codes, decimal}
use Rattle.office.specs.declared.reading.Fault.{Fault}
use Rattle.office.specs.declared.reading.Fault.TheVariants.{Unknown, CutShort}

abbrev pub fault_text : Fault → List ℕ
fault_text (Unknown place byte) = codes "byte " ++ (decimal place ++ (codes ": there is no request " ++ (decimal byte ++ codes " yet")))
fault_text (CutShort place) = codes "byte " ++ (decimal place ++ codes ": the update is cut short")
