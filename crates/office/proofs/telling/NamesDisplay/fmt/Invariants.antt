use Rattle.std.proofs.Common.{◌∷◌, length, take}
use Rattle.std.specs.Fmt.{IsPlainFormatter, HasWritten}
use Rattle.office.specs.Texts.{names_text}
use Rattle.office.proofs.Texts.{first_name, later_names}
use Rattle.office.proofs.telling.NamesDisplay.fmt.Given as goal

abbrev pub invariant-loop-pair : goal.invariant-loop-pair
invariant-loop-pair g l =
    (goal.iterator-loop-pair g).can_next l.pair-iterator ×
    (goal.iterator-loop-pair g).is_finite l.pair-iterator ×
    (IsPlainFormatter l.fn.f → HasWritten g.W.Write.write_str_gives l.fn.f
    (names_text (first_name l.self.pairs.now ∷ take (length l.yielded) (later_names l.self.pairs.now))) l.f)
