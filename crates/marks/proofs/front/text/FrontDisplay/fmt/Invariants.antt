use Rattle.std.proofs.Common.{◌+◌, take}
use Rattle.std.specs.Fmt.{IsPlainFormatter, HasWritten}
use Rattle.marks.specs.Fronts.{marks_of}
use Rattle.marks.specs.Texts.{marks_text}
use Rattle.marks.proofs.front.text.FrontDisplay.fmt.Given as goal

abbrev pub invariant-loop-mark : goal.invariant-loop-mark
invariant-loop-mark g l =
    IsPlainFormatter l.fn.f → HasWritten g.W.Write.write_str_gives l.fn.f (marks_text (take (l.mark-index + 1) (marks_of l.self))) l.f
