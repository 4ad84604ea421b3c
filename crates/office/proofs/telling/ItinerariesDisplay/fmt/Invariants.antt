use Rattle.std.proofs.Common.{◌≡◌, ℕ, ◌-◌, List, ◌++◌}
use Rattle.std.specs.Fmt.{IsPlainFormatter, HasWritten}
use Rattle.office.specs.Texts.{itineraries_text}
use Rattle.office.proofs.telling.ItinerariesDisplay.fmt.Given as goal

-- what is told, and the lines to come, are all the lines
abbrev pub invariant-loop-i : goal.invariant-loop-i
invariant-loop-i g l = (text : List ℕ) ×
    (IsPlainFormatter l.fn.f → HasWritten g.W.Write.write_str_gives l.fn.f text l.f) ×
    (text ++ itineraries_text (l.self.count - l._i) l.numbers ≡ itineraries_text l.self.count l.self.numbers.now)
