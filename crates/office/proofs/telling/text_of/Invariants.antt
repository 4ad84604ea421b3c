use Rattle.std.proofs.Common.{◌≡◌, take, string_bytes}
use Rattle.std.specs.List.{flat_map}
use Rattle.office.specs.Texts.{response_text}
use Rattle.office.proofs.telling.text_of.Given as goal

abbrev pub invariant-loop-said : goal.invariant-loop-said
invariant-loop-said l = string_bytes l.text ≡ flat_map response_text (take l.said-index l.responses)
