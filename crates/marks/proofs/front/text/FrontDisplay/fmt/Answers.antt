use Rattle.std.proofs.Common.{◌≡◌, ◌∷◌, sym, ◌∙◌}
use Rattle.marks.specs.Fronts.{marks_of}
use Rattle.marks.proofs.Texts.{text_more, put_next}
use Rattle.marks.proofs.front.text.FrontDisplay.fmt.Goals as goal

pub loop-mark-preserved : goal.loop-mark-preserved
loop-mark-preserved g c = λ plain.
    let split : marks_of c.args.self.now ≡ c.in-Some.first.now ∷ c.in-Some.rest.now = sym c.marks.ensures.value ∙ c.in-Some.ensures.cases.0 in
    put_next g.W.Write.write_str_gives c.args.f.now c.loop-mark.f c.write-in-loop-mark.new.self
    (text_more (marks_of c.args.self.now) _ c.in-Some.rest.now c.loop-mark.mark-index _ split c.loop-mark-test.true)
    (c.loop-mark.invariant plain)
    c.in_ok-write-2.ensures.writes
