use Rattle.std.proofs.Common.{◌≡◌, ◌&&◌, ltb, sym, ap, ◌∙◌}
use Rattle.marks.specs.Marks.{falls}
use Rattle.marks.specs.Fronts.{accepts, marks_of}
use Rattle.marks.proofs.Fronts.{accepts_last}
use Rattle.marks.proofs.front.Front.accepts.Goals as goal
use Rattle.marks.proofs.front.Front.accepts.Goals.{In-Some}

by_last : (c : goal.In-Some) → accepts (marks_of c.args.self.now) c.args.mark
    ≡ (ltb c.args.self.now.count 9 && falls c.in-Some.last.now c.args.mark)
by_last c =
    let f = c.args.self.now in
    let item = c.in-Some.ensures.item in
    accepts_last f.row f.count c.args.mark f.nine f.within
    _ _ c.marks.ensures.value f.ordered item.3.0 item.1

pub returns-then-has_room : goal.returns-then-has_room
returns-then-has_room c =
    c.falls_to.ensures ∙ ap (λ b. b && falls c.in-Some.last.now c.args.mark) c.if-has_room.ensures
    ∙ sym (by_last (goal.at.returns-then-has_room c).In-Some)
