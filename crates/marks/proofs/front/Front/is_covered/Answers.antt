use Rattle.std.proofs.Common.{◌∙◌, rules, tests}
use Rattle.std.proofs.lemmas.Iterator.{YieldsList-from_slice}
use Rattle.std.proofs.lemmas.Iterator.Search.{any_from_yields_List}
use Rattle.marks.specs.Marks.{no_worse}
use Rattle.marks.specs.Fronts.{marks_of}
use Rattle.marks.proofs.Marks.{covered_any}
use Rattle.marks.proofs.front.Front.is_covered.Goals as goal

pub returns : goal.returns
returns c =
    let m = c.args.mark in
    let ms = marks_of c.args.self.now in
    any_from_yields_List (λ n. no_worse n m) _ _ c.any.result c.any.ensures.ran
    (YieldsList-from_slice ms (c.iter.ensures.rest ∙ c.marks.ensures.value)) (λ x b q k. search (rules, tests))
    ∙ covered_any m ms
