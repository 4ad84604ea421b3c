use Rattle.std.proofs.Common.{◌≡◌, ℕ, false, List, length, Option, Some, None, inr, rules}
use Rattle.std.proofs.lemmas.Bool.{both_ways}
use Rattle.plan.specs.Legs.{Plan}
use Rattle.journey.specs.declared.question.Question.{Question}
use Rattle.rounds.specs.Rows.{plan_of}
use Rattle.itinerary.specs.Tracing.{prior, Prior, starts, Chosen, Stepped}
use Rattle.itinerary.proofs.Arriving.{prior_near}
use Rattle.itinerary.proofs.Picking.{found_chosen}
use Rattle.itinerary.proofs.search.Search.step_back.Goals as goal

-- where the journey does not begin with the leg, the step is what was chosen
stepped : (p : Plan) (q : Question) (level : List ℕ) (i : ℕ) → starts p q level i ≡ false → (o : Option ℕ) →
    Chosen p (Prior p level i) (length p.legs) o → Stepped p q level i o
stepped p q level i later None c = inr c
stepped p q level i later (Some x) c = (later, c)

pub returns : goal.returns
returns c =
    let p = plan_of c.args.self.layout in
    let level = c.args.self.level.now in
    let chosen : Chosen p (Prior p level c.args.i) (length p.legs) c.find.result =
    found_chosen (Prior p level c.args.i) c.find.ensures
    (λ y h told. search rules)
    (λ y h good. (
      let near = prior_near p level c.args.i y good in search rules,
      λ told. let no : prior p level c.args.i y ≡ false = search rules in both_ways (prior p level c.args.i y) no good,
    )) in
    let later : starts p c.args.self.question level c.args.i ≡ false = search rules in
    stepped p c.args.self.question level c.args.i later c.find.result chosen
