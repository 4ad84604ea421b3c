use Rattle.std.proofs.Common.{◌≡◌, ℕ, ◌*◌, length, vec_items, refl, ap, ◌∙◌, subst, arith}
use Rattle.files.specs.Numbers.{plan_words}
use Rattle.office.specs.Requests.{Read}
use Rattle.office.proofs.Days.{served_is}
use Rattle.office.proofs.day.serve_file.Goals as goal

pub returns-in-Ok : goal.returns-in-Ok
returns-in-Ok c =
    let bs = c.args.bytes.now in
    let words : vec_items c.in_ok-plan.plan ≡ plan_words bs = c.in_ok-plan.ensures in
    let size : c.len.result ≡ length (plan_words bs) = omega (arith, ap length words) in
    record {
      requests = c.in_ok-requests.requests;
      read = subst (λ (n : ℕ). Read bs (4 * n) c.in_ok-requests.requests) size c.in_ok-requests.ensures;
      served = served_is c.deref.result.now (plan_words bs) c.deref-2.result.now _ c.in_ok-responses.field-0
          c.in-Ok.responses (c.deref.ensures.value ∙ words) c.deref-2.ensures.value c.in-Ok.is
          c.in_ok-responses.ensures;
      fault = refl;
    }
