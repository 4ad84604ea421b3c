use Rattle.std.proofs.Common.{◌≡◌, length, sym, ap, ◌∙◌, subst, arith}
use Rattle.plan.specs.Legs.{Plan}
use Rattle.serving.specs.Runs.{plan_next, plan_at, Right}
use Rattle.serving.proofs.Runs.{plan_none, plan_more, served_none, served_more, served_all, failed_at}
use Rattle.serving.proofs.office.Office.serve.Goals as goal

pub loop-request-init : goal.loop-request-init
loop-request-init c = (plan_none _ c.args.requests.now, served_none _ _ _ c.new-responses.ensures.items)

pub loop-request-preserved : goal.loop-request-preserved
loop-request-preserved c =
    let rs = c.args.requests.now in
    let i = c.loop-request.request-index in
    let item = c.request-item.result in
    let is = sym c.request-item.is in
    let so = c.loop-request.invariant in (
      c.respond.ensures.plan ∙ ap (λ (p : Plan). plan_next p item) so.0 ∙ sym (plan_more _ rs i item (omega arith) is),
      served_more _ rs i _ _ item c.in_ok-response.response (omega arith) is
          (subst (λ (p : Plan). Right p item c.in_ok-response.response) so.0 c.in_ok-response.ensures.right)
          c.in_ok-push.ensures.items so.1,
    )

pub returns : goal.returns
returns c =
    let rs = c.args.requests.now in
    let i = c.loop-request.request-index in
    let so = c.loop-request.invariant in
    let all : i ≡ length rs = omega arith in
    record {
      served = served_all _ rs i _ (omega arith) (omega arith) so.1;
      plan = λ _. so.0 ∙ ap (plan_at _ rs) all;
      moment = record { place = i; within = omega arith; is = so.0 };
    }

pub returns-in_err-response : goal.returns-in_err-response
returns-in_err-response c =
    let failed = failed_at _ _ _ _ c.args.requests.now c.loop-request.request-index c.request-item.result
    c.from_residual.result (omega arith) (sym c.request-item.is) c.loop-request.invariant.0 c.respond.ensures.plan
    c.from_residual.ensures.0 in
    record { served = failed.served; plan = failed.plan; moment = failed.moment }

pub returns-in_err-push : goal.returns-in_err-push
returns-in_err-push c =
    let failed = failed_at _ _ _ _ c.args.requests.now c.loop-request.request-index c.request-item.result
    c.from_residual-in_err-push.result (omega arith) (sym c.request-item.is) c.loop-request.invariant.0 c.respond.ensures.plan
    c.from_residual-in_err-push.ensures.0 in
    record { served = failed.served; plan = failed.plan; moment = failed.moment }
