-- What was served, in the words of the file.
use Rattle.std.proofs.Common.{◌≡◌, ℕ, List, Ok, Result, Vec, subst}
use Rattle.std.specs.declared.alloc.Global.{Global}
use Rattle.plan.specs.declared.refusal.Refusal.{Refusal}
use Rattle.serving.specs.declared.request.Request.{Request}
use Rattle.serving.specs.declared.response.Response.{Response}
use Rattle.serving.specs.Runs.{ServedFrom}

pub served_is : (xs ys : List ℕ) (rs ss : List Request) (o : Result (Vec (Result Response Refusal) Global) Refusal) (v : Vec (Result Response Refusal) Global) →
    xs ≡ ys → rs ≡ ss → o ≡ Ok v → ServedFrom xs rs o → ServedFrom ys ss (Ok v)
served_is xs ys rs ss o v plan requests said so =
    subst (λ (a : Result (Vec (Result Response Refusal) Global) Refusal). ServedFrom ys ss a) said
    (subst (λ (l : List Request). ServedFrom ys l o) requests (subst (λ (l : List ℕ). ServedFrom l rs o) plan so))
