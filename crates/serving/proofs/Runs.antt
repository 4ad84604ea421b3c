-- The plan at each moment of a run, and that the responses so far are right.
use Rattle.std.proofs.Common.{◌≡◌, ℕ, ◌+◌, ◌<◌, ◌≤◌, true, List, [], ◌∷◌, ◌++◌, length, get_or, take, is_ok, is_err, IfOk, Ok, Err, Result, sym, refl, ap, ◌∙◌, subst, arith, below_more}
use Rattle.std.proofs.lemmas.List.{take_more, length_push, get_or_append_left, get_or_push, get_or_default}
use Rattle.std.specs.declared.alloc.AllocError.{AllocError}
use Rattle.std.proofs.lemmas.Bool.{false≢true}
use Rattle.plan.specs.declared.refusal.Refusal.{Refusal}
use Rattle.plan.specs.Legs.{Plan}
use Rattle.updates.specs.declared.update.Update.{Update}
use Rattle.updates.specs.Updates.{after, update_checked}
use Rattle.serving.specs.declared.request.Request.{Request}
use Rattle.serving.specs.declared.request.Request.TheVariants.{Ask, Apply, Look}
use Rattle.serving.specs.declared.response.Response.{Response}
use Rattle.serving.specs.Runs.{day, done, if_done, plan_at, plan_next, Moment, Right, Served}

-- ---- the plan after one request more

done_with : (o : Result Unit Refusal) (p : Plan) (u : Update) →
    day p (if_done o (u ∷ []) []) ≡ if_done o (after p u) p
unfolding day
done_with (Ok _) p u = refl
done_with (Err e) p u = refl

-- an update at the front: the rest goes on from the plan that it leaves
done_first : (o : Result Unit Refusal) (p : Plan) (u : Update) (r : Request) (us us₁ vs vs₁ : List Update) →
    day (after p u) us₁ ≡ plan_next (day (after p u) us) r → day p vs₁ ≡ plan_next (day p vs) r →
    day p (if_done o (u ∷ us₁) vs₁) ≡ plan_next (day p (if_done o (u ∷ us) vs)) r
unfolding day
done_first (Ok _) p u r us us₁ vs vs₁ e f = e
done_first (Err _) p u r us us₁ vs vs₁ e f = f

done_last : (p : Plan) (rs : List Request) (r : Request) → day p (done p (rs ++ r ∷ [])) ≡ plan_next (day p (done p rs)) r
unfolding day done
done_last p [] (Ask qs) = refl
done_last p [] (Look gs) = refl
done_last p [] (Apply u) = done_with (update_checked p u) p u
done_last p (Ask qs ∷ rs) r = done_last p rs r
done_last p (Look gs ∷ rs) r = done_last p rs r
done_last p (Apply u ∷ rs) r =
    done_first (update_checked p u) p u r _ _ _ _ (done_last (after p u) rs r) (done_last p rs r)

pub plan_none : (p : Plan) (rs : List Request) → p ≡ plan_at p rs 0
unfolding day done
plan_none p rs = refl

pub plan_more : (p : Plan) (rs : List Request) (i : ℕ) (r : Request) → i < length rs → get_or rs i r ≡ r →
    plan_at p rs (i + 1) ≡ plan_next (plan_at p rs i) r
plan_more p rs i r h is =
    ap (λ (l : List Request). day p (done p l)) (take_more rs i r h ∙ ap (λ (x : Request). take i rs ++ x ∷ []) is)
    ∙ done_last p (take i rs) r

-- ---- the responses so far

pub record ServedTo (p : Plan) (rs : List Request) (n : ℕ) (said : List (Result Response Refusal)) : Type 0 where
  pub each : length said ≡ n
  pub right : (i : ℕ) (r : Request) (a : Result Response Refusal) → i < n → get_or rs i r ≡ r → get_or said i a ≡ a → Right (plan_at p rs i) r a

pub served_none : (p : Plan) (rs : List Request) (said : List (Result Response Refusal)) → said ≡ [] → ServedTo p rs 0 said
served_none p rs said e = record { each = ap length e; right = λ i r a h. absurd (omega arith) }

pub served_more : (p : Plan) (rs : List Request) (n : ℕ) (said said₁ : List (Result Response Refusal)) (r : Request) (a : Result Response Refusal) →
    n < length rs → get_or rs n r ≡ r → Right (plan_at p rs n) r a → said₁ ≡ said ++ a ∷ [] → ServedTo p rs n said → ServedTo p rs (n + 1) said₁
served_more p rs n said said₁ r a h is good e s = record {
  each = ap length e ∙ length_push said a ∙ ap (λ (k : ℕ). k + 1) s.each;
  right = λ i x b l. below_more P n before here i l x b;
}
  where
    P : ℕ → Type 0
    P i = (x : Request) (b : Result Response Refusal) → get_or rs i x ≡ x → get_or said₁ i b ≡ b → Right (plan_at p rs i) x b

    before : (i : ℕ) → i < n → P i
    before i l x b xs bs =
        s.right i x b l xs
        (sym (ap (λ (l : List (Result Response Refusal)). get_or l i b) e ∙ get_or_append_left said (a ∷ []) b i (omega (arith, s.each))) ∙ bs)

    here : P n
    here x b xs bs =
        let same : r ≡ x = sym is ∙ get_or_default rs n r x h ∙ xs in
        let so : a ≡ b = sym (get_or_push said a b n s.each) ∙ ap (λ (l : List (Result Response Refusal)). get_or l n b) (sym e) ∙ bs in
        subst (λ (y : Result Response Refusal). Right (plan_at p rs n) x y) so (subst (λ (y : Request). Right (plan_at p rs n) y a) same good)

pub served_all : (p : Plan) (rs : List Request) (n : ℕ) (said : List (Result Response Refusal)) → length rs ≤ n → n ≤ length rs →
    ServedTo p rs n said → Served p rs said
served_all p rs n said past within s = record {
  each = omega (arith, s.each);
  right = λ i r a h. s.right i r a (omega arith);
}

-- ---- a run that memory runs out in

failed_made : {A : Type 0} (F : A → Type 0) (r : Result A AllocError) → is_err r ≡ true → IfOk r F
failed_made F (Ok a) h = absurd (false≢true h)
failed_made F (Err e) h = tt

failed_not : {A : Type 0} (r : Result A AllocError) → is_err r ≡ true → is_ok r ≡ true → ⊥
failed_not (Ok a) h g = false≢true h
failed_not (Err e) h g = false≢true g

-- what was done stays done, and the plan is that of the moment after it
pub record Failed {A : Type 0} (p p₁ : Plan) (rs : List Request) (F : A → Type 0) (r : Result A AllocError) : Type 0 where
  pub served : IfOk r F
  pub plan : is_ok r ≡ true → p₁ ≡ plan_at p rs (length rs)
  pub moment : Moment p rs p₁

pub failed_at : {A : Type 0} (F : A → Type 0) (p p₀ p₁ : Plan) (rs : List Request) (i : ℕ) (x : Request) (r : Result A AllocError) →
    i < length rs → get_or rs i x ≡ x → p₀ ≡ plan_at p rs i → p₁ ≡ plan_next p₀ x → is_err r ≡ true → Failed p p₁ rs F r
failed_at F p p₀ p₁ rs i x r h is so next e = record {
  served = failed_made F r e;
  plan = λ g. absurd (failed_not r e g);
  moment = record {
    place = i + 1;
    within = omega arith;
    is = next ∙ ap (λ (q : Plan). plan_next q x) so ∙ sym (plan_more p rs i x h is);
  };
}
