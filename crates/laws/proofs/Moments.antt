-- The plan at the moments of a run: it may be used, and it depends on what was requested before alone.
use Rattle.std.proofs.Common.{◌≡◌, ℕ, suc, ◌+◌, ◌-◌, ◌<◌, ◌≤◌, List, [], ◌∷◌, ◌++◌, length, get_or, take, Ok, Err, Result, sym, refl, ap, ◌∙◌, subst, ⊎_elim, arith}
use lib.Seq.{take-length}
use Rattle.std.proofs.lemmas.List.{take-append-le, get_or_append_left, get_or-append-add, length-append}
use Rattle.std.proofs.lemmas.Bool.{cases_lt}
use Rattle.plan.specs.declared.refusal.Refusal.{Refusal}
use Rattle.plan.specs.Legs.{Plan}
use Rattle.plan.specs.Words.{plan_in, written}
use Rattle.plan.specs.Sound.{Few, Sound}
use Rattle.plan.proofs.ReadBack.{read_written}
use Rattle.plan.proofs.Written.{usable_written}
use Rattle.updates.specs.declared.update.Update.{Update}
use Rattle.updates.specs.Updates.{after, update_checked}
use Rattle.updates.proofs.StillUsable.{usable_after}
use Rattle.serving.specs.declared.request.Request.{Request}
use Rattle.serving.specs.declared.request.Request.TheVariants.{Ask, Apply, Look}
use Rattle.serving.specs.declared.response.Response.{Response}
use Rattle.serving.specs.Runs.{day, done, if_done, plan_at, Right, Served}
use Rattle.laws.specs.RunLaws.{AnsweredEachDay, UsableAtEachMoment, RunsInTwo}
use Rattle.laws.proofs.AllMarks.{always_answered}
use Rattle.laws.proofs.OneAnswer.{one_answer_of_plans}

-- ---- a question has one answer
pub answered_each_day : AnsweredEachDay
answered_each_day p us most q =
    let (ms, a) = always_answered (day p us) most q in
    record { marks = ms; answer = a; only = λ ns b. one_answer_of_plans (day p us) most q ns ms b a }

-- ---- the plan may be used
abbrev Good : Plan → Type 0
Good p = Few p × Sound p

-- An update that is done leaves a plan that may be used, in memory of any size, hence as such.
good_after : (p : Plan) (u : Update) → Good p → update_checked p u ≡ Ok tt → Good (after p u)
good_after p u g e =
    let xs = written p [] in
    let is : plan_in xs ≡ p = read_written p [] in
    let then : plan_in (written (after (plan_in xs) u) xs) ≡ after p u =
    read_written (after (plan_in xs) u) xs ∙ ap (λ (o : Plan). after o u) is in
    let v = usable_after xs u (usable_written p [] g.0 g.1) (ap (λ (o : Plan). update_checked o u) is ∙ e) in
    subst Good then (v.few, v.sound)

good_if_done : (o : Result Unit Refusal) (p : Plan) (u : Update) (us vs : List Update) →
    (o ≡ Ok tt → Good (day (after p u) us)) → Good (day p vs) → Good (day p (if_done o (u ∷ us) vs))
unfolding day
good_if_done (Ok tt) p u us vs f g = f refl
good_if_done (Err e) p u us vs f g = g

good_done : (p : Plan) (rs : List Request) → Good p → Good (day p (done p rs))
unfolding day done
good_done p [] g = g
good_done p (Ask qs ∷ rs) g = good_done p rs g
good_done p (Look gs ∷ rs) g = good_done p rs g
good_done p (Apply u ∷ rs) g =
    good_if_done (update_checked p u) p u _ _ (λ e. good_done (after p u) rs (good_after p u g e)) (good_done p rs g)

pub usable_at_each_moment : UsableAtEachMoment
usable_at_each_moment p rs i f s = good_done p (take i rs) (f, s)

-- ---- a run in two parts
go_on_if_done : (o : Result Unit Refusal) (p : Plan) (u : Update) (more : List Request) (us us₁ vs vs₁ : List Update) →
    day (after p u) us₁ ≡ day (day (after p u) us) (done (day (after p u) us) more) →
    day p vs₁ ≡ day (day p vs) (done (day p vs) more) →
    day p (if_done o (u ∷ us₁) vs₁) ≡ day (day p (if_done o (u ∷ us) vs)) (done (day p (if_done o (u ∷ us) vs)) more)
unfolding day
go_on_if_done (Ok _) p u more us us₁ vs vs₁ e f = e
go_on_if_done (Err _) p u more us us₁ vs vs₁ e f = f

done_in_two : (p : Plan) (rs more : List Request) →
    day p (done p (rs ++ more)) ≡ day (day p (done p rs)) (done (day p (done p rs)) more)
unfolding day done
done_in_two p [] more = refl
done_in_two p (Ask qs ∷ rs) more = done_in_two p rs more
done_in_two p (Look gs ∷ rs) more = done_in_two p rs more
done_in_two p (Apply u ∷ rs) more =
    go_on_if_done (update_checked p u) p u more _ _ _ _ (done_in_two (after p u) rs more) (done_in_two p rs more)

take_in_two : (rs more : List Request) (i : ℕ) → take (length rs + i) (rs ++ more) ≡ rs ++ take i more
take_in_two [] more i = let z : 0 + i ≡ i = omega arith in ap (λ (n : ℕ). take n more) z
take_in_two (r ∷ rs) more i =
    let z : length (r ∷ rs) + i ≡ suc (length rs + i) = omega arith in
    ap (λ (n : ℕ). take n (r ∷ rs ++ more)) z ∙ ap (λ (l : List Request). r ∷ l) (take_in_two rs more i)

module _ (p : Plan) (rs more : List Request) where
  earlier : (i : ℕ) → i ≤ length rs → plan_at p (rs ++ more) i ≡ plan_at p rs i
  earlier i l = ap (λ (l : List Request). day p (done p l)) (take-append-le i rs more l)

  later : (i : ℕ) → plan_at p (rs ++ more) (length rs + i) ≡ plan_at (plan_at p rs (length rs)) more i
  later i =
      ap (λ (l : List Request). day p (done p l)) (take_in_two rs more i)
      ∙ done_in_two p rs (take i more)
      ∙ ap (λ (l : List Request). day (day p (done p l)) (done (day p (done p l)) (take i more))) (sym (take-length rs))

  abbrev left : Plan
  left = plan_at p rs (length rs)

  module _ (said next : List (Result Response Refusal)) (many : length said ≡ length rs) where
    first_part : Served p (rs ++ more) (said ++ next) → Served p rs said
    first_part s = record {
      each = many;
      right = λ i r a l is so.
          subst (λ (q : Plan). Right q r a) (earlier i (omega arith))
          (s.right i r a (omega (arith, length-append rs more)) (get_or_append_left rs more r i l ∙ is)
          (get_or_append_left said next a i (omega arith) ∙ so));
    }

    -- the response at a place of the second part
    next_at : (i : ℕ) (a : Result Response Refusal) → get_or (said ++ next) (length rs + i) a ≡ get_or next i a
    next_at i a = ap (λ (n : ℕ). get_or (said ++ next) (n + i) a) (sym many) ∙ get_or-append-add said next i a

    second_part : Served p (rs ++ more) (said ++ next) → Served left more next
    second_part s = record {
      each = omega (arith, s.each, many, length-append rs more, length-append said next);
      right = λ i r a l is so.
          subst (λ (q : Plan). Right q r a) (later i)
          (s.right (length rs + i) r a (omega (arith, length-append rs more)) (get_or-append-add rs more i r ∙ is)
          (next_at i a ∙ so));
    }

    both_parts : Served p rs said → Served left more next → Served p (rs ++ more) (said ++ next)
    both_parts s t = record {
      each = omega (arith, t.each, many, length-append rs more, length-append said next);
      right = λ i r a l is so.
          ⊎_elim (λ h. in_first i r a h is so) (λ h. in_second i (i - length rs) r a (omega arith) l is so)
          (cases_lt i (length rs));
    }
      where
        in_first : (i : ℕ) (r : Request) (a : Result Response Refusal) → i < length rs → get_or (rs ++ more) i r ≡ r →
            get_or (said ++ next) i a ≡ a → Right (plan_at p (rs ++ more) i) r a
        in_first i r a l is so =
            subst (λ (q : Plan). Right q r a) (sym (earlier i (omega arith)))
            (s.right i r a l (sym (get_or_append_left rs more r i l) ∙ is)
            (sym (get_or_append_left said next a i (omega arith)) ∙ so))

        in_second : (i j : ℕ) (r : Request) (a : Result Response Refusal) → length rs + j ≡ i → i < length (rs ++ more) →
            get_or (rs ++ more) i r ≡ r → get_or (said ++ next) i a ≡ a → Right (plan_at p (rs ++ more) i) r a
        in_second i j r a e l is so =
            subst (λ (n : ℕ). Right (plan_at p (rs ++ more) n) r a) e
            (subst (λ (q : Plan). Right q r a) (sym (later j))
            (t.right j r a (omega (arith, length-append rs more))
            (sym (get_or-append-add rs more j r) ∙ ap (λ (n : ℕ). get_or (rs ++ more) n r) e ∙ is)
            (sym (next_at j a) ∙ ap (λ (n : ℕ). get_or (said ++ next) n a) e ∙ so)))

pub runs_in_two : RunsInTwo
runs_in_two p rs more = record {
  earlier = earlier p rs more;
  later = later p rs more;
  cut = λ said next many s. (first_part p rs more said next many s, second_part p rs more said next many s);
  joined = λ said next s. both_parts p rs more said next s.each s;
}
