-- One question after another: what is written for one leaves the rows of the others alone.
use Rattle.std.proofs.Common.{◌≡◌, ℕ, ◌+◌, ◌-◌, ◌*◌, ◌<◌, ◌≤◌, List, length, take, drop, sym, refl, ap, ◌∙◌, subst, ⊎_elim, arith}
use borrow.Rule.Slice.PartMut.{put_mid}
use Rattle.std.proofs.lemmas.Bool.{cases_lt}
use Rattle.std.proofs.lemmas.Slice.{between_is, take-put_mid_below, drop-put_mid, between-put_mid}
use Rattle.plan.specs.Legs.{Plan, piers}
use Rattle.rounds.specs.Layout.{Alike}
use Rattle.rounds.specs.Query.{query_checked}
use Rattle.rounds.specs.Entry.{Reply, AnsweredBy}
use Rattle.rounds.proofs.Alike.{answered_alike}
use Rattle.race.specs.Each.{question_at, row_at, EachAnswered}

-- when the first i questions were gone through
pub record AnsweredTo (p : Plan) (qs out out₁ : List ℕ) (i : ℕ) : Type 0 where
  pub done : EachAnswered p qs out out₁ i
  pub rest : (j : ℕ) → i ≤ j → 19 * j + 19 ≤ length out → row_at j out₁ ≡ row_at j out

-- nothing was written yet
pub to_none : {p : Plan} {qs out : List ℕ} → AnsweredTo p qs out out 0
to_none = record { done = λ j h. absurd (omega arith); rest = λ j h l. refl }

-- rows before and behind the one that was written
row_below : (i j : ℕ) (xs ys : List ℕ) → j < i → 19 * i ≤ length xs → row_at j (put_mid (19 * i) (19 * i + 19 - 19 * i) xs ys) ≡ row_at j xs
row_below i j xs ys h room =
    between_is _ (19 * j) (19 * j + 19)
    ∙ ap (drop (19 * j)) (take-put_mid_below (19 * i) (19 * i + 19 - 19 * i) xs ys (19 * j + 19) (omega arith) room)
    ∙ sym (between_is xs (19 * j) (19 * j + 19))

row_behind : (i j : ℕ) (xs ys : List ℕ) → i < j → 19 * i ≤ length xs → length ys ≡ 19 * i + 19 - 19 * i →
    row_at j (put_mid (19 * i) (19 * i + 19 - 19 * i) xs ys) ≡ row_at j xs
row_behind i j xs ys h room long =
    ap (take (19 * j + 19 - 19 * j)) (drop-put_mid (19 * i) (19 * i + 19 - 19 * i) xs ys (19 * j) (omega arith) room long)

module _ {p : Plan} {qs out : List ℕ} where
  -- a question without a row
  pub to_skip : {out₁ : List ℕ} (i : ℕ) → (19 * i + 19 ≤ length out → ⊥) → AnsweredTo p qs out out₁ i →
      AnsweredTo p qs out out₁ (i + 1)
  to_skip i none g = record {
    done = λ j h l. ⊎_elim (λ lt. g.done j lt l) (λ ge. absurd (none (omega arith))) (cases_lt j i);
    rest = λ j h l. g.rest j (omega arith) l;
  }

  -- one more question
  pub to_more : (out₁ ys : List ℕ) (i : ℕ) (r : Reply) → 19 * i + 19 ≤ length out → length out₁ ≡ length out →
      length ys ≡ 19 * i + 19 - 19 * i →
      AnsweredBy (query_checked (piers p) (question_at i qs)) p (row_at i out₁) r ys → AnsweredTo p qs out out₁ i →
      AnsweredTo p qs out (put_mid (19 * i) (19 * i + 19 - 19 * i) out₁ ys) (i + 1)
  to_more out₁ ys i r room same long a g = record {
    done = λ j h l.
        ⊎_elim
        (λ lt.
        let (rⱼ, x) = g.done j lt l in (
          rⱼ,
          subst (AnsweredBy (query_checked (piers p) (question_at j qs)) p (row_at j out) rⱼ)
              (sym (row_below i j out₁ ys lt (omega arith))) x,
        ))
        (λ ge. (r, now j (omega arith)))
        (cases_lt j i);
    rest = λ j h l. row_behind i j out₁ ys (omega arith) (omega arith) long ∙ g.rest j (omega arith) l;
  }
    where
      here : AnsweredBy (query_checked (piers p) (question_at i qs)) p (row_at i out) r
          (row_at i (put_mid (19 * i) (19 * i + 19 - 19 * i) out₁ ys))
      here =
          subst (AnsweredBy (query_checked (piers p) (question_at i qs)) p (row_at i out) r)
          (sym (between-put_mid (19 * i) (19 * i + 19 - 19 * i) out₁ ys (19 * i + 19) (omega arith) long))
          (subst (λ row. AnsweredBy (query_checked (piers p) (question_at i qs)) p row r ys) (g.rest i (omega arith) room) a)

      now : (j : ℕ) → i ≡ j → AnsweredBy (query_checked (piers p) (question_at j qs)) p (row_at j out) r
          (row_at j (put_mid (19 * i) (19 * i + 19 - 19 * i) out₁ ys))
      now j e = subst (λ m. AnsweredBy (query_checked (piers p) (question_at m qs)) p (row_at m out) r
          (row_at m (put_mid (19 * i) (19 * i + 19 - 19 * i) out₁ ys))) e here

-- the same about the plan before its legs were put in order
pub each_alike : (p p₁ : Plan) → Alike p p₁ → (qs out out₁ : List ℕ) (n : ℕ) → EachAnswered p₁ qs out out₁ n →
    EachAnswered p qs out out₁ n
each_alike p p₁ a qs out out₁ n each i h l =
    let (r, x) = each i h l in
    (r, answered_alike p p₁ a (question_at i qs) (row_at i out) r (row_at i out₁) x)
