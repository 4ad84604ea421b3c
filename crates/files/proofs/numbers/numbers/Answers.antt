use Rattle.std.proofs.Common.{◌≡◌, ℕ, ◌/◌, List, IfOk, map, min, length, take, vec_items, ap, ◌∙◌, subst, arith, rules, tests}
use mathlib.Core.List.{map-id}
use Rattle.std.proofs.lemmas.Iterator.{items_from_collect, YieldsList-from_map, YieldsList-from_take}
use Rattle.std.proofs.lemmas.Iterator.Consumers.{YieldsList-at}
use Rattle.files.specs.Numbers.{number_at, numbers_in}
use Rattle.files.proofs.Decoding.{number_front, numbers_none, numbers_more, take-numbers_in}
use Rattle.files.proofs.Chunks.{YieldsList-from_chunks}
use Rattle.files.proofs.numbers.numbers.Goals as goal

pub returns : goal.returns
returns c =
    let bs = c.args.bytes.now in
    let n = length bs / 4 in
    let all : take c.args.most (map (λ (m : ℕ). m) (numbers_in n bs)) ≡ numbers_in (min c.args.most n) bs =
    ap (take c.args.most) (map-id (numbers_in n bs)) ∙ take-numbers_in c.args.most n bs in
    subst (λ (l : List ℕ). IfOk c.collect.result (λ v. vec_items v ≡ l)) all
    (items_from_collect c.collect.result c.collect.ensures.ran
    (YieldsList-from_take {s = c.take.result} c.args.most
    (YieldsList-at c.take.ensures.source
    (YieldsList-from_map {s = c.map.result} _ (λ m. m)
    (YieldsList-at c.map.ensures.source
    (YieldsList-from_chunks 4 (λ xs. number_at xs 0) numbers_in numbers_none numbers_more number_front n bs c.chunks_exact.ensures.size
    c.chunks_exact.ensures.rest (omega arith) (omega arith)))
    c.map.ensures.closure (λ x r q k. search (rules, tests))))
    c.take.ensures.count))
