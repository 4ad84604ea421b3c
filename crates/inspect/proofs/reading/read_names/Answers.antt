use Rattle.std.proofs.Common.{◌≡◌, ◌*◌, ◌/◌, length, take, map, IfOk, subst, ap, ◌∙◌, arith, rules}
use Rattle.std.specs.Slice.Iter.{chunks_exact_rest, chunks_exact_size, chunks_exact_steps}
use Rattle.std.proofs.lemmas.Iterator.{items_from_collect, YieldsList-from_map}
use Rattle.std.proofs.lemmas.Iterator.Consumers.{YieldsList-at}
use Rattle.std.proofs.lemmas.Iterator.Splits.{YieldsList-from_shown_while}
use Rattle.std.proofs.lemmas.List.{length-take-le}
use Rattle.inspect.proofs.Names.{name_in, pieces, no_piece, next_piece, names_pieces}
use Rattle.inspect.proofs.reading.read_names.Goals as goal

pub returns : goal.returns
returns c =
    let bs = c.args.bytes.now in
    let n = c.args.count in
    let all = chunks_exact_rest c.chunks_exact.result in
    let road = YieldsList-from_shown_while (chunks_exact_steps {A = _}) (λ x. x.now)
    (λ s. pieces (length (chunks_exact_rest s) / 8) (chunks_exact_rest s)) (λ s. chunks_exact_size s ≡ 8)
    (λ s t e h. no_piece (chunks_exact_rest s) (omega (arith, e, h.1.0)))
    (λ s x t e h. (h.0 ∙ e, next_piece (chunks_exact_rest s) x.now (chunks_exact_rest t) h.1.0 (h.1.1 ∙ e)))
    c.chunks_exact.result c.chunks_exact.ensures.size in
    let items = items_from_collect _ c.collect.ensures.ran
    (YieldsList-from_map _ name_in (YieldsList-at c.map.ensures.source road) c.map.ensures.closure (λ x r q k. search rules)) in
    let whole : all ≡ take (8 * n) bs = c.chunks_exact.ensures.rest in
    let count : length all / 8 ≡ n = omega (arith, ap length whole, length-take-le (8 * n) bs (omega arith)) in
    subst (λ ns. IfOk c.collect.result (λ v. v.items ≡ ns))
    (ap (λ k. map name_in (pieces k all)) count ∙ ap (λ xs. map name_in (pieces n xs)) whole ∙ names_pieces n bs) items
