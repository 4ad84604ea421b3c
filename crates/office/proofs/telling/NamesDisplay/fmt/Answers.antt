use Rattle.std.proofs.Common.{◌/◌, ◌∷◌, length, take, drop, sym, ap, ◌∙◌, arith}
use Rattle.std.proofs.Output.{writes_in_calls_nil, has_written_of_eq}
use Rattle.std.specs.Slice.Iter.{chunks_exact_rest, chunks_exact_size}
use Rattle.std.proofs.lemmas.Iterator.Consumers.{YieldsList-turn, YieldsList-end}
use Rattle.std.proofs.lemmas.List.{length_push, take_rest}
use Rattle.files.proofs.Chunks.{YieldsList-from_chunks}
use Rattle.updates.specs.Still.{names_in}
use Rattle.office.specs.Texts.{names_text}
use Rattle.office.proofs.Texts.{put_next, first_name, first_front, later_names, names_none, names_more, text_more, text_all, no_names}
use Rattle.office.proofs.telling.NamesDisplay.fmt.Goals as goal

pub returns-in_default : goal.returns-in_default
returns-in_default g c = record {
  writes = λ plain ok. has_written_of_eq g.W.Write.write_str_gives _ _ _ _ (sym (no_names c.args.self.now.pairs.now c.in_default.len_below))
      (record { wrote = writes_in_calls_nil g.W.Write.write_str_gives _; plain = plain });
  styled = tt;
}

pub loop-pair-preserved : goal.loop-pair-preserved
loop-pair-preserved g c =
    let xs = c.args.self.now.pairs.now in
    let into = c.into_iter-pair-iterator.ensures.into_iter_gives in
    let given = YieldsList-from_chunks 2 first_name names_in names_none names_more first_front (length (drop 2 xs) / 2) (drop 2 xs)
    (ap chunks_exact_size into ∙ c.chunks_exact-pair-items.ensures.size)
    (ap chunks_exact_rest into ∙ c.chunks_exact-pair-items.ensures.rest ∙ take_rest xs 2) (omega arith) (omega arith) in
    let turn = YieldsList-turn given c.loop-pair.yielded _ c.loop-pair.yielded_by _ _ c.in-Some.pair c.in-Some.is c.next.ensures.steps in (
      omega (arith, c.next.ensures.steps.0, c.loop-pair.invariant.0),
      tt,
      λ plain.
          put_next g.W.Write.write_str_gives c.args.f.now c.loop-pair.f c.write-in-loop-pair.new.self
          (text_more (first_name xs) (later_names xs) (length c.loop-pair.yielded) (first_name c.in-Some.pair.now) turn.0 turn.1
          ∙ ap (λ k. names_text (first_name xs ∷ take k (later_names xs))) (sym (length_push c.loop-pair.yielded c.in-Some.pair)))
          (c.loop-pair.invariant.2 plain) c.in_ok-write-2.ensures.writes,
    )

pub returns : goal.returns
returns g c =
    let xs = c.args.self.now.pairs.now in
    let into = c.into_iter-pair-iterator.ensures.into_iter_gives in
    let given = YieldsList-from_chunks 2 first_name names_in names_none names_more first_front (length (drop 2 xs) / 2) (drop 2 xs)
    (ap chunks_exact_size into ∙ c.chunks_exact-pair-items.ensures.size)
    (ap chunks_exact_rest into ∙ c.chunks_exact-pair-items.ensures.rest ∙ take_rest xs 2) (omega arith) (omega arith) in
    let end = YieldsList-end given c.loop-pair.yielded _ c.loop-pair.yielded_by _ _ c.in-None.is c.next.ensures.steps in
    record {
      writes = λ plain ok.
          has_written_of_eq g.W.Write.write_str_gives _ _ _ _
          (text_all xs (length c.loop-pair.yielded) c.in-len2-up.len_at_least (omega (arith, end.1))) (c.loop-pair.invariant.2 plain);
      styled = tt;
    }
