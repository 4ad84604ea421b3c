use Rattle.std.proofs.Common.{refl, arith}
use Rattle.std.proofs.Output.{has_written_of_eq}
use Rattle.office.proofs.Texts.{put_next, lines_next, lines_all}
use Rattle.office.proofs.telling.ItinerariesDisplay.fmt.Goals as goal

pub loop-i-preserved : goal.loop-i-preserved
loop-i-preserved g c =
    let so = c.loop-i.invariant in (
      _,
      (λ plain. put_next g.W.Write.write_str_gives c.args.f.now c.loop-i.f c.writeln.new.self refl (so.1 plain) c.in_ok-writeln.ensures.writes),
      lines_next c.args.self.now.count c.loop-i._i c.loop-i.numbers.now _ _ so.0 _ c.loop-i-test.true c.split_first_names.ensures.first
          c.split_first_names.ensures.rest so.2,
    )

pub returns : goal.returns
returns g c =
    let so = c.loop-i.invariant in
    record {
      writes = λ plain ok. has_written_of_eq _ _ _ _ _
          (lines_all c.args.self.now.count c.loop-i._i c.loop-i.numbers.now so.0 _ (omega arith) so.2) (so.1 plain);
      styled = tt;
    }
