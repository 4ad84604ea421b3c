use Rattle.std.proofs.Common.{◌+◌, ◌-◌, ◌*◌, vec_items, refl, ◌∙◌, arith, rules}
use Rattle.itinerary.proofs.Writing.{among_at}
use Rattle.serving.proofs.Itineraries.{written_room, itineraries_none, itineraries_more}
use Rattle.serving.proofs.answering.name_marks.Goals as goal

pub loop-mark-init : goal.loop-mark-init
loop-mark-init c = (refl, itineraries_none _ c.new-names.ensures.items)

pub write_journey-count-requires-clause-marked : goal.write_journey-count-requires-clause-marked
write_journey-count-requires-clause-marked c =
    c.requires _ (among_at c.args.marks.now c.loop-mark.mark-index _ _ (omega arith) refl)

pub overflow_mul-count : goal.overflow_mul-count
overflow_mul-count c = omega (arith, written_room c.write_journey-count.ensures c.write_journey-count.auto.out)

pub overflow_add-count : goal.overflow_add-count
overflow_add-count c = omega (arith, written_room c.write_journey-count.ensures c.write_journey-count.auto.out)

pub slice_bounds-extend_from_slice-end : goal.slice_bounds-extend_from_slice-end
slice_bounds-extend_from_slice-end c =
    let h = written_room c.write_journey-count.ensures c.write_journey-count.auto.out in
    search rules

pub loop-mark-preserved : goal.loop-mark-preserved
loop-mark-preserved c = (
  c.write_journey-count.auto.out ∙ c.loop-mark.invariant.0,
  itineraries_more c.write_journey-count.ensures c.args.marks.now c.loop-mark.mark-index _ (vec_items c.loop-mark.names) _
      (1 + 2 * c.write_journey-count.result - 0) (omega arith) refl c.loop-mark.invariant.1 (omega arith)
      c.in_ok-extend_from_slice.ensures.items,
)
