use Rattle.tl_ring.proofs.Names.{drop, ap, ◌∙◌, arith, take_rest, length-drop}
use denote.Param.{layout, copied}
use Rattle.tl_ring.proofs.FieldSizes.{part_small}
use Rattle.tl_ring.specs.contracts.queue.Queue.{the_row}
use Rattle.tl_ring.proofs.queue.Queue.as_slice.Goals as goal

pub as_slice-requires : goal.as_slice-requires
as_slice-requires g c = part_small (layout (the_row (copied 0 g.row.T))) 0 9223372036854775808 c.requires-raw.1

pub offset_bounds-as_slice-self-inside : goal.offset_bounds-as_slice-self-inside
offset_bounds-as_slice-self-inside g c = rw c.as_slice.ensures.value c.self.invariant

pub slice_bounds-result-count : goal.slice_bounds-result-count
slice_bounds-result-count g c = rw c.as_slice.ensures.value c.self.invariant

pub slice_bounds-result-start : goal.slice_bounds-result-start
slice_bounds-result-start g c = rw c.as_slice.ensures.value c.self.invariant

pub returns : goal.returns
returns g c =
    let s = c.self.inside in
    record {
      value = take_rest c.as_slice.result.now s.first ∙ ap (drop s.first) c.as_slice.ensures.value ∙ c.self.view_is;
      within = rw (take_rest c.as_slice.result.now s.first, length-drop) (omega (arith, c.as_slice.ensures.fits));
    }
