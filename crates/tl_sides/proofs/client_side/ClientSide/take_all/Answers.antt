use Rattle.std.proofs.Common.{ap}
use Rattle.tl_sides.proofs.Layouts.{client_side_layout, part_small}
use Rattle.tl_sides.proofs.SideSteps.{client_side_of, client_takes_all}
use Rattle.tl_sides.proofs.client_side.ClientSide.take_all.Goals as goal

pub take_all-requires : goal.take_all-requires
take_all-requires g c = (
  part_small (client_side_layout g.row.C g.row.M g.row.A g.A.Allocator) 0 9223372036854775808
      c.requires-raw.1.1.1.0,
  c.requires,
)

pub returns : goal.returns
returns g c = let said = c.take_all.ensures in rw (← c.self.view_is) (record {
  taken = λ x h. client_takes_all c.self.inside x h c.take_all.new.self said.rest
      (said.book x.history h.book);
  rest = ap (λ z. client_side_of (record c.self.inside { port = z })) said.rest;
})
