use Rattle.tl_ring.proofs.outbox.Outbox.check.Goals as goal

pub returns : goal.returns
returns g c = rw (← c.self.view_is) (record {
  admitted = λ bs homes sent h. c.check.ensures.admitted bs homes h.converter;
  first_fault = λ bs homes sent h. c.check.ensures.fault bs homes h.converter;
  index = λ bs homes sent h. c.check.ensures.index bs homes h.converter;
  place = c.check.ensures.place;
})
