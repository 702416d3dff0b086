use Rattle.tl_convert.proofs.DueOne.{one-rest, due-computed, due-exists}
use Rattle.tl_convert.proofs.laws.due_is_one.Goals as goal

pub returns : goal.returns
returns g c = record {
  one_reading = one-rest g.K.Channel.rules g.row.W g.row.V c.requires.near c.requires.far g.met.K.Channel.partial_masked;
  computed = λ bs homes far is.
      due-computed g.K.Channel.rules g.row.W g.row.V c.requires.near c.requires.far g.met.K.Channel.partial_masked is.handed is.due_of;
  exists = λ bs homes ms rest h.
      due-exists g.K.Channel.rules g.row.W g.row.V c.requires.near c.requires.far g.met.K.Channel.partial_masked h;
}
