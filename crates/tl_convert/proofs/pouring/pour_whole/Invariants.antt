use Rattle.tl_convert.proofs.Names.{◌≡◌, ◌+◌, ◌*◌, ◌≤◌, [], per_beat, Message, Source, Pours}
use Rattle.arrayvec.specs.ArrayVec.{array_vec_len}
use Rattle.tl_convert.proofs.pouring.pour_whole.Given as goal

abbrev pub invariant-loop-t : goal.invariant-loop-t
invariant-loop-t g l = record {
  count : array_vec_len l.out ≡ l.t;
  pours : per_beat g.K.Channel.rules l.beat.head g.row.V ≤ per_beat g.K.Channel.rules l.beat.head g.row.W →
      (m : Message g.row.K-Head.Denot) → Source {W = g.row.W} g.K.Channel.rules m l.fn.home l.fn.first l.beat →
      Pours g.K.Channel.rules m g.row.V l.fn.first l.fn.first l.partial [] →
      Pours g.K.Channel.rules m g.row.V l.fn.first (l.fn.first + l.t * l.wide) l.partial l.out.items;
}
