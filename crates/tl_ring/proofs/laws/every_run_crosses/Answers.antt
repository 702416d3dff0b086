use Rattle.tl_ring.proofs.Names.{ChannelLaws, laws-of, empty}
use Rattle.tl_ring.proofs.Total.{leads}
use Rattle.tl_ring.proofs.Crossings.{Crosses-empty, Crosses-run, shut_run}
use Rattle.tl_ring.proofs.laws.every_run_crosses.Goals as goal

pub returns : goal.returns
returns g c =
    let laws : ChannelLaws g.K.Channel.rules = laws-of g.met.K.Channel.same_heads g.met.K.Channel.same_is g.met.K.Channel.small
    g.met.K.Channel.partial_carries g.met.K.Channel.masked_address g.met.K.Channel.home_kept in
    record {
      leads = λ w v room es near far.
          leads g.K.Channel.rules near far g.met.K.Channel.partial_masked laws es (empty room)
          (Crosses-empty g.K.Channel.rules near far g.met.K.Channel.partial_masked room);
      crosses = λ w v room es x near far run.
          Crosses-run g.K.Channel.rules near far g.met.K.Channel.partial_masked laws run
          (Crosses-empty g.K.Channel.rules near far g.met.K.Channel.partial_masked room);
      shut = λ w v room es later x y near far run closed after. shut_run g.K.Channel.rules after closed;
    }
