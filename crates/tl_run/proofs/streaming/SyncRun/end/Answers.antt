use Rattle.tl_run.proofs.Names.{subst, bridge_small}
use Rattle.tl_run.proofs.EndsIn.{far-is}
use Rattle.tl_parts.proofs.Parts.{are-part}
use Rattle.tl_run.proofs.OnlyMemory.{not-ok}
use Rattle.tl_run.proofs.Pieces.{has-ended}
use Rattle.tl_run.proofs.streaming.SyncRun.end.Goals as goal

pub close_each-stops-requires : goal.close_each-stops-requires
close_each-stops-requires g c = (
  bridge_small g.row.C g.row.M c.requires.client c.requires.manager,
  record { client = c.requires.client; manager = c.requires.manager },
)

pub returns-in_default : goal.returns-in_default
returns-in_default g c =
    record {
      same = tt;
      verdicts = λ near ends was. tt;
      far = λ near ends was. tt;
      memory = λ near ends was has.
          not-ok (c.in_default.ensures.memory near (are-part c.args.self.now.discarded c.args.held.now near ends) was has).0;
    }

pub returns : goal.returns
returns g c =
    let stopped = c.in-Ok.ensures in
    record {
      same = stopped.same;
      verdicts = λ near ends was.
          let h = stopped.stopped near ends was in
          let ended = has-ended g.F.FarSink.Holds near _ _ _ _ _ h _ (c.close_each-stops.ensures h.past h.stands) in
          c.verdicts_at.ensures g.row.C g.row.M near h.all _ 0 c.requires.client c.requires.manager h.counts ended;
      far = λ near ends was.
          let h = stopped.stopped near ends was in
          let ended = has-ended g.F.FarSink.Holds near _ _ _ _ _ h _ (c.close_each-stops.ensures h.past h.stands) in
          subst (λ q. g.F.FarSink.Holds c.go_through.new.far q) (far-is c.requires.client c.requires.manager near _ h.all _ _ 0 ended) h.holds;
      memory = λ near ends was has. stopped.memory near (are-part c.args.self.now.discarded c.args.held.now near ends) was has;
    }
