use Rattle.tl_check.proofs.Names.{sym, subst, arith, append-nil, Ask, KnowsManager}
use Rattle.tl_check.proofs.Noting.{one-noted, all-noted}
use Rattle.tl_check.proofs.coupled.record_requests.Goals as goal

pub loop-init : goal.loop-init
loop-init g c = record { noted = λ es bs knows count heads. subst (λ q. KnowsManager c.args.book.now q) (sym (append-nil es)) knows }

pub loop-preserved : goal.loop-preserved
loop-preserved g c = record {
  noted = λ es bs knows count heads.
      one-noted Ask es bs c.args.count c.loop.counter count (KnowsManager c.loop.book) (KnowsManager c.record_request.new.self) c.args.head.now heads
      (omega (arith, c.loop-test.true)) (c.loop.invariant.noted es bs knows count heads) c.record_request.ensures;
}

pub returns : goal.returns
returns g c = λ es bs knows count heads.
    all-noted Ask es bs c.args.count c.loop.counter count (KnowsManager c.loop.book) (omega (arith, c.loop-test.false))
    (c.loop.invariant.noted es bs knows count heads)
