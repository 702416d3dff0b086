use Rattle.tl_check.proofs.Names.{sym, subst, arith, append-nil, Answer, KnowsClient}
use Rattle.tl_check.proofs.Noting.{one-noted, all-noted}
use Rattle.tl_check.proofs.coupled.record_responses.Goals as goal

pub loop-init : goal.loop-init
loop-init g c = record { noted = λ es bs knows count heads. subst (λ q. KnowsClient c.args.book.now q) (sym (append-nil es)) knows }

pub loop-preserved : goal.loop-preserved
loop-preserved g c = record {
  noted = λ es bs knows count heads.
      one-noted Answer es bs c.args.count c.loop.counter count (KnowsClient c.loop.book) (KnowsClient c.record_response.new.self) c.args.head.now heads
      (omega (arith, c.loop-test.true)) (c.loop.invariant.noted es bs knows count heads) c.record_response.ensures;
}

pub returns : goal.returns
returns g c = λ es bs knows count heads.
    all-noted Answer es bs c.args.count c.loop.counter count (KnowsClient c.loop.book) (omega (arith, c.loop-test.false))
    (c.loop.invariant.noted es bs knows count heads)
