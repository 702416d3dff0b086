use Rattle.tl_run.proofs.Names.{◌-◌, ◌<◌, length, sym, subst, arith, Accepted}
use Rattle.tl_parts.proofs.Lives.{lives-long}
use Rattle.tl_run.specs.Inner.Going.{GoesAhead, at_first, one_more, stopped, through}
use Rattle.tl_run.proofs.ahead.go_ahead.Goals as goal

pub beats-init : goal.beats-init
beats-init g c = record { within = c.requires.1; goes = at_first }

pub deref-requires : goal.deref-requires
deref-requires g c = λ κs lives. (lives, lives-long κs.1.1.0)

pub beats-smaller : goal.beats-smaller
beats-smaller g c = omega (arith, c.beats-test.true, c.len.ensures, c.args.held.now.ok.0, c.beats.invariant.within.from)

pub beats-preserved : goal.beats-preserved
beats-preserved g c =
    let before = c.beats.invariant in
    let inside : c.beats.at - c.args.discarded < length c.args.held.now.items = omega (arith, c.beats-test.true, c.len.ensures, c.args.held.now.ok.0) in
    record {
      within = record {
        from = omega (arith, before.within.from);
        to = omega (arith, c.beats-test.true, c.len.ensures, c.args.held.now.ok.0, before.within.from);
        few = before.within.few;
      };
      goes = one_more c.beats.at c.beats.side c.offer_next-offered.new.self c.forward_staged.new.self before.goes before.within.from inside
          (subst (λ q. g.S.Offers.Becomes q (c.beats.at - c.args.discarded) c.beats.side Accepted c.offer_next-offered.new.self) c.deref.ensures.value
          (subst (λ o. g.S.Offers.Becomes c.deref.result.now (c.beats.at - c.args.discarded) c.beats.side o c.offer_next-offered.new.self)
          c.in-Accepted.is c.offer_next-offered.ensures))
          c.forward_staged.ensures;
    }

pub returns-in_default : goal.returns-in_default
returns-in_default g c =
    let before = c.beats.invariant in
    let inside : c.beats.at - c.args.discarded < length c.args.held.now.items = omega (arith, c.beats-test.true, c.len.ensures, c.args.held.now.ok.0) in
    record {
      within = before.within;
      ahead = subst (λ o. GoesAhead g.S.Offers.Becomes g.S.Forward.Passes c.args.discarded c.args.held.now.items c.args.at.now c.args.side.now c.beats.at
          c.offer_next-offered.new.self o) (sym c.refused_by.ensures)
          (stopped c.beats.at c.beats.side c.offer_next-offered.new.self c.offer_next-offered.result before.goes before.within.from inside
          c.in_default.not-Accepted
          (subst (λ q. g.S.Offers.Becomes q (c.beats.at - c.args.discarded) c.beats.side c.offer_next-offered.result c.offer_next-offered.new.self)
          c.deref.ensures.value c.offer_next-offered.ensures));
    }

pub returns : goal.returns
returns g c =
    let before = c.beats.invariant in
    record {
      within = before.within;
      ahead = through c.beats.at c.beats.side before.goes
          (omega (arith, c.beats-test.false, c.len.ensures, c.args.held.now.ok.0, before.within.from));
    }
