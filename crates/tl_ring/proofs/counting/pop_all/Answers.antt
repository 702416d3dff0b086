use Rattle.tl_ring.proofs.Names.{◌<◌, ◌≡◌, length, take, take_all, refl, sym, subst, ◌∙◌, arith}
use Rattle.rtrb.specs.Ring.{received, known_items}
use Rattle.tl_ring.specs.Halves.{Popped}
use Rattle.tl_ring.proofs.Times.{next_drop, next_take, popped_end, popped_more, popped_none, set_length, after_both}
use Rattle.tl_ring.proofs.Moves.{not-ok}
use Rattle.tl_ring.proofs.counting.pop_all.Goals as goal

pub loop-i-init : goal.loop-i-init
loop-i-init g c = record {
  ring = ((refl, refl, refl, refl), refl);
  popped = popped_none g.P.Protocol.allows (received c.args.consumer.now) (known_items c.args.consumer.now) c.args.clock.now.time;
  rest = refl;
  length = refl;
}

pub loop-i-preserved : goal.loop-i-preserved
loop-i-preserved g c =
    let inv = c.loop-i.invariant in
    let out = c.in-Ok.ensures in
    let s = c.in-Ok.stamped in
    let later = after_both c.loop-i.clock.time s.stamp.time c.after.result.time c.after.ensures in
    let inside : c.loop-i.i < length c.loop-i.slice = (let l = inv.length in let t = c.loop-i-test.true in omega arith) in
    record {
      ring = (
        (out.ring.0.0 ∙ inv.ring.0.0, out.ring.0.1 ∙ inv.ring.0.1, out.ring.0.2 ∙ inv.ring.0.2, out.ring.0.3 ∙ inv.ring.0.3),
        out.ring.1 ∙ inv.ring.1,
      );
      popped = subst (λ xs. Popped g.P.Protocol.allows (received c.args.consumer.now) (received c.pop.new.self) (known_items c.args.consumer.now)
          (known_items c.pop.new.self) xs c.args.clock.now.time c.after.result.time) (sym (next_take c.loop-i.slice c.loop-i.i s.item inside))
          (popped_more g.P.Protocol.allows (received c.args.consumer.now) (received c.loop-i.consumer) (known_items c.args.consumer.now)
          (known_items c.loop-i.consumer) (take c.loop-i.i c.loop-i.slice) c.args.clock.now.time c.loop-i.clock.time inv.popped s
          (received c.pop.new.self) (known_items c.pop.new.self) c.after.result.time out.ok.0 out.ok.1 out.ok.2 later.0 later.1);
      rest = next_drop c.loop-i.slice c.args.slice.now c.loop-i.i s.item inv.rest;
      length = set_length c.loop-i.slice c.loop-i.i s.item ∙ inv.length;
    }

pub returns-in_default-clause-popped : goal.returns-in_default-clause-popped
returns-in_default-clause-popped g c =
    let none = c.in_default.ensures in
    popped_end g.P.Protocol.allows (received c.args.consumer.now) (received c.loop-i.consumer) (known_items c.args.consumer.now)
    (known_items c.loop-i.consumer) (take c.loop-i.i c.loop-i.slice) c.args.clock.now.time c.loop-i.clock.time c.loop-i.invariant.popped
    (received c.pop.new.self) (known_items c.pop.new.self) none.empty.0 none.empty.1 (λ some. not-ok (none.succeeds some))

pub returns-clause-popped : goal.returns-clause-popped
returns-clause-popped g c =
    let all : take c.loop-i.i c.loop-i.slice ≡ take (length c.loop-i.slice) c.loop-i.slice =
    take_all c.loop-i.i c.loop-i.slice (omega (arith, c.loop-i-test.false)) ∙ sym (take_all (length c.loop-i.slice) c.loop-i.slice (omega arith)) in
    subst (λ xs. Popped g.P.Protocol.allows (received c.args.consumer.now) (received c.loop-i.consumer) (known_items c.args.consumer.now)
    (known_items c.loop-i.consumer) xs c.args.clock.now.time c.loop-i.clock.time) all c.loop-i.invariant.popped
