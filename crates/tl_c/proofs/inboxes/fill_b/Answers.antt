use Rattle.std.proofs.Common.{◌<◌, ◌≤◌, ◌+◌, length, set, sym, subst, arith}
use Rattle.tl_c_beats.specs.Fields.{fields_b}
use Rattle.tl_c.specs.Inboxes.{client_beat}
use Rattle.tl_c.proofs.Emptying.{Filling, filling_none, filling_more, filled_none, filled, taker_b}
use Rattle.tl_c.proofs.inboxes.fill_b.Goals as goal

pub loop-i-init : goal.loop-i-init
loop-i-init c = filling_none taker_b (client_beat fields_b) c.args.side.now c.args.beats.now

pub loop-i-preserved : goal.loop-i-preserved
loop-i-preserved c =
    let same = c.loop-i.invariant.length in
    let more = c.loop-i-test.true in
    let inside : c.loop-i.i < length c.loop-i.beats = omega (arith, same, more) in
    subst (λ f. Filling taker_b (client_beat fields_b) c.args.side.now c.take_b.new.self c.args.beats.now
    (set c.loop-i.beats c.loop-i.i (record { beat = f; lanes = c.in-Some.far.lanes })) (c.loop-i.i + 1)) (sym c.fields_b.ensures)
    (filling_more taker_b (client_beat fields_b) c.loop-i.invariant c.in-Some.far inside c.in-Some.ensures)

pub returns-in_default : goal.returns-in_default
returns-in_default c =
    let same = c.loop-i.invariant.length in
    let more = c.loop-i-test.true in
    let inside : c.loop-i.i < length c.loop-i.beats = omega (arith, same, more) in
    filled_none taker_b (client_beat fields_b) c.loop-i.invariant inside c.in_default.ensures

pub returns : goal.returns
returns c =
    let same = c.loop-i.invariant.length in
    let over = c.loop-i-test.false in
    let full : length c.loop-i.beats ≤ c.loop-i.i = omega (arith, same, over) in
    filled taker_b (client_beat fields_b) c.loop-i.invariant full
