use Rattle.std.proofs.Common.{ap, ◌-◌, ◌∙◌}
use Rattle.tl_trace.specs.Inner.Reading.{LineAt}
use Rattle.tl_times.proofs.Lines.{none_counted, one_counted, all_counted}
use Rattle.tl_times.proofs.times.beats_of.Goals as goal

pub loop-at-init : goal.loop-at-init
loop-at-init c = none_counted c.args.trace.now

pub loop-at-preserved : goal.loop-at-preserved
loop-at-preserved c =
    let e = c.line_end-at.ensures in
    let line : LineAt c.args.trace.now c.loop-at.at c.line_end-at.result = record { from = e.from; to = e.to; free = e.free; stop = e.end } in
    one_counted c.args.trace.now c.loop-at.at c.loop-at.lines c.line_end-at.result c.loop-at.invariant line c.loop-at-test.true

pub returns : goal.returns
returns c =
    c.saturating_sub.ensures
    ∙ ap (λ lines. lines - 1) (all_counted c.args.trace.now c.loop-at.at c.loop-at.lines c.loop-at.invariant c.loop-at-test.false)
