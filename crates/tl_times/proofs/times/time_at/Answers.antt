use Rattle.std.proofs.Common.{arith, sym, ◌∙◌}
use Rattle.tl_trace.specs.Inner.Reading.{LineAt}
use Rattle.tl_times.proofs.Lines.{without_end, no_time, earlier, next_time}
use Rattle.tl_times.proofs.times.time_at.Goals as goal

pub returns-then-end-text : goal.returns-then-end-text
returns-then-end-text c =
    let e = c.line_end-end.ensures in
    let line : LineAt c.args.text.now c.args.at c.line_end-end.result = record { from = e.from; to = e.to; free = e.free; stop = e.end } in
    without_end c.args.text.now c.args.at c.line_end-end.result c.args.last line (omega (arith, c.requires, c.if-at-text.false)) c.if-end-text.true

pub returns-in-None : goal.returns-in-None
returns-in-None c =
    let e = c.line_end-end.ensures in
    let line : LineAt c.args.text.now c.args.at c.line_end-end.result = record { from = e.from; to = e.to; free = e.free; stop = e.end } in
    no_time c.args.text.now c.args.at c.line_end-end.result c.args.last line (omega (arith, e.to, c.if-end-text.false))
    (sym c.time_of.ensures ∙ c.in-None.is)

pub returns-in-Some : goal.returns-in-Some
returns-in-Some c =
    let e = c.line_end-end.ensures in
    let line : LineAt c.args.text.now c.args.at c.line_end-end.result = record { from = e.from; to = e.to; free = e.free; stop = e.end } in
    earlier c.args.text.now c.args.at c.line_end-end.result c.args.last c.in-Some.time line (omega (arith, e.to, c.if-end-text.false))
    (sym c.time_of.ensures ∙ c.in-Some.is) c.if-time-last.true

pub returns-in-Some-2 : goal.returns-in-Some-2
returns-in-Some-2 c =
    let e = c.line_end-end.ensures in
    let line : LineAt c.args.text.now c.args.at c.line_end-end.result = record { from = e.from; to = e.to; free = e.free; stop = e.end } in
    next_time c.args.text.now c.args.at c.line_end-end.result c.args.last c.in-Some.time line (omega (arith, e.to, c.if-end-text.false))
    (sym c.time_of.ensures ∙ c.in-Some.is) c.if-time-last.false
