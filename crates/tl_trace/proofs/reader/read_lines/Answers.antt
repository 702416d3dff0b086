use Rattle.tl_trace.proofs.Names.{◌+◌, ◌<◌, ◌≡◌, false, length, arith, refl, sym, subst, ◌++◌, ◌∷◌, ◌∙◌, [], List, slice_range, is_err, LineAt, Line}
use Rattle.tl_trace.proofs.Names.{drop, ◌-◌, take_all, length-drop, TellsLines}
use Rattle.tl_trace.proofs.NextLine.{was_put}
use Rattle.tl_trace.proofs.ReadLines.{SoFar}
use Rattle.tl_trace.proofs.Walk.{no_memory, end_no_memory, refused, no_end, unstored, advance}
use Rattle.tl_trace.proofs.reader.read_lines.Goals as goal

pub returns-in-Err : goal.returns-in-Err
returns-in-Err c =
    let e = c.line_end-end.ensures in
    let h = c.args.header in
    let line : LineAt c.args.text.now c.loop-at.at c.line_end-end.result = record { from = e.from; to = e.to; free = e.free; stop = e.end } in
    let first =
    refused c.args.text.now c.args.start h.version h.client h.manager c.loop-at.lines.items c.loop-at.at c.loop-at.before c.line_end-end.result
    c.in-Err.kind c.loop-at.invariant line c.loop-at-test.true c.in-Err.ensures in (
      λ _. first,
      λ is. absurd (no_memory h.version h.client h.manager (slice_range c.args.text.now c.loop-at.at c.line_end-end.result) c.in-Err.kind
          c.in-Err.ensures is),
    )

pub returns-then-end-text : goal.returns-then-end-text
returns-then-end-text c =
    let e = c.line_end-end.ensures in
    let h = c.args.header in
    let line : LineAt c.args.text.now c.loop-at.at c.line_end-end.result = record { from = e.from; to = e.to; free = e.free; stop = e.end } in (
      λ _. no_end c.args.text.now c.args.start h.version h.client h.manager c.loop-at.lines.items c.loop-at.at c.loop-at.before c.line_end-end.result
          c.in-Ok.beat c.loop-at.invariant line c.loop-at-test.true c.in-Ok.ensures c.if-end-text.true,
      λ is. absurd (end_no_memory is),
    )

pub returns-then-is_err : goal.returns-then-is_err
returns-then-is_err c =
    let e = c.line_end-end.ensures in
    let h = c.args.header in
    let line : LineAt c.args.text.now c.loop-at.at c.line_end-end.result = record { from = e.from; to = e.to; free = e.free; stop = e.end } in
    let lt : c.line_end-end.result < length c.args.text.now = omega (arith, e.to, c.if-end-text.false) in
    -- out of memory is not a fault of the text
    (
      λ other. absurd (other refl),
      λ _. unstored c.args.text.now c.args.start h.version h.client h.manager c.loop-at.lines.items c.loop-at.at
          c.loop-at.before c.line_end-end.result c.in-Ok.beat c.loop-at.invariant line c.in-Ok.ensures lt,
    )

pub loop-at-preserved : goal.loop-at-preserved
loop-at-preserved c =
    let e = c.line_end-end.ensures in
    let h = c.args.header in
    let line : LineAt c.args.text.now c.loop-at.at c.line_end-end.result = record { from = e.from; to = e.to; free = e.free; stop = e.end } in
    let lt : c.line_end-end.result < length c.args.text.now = omega (arith, e.to, c.if-end-text.false) in
    let next =
    advance c.args.text.now c.args.start h.version h.client h.manager c.loop-at.lines.items c.loop-at.at c.loop-at.before c.line_end-end.result
    c.in-Ok.beat c.loop-at.invariant line c.in-Ok.ensures lt in
    let went : is_err c.push.result ≡ false = sym c.is_err.ensures.value ∙ c.if-is_err.false in
    let pushed : c.push.new.self.items ≡ c.loop-at.lines.items ++ c.in-Ok.beat ∷ [] = was_put c.push.result _ _ _ went c.push.ensures.items in
    let P : List Line → Type 0 =
    λ xs. SoFar c.args.text.now c.args.start h.version h.client h.manager xs (c.line_end-end.result + 1) (c.loop-at.before + 1) in
    subst P (sym pushed) next

pub line_end-end-requires : goal.line_end-end-requires
line_end-end-requires c = c.loop-at.invariant.within

pub returns : goal.returns
returns c =
    let h = c.args.header in
    let rest = drop c.args.start c.args.text.now in
    let all : slice_range c.args.text.now c.args.start c.loop-at.at ≡ rest =
    take_all (c.loop-at.at - c.args.start) rest (omega (arith, length-drop c.args.start c.args.text.now, c.loop-at-test.false)) in
    (subst (TellsLines h.version h.client h.manager c.loop-at.lines.items) all c.loop-at.invariant.told, c.loop-at.invariant.kept)
