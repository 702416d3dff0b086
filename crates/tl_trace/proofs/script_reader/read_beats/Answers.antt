use Rattle.tl_trace.proofs.Names.{arith, refl}
use Rattle.tl_trace.proofs.NextLine.{no_lines}
use Rattle.tl_trace.proofs.Pieces.{starts, walks_quick, walks_lines, waits, left_none, ends, stops, named_by}
use Rattle.tl_trace.proofs.script_reader.read_beats.Goals as goal

pub loop-at-init : goal.loop-at-init
loop-at-init g c = (
  refl,
  starts g.row.VERSION c.args.piece.now c.args.reader.now.script c.args.reader.now.line,
  c.no_heads-heads.ensures g.row.VERSION c.args.piece.now,
)

pub overflow_add-reader : goal.overflow_add-reader
overflow_add-reader g c =
    let far =
    walks_lines g.row.VERSION c.args.piece.now c.args.reader.now.script c.args.reader.now.line
    c.loop-at.reader.script c.push_next-lines.new.script c.loop-at.at c.loop-at.reader.line c.push_next-lines.result c.loop-at.invariant.1
    c.push_next-lines.ensures.pushed in
    omega (arith, far.few, far.within, c.requires.1)

pub loop-at-preserved-then-lines-gt0 : goal.loop-at-preserved-then-lines-gt0
loop-at-preserved-then-lines-gt0 g c = (
  c.loop-at.invariant.0,
  walks_lines g.row.VERSION c.args.piece.now c.args.reader.now.script c.args.reader.now.line
      c.loop-at.reader.script c.push_next-lines.new.script c.loop-at.at c.loop-at.reader.line c.push_next-lines.result c.loop-at.invariant.1
      c.push_next-lines.ensures.pushed,
  c.push_next-lines.ensures.known,
)

pub loop-at-preserved : goal.loop-at-preserved
loop-at-preserved g c =
    let far =
    waits g.row.VERSION c.args.piece.now c.args.reader.now.script c.args.reader.now.line
    c.loop-at.reader.script c.push_next-lines.new.script c.loop-at.at c.loop-at.reader.line c.loop-at.invariant.1
    (no_lines g.row.VERSION c.args.piece.now c.loop-at.at c.loop-at.reader.script c.push_next-lines.new.script c.push_next-lines.result
    c.if-lines-gt0.false c.push_next-lines.ensures.pushed) in
    let put = rw c.in-Ok-Some.field-0-is at c.in-Ok-Some.ensures in (
      c.loop-at.invariant.0,
      walks_quick g.row.VERSION c.args.piece.now c.args.reader.now.script c.args.reader.now.line
          c.push_next-lines.new.script c.push_with_diagnostics.new.script c.loop-at.at c.loop-at.reader.line c.in-Ok-Some.end far put,
      c.push_next-lines.ensures.known,
    )

pub loop-at-smaller-then-lines-gt0 : goal.loop-at-smaller-then-lines-gt0
loop-at-smaller-then-lines-gt0 g c = omega (arith, c.loop-at-test.true, c.if-lines-gt0.true, c.push_next-lines.ensures.pushed.few)

pub loop-at-smaller : goal.loop-at-smaller
loop-at-smaller g c = let put = rw c.in-Ok-Some.field-0-is at c.in-Ok-Some.ensures in omega (arith, put.from, put.to)

pub fault_behind-requires : goal.fault_behind-requires
fault_behind-requires g c = omega (arith, c.requires.1, c.loop-at.invariant.1.few, c.loop-at-test.true)

pub returns-in-Ok-None : goal.returns-in-Ok-None
returns-in-Ok-None g c =
    let far =
    waits g.row.VERSION c.args.piece.now c.args.reader.now.script c.args.reader.now.line
    c.loop-at.reader.script c.push_next-lines.new.script c.loop-at.at c.loop-at.reader.line c.loop-at.invariant.1
    (no_lines g.row.VERSION c.args.piece.now c.loop-at.at c.loop-at.reader.script c.push_next-lines.new.script c.push_next-lines.result
    c.if-lines-gt0.false c.push_next-lines.ensures.pushed) in
    let left = rw c.in-Ok-None.field-0-is at c.in-Ok-None.ensures in
    record {
      version = c.loop-at.invariant.0;
      read = ends g.row.VERSION c.args.piece.now c.args.reader.now.script c.args.reader.now.line c.push_with_diagnostics.new.script c.loop-at.at
          c.loop-at.reader.line (waits g.row.VERSION c.args.piece.now c.args.reader.now.script c.args.reader.now.line
          c.push_next-lines.new.script c.push_with_diagnostics.new.script c.loop-at.at c.loop-at.reader.line far left.same) left.rest;
    }

pub returns-in-Err : goal.returns-in-Err
returns-in-Err g c =
    let far =
    waits g.row.VERSION c.args.piece.now c.args.reader.now.script c.args.reader.now.line
    c.loop-at.reader.script c.push_next-lines.new.script c.loop-at.at c.loop-at.reader.line c.loop-at.invariant.1
    (no_lines g.row.VERSION c.args.piece.now c.loop-at.at c.loop-at.reader.script c.push_next-lines.new.script c.push_next-lines.result
    c.if-lines-gt0.false c.push_next-lines.ensures.pushed) in
    record {
      version = c.loop-at.invariant.0;
      read = named_by g.row.VERSION c.args.piece.now c.args.reader.now.script c.args.reader.now.line c.push_with_diagnostics.new.script c.loop-at.reader.line
          c.in-Err.kind c.fault_behind.result c.fault_behind.ensures.line c.fault_behind.ensures.kind
          (stops g.row.VERSION c.args.piece.now c.args.reader.now.script c.args.reader.now.line
          c.push_next-lines.new.script c.push_with_diagnostics.new.script c.loop-at.at c.loop-at.reader.line
          c.in-Err.kind c.requires.0.client c.requires.0.manager far c.loop-at-test.true c.in-Err.ensures.0.0 c.in-Err.ensures.0.1
          c.in-Err.ensures.1);
    }

pub returns : goal.returns
returns g c =
    record {
      version = c.loop-at.invariant.0;
      read = ends g.row.VERSION c.args.piece.now c.args.reader.now.script c.args.reader.now.line
          c.loop-at.reader.script c.loop-at.at c.loop-at.reader.line c.loop-at.invariant.1
          (left_none g.row.VERSION c.args.piece.now c.args.reader.now.script c.args.reader.now.line c.loop-at.at c.loop-at-test.false);
    }
