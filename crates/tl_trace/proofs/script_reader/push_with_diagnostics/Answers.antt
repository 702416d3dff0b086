use Rattle.tl_trace.proofs.Names.{◌≡◌, ◌≤◌, ◌<◌, ◌-◌, false, length, refl, sym, subst, arith, ◌∙◌, slice_range, is_err, LineAt, LONGEST_LINE}
use Rattle.tl_trace.proofs.Names.{IsFaultyAt, IsReadableAt, IsSameScript}
use Rattle.tl_trace.proofs.ReadBeats.{on_ok, on_err}
use Rattle.tl_trace.proofs.Walk.{no_memory}
use Rattle.tl_trace.proofs.Pieces.{left, ends_inside}
use Rattle.tl_trace.proofs.script_reader.push_with_diagnostics.Goals as goal
use Rattle.tl_trace.proofs.script_reader.push_with_diagnostics.Goals.{else-end-piece-via-then-end-piece+else-end-at-lt-LONGEST_LINE}
use Rattle.tl_trace.proofs.script_reader.push_with_diagnostics.Goals.{else-end-piece-via-else-end-piece}
use Rattle.tl_trace.proofs.script_reader.push_with_diagnostics.Goals.{then-out_of_memory-via-then-out_of_memory, then-out_of_memory-via-else-out_of_memory+then-is_err}

pub returns-then-end-at-lt-LONGEST_LINE : goal.returns-then-end-at-lt-LONGEST_LINE
returns-then-end-at-lt-LONGEST_LINE g c =
    let e = c.line_end-end.ensures in
    let line : LineAt c.args.piece.now c.args.at c.line_end-end.result = record { from = e.from; to = e.to; free = e.free; stop = e.end } in
    record {
      rest = left c.args.piece.now c.args.at c.line_end-end.result line c.if-end-piece.true c.if-end-at-lt-LONGEST_LINE.true;
      same = record { a = refl; b = refl; c = refl; d = refl; e = refl };
    }

pub returns-in-Err : goal.returns-in-Err
returns-in-Err g c =
    let e = c.line_end-end.ensures in
    let fault : IsFaultyAt c.args.version g.row.C g.row.M c.args.piece.now c.args.at c.in-Err.kind = record {
      end = c.line_end-end.result;
      line = record { from = e.from; to = e.to; free = e.free; stop = e.end };
      long = λ is.
          elim c.else-end-piece.branch [
            | else-end-piece-via-then-end-piece+else-end-at-lt-LONGEST_LINE w ↦ omega (arith, w.if-end-at-lt-LONGEST_LINE.false)
            | else-end-piece-via-else-end-piece w ↦ absurd (w.if-end-piece.false is)
          ];
      fault = c.in-Err.ensures;
    } in (
      (
        λ _. fault,
        λ is. absurd (no_memory c.args.version g.row.C g.row.M (slice_range c.args.piece.now c.args.at c.line_end-end.result) _
            c.in-Err.ensures is),
      ),
      record { a = refl; b = refl; c = refl; d = refl; e = refl },
    )

pub returns-then-out_of_memory : goal.returns-then-out_of_memory
returns-then-out_of_memory g c =
    let e = c.line_end-end.ensures in
    let line : LineAt c.args.piece.now c.args.at c.line_end-end.result = record { from = e.from; to = e.to; free = e.free; stop = e.end } in
    let long : c.line_end-end.result ≡ length c.args.piece.now → LONGEST_LINE ≤ c.line_end-end.result - c.args.at = λ is.
    elim c.else-end-piece.branch [
      | else-end-piece-via-then-end-piece+else-end-at-lt-LONGEST_LINE w ↦ omega (arith, w.if-end-at-lt-LONGEST_LINE.false)
      | else-end-piece-via-else-end-piece w ↦ absurd (w.if-end-piece.false is)
    ] in
    let read : IsReadableAt c.args.version g.row.C g.row.M c.args.piece.now c.args.at = record {
      end = c.line_end-end.result;
      line = line;
      beat = c.in-Ok.line;
      inside = ends_inside c.args.version g.row.C g.row.M c.args.piece.now c.args.at c.line_end-end.result c.in-Ok.line c.requires.0.client
          c.requires.0.manager line long c.in-Ok.ensures;
      read = c.in-Ok.ensures;
    } in
    let same : IsSameScript c.args.script.now c.then-out_of_memory.script =
    elim c.then-out_of_memory.branch [
      | then-out_of_memory-via-then-out_of_memory w ↦ subst (IsSameScript c.args.script.now) (sym w.script-is)
          (record { a = refl; b = refl; c = refl; d = refl; e = refl })
      | then-out_of_memory-via-else-out_of_memory+then-is_err w ↦ subst (IsSameScript c.args.script.now) (sym w.script-is)
          (on_err w.push_beat_of.result w.push_beat_of.ensures.kept (sym w.is_err.ensures.value ∙ w.if-is_err.true))
    ] in
    ((λ other. absurd (other refl), λ _. read), same)

pub returns : goal.returns
returns g c =
    let e = c.line_end-end.ensures in
    let line : LineAt c.args.piece.now c.args.at c.line_end-end.result = record { from = e.from; to = e.to; free = e.free; stop = e.end } in
    let long : c.line_end-end.result ≡ length c.args.piece.now → LONGEST_LINE ≤ c.line_end-end.result - c.args.at = λ is.
    elim c.else-end-piece.branch [
      | else-end-piece-via-then-end-piece+else-end-at-lt-LONGEST_LINE w ↦ omega (arith, w.if-end-at-lt-LONGEST_LINE.false)
      | else-end-piece-via-else-end-piece w ↦ absurd (w.if-end-piece.false is)
    ] in
    let inside : c.line_end-end.result < length c.args.piece.now =
    ends_inside c.args.version g.row.C g.row.M c.args.piece.now c.args.at c.line_end-end.result c.in-Ok.line c.requires.0.client c.requires.0.manager
    line long c.in-Ok.ensures in
    let went : is_err c.push_beat_of.result ≡ false = sym c.is_err.ensures.value ∙ c.if-is_err.false in
    record {
      line = c.in-Ok.line;
      from = e.from;
      to = inside;
      stop = e.end inside;
      read = c.in-Ok.ensures;
      put = on_ok c.push_beat_of.result c.push_beat_of.ensures.pushed went;
    }
