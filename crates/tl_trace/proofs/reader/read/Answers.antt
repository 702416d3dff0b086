use Rattle.tl_trace.proofs.Names.{LineAt, ◌<◌, ◌≡◌, ◌+◌, ◌++◌, List, ℕ, Some, length, drop, arith, ap, ◌∙◌, slice_range, newline, header_of}
use Rattle.tl_trace.proofs.Headers.{known, is_header, from_start}
use Rattle.tl_trace.proofs.Widths.{width_most}
use Rattle.tl_trace.proofs.Walk.{end_no_memory, header_no_memory, no_header, no_header_end, header_faults, split_line}
use Rattle.tl_trace.proofs.reader.read.Goals as goal

pub returns-in_default : goal.returns-in_default
returns-in_default c =
    let e = c.line_end-end.ensures in
    let line : LineAt c.args.text.now 0 c.line_end-end.result = record { from = e.from; to = e.to; free = e.free; stop = e.end } in
    record {
      told = tt;
      fault = λ _. no_header c.args.text.now c.line_end-end.result line (from_start c.args.text.now c.line_end-end.result _ c.in_default.ensures);
      memory = λ is. absurd (header_no_memory is);
    }

pub returns-then-end-text : goal.returns-then-end-text
returns-then-end-text c =
    let e = c.line_end-end.ensures in
    let line : LineAt c.args.text.now 0 c.line_end-end.result = record { from = e.from; to = e.to; free = e.free; stop = e.end } in
    record {
      told = tt;
      fault = λ _. no_header_end c.args.text.now c.line_end-end.result c.in-Some.header line
          (from_start c.args.text.now c.line_end-end.result _ c.in-Some.ensures) (omega (arith, c.line_end-end.ensures.to, c.if-end-text.true));
      memory = λ is. absurd (end_no_memory is);
    }

pub read_lines-requires-clause-can : goal.read_lines-requires-clause-can
read_lines-requires-clause-can c =
    let some : header_of (slice_range c.args.text.now 0 c.line_end-end.result) ≡ Some c.in-Some.header =
    from_start c.args.text.now c.line_end-end.result _ c.in-Some.ensures in
    let h = c.in-Some.header in
    let all = known (slice_range c.args.text.now 0 c.line_end-end.result) h some in
    record { version = all.0; client = width_most h.version h.client all.1; manager = width_most h.version h.manager all.2 }

pub read_lines-requires-clause-header : goal.read_lines-requires-clause-header
read_lines-requires-clause-header c =
    let e = c.line_end-end.ensures in
    let line : LineAt c.args.text.now 0 c.line_end-end.result = record { from = e.from; to = e.to; free = e.free; stop = e.end } in
    let lt : c.line_end-end.result < length c.args.text.now = omega (arith, e.to, c.if-end-text.false) in
    header_faults c.args.text.now c.line_end-end.result c.in-Some.header line (from_start c.args.text.now c.line_end-end.result _ c.in-Some.ensures)
    lt

pub invariant_of-result : goal.invariant_of-result
invariant_of-result c =
    let some : header_of (slice_range c.args.text.now 0 c.line_end-end.result) ≡ Some c.in-Some.header =
    from_start c.args.text.now c.line_end-end.result _ c.in-Some.ensures in
    let all = known (slice_range c.args.text.now 0 c.line_end-end.result) c.in-Some.header some in
    record { kept = record { known_version = all.0; client_width = all.1; manager_width = all.2; kept = c.in-Ok.ensures.1 } }

pub returns : goal.returns
returns c =
    let e = c.line_end-end.ensures in
    let line : LineAt c.args.text.now 0 c.line_end-end.result = record { from = e.from; to = e.to; free = e.free; stop = e.end } in
    let lt : c.line_end-end.result < length c.args.text.now = omega (arith, e.to, c.if-end-text.false) in
    let b = slice_range c.args.text.now 0 c.line_end-end.result in
    let some : header_of b ≡ Some c.in-Some.header = from_start c.args.text.now c.line_end-end.result _ c.in-Some.ensures in
    let all = known b c.in-Some.header some in
    let rest = drop (c.line_end-end.result + 1) c.args.text.now in
    record {
      told = record {
        trace = record { known_version = all.0; client_width = all.1; manager_width = all.2; kept = c.in-Ok.ensures.1 };
        rest = rest;
        header = split_line c.args.text.now 0 c.line_end-end.result line lt ∙
            ap (λ (h : List ℕ). h ++ newline ++ rest) (is_header b c.in-Some.header some);
        told = c.in-Ok.ensures.0;
      };
      fault = tt;
      memory = tt;
    }

pub returns-in-Err : goal.returns-in-Err
returns-in-Err c = record { told = tt; fault = c.in-Err.ensures.0; memory = c.in-Err.ensures.1 }
