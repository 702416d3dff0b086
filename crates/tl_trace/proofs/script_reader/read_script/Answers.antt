use Rattle.tl_trace.proofs.Names.{◌≡◌, ◌+◌, ◌-◌, ◌++◌, ◌∙◌, [], Some, length, drop, take, arith, refl, subst, sym, ap, take_rest}
use Rattle.tl_trace.proofs.Names.{slice_range, HasRead, none_gone, header_of, IsFirstFault, IsReadableTo}
use Rattle.tl_trace.proofs.Names.{LineAt}
use Rattle.tl_trace.proofs.Headers.{header}
use Rattle.tl_trace.proofs.Walk.{end_no_memory, no_header_end}
use Rattle.tl_trace.proofs.ReadBeats.{first_line}
use Rattle.tl_trace.proofs.Pieces.{header_line, whole_text, parted_text, used_text, tells_script}
use Rattle.tl_trace.proofs.script_reader.read_script.Goals as goal

pub returns-then-end-text : goal.returns-then-end-text
returns-then-end-text g c =
    let e = c.line_end-end.ensures in
    let line : LineAt c.args.text.now 0 c.line_end-end.result = record { from = e.from; to = e.to; free = e.free; stop = e.end } in
    let some : header_of (slice_range c.args.text.now 0 c.line_end-end.result) ≡ Some (header c.args.version g.row.C g.row.M) =
    ap header_of (sym (first_line c.args.text.now c.line_end-end.result line)) ∙ c.requires.header in
    record {
      told = tt;
      fault = λ _. no_header_end c.args.text.now c.line_end-end.result (header c.args.version g.row.C g.row.M) line some
          (omega (arith, e.to, c.if-end-text.true));
      memory = λ is. absurd (end_no_memory is);
    }

pub returns-in-Err : goal.returns-in-Err
returns-in-Err g c =
    let e = c.line_end-end.ensures in
    let line : LineAt c.args.text.now 0 c.line_end-end.result = record { from = e.from; to = e.to; free = e.free; stop = e.end } in
    let text = c.args.text.now in
    let n = c.line_end-end.result + 1 in
    let begins = header_line text c.line_end-end.result c.args.version g.row.C g.row.M line c.if-end-text.false c.requires.header in
    let read =
    subst (λ v. HasRead v (take n text) c.new-reader.result.script c.new-reader.result.line) (sym c.new-reader.ensures.version)
    (c.new-reader.ensures.header (take n text) begins) in
    let whole = whole_text text n (take (length text - n) (drop n text)) (take_rest text n) in
    record {
      told = tt;
      fault = λ other. subst (λ t. IsFirstFault t c.in-Err.fault.line c.in-Err.fault.kind) whole
          (c.in-Err.ensures.fault (take n text) [] none_gone read other);
      memory = λ is. subst (λ t. IsReadableTo t c.in-Err.fault.line) whole (c.in-Err.ensures.memory (take n text) [] none_gone read is);
    }

pub returns-in-Some : goal.returns-in-Some
returns-in-Some g c =
    let e = c.line_end-end.ensures in
    let line : LineAt c.args.text.now 0 c.line_end-end.result = record { from = e.from; to = e.to; free = e.free; stop = e.end } in
    let text = c.args.text.now in
    let n = c.line_end-end.result + 1 in
    let later = take (length text - n) (drop n text) in
    let begins = header_line text c.line_end-end.result c.args.version g.row.C g.row.M line c.if-end-text.false c.requires.header in
    let read =
    subst (λ v. HasRead v (take n text) c.new-reader.result.script c.new-reader.result.line) (sym c.new-reader.ensures.version)
    (c.new-reader.ensures.header (take n text) begins) in
    let more =
    subst (λ v. HasRead v (take n text ++ take c.in-Ok.used later) c.read.new.self.script c.read.new.self.line) (sym c.in-Ok.ensures.version)
    (c.in-Ok.ensures.told (take n text) none_gone read) in
    record {
      told = tt;
      fault = λ other. subst (λ t. IsFirstFault t c.in-Some.fault.line c.in-Some.fault.kind)
          (parted_text text n later (take_rest text n) c.in-Ok.used (take (length later - c.in-Ok.used) (drop c.in-Ok.used later))
          (take_rest later c.in-Ok.used))
          (c.in-Some.ensures.fault (take n text ++ take c.in-Ok.used later) none_gone more);
      memory = λ is. absurd (c.in-Some.ensures.kind is);
    }

pub returns-in-None : goal.returns-in-None
returns-in-None g c =
    let e = c.line_end-end.ensures in
    let line : LineAt c.args.text.now 0 c.line_end-end.result = record { from = e.from; to = e.to; free = e.free; stop = e.end } in
    let text = c.args.text.now in
    let n = c.line_end-end.result + 1 in
    let later = take (length text - n) (drop n text) in
    let begins = header_line text c.line_end-end.result c.args.version g.row.C g.row.M line c.if-end-text.false c.requires.header in
    let read =
    subst (λ v. HasRead v (take n text) c.new-reader.result.script c.new-reader.result.line) (sym c.new-reader.ensures.version)
    (c.new-reader.ensures.header (take n text) begins) in
    let more =
    subst (λ v. HasRead v (take n text ++ take c.in-Ok.used later) c.read.new.self.script c.read.new.self.line) c.new-reader.ensures.version
    (c.in-Ok.ensures.told (take n text) none_gone read) in
    record {
      told = tells_script c.args.version (take n text ++ take c.in-Ok.used later) text c.read.new.self.script c.read.new.self.line
          (used_text text n later (take_rest text n) c.in-Ok.used (take (length later - c.in-Ok.used) (drop c.in-Ok.used later))
          (take_rest later c.in-Ok.used) (c.in-None.ensures.none refl)) more;
      fault = tt;
      memory = tt;
    }
