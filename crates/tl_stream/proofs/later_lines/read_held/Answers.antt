use Rattle.tl_stream.proofs.Names.{◌≢◌, ◌++◌, ◌∙◌, false, true, length, refl, arith, ap, subst, sym, list_any, is_newline, width_bounds}
use Rattle.tl_stream.proofs.Names.{lit<, is_version, IsFirstFault, IsRefused, held}
use Rattle.std.proofs.lemmas.Bool.{false≢true}
use Rattle.tl_stream.proofs.Between.{any_refused, between_read, has_read, inside_held, of_text, of_whole, unfinished}
use Rattle.tl_stream.proofs.ToRead.{unlike}
use Rattle.tl_stream.proofs.later_lines.read_held.Goals as goal

pub held-requires : goal.held-requires
held-requires g c = record { from = c.requires.from; to = c.requires.to }

pub advance-requires : goal.advance-requires
advance-requires g c =
    inside_held c.args.input.now c.held.result.now c.in-Ok.used c.held.ensures c.requires.from c.requires.to c.in-Ok.ensures.used

pub returns-in-Err : goal.returns-in-Err
returns-in-Err g c = λ unread left discarded b.
    let input = c.args.input.now in
    let fault = c.in-Err.fault in
    subst (IsRefused unread left input) (sym c.from.ensures)
    (any_refused unread left b.used input fault b.taken (λ other.
    of_text (λ text. IsFirstFault text fault.line fault.kind) unread left (b.used ++ held input) b.taken.took (λ more.
    subst (λ bytes. IsFirstFault (b.used ++ bytes ++ more) fault.line fault.kind) c.held.ensures
    (c.in-Err.ensures.fault b.used more discarded b.read other))))

pub returns-then-is_full : goal.returns-then-is_full
returns-then-is_full g c =
    let input = c.args.input.now in
    let e = c.advance.ensures in
    let r = c.in-Ok.ensures in
    let inside = inside_held input c.held.result.now c.in-Ok.used c.held.ensures c.requires.from c.requires.to r.used in
    has_read input c.advance.new.self c.in-Ok.used e.from e.to e.buffer e.total inside c.args.lines.now c.read.new.self c.held.result.now
    c.held.ensures r.version r.told true (r.grown refl) r.rest (sym c.if-is_full.true ∙ c.is_full.ensures) (λ e. absurd (false≢true (sym e)))

pub returns-in-Some : goal.returns-in-Some
returns-in-Some g c = λ unread left discarded before.
    let input = c.args.input.now in
    let input' = c.advance.new.self in
    let e = c.advance.ensures in
    let r = c.in-Ok.ensures in
    let fault = c.in-Some.fault in
    let inside = inside_held input c.held.result.now c.in-Ok.used c.held.ensures c.requires.from c.requires.to r.used in
    let b = between_read input input' c.in-Ok.used e.from e.to e.buffer e.total inside c.args.lines.now c.read.new.self c.held.result.now
    c.held.ensures r.version r.told unread left discarded before in
    let first : IsFirstFault (b.used ++ held input') fault.line fault.kind =
    subst (λ bytes. IsFirstFault (b.used ++ bytes) fault.line fault.kind) c.held-2.ensures (c.in-Some.ensures.fault b.used discarded b.read) in
    let not_full : input'.to ≢ length input'.buffer.items = unlike _ _ (sym c.is_full.ensures ∙ c.if-is_full.false) in
    subst (IsRefused unread left input') (sym c.from-in-Some.ensures)
    (any_refused unread left b.used input' fault b.taken (λ other.
    of_whole (λ text. IsFirstFault text fault.line fault.kind) unread left (b.used ++ held input') b.taken.took (b.taken.end not_full) first))

pub returns-in-None : goal.returns-in-None
returns-in-None g c =
    let input = c.args.input.now in
    let e = c.advance.ensures in
    let r = c.in-Ok.ensures in
    let inside = inside_held input c.held.result.now c.in-Ok.used c.held.ensures c.requires.from c.requires.to r.used in
    has_read input c.advance.new.self c.in-Ok.used e.from e.to e.buffer e.total inside c.args.lines.now c.read.new.self c.held.result.now
    c.held.ensures r.version r.told false (r.grown refl) r.rest (sym c.if-is_full.false ∙ c.is_full.ensures)
    (λ e. sym c.held-2.ensures ∙ c.in-None.ensures.none refl)

pub held-requires-2 : goal.held-requires-2
held-requires-2 g c =
    let e = c.advance.ensures in
    let inside = inside_held c.args.input.now c.held.result.now c.in-Ok.used c.held.ensures c.requires.from c.requires.to c.in-Ok.ensures.used in
    record { from = omega (arith, e.from, e.to, inside); to = omega (arith, e.to, ap length e.buffer, c.requires.to) }

pub end_fault-requires : goal.end_fault-requires
end_fault-requires g c =
    let r = c.in-Ok.ensures in
    let input = c.args.input.now in
    let e = c.advance.ensures in
    let inside = inside_held input c.held.result.now c.in-Ok.used c.held.ensures c.requires.from c.requires.to r.used in
    let rest = unfinished input c.advance.new.self c.in-Ok.used e.from e.to e.buffer e.total inside c.held.result.now c.held.ensures r.rest in (
      lit< tt,
      (
        ap is_version r.version ∙ c.requires.version,
        (
          (width_bounds _ c.requires.client).1,
          (
            (width_bounds _ c.requires.manager).1,
            (omega (arith, r.lines, r.used, ap length c.held.ensures, c.requires.few), ap (list_any is_newline) c.held-2.ensures ∙ rest.free),
          ),
        ),
      ),
    )
