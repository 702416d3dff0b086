use Rattle.std.proofs.Common.{◌++◌, ◌∙◌, ap, arith}
use Rattle.std.proofs.lemmas.List.{take_all}
use Rattle.tl_escape.specs.Escaped.{escaped}
use Rattle.tl_escape.proofs.Inert.{inert, longer, on_err}
use Rattle.tl_escape.proofs.escape.put_escaped.Goals as goal

pub loop-byte-preserved : goal.loop-byte-preserved
loop-byte-preserved c =
    longer c.args.text.now c.loop-byte.byte-index 0 c.loop-byte-test.true _ _ _ _ c.loop-byte.invariant
    c.reference_of.ensures c.in_ok-extend_from_slice.ensures.items

pub returns : goal.returns
returns c = record {
  text = c.loop-byte.invariant
      ∙ ap (λ q. c.args.out.now.items ++ escaped q) (take_all c.loop-byte.byte-index c.args.text.now (omega (arith, c.loop-byte-test.false)));
  part = tt;
  inert = inert c.args.text.now;
}

pub returns-in_err-extend_from_slice-clause-part : goal.returns-in_err-extend_from_slice-clause-part
returns-in_err-extend_from_slice-clause-part c =
    on_err c.from_residual.result (c.loop-byte.byte-index, c.in_err-extend_from_slice.ensures.items ∙ c.loop-byte.invariant)

pub returns-in_err-extend_from_slice-clause-inert : goal.returns-in_err-extend_from_slice-clause-inert
returns-in_err-extend_from_slice-clause-inert c = inert c.args.text.now
