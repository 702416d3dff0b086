use Rattle.tl_convert.proofs.Names.{[], nothing, StandsFor}
use Rattle.tl_convert.proofs.converter.Converter.new.Goals as goal

fed-nothing : (g : _) (c : goal.After-default g) →
    StandsFor {w = g.row.W} {v = g.row.V} g.K.Channel.rules (record { burst = c.new.result; home = 0; partial = c.default.result }) [] []
fed-nothing g c = record {
  handed = ([], [], nothing);
  burst_is = c.new.ensures;
  home_is = λ h count e. absurd (cc);
  partial_is = λ h count e. absurd (cc);
}

pub invariant_of-result : goal.invariant_of-result
invariant_of-result g c = ([], [], fed-nothing g c)

pub returns : goal.returns
returns g c = fed-nothing g c
