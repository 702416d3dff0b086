use Rattle.std.proofs.Common.{None, Some, refl, sym, ap, ◌∙◌}
use Rattle.std.specs.Option.{option_map_or}
use Rattle.tl_sides.proofs.Words.{Beat, fault_in}
use Rattle.tl_settle.proofs.Answering.{stopped}
use Rattle.tl_sides.proofs.BoxSteps.{sent_offered}
use Rattle.tl_sides.proofs.offering.offer_alone.Goals as goal

pub returns-in-Err : goal.returns-in-Err
returns-in-Err g c =
    record {
      admitted = λ x h. stopped (ap (λ o. option_map_or (λ fault. Some (Beat fault)) o None)
          (c.in-Err.ensures.first_fault x.accepted x.homes x.taken h.sent));
      accepted = λ x h. tt;
      fault = λ x h. ap (λ o. option_map_or (λ fault. Some (Beat fault)) o None) (c.in-Err.ensures.first_fault x.accepted x.homes x.taken h.sent);
      refused = refl;
      rest = refl;
    }

pub returns : goal.returns
returns g c = record {
  admitted = λ x h.
      let none = ap (λ burst. fault_in g.K.Channel.rules burst c.args.beat.now) (sym h.sent.converter.burst_is) ∙ c.in-Ok.ensures.place.accepted in
      (λ ok. ap (λ o. option_map_or (λ fault. Some (Beat fault)) o None) none, λ stops. refl);
  accepted = λ x h. sent_offered g.K.Channel.rules _ _ x c.args.beat.now 0 c.requires.2 c.offer_at.ensures.still h
      (c.offer_at.ensures.accepted x.accepted x.homes x.taken h.sent);
  fault = λ x h. tt;
  refused = tt;
  rest = refl;
}
