use Rattle.tl_burst.proofs.Names.{◌≡◌, None, Some, refl, sym, ap, ◌∙◌, fault_in, count_in, rest_of}
use Rattle.tl_burst.proofs.Steps.{count-of, last-tells}
use Rattle.tl_burst.proofs.FaultsExact.{ChannelLaws, laws-of, faults-exact, admitted-none}
use Rattle.tl_burst.proofs.tracker.Tracker.check.Goals as goal

pub returns-in-Some : goal.returns-in-Some
returns-in-Some g c =
    let laws : ChannelLaws g.K.Channel.rules = laws-of g.met.K.Channel.same_heads g.met.K.Channel.same_is
    g.met.K.Channel.small g.met.K.Channel.partial_carries g.met.K.Channel.masked_address g.met.K.Channel.home_kept in
    let some : fault_in g.K.Channel.rules c.args.self.now c.args.beat.now ≡ Some c.in-Some.fault = sym c.first_fault.ensures.fault ∙ c.in-Some.is in
    record {
      accepts = (λ t. absurd (cc), λ none. absurd (cc));
      fault = some;
      head = tt;
      place = tt;
      last = tt;
      admitted = λ bs handed e. (
        λ t. absurd (cc),
        λ admitted.
            let none : fault_in g.K.Channel.rules c.args.self.now c.args.beat.now ≡ None =
            ap (λ burst. fault_in g.K.Channel.rules burst c.args.beat.now) e ∙
            admitted-none g.K.Channel.rules g.row.W c.requires laws bs c.args.beat.now handed admitted in
            absurd (cc),
      );
      first_fault = λ bs e. sym (ap (λ burst. fault_in g.K.Channel.rules burst c.args.beat.now) e) ∙ some;
      index = λ bs e. tt;
    }

pub returns-in-None : goal.returns-in-None
returns-in-None g c =
    let laws : ChannelLaws g.K.Channel.rules = laws-of g.met.K.Channel.same_heads g.met.K.Channel.same_is
    g.met.K.Channel.small g.met.K.Channel.partial_carries g.met.K.Channel.masked_address g.met.K.Channel.home_kept in
    let none : fault_in g.K.Channel.rules c.args.self.now c.args.beat.now ≡ None = sym c.first_fault.ensures.fault ∙ c.in-None.is in
    record {
      accepts = (λ _. none, λ _. refl);
      fault = tt;
      head = c.place.ensures.head;
      place = c.place.ensures.place;
      last = last-tells g.K.Channel.rules g.row.W c.args.self.now c.place.result c.place.ensures.place c.args.beat.now.head c.place.ensures.head;
      admitted = λ bs handed e. (
        λ t. (faults-exact g.K.Channel.rules g.row.W c.requires laws bs c.args.beat.now handed c.ranges_of_beat.ensures).0
            (ap (λ burst. fault_in g.K.Channel.rules burst c.args.beat.now) (sym e) ∙ none),
        λ admitted. refl,
      );
      first_fault = λ bs e. tt;
      index = λ bs e. c.place.ensures.place.index ∙ ap count_in e ∙ count-of g.K.Channel.rules g.row.W (rest_of g.K.Channel.rules g.row.W bs);
    }
