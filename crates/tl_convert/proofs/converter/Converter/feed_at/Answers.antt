use Rattle.tl_convert.proofs.Names.{◌≡◌, ◌≢◌, ◌<◌, ◌^◌, ◌++◌, ℕ, None, List, [], ◌∷◌, length, sym, ap, subst, ◌∙◌, All, IsLawfulBeat}
use Rattle.tl_convert.proofs.Names.{BeatOf, count_in, rest_of, burst_after, fault_in, homes_with, beats_of, ChannelLaws, laws-of, Run}
use Rattle.tl_convert.proofs.Names.{Progress, StandsFor, due}
use Rattle.tl_burst.proofs.Steps.{count-of}
use Rattle.tl_convert.proofs.FarHanded.{far-handed}
use Rattle.tl_convert.proofs.LawfulBeats.{handed-lawful, all-right}
use Rattle.tl_convert.proofs.FeedStep.{Fed, fed, fed-run}
use Rattle.tl_convert.proofs.converter.Converter.feed_at.Goals.{then-place-eq0, else-place-eq0}
use Rattle.tl_convert.proofs.converter.Converter.feed_at.Goals as goal

-- one more beat, for a converter that represents these beats
step-from : (g : _) (c : goal.After-advance g) (bs : List (BeatOf g.row.K-Head.Denot g.row.W)) (homes : List ℕ) →
    StandsFor {v = g.row.V} g.K.Channel.rules (record { burst = c.self.inside.tracker; home = c.self.inside.home; partial = c.self.inside.partial })
    bs homes →
    Fed {v = g.row.V} g.K.Channel.rules (record { burst = c.advance.new.self; home = c.if-place-eq0.at; partial = c.give.new.partial })
    bs homes c.args.beat.now c.args.home c.give.new.out.items
step-from g c bs homes before =
    let laws : ChannelLaws g.K.Channel.rules = laws-of g.met.K.Channel.same_heads g.met.K.Channel.same_is
    g.met.K.Channel.small g.met.K.Channel.partial_carries g.met.K.Channel.masked_address g.met.K.Channel.home_kept in
    let old : Progress g.row.K-Head.Denot g.row.V =
    record { burst = c.self.inside.tracker; home = c.self.inside.home; partial = c.self.inside.partial } in
    let new : Progress g.row.K-Head.Denot g.row.V =
    record { burst = c.advance.new.self; home = c.if-place-eq0.at; partial = c.give.new.partial } in
    let open_is : c.self.inside.tracker ≡ burst_after g.K.Channel.rules bs = before.burst_is in
    let is = rw (← c.self.view_is) at c.requires.place in
    let same : c.args.place.head ≡ c.args.beat.now.head = is.head in
    let inside : c.args.place.index < beats_of g.K.Channel.rules c.args.beat.now.head g.row.W =
    subst (λ (h : g.row.K-Head.Denot). c.args.place.index < beats_of g.K.Channel.rules h g.row.W) same c.place_is_lawful.ensures.place.within in
    let none : fault_in g.K.Channel.rules c.self.inside.tracker c.args.beat.now ≡ None = is.accepted in
    let small : c.args.place.index ≡ 0 → g.K.Channel.rules.lane_address c.args.beat.now.head c.args.home < 2 ^ 64 = λ z.
    elim c.if-place-eq0.branch [
      | then-place-eq0 w ↦ (let fits : w.lane_address-at.result < 2 ^ 64 = w.lane_address-at.type_inv in
          subst (λ (n : ℕ). n < 2 ^ 64) w.lane_address-at.ensures fits)
      | else-place-eq0 w ↦ absurd (w.if-place-eq0.false z)
    ] in
    let opened : c.args.place.index ≡ 0 → c.if-place-eq0.at ≡ g.K.Channel.rules.lane_address c.args.beat.now.head c.args.home = λ z.
    elim c.if-place-eq0.branch [
      | then-place-eq0 w ↦ w.at-is ∙ w.lane_address-at.ensures
      | else-place-eq0 w ↦ absurd (w.if-place-eq0.false z)
    ] in
    let kept : c.args.place.index ≢ 0 → c.if-place-eq0.at ≡ c.self.inside.home = λ ne.
    elim c.if-place-eq0.branch [
      | then-place-eq0 w ↦ absurd (ne w.if-place-eq0.true)
      | else-place-eq0 w ↦ w.at-is
    ] in
    let index_is : c.args.place.index ≡ length (rest_of g.K.Channel.rules g.row.W bs) = is.index ∙ ap count_in open_is ∙
    count-of g.K.Channel.rules g.row.W (rest_of g.K.Channel.rules g.row.W bs) in
    let run : Run g.K.Channel.rules c.args.place.index c.if-place-eq0.at c.args.beat.now c.self.inside.partial
    (rest_of g.K.Channel.rules g.row.W bs) =
    fed-run g.K.Channel.rules c.requires.near c.requires.far laws g.met.K.Channel.partial_masked old new c.args.beat.now c.ranges_of_beat.ensures none
    c.args.home c.args.place.index small inside opened kept c.give.new.out.items bs homes before index_is in
    fed g.K.Channel.rules c.requires.near c.requires.far laws g.met.K.Channel.partial_masked old new c.args.beat.now c.ranges_of_beat.ensures none
    c.args.home c.args.place.index small inside opened kept c.give.new.out.items bs homes before index_is
    (c.give.ensures (rest_of g.K.Channel.rules g.row.W bs) run)
    (c.advance.ensures.stands bs c.args.beat.now open_is (sym same))

step : (g : _) (c : goal.After-advance g) (bs : List (BeatOf g.row.K-Head.Denot g.row.W)) (homes : List ℕ) →
    StandsFor g.K.Channel.rules c.args.self.now bs homes →
    Fed {v = g.row.V} g.K.Channel.rules (record { burst = c.advance.new.self; home = c.if-place-eq0.at; partial = c.give.new.partial })
    bs homes c.args.beat.now c.args.home c.give.new.out.items
step g c bs homes stands =
    let P : Progress g.row.K-Head.Denot g.row.V → Type 0 = λ s. StandsFor g.K.Channel.rules s bs homes in
    step-from g c bs homes (subst P (sym c.self.view_is) stands)

pub returns-clause-stands : goal.returns-clause-stands
returns-clause-stands g c = λ bs homes stands. (step g c bs homes stands).stands

pub returns-clause-due : goal.returns-clause-due
returns-clause-due g c = λ bs homes stands. (step g c bs homes stands).due_is

pub invariant_of-self : goal.invariant_of-self
invariant_of-self g c =
    let (bs, homes, before) = c.self.invariant in
    (bs ++ c.args.beat.now ∷ [], homes_with g.K.Channel.rules bs homes c.args.beat.now c.args.home, (step-from g c bs homes before).stands)

pub returns-clause-lawful : goal.returns-clause-lawful
returns-clause-lawful g c =
    let laws : ChannelLaws g.K.Channel.rules = laws-of g.met.K.Channel.same_heads g.met.K.Channel.same_is
    g.met.K.Channel.small g.met.K.Channel.partial_carries g.met.K.Channel.masked_address g.met.K.Channel.home_kept in
    let bs : List (BeatOf g.row.K-Head.Denot g.row.W) = c.self.invariant.0 in
    let homes : List ℕ = c.self.invariant.1 in
    let fed_now = step-from g c c.self.invariant.0 c.self.invariant.1 c.self.invariant.2 in
    let far = far-handed g.K.Channel.rules g.row.W g.row.V c.requires.near c.requires.far g.met.K.Channel.partial_masked fed_now.stands.handed.2 in
    let P : List (BeatOf g.row.K-Head.Denot g.row.V) → Type 0 = λ q. All (λ b. IsLawfulBeat g.K.Channel.rules b) q in
    all-right (λ b. IsLawfulBeat g.K.Channel.rules b) (due g.K.Channel.rules g.row.W g.row.V bs homes) c.give.new.out.items
    (subst P fed_now.due_is (handed-lawful g.K.Channel.rules g.row.V c.requires.far laws far.handed))
