use Rattle.tl_run.proofs.Names.{◌≡◌, refl, ap, ◌∙◌, PerChannel, Stop, Offered, Accepted, NotReady, Stopped, IsStopped, all_stopped}
use Rattle.tl_run.proofs.channel_state.all_stops.Goals as goal

-- offers that are each stopped by this
each-stopped : (o : PerChannel Offered) (s : PerChannel Stop) → o.a ≡ Stopped s.a → o.b ≡ Stopped s.b → o.c ≡ Stopped s.c →
    o.d ≡ Stopped s.d → o.e ≡ Stopped s.e →
    o ≡ all_stopped s
each-stopped o s a b c d e =
    ap (λ q. record { a = q; b = o.b; c = o.c; d = o.d; e = o.e }) a ∙ ap (λ q. record { a = Stopped s.a; b = q; c = o.c; d = o.d; e = o.e }) b ∙
    ap (λ q. record { a = Stopped s.a; b = Stopped s.b; c = q; d = o.d; e = o.e }) c ∙
    ap (λ q. record { a = Stopped s.a; b = Stopped s.b; c = Stopped s.c; d = q; e = o.e }) d ∙
    ap (λ q. record { a = Stopped s.a; b = Stopped s.b; c = Stopped s.c; d = Stopped s.d; e = q }) e

not-stopped : (o : Offered) → ((s : Stop) → o ≡ Stopped s → ⊥) → IsStopped o → ⊥
not-stopped Accepted none stopped = stopped
not-stopped NotReady none stopped = stopped
not-stopped (Stopped s) none stopped = none s refl

pub returns-clause-stops : goal.returns-clause-stops
returns-clause-stops c =
    let i = c.in-Stopped-Stopped-Stopped-Stopped-Stopped in
    each-stopped c.args.offers.now (record { a = i.a; b = i.b; c = i.c; d = i.d; e = i.e }) i.is-0 i.is-1 i.is-2 i.is-3 i.is-4

pub returns-in_default : goal.returns-in_default
returns-in_default c = record { stops = tt; goes = λ none all. not-stopped c.args.offers.now.e c.in_default.not-Stopped-4 all.4 }

pub returns-in_default-2 : goal.returns-in_default-2
returns-in_default-2 c = record { stops = tt; goes = λ none all. not-stopped c.args.offers.now.d c.in_default.not-Stopped-3 all.3 }

pub returns-in_default-3 : goal.returns-in_default-3
returns-in_default-3 c = record { stops = tt; goes = λ none all. not-stopped c.args.offers.now.c c.in_default.not-Stopped-2 all.2 }

pub returns-in_default-4 : goal.returns-in_default-4
returns-in_default-4 c = record { stops = tt; goes = λ none all. not-stopped c.args.offers.now.b c.in_default.not-Stopped-1 all.1 }

pub returns-in_default-5 : goal.returns-in_default-5
returns-in_default-5 c = record { stops = tt; goes = λ none all. not-stopped c.args.offers.now.a c.in_default.not-Stopped-0 all.0 }
