use Rattle.tl_run.proofs.Names.{refl, ap, beat_small, bridge_small}
use Rattle.tl_run.proofs.Going.{gone-a, gone-b, gone-c, gone-d, gone-e}
use Rattle.tl_run.proofs.ahead.all_go_ahead.Goals as goal

pub go_ahead-b-requires-room-S-Offers : goal.go_ahead-b-requires-room-S-Offers
go_ahead-b-requires-room-S-Offers g c κs = bridge_small g.row.C g.row.M c.requires.0.client c.requires.0.manager

pub go_ahead-b-requires-room-S-Offers-2 : goal.go_ahead-b-requires-room-S-Offers-2
go_ahead-b-requires-room-S-Offers-2 g c κs = beat_small g.row.M c.requires.0.manager

pub go_ahead-b-requires-room-S-Forward : goal.go_ahead-b-requires-room-S-Forward
go_ahead-b-requires-room-S-Forward g c κs = bridge_small g.row.C g.row.M c.requires.0.client c.requires.0.manager

pub go_ahead-b-requires-room-S-Forward-2 : goal.go_ahead-b-requires-room-S-Forward-2
go_ahead-b-requires-room-S-Forward-2 g c κs = beat_small g.row.M c.requires.0.manager

pub go_ahead-c-requires-room-S-Offers : goal.go_ahead-c-requires-room-S-Offers
go_ahead-c-requires-room-S-Offers g c κs = bridge_small g.row.C g.row.M c.requires.0.client c.requires.0.manager

pub go_ahead-c-requires-room-S-Offers-2 : goal.go_ahead-c-requires-room-S-Offers-2
go_ahead-c-requires-room-S-Offers-2 g c κs = beat_small g.row.C c.requires.0.client

pub go_ahead-c-requires-room-S-Forward : goal.go_ahead-c-requires-room-S-Forward
go_ahead-c-requires-room-S-Forward g c κs = bridge_small g.row.C g.row.M c.requires.0.client c.requires.0.manager

pub go_ahead-c-requires-room-S-Forward-2 : goal.go_ahead-c-requires-room-S-Forward-2
go_ahead-c-requires-room-S-Forward-2 g c κs = beat_small g.row.C c.requires.0.client

pub go_ahead-e-requires-room-S-Offers : goal.go_ahead-e-requires-room-S-Offers
go_ahead-e-requires-room-S-Offers g c κs = bridge_small g.row.C g.row.M c.requires.0.client c.requires.0.manager

pub go_ahead-e-requires-room-S-Offers-2 : goal.go_ahead-e-requires-room-S-Offers-2
go_ahead-e-requires-room-S-Offers-2 g c κs = beat_small g.row.C c.requires.0.client

pub go_ahead-e-requires-room-S-Forward : goal.go_ahead-e-requires-room-S-Forward
go_ahead-e-requires-room-S-Forward g c κs = bridge_small g.row.C g.row.M c.requires.0.client c.requires.0.manager

pub go_ahead-e-requires-room-S-Forward-2 : goal.go_ahead-e-requires-room-S-Forward-2
go_ahead-e-requires-room-S-Forward-2 g c κs = beat_small g.row.C c.requires.0.client

pub go_ahead-a-requires-room-S-Offers : goal.go_ahead-a-requires-room-S-Offers
go_ahead-a-requires-room-S-Offers g c κs = bridge_small g.row.C g.row.M c.requires.0.client c.requires.0.manager

pub go_ahead-a-requires-room-S-Offers-2 : goal.go_ahead-a-requires-room-S-Offers-2
go_ahead-a-requires-room-S-Offers-2 g c κs = beat_small g.row.C c.requires.0.client

pub go_ahead-a-requires-room-S-Forward : goal.go_ahead-a-requires-room-S-Forward
go_ahead-a-requires-room-S-Forward g c κs = bridge_small g.row.C g.row.M c.requires.0.client c.requires.0.manager

pub go_ahead-a-requires-room-S-Forward-2 : goal.go_ahead-a-requires-room-S-Forward-2
go_ahead-a-requires-room-S-Forward-2 g c κs = beat_small g.row.C c.requires.0.client

pub go_ahead-d-requires-room-S-Offers : goal.go_ahead-d-requires-room-S-Offers
go_ahead-d-requires-room-S-Offers g c κs = bridge_small g.row.C g.row.M c.requires.0.client c.requires.0.manager

pub go_ahead-d-requires-room-S-Offers-2 : goal.go_ahead-d-requires-room-S-Offers-2
go_ahead-d-requires-room-S-Offers-2 g c κs = beat_small g.row.M c.requires.0.manager

pub go_ahead-d-requires-room-S-Forward : goal.go_ahead-d-requires-room-S-Forward
go_ahead-d-requires-room-S-Forward g c κs = bridge_small g.row.C g.row.M c.requires.0.client c.requires.0.manager

pub go_ahead-d-requires-room-S-Forward-2 : goal.go_ahead-d-requires-room-S-Forward-2
go_ahead-d-requires-room-S-Forward-2 g c κs = beat_small g.row.M c.requires.0.manager

pub returns : goal.returns
returns g c =
    let b = gone-b c.args.discarded.now.b c.args.held.now.b.items c.args.at.now.b _ _ _ _ c.go_ahead-b.ensures.ahead in
    let c' = gone-c c.args.discarded.now.c c.args.held.now.c.items c.args.at.now.c _ _ _ _ c.go_ahead-c.ensures.ahead in
    let e = gone-e c.args.discarded.now.e c.args.held.now.e.items c.args.at.now.e _ _ _ _ c.go_ahead-e.ensures.ahead in
    let a = gone-a c.args.discarded.now.a c.args.held.now.a.items c.args.at.now.a _ _ _ _ c.go_ahead-a.ensures.ahead in
    let d = gone-d c.args.discarded.now.d c.args.held.now.d.items c.args.at.now.d _ _ _ _ c.go_ahead-d.ensures.ahead in
    record {
      within = record {
        a = c.go_ahead-a.ensures.within;
        b = c.go_ahead-b.ensures.within;
        c = c.go_ahead-c.ensures.within;
        d = c.go_ahead-d.ensures.within;
        e = c.go_ahead-e.ensures.within;
      };
      on = record { a = a.on; b = b.on; c = c'.on; d = d.on; e = e.on };
      passes = λ x stands.
          let b' = b.passes x stands in
          let c'' = c'.passes b'.past b'.stands in
          let e' = e.passes c''.past c''.stands in
          let a' = a.passes e'.past e'.stands in
          let d' = d.passes a'.past a'.stands in
          record {
            past = d'.past;
            stands = d'.stands;
            is_at = λ near far part i.
                d'.is_at near _ far part.d refl
                (a'.is_at near _ far part.a refl
                (e'.is_at near _ far part.e refl (c''.is_at near _ far part.c refl (b'.is_at near _ far part.b refl i))));
          };
      stays = λ same x stands.
          d.stays (ap (λ q. q.d) same) x (a.stays (ap (λ q. q.a) same) x (e.stays (ap (λ q. q.e) same) x
          (c'.stays (ap (λ q. q.c) same) x (b.stays (ap (λ q. q.b) same) x stands))));
      rests = λ same x stands.
          let after_b = b.stays (ap (λ q. q.b) same) x stands in
          let after_c = c'.stays (ap (λ q. q.c) same) x after_b in
          let after_e = e.stays (ap (λ q. q.e) same) x after_c in
          let after_a = a.stays (ap (λ q. q.a) same) x after_e in
          record {
            a = a.rests (ap (λ q. q.a) same) x after_e;
            b = b.rests (ap (λ q. q.b) same) x stands;
            c = c'.rests (ap (λ q. q.c) same) x after_b;
            d = d.rests (ap (λ q. q.d) same) x after_a;
            e = e.rests (ap (λ q. q.e) same) x after_c;
          };
    }
