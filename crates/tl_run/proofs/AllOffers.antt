-- The outcome of the next beat of each channel of a bridge, which offers them one after another.
use Rattle.tl_run.proofs.Names.{ℕ, refl, OffersNext, Offered}
use Rattle.tl_run.proofs.Names.{Beats, Bridge, Past, PerChannel, HasOffered, sends_a, sends_b, sends_c, sends_d, sends_e, bridge_client, bridge_manager}
use Rattle.tl_sides.specs.Bridges as bridge

-- a bridge offers the next beat of each list, one after another
pub all-offered : {C M : ℕ} (near : Beats C M) (n : PerChannel ℕ) (s t u v y z : Bridge C M) (o : PerChannel Offered) →
    OffersNext (sends_a bridge_client) near.a n.a s o.a t → OffersNext (sends_c bridge_client) near.c n.c t o.c u → OffersNext (sends_e bridge_client) near.e n.e u o.e v →
    OffersNext (sends_b bridge_manager) near.b n.b v o.b y → OffersNext (sends_d bridge_manager) near.d n.d y o.d z →
    (x : Past C M) → bridge.StandsFor s x → HasOffered near n x z o
all-offered near n s t u v y z o in_a in_c in_e in_b in_d x h =
    let a = in_a.does x h in
    let c' = in_c.does _ a.2 in
    let e = in_e.does _ c'.2 in
    let b = in_b.does _ e.2 in
    let d = in_d.does _ b.2 in
    record {
      past = _;
      stands = d.2;
      beats_a = a.0;
      beats_b = b.0;
      beats_c = c'.0;
      beats_d = d.0;
      beats_e = e.0;
      client = refl;
      manager = refl;
      does_a = a.3;
      does_b = b.3;
      does_c = c'.3;
      does_d = d.3;
      does_e = e.3;
      ready_a = λ offered. in_a.ready offered x h;
      ready_b = λ offered. in_b.ready offered _ e.2;
      ready_c = λ offered. in_c.ready offered _ a.2;
      ready_d = λ offered. in_d.ready offered _ b.2;
      ready_e = λ offered. in_e.ready offered _ c'.2;
    }
