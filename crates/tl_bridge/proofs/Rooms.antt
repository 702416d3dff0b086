-- The lists of far beats of a run in two threads have room for all beats that arrive.
use Rattle.std.proofs.Common.{◌≡◌, ◌+◌, ◌≤◌, ℕ, List, length, sym, subst}
use Rattle.tl_bridge.proofs.Words.{IsWidth, Rules, rules_a, rules_b, rules_c, rules_d, rules_e, BeatOf, World, Crosses, Beats, Bridge, Past}
use Rattle.tl_bridge.proofs.Words.{StandsFor, PerChannel, Script, HasRoom, HasRoomFor, beats_of, IsSent, IsAt, room-for}
use Rattle.tl_bridge.specs.Inner.Arriving.{HasRoomForInboxes, KeepsRoom}

-- a list of far beats has room for an inbox, if all due beats fit
room-in : {H : Type 0} (r : Rules H) {w v : ℕ} (ww : IsWidth w) (vw : IsWidth v) (bs : List (BeatOf H w)) (n : ℕ)
    (far : List (BeatOf H v)) (x : World H w v)
    (inbox : List (BeatOf H v)) (len capacity : ℕ) → len ≡ length far → inbox ≡ x.inbox → IsSent r bs n far x →
    Crosses r x → HasRoom r v bs capacity →
    len + length inbox ≤ capacity
room-in r ww vw bs n far x inbox len capacity e f s c has = rw (e, f) (room-for r ww vw bs n far x s c capacity has)

module _ {C M : ℕ} (cw : IsWidth C) (mw : IsWidth M) (near : Beats C M) (n : PerChannel ℕ) where
  -- all beats of the inboxes may be taken
  pub inboxes-fit : (far : Script M C) (s : Bridge C M) (x : Past C M) → StandsFor s x → IsAt near n (beats_of far) x → HasRoomFor near far →
      HasRoomForInboxes s far
  inboxes-fit far s x stands i has = record {
    a = room-in rules_a cw mw near.a n.a far.a.items x.a s.a.inbox far.a.len far.a.cap far.a.ok.0 stands.a.inbox i.a_sent stands.a.crosses has.in_a;
    b = room-in rules_b mw cw near.b n.b far.b.items x.b s.b.inbox far.b.len far.b.cap far.b.ok.0 stands.b.inbox i.b_sent stands.b.crosses has.in_b;
    c = room-in rules_c cw mw near.c n.c far.c.items x.c s.c.inbox far.c.len far.c.cap far.c.ok.0 stands.c.inbox i.c_sent stands.c.crosses has.in_c;
    d = room-in rules_d mw cw near.d n.d far.d.items x.d s.d.inbox far.d.len far.d.cap far.d.ok.0 stands.d.inbox i.d_sent stands.d.crosses has.in_d;
    e = room-in rules_e cw mw near.e n.e far.e.items x.e s.e.inbox far.e.len far.e.cap far.e.ok.0 stands.e.inbox i.e_sent stands.e.crosses has.in_e;
  }

module _ {C M : ℕ} (near : Beats C M) where
  -- the lists keep their room
  pub keeps-room : (old new : Script M C) → KeepsRoom old new → HasRoomFor near old → HasRoomFor near new
  keeps-room old new k h = record {
    in_a = subst (λ q. HasRoom rules_a M near.a q) (sym k.a) h.in_a;
    in_b = subst (λ q. HasRoom rules_b C near.b q) (sym k.b) h.in_b;
    in_c = subst (λ q. HasRoom rules_c M near.c q) (sym k.c) h.in_c;
    in_d = subst (λ q. HasRoom rules_d C near.d q) (sym k.d) h.in_d;
    in_e = subst (λ q. HasRoom rules_e M near.e q) (sym k.e) h.in_e;
  }
