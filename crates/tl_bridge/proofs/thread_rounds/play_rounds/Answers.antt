use Rattle.std.proofs.Common.{◌≡◌, ◌+◌, ◌^◌, ◌<◌, ◌≤◌, ℕ, refl, sym, subst, ◌∙◌, arith, zero-le, ⊎_elim}
use Rattle.tl_bridge.proofs.Words.{near_beats, beats_of, AllStop, counts-on, last-one, nearer, one-round-more, end-few}
use Rattle.tl_bridge.specs.Inner.Arriving.{taken_of}
use Rattle.tl_bridge.specs.Inner.Sides.{met_progress, past_of}
use Rattle.tl_bridge.proofs.Rooms.{keeps-room}
use Rattle.tl_bridge.proofs.Meeting.{met-most, met-ended, new-met}
use Rattle.tl_bridge.proofs.thread_rounds.play_rounds.Given.{Over}
use Rattle.tl_bridge.proofs.thread_rounds.play_rounds.Goals as goal

-- no round yet
from-none : (P : ℕ → Type 0) (n : ℕ) → P n → P (n + 0)
from-none P n h = let e : n ≡ n + 0 = omega arith in subst P e h

pub rounds-init : goal.rounds-init
rounds-init g c = record {
  met = new-met c.args.client.now.side c.args.manager.now.side c.meet_sides.new.client c.meet_sides.new.manager c.meet_sides.result
      (record {
        a = c.meet_sides.ensures.a;
        b = c.meet_sides.ensures.b;
        c = c.meet_sides.ensures.c;
        d = c.meet_sides.ensures.d;
        e = c.meet_sides.ensures.e;
        in_a = c.meet_sides.ensures.standing_a;
        in_b = c.meet_sides.ensures.standing_b;
        in_c = c.meet_sides.ensures.standing_c;
        in_d = c.meet_sides.ensures.standing_d;
        in_e = c.meet_sides.ensures.standing_e;
      })
      (near_beats c.args.script.now) _ (beats_of (taken_of c.args.client.now c.args.manager.now)) refl c.requires.4 c.requires.3
      (c.meet_sides.ensures.meets _ _ c.requires.3.client c.requires.3.manager);
  room = c.requires.2;
  few = zero-le;
  client_passed = λ n h. from-none (λ k. g.G.Gate.HasPassed k c.args.client_gate.now) n h;
  manager_passed = λ n h. from-none (λ k. g.H.Gate.HasPassed k c.args.manager_gate.now) n h;
}

pub overflow_add-rounds : goal.overflow_add-rounds
overflow_add-rounds g c =
    let i = c.rounds.invariant in
    let l : c.rounds.rounds + 1 < 2 ^ 64 =
    counts-on _ _ _ i.few (met-most (near_beats c.args.script.now) c.rounds.at (beats_of (taken_of c.rounds.client c.rounds.manager))
    c.rounds.client.side c.rounds.manager.side i.met c.requires.0.client c.requires.0.manager)
    (end-few (near_beats c.args.script.now) c.requires.0.client c.requires.0.manager c.requires.1) in
    omega (arith, l)

-- one round more
passed-on : (P : ℕ → Type 0) (n rounds : ℕ) → P (n + rounds + 1) → P (n + (rounds + 1))
passed-on P n rounds h = let e : n + rounds + 1 ≡ n + (rounds + 1) = omega arith in subst P e h

at-least-one : (rounds : ℕ) → 1 ≤ rounds + 1
at-least-one rounds = omega arith

pub returns-in-Some : goal.returns-in-Some
returns-in-Some g c =
    let h = c.round.ensures.round in
    let near = near_beats c.args.script.now in
    record {
      client_passed = λ n passed. passed-on (λ k. g.G.Gate.HasPassed k c.round.new.client_gate) n c.rounds.rounds
          (c.round.ensures.client_passed (n + c.rounds.rounds) (c.rounds.invariant.client_passed n passed));
      manager_passed = λ n passed. passed-on (λ k. g.H.Gate.HasPassed k c.round.new.manager_gate) n c.rounds.rounds
          (c.round.ensures.manager_passed (n + c.rounds.rounds) (c.rounds.invariant.manager_passed n passed));
      some_round = at-least-one c.rounds.rounds;
      ended = met-ended near c.round.result.0.at (beats_of (taken_of c.round.new.client c.round.new.manager)) c.round.new.client.side
          c.round.new.manager.side h.met c.in-Some.stops (c.rounds.rounds + 1)
          (subst (λ o. AllStop near c.round.result.0.at
          (past_of c.round.new.client.side c.round.new.manager.side h.met.client h.met.manager) o) c.in-Some.ensures.stops h.stops)
          (sym h.standing ∙ c.in-Some.ensures.rests) (last-one _ _ _ c.rounds.invariant.few h.keeps);
    }

-- a round that is not the last one
onward : (g : Over) (c : goal.In_default g) → met_progress c.rounds.at c.rounds.client.side c.rounds.manager.side + 1 ≤
    met_progress c.round.result.0.at c.round.new.client.side c.round.new.manager.side
onward g c = ⊎_elim (λ e. e) (λ e. absurd (c.in_default.ensures.goes refl e.0 e.1 e.2)) c.round.ensures.round.goes

pub rounds-smaller : goal.rounds-smaller
rounds-smaller g c =
    let h = c.round.ensures.round in
    nearer _ _ _ (onward g c)
    (met-most (near_beats c.args.script.now) c.round.result.0.at (beats_of (taken_of c.round.new.client c.round.new.manager))
    c.round.new.client.side c.round.new.manager.side h.met c.requires.0.client c.requires.0.manager)

pub rounds-preserved : goal.rounds-preserved
rounds-preserved g c =
    let h = c.round.ensures.round in
    record {
      met = h.met;
      room = keeps-room (near_beats c.args.script.now) (taken_of c.rounds.client c.rounds.manager)
          (taken_of c.round.new.client c.round.new.manager) c.round.ensures.capacity c.rounds.invariant.room;
      few = one-round-more _ _ _ c.rounds.invariant.few (onward g c);
      client_passed = λ n passed. passed-on (λ k. g.G.Gate.HasPassed k c.round.new.client_gate) n c.rounds.rounds
          (c.round.ensures.client_passed (n + c.rounds.rounds) (c.rounds.invariant.client_passed n passed));
      manager_passed = λ n passed. passed-on (λ k. g.H.Gate.HasPassed k c.round.new.manager_gate) n c.rounds.rounds
          (c.round.ensures.manager_passed (n + c.rounds.rounds) (c.rounds.invariant.manager_passed n passed));
    }
