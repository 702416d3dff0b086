-- Each beat under way is taken, on every channel of a bridge.
use Rattle.std.proofs.Common.{◌≡◌, ◌≤◌, ℕ, zero, suc, refl, sym, ap, ◌∙◌}
use Rattle.std.specs.Fn.{iterate}
use Rattle.tl_ring.specs.Arriving.{Arrives, after_cycle, cycles, under_way, HasDelivered}
use Rattle.tl_ring.specs.Pipe as piping
use Rattle.tl_convert.specs.Due.{due}
use Rattle.tl_sides.proofs.Words.{Rules, rules_a, rules_b, rules_c, rules_d, rules_e, Pipe, World, popped, pushed}
use Rattle.tl_sides.specs.Arriving.{AfterRounds, none_yet, one_more, after_round, HasUnderWay, AllDelivered, AllDueTaken, EachCycles, EveryBeatArrives}
use Rattle.tl_sides.specs.Bridges.{Bridge, Past, StandsFor, fetch_count, pump_count}
use Rattle.tl_sides.specs.ChannelCalls.{emptied, pumped}

-- one cycle more at the end is one more at the beginning
cycle_last : {H : Type 0} {w v : ℕ} (n : ℕ) (x : World H w v) → after_cycle (cycles n x) ≡ cycles (suc n) x
cycle_last zero x = refl
cycle_last (suc n) x = cycle_last n (after_cycle x)

-- a channel of a bridge makes one cycle of its crossing in a round
round_is_cycle : {H : Type 0} (r : Rules H) {w v : ℕ} (p : Pipe H v) (x : World H w v) → piping.StandsFor r p x →
    emptied (popped (fetch_count (pumped p)) (pushed (pump_count p) x)) ≡ after_cycle x
round_is_cycle r p x h = rw (h.stage, h.ring, h.inbox, h.room) refl

delivered : {H : Type 0} (r : Rules H) → Arrives r → {w v : ℕ} (n : ℕ) (p : Pipe H v) (x y : World H w v) → piping.StandsFor r p x → y ≡ cycles n x →
    under_way x ≤ n → HasDelivered x y
delivered r arrives {w} {v} n p x y h is few = rw is (arrives.delivers w v n x h.some_room few)

all_taken : {H : Type 0} (r : Rules H) → Arrives r → {w v : ℕ} (n : ℕ) (p : Pipe H v) (x y : World H w v) → piping.StandsFor r p x → y ≡ cycles n x →
    under_way x ≤ n → y.taken ≡ due r w v x.accepted x.homes
all_taken r arrives {w} {v} n p x y h is few = rw is (arrives.all_due w v n x h.crosses h.some_room few)

module _ {C M : ℕ} where
  begins : {n : ℕ} {s t : Bridge C M} {x y : Past C M} → AfterRounds n s x t y → StandsFor s x
  begins (none_yet s x h) = h
  begins (one_more n s x t y u rounds h) = begins rounds

  ends : {n : ℕ} {s t : Bridge C M} {x y : Past C M} → AfterRounds n s x t y → StandsFor t y
  ends (none_yet s x h) = h
  ends (one_more n s x t y u rounds h) = h

  each_cycles : {n : ℕ} {s t : Bridge C M} {x y : Past C M} → AfterRounds n s x t y → EachCycles n x y
  each_cycles (none_yet s x h) = record { a = refl; b = refl; c = refl; d = refl; e = refl }
  each_cycles (one_more n s x t y u rounds h) =
      let before : EachCycles n x y = each_cycles rounds in
      let now : StandsFor t y = ends rounds in
      record {
        a = round_is_cycle rules_a t.a y.a now.a ∙ ap after_cycle before.a ∙ cycle_last n x.a;
        b = round_is_cycle rules_b t.b y.b now.b ∙ ap after_cycle before.b ∙ cycle_last n x.b;
        c = round_is_cycle rules_c t.c y.c now.c ∙ ap after_cycle before.c ∙ cycle_last n x.c;
        d = round_is_cycle rules_d t.d y.d now.d ∙ ap after_cycle before.d ∙ cycle_last n x.d;
        e = round_is_cycle rules_e t.e y.e now.e ∙ ap after_cycle before.e ∙ cycle_last n x.e;
      }

  pub every_beat_arrives : Arrives rules_a → Arrives rules_b → Arrives rules_c → Arrives rules_d → Arrives rules_e → EveryBeatArrives C M
  every_beat_arrives on_a on_b on_c on_d on_e = record {
    delivers = λ n s t x y rounds few.
        let h : StandsFor s x = begins rounds in
        let each : EachCycles n x y = each_cycles rounds in
        record {
          a = delivered rules_a on_a n s.a x.a y.a h.a each.a few.a;
          b = delivered rules_b on_b n s.b x.b y.b h.b each.b few.b;
          c = delivered rules_c on_c n s.c x.c y.c h.c each.c few.c;
          d = delivered rules_d on_d n s.d x.d y.d h.d each.d few.d;
          e = delivered rules_e on_e n s.e x.e y.e h.e each.e few.e;
        };
    all_due = λ n s t x y rounds few.
        let h : StandsFor s x = begins rounds in
        let each : EachCycles n x y = each_cycles rounds in
        record {
          a = all_taken rules_a on_a n s.a x.a y.a h.a each.a few.a;
          b = all_taken rules_b on_b n s.b x.b y.b h.b each.b few.b;
          c = all_taken rules_c on_c n s.c x.c y.c h.c each.c few.c;
          d = all_taken rules_d on_d n s.d x.d y.d h.d each.d few.d;
          e = all_taken rules_e on_e n s.e x.e y.e h.e each.e few.e;
        };
    each = λ n s t x y rounds. each_cycles rounds;
  }
