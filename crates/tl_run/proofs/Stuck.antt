-- If each channel of a run rests and nothing is under way, each has advanced as far as the held beats allow.
use Rattle.tl_run.proofs.Names.{◌≡◌, ◌≢◌, ◌-◌, ◌≤◌, ◌<◌, inl, inr, ℕ, Option, None, Some, List, take, sym, ap, subst, ◌∙◌, arith}
use Rattle.tl_run.proofs.Names.{option_map_or, fault_after, Beat, as_counts}
use Rattle.tl_run.proofs.Names.{nil_from_length, IsWidth, Rules, rules_a, rules_d, rules_b, rules_c, rules_e, BeatOf, SideFault, World}
use Rattle.tl_run.proofs.Names.{Beats, PerChannel, Bridge, Past, StandsFor, stops_alone, client_answer, manager_answer, asked, answered}
use Rattle.tl_run.proofs.Names.{AreEnd, ArePart, IsEnd, IsPart, AreBetween, AllRest, RestsIn, IsAt, IsSent, all_under_way, under_way, near_beats}
use Rattle.std.specs.Prelude.{IfSome}
use Rattle.tl_lanes.proofs.Widths.{width_bounds}
use Rattle.tl_settle.specs.Settling.{stops_a, stops_d}
use Rattle.tl_settle.specs.Settling.{far_a as due_far_a, far_d as due_far_d}
use Rattle.tl_settle.proofs.Manager.{manager_stops}
use Rattle.tl_settle.proofs.Runs.{RunIs, run_is}
use Rattle.tl_settle.proofs.Sides.{client_stops}
use Rattle.tl_trace.specs.declared.script.Script.{Script}
use Rattle.tl_trace.specs.declared.script.Counts.{Counts}
use Rattle.tl_run.specs.Inner.Going.{behind}
use Rattle.tl_parts.specs.Stopping.{AreStuck, IsStuck}
use Rattle.tl_run.proofs.ChannelEnd.{all-taken}
use Rattle.tl_run.proofs.ChannelRound.{stage-full}
use Rattle.tl_run.proofs.EndsIn.{each-zero}
use Rattle.tl_parts.proofs.Parts.{end-none, part-get, part-of}
use Rattle.tl_run.proofs.RunRound.{due-a, due-d}
use Rattle.tl_convert.proofs.Comparisons.{none_past}

-- ---- one channel

-- a beat without a fault of its own is not refused
none-alone : {H : Type 0} (r : Rules H) {w : ℕ} (accepted bs : List (BeatOf H w)) → accepted ≡ bs → (b : BeatOf H w) →
    fault_after r bs b ≡ None → stops_alone r accepted b ≡ None
none-alone r accepted bs same b none = ap (λ o. option_map_or (λ fault. Some (Beat fault)) o None) (ap (λ q. fault_after r q b) same ∙ none)

module _ {H : Type 0} {w v : ℕ} (discarded n : ℕ) (held near : List (BeatOf H w)) (from : discarded ≤ n) (answer : BeatOf H w → Option SideFault)
    (x : World H w v) where
  -- a channel that rests at the beats that are held, which are the end of a list, rests at the list
  rests-all : IsEnd discarded held near → (o : Option SideFault) → RestsIn held (n - discarded) answer x o → RestsIn near n answer x o
  rests-all end (Some fault) (b, next, is) = (b, part-get discarded n held near (part-of discarded n held near end) from b next, is)
  rests-all end None (inl past) =
      let l = none_past held (n - discarded) past in inl (end-none discarded n held near end (omega (arith, from, l)))
  rests-all end None (inr (b, next, why)) = inr (b, part-get discarded n held near (part-of discarded n held near end) from b next, why)

  -- if nothing is under way, it is used up, or there is a reason why its next beat is refused
  rests-stuck : (r : Rules H) → IsPart discarded held near → (far : List (BeatOf H v)) → IsSent r near n far x → under_way x ≡ 0 →
      {Reason : Type 0} (stops : BeatOf H w → Option Reason) → ((b : BeatOf H w) → stops b ≡ None → answer b ≡ None) → (o : Option SideFault) →
      RestsIn held (n - discarded) answer x o → IsStuck discarded n held stops
  rests-stuck r part far sent none stops free (Some fault) (b, next, is) =
      subst (λ q. IfSome q (λ c. stops c ≢ None)) (sym next) (λ e. cc (sym is ∙ free b e))
  rests-stuck r part far sent none stops free None (inl past) = subst (λ q. IfSome q (λ c. stops c ≢ None)) (sym past) tt
  rests-stuck r part far sent none stops free None (inr (b, next, why)) =
      absurd (stage-full r near n answer (λ _. 0) far x sent b (part-get discarded n held near part from b next) why
      (nil_from_length x.stage (omega (arith, none))))

-- ---- all channels

module _ {C M : ℕ} (discarded : Counts) (n : PerChannel ℕ) (held : Script C M) (w : AreBetween discarded (as_counts n) held) (near : Beats C M) (x : Past C M)
    (o : PerChannel (Option SideFault)) (rests : AllRest (near_beats held) (behind discarded n) x o) where
  pub all-rest : AreEnd discarded held near → AllRest near n x o
  all-rest end = record {
    a = rests-all discarded.a n.a held.a.items near.a w.a.from (client_answer x.client) x.a end.a o.a rests.a;
    b = rests-all discarded.b n.b held.b.items near.b w.b.from (stops_alone rules_b x.b.accepted) x.b end.b o.b rests.b;
    c = rests-all discarded.c n.c held.c.items near.c w.c.from (stops_alone rules_c x.c.accepted) x.c end.c o.c rests.c;
    d = rests-all discarded.d n.d held.d.items near.d w.d.from (manager_answer x.manager) x.d end.d o.d rests.d;
    e = rests-all discarded.e n.e held.e.items near.e w.e.from (stops_alone rules_e x.e.accepted) x.e end.e o.e rests.e;
  }

  module _ (cw : IsWidth C) (mw : IsWidth M) (part : ArePart discarded held near) (far : Beats M C) (s : Bridge C M) (stands : StandsFor s x)
      (i : IsAt near n far x) (at_rest : all_under_way x ≡ 0) where
    none : (under_way x.a ≡ 0) × (under_way x.b ≡ 0) × (under_way x.c ≡ 0) × (under_way x.d ≡ 0) × (under_way x.e ≡ 0)
    none = each-zero (under_way x.a) (under_way x.b) (under_way x.c) (under_way x.d) (under_way x.e) at_rest

    c_some : 0 < C
    c_some = (width_bounds C cw).0

    m_some : 0 < M
    m_some = (width_bounds M mw).0

    here : RunIs c_some m_some near.a near.d n.a n.d x.client x.manager
    here = run_is c_some m_some near.a near.d i.run

    -- both sides took all that is due
    asked-all : asked x.manager ≡ due_far_a near.a near.d n.a
    asked-all = stands.manager_asked ∙ all-taken rules_a x.a stands.a.crosses none.0 ∙
        due-a cw mw near.a near.d n.a n.d s x stands i.run i.a_homed

    answered-all : answered x.client ≡ due_far_d near.a near.d n.d
    answered-all = stands.client_answered ∙ all-taken rules_d x.d stands.d.crosses none.3 ∙
        due-d cw mw near.a near.d n.a n.d s x stands i.run i.a_homed

    -- so their results are the reasons why a beat is refused
    pub all-stuck : AreStuck near discarded (as_counts n) held
    all-stuck = record {
      a = rests-stuck discarded.a n.a held.a.items near.a w.a.from (client_answer x.client) x.a rules_a part.a far.a i.a_sent none.0
          (stops_a near.a near.d n.a n.d)
          (λ b free. client_stops c_some m_some near.a near.d n.a n.d x.client b here.reached here.client answered-all ∙ free) o.a rests.a;
      b = rests-stuck discarded.b n.b held.b.items near.b w.b.from (stops_alone rules_b x.b.accepted) x.b rules_b part.b far.b i.b_sent none.1
          (fault_after rules_b (take n.b near.b)) (none-alone rules_b x.b.accepted (take n.b near.b) i.b_sent.accepted) o.b rests.b;
      c = rests-stuck discarded.c n.c held.c.items near.c w.c.from (stops_alone rules_c x.c.accepted) x.c rules_c part.c far.c i.c_sent none.2
          (fault_after rules_c (take n.c near.c)) (none-alone rules_c x.c.accepted (take n.c near.c) i.c_sent.accepted) o.c rests.c;
      d = rests-stuck discarded.d n.d held.d.items near.d w.d.from (manager_answer x.manager) x.d rules_d part.d far.d i.d_sent none.3
          (stops_d near.a near.d n.a n.d)
          (λ b free. manager_stops c_some m_some near.a near.d n.a n.d x.manager b here.reached here.manager_is asked-all ∙ free) o.d rests.d;
      e = rests-stuck discarded.e n.e held.e.items near.e w.e.from (stops_alone rules_e x.e.accepted) x.e rules_e part.e far.e i.e_sent none.4
          (fault_after rules_e (take n.e near.e)) (none-alone rules_e x.e.accepted (take n.e near.e) i.e_sent.accepted) o.e rests.e;
    }
