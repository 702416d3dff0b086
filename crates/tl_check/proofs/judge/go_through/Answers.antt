use Rattle.tl_check.proofs.Names.{refl, sym, subst, take, stops_a, stops_d, length, IsWithin, IsPart, fault_after}
use Rattle.tl_parts.proofs.Lives.{lives-long}
use Rattle.tl_msg.specs.Tables.{rules_b, rules_c, rules_e}
use Rattle.tl_parts.specs.Parts.{IsEnd}
use Rattle.tl_parts.specs.Stopping.{IsStuck}
use Rattle.tl_check.proofs.judge.go_through.Goals as goal

pub deref-requires : goal.deref-requires
deref-requires g c = λ κs. (lives-long κs.1.0, lives-long κs.1.1.0)

pub deref-requires-2 : goal.deref-requires-2
deref-requires-2 g c = λ κs. (lives-long κs.1.0, lives-long κs.1.1.0)

pub deref-requires-3 : goal.deref-requires-3
deref-requires-3 g c = λ κs. (lives-long κs.1.0, lives-long κs.1.1.0)

pub deref-requires-4 : goal.deref-requires-4
deref-requires-4 g c = λ κs. (lives-long κs.1.0, lives-long κs.1.1.0)

pub deref-requires-5 : goal.deref-requires-5
deref-requires-5 g c = λ κs. (lives-long κs.1.0, lives-long κs.1.1.0)

pub returns : goal.returns
returns g c =
    let discarded = c.args.judge.now.discarded in
    let b = c.judge_alone-b in
    let c' = c.judge_alone-c in
    let e = c.judge_alone-e in
    let coupled = c.judge_coupled-a in
    let of_b = c.deref.ensures.value in
    let of_c = c.deref-2.ensures.value in
    let of_e = c.deref-3.ensures.value in
    let of_a = c.deref-4.ensures.value in
    let of_d = c.deref-5.ensures.value in
    record {
      discarded = refl;
      within = record {
        a = subst (λ q. IsWithin discarded.a coupled.new.asks.at coupled.new.asks.far (length q)) of_a coupled.ensures.within_a;
        b = subst (λ q. IsWithin discarded.b b.new.progress.at b.new.progress.far (length q)) of_b b.ensures.within;
        c = subst (λ q. IsWithin discarded.c c'.new.progress.at c'.new.progress.far (length q)) of_c c'.ensures.within;
        d = subst (λ q. IsWithin discarded.d coupled.new.answers.at coupled.new.answers.far (length q)) of_d coupled.ensures.within_d;
        e = subst (λ q. IsWithin discarded.e e.new.progress.at e.new.progress.far (length q)) of_e e.ensures.within;
      };
      judged = λ near part was.
          let part_a = subst (λ q. IsPart discarded.a q near.a) (sym of_a) part.a in
          let part_d = subst (λ q. IsPart discarded.d q near.d) (sym of_d) part.d in
          record {
            a = coupled.ensures.come_a near.a part_a was.a;
            b = b.ensures.come near.b (subst (λ q. IsPart discarded.b q near.b) (sym of_b) part.b) was.b;
            c = c'.ensures.come near.c (subst (λ q. IsPart discarded.c q near.c) (sym of_c) part.c) was.c;
            d = coupled.ensures.come_d near.d part_d was.d;
            e = e.ensures.come near.e (subst (λ q. IsPart discarded.e q near.e) (sym of_e) part.e) was.e;
            both = coupled.ensures.both near.a near.d part_a part_d was.a was.d was.both;
          };
      stopped = λ near end was.
          let both = coupled.ensures.stopped near.a near.d (subst (λ q. IsEnd discarded.a q near.a) (sym of_a) end.a)
          (subst (λ q. IsEnd discarded.d q near.d) (sym of_d) end.d) was.a was.d was.both in
          record {
            a = both.0;
            b = b.ensures.stopped near.b (subst (λ q. IsEnd discarded.b q near.b) (sym of_b) end.b) was.b;
            c = c'.ensures.stopped near.c (subst (λ q. IsEnd discarded.c q near.c) (sym of_c) end.c) was.c;
            d = both.1;
            e = e.ensures.stopped near.e (subst (λ q. IsEnd discarded.e q near.e) (sym of_e) end.e) was.e;
          };
      stuck = λ near part was.
          let both = coupled.ensures.stuck near.a near.d (subst (λ q. IsPart discarded.a q near.a) (sym of_a) part.a)
          (subst (λ q. IsPart discarded.d q near.d) (sym of_d) part.d) was.a was.d was.both in
          record {
            a = subst (λ q. IsStuck discarded.a coupled.new.asks.at q (stops_a near.a near.d coupled.new.asks.at coupled.new.answers.at)) of_a both.0;
            b = subst (λ q. IsStuck discarded.b b.new.progress.at q (fault_after rules_b (take b.new.progress.at near.b))) of_b
                (b.ensures.stuck near.b (subst (λ q. IsPart discarded.b q near.b) (sym of_b) part.b) was.b);
            c = subst (λ q. IsStuck discarded.c c'.new.progress.at q (fault_after rules_c (take c'.new.progress.at near.c))) of_c
                (c'.ensures.stuck near.c (subst (λ q. IsPart discarded.c q near.c) (sym of_c) part.c) was.c);
            d = subst (λ q. IsStuck discarded.d coupled.new.answers.at q (stops_d near.a near.d coupled.new.asks.at coupled.new.answers.at)) of_d both.1;
            e = subst (λ q. IsStuck discarded.e e.new.progress.at q (fault_after rules_e (take e.new.progress.at near.e))) of_e
                (e.ensures.stuck near.e (subst (λ q. IsPart discarded.e q near.e) (sym of_e) part.e) was.e);
          };
    }
