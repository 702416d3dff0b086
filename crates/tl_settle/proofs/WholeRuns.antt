-- Wherever steps lead, a run in rounds leads in which all that is due was taken: so a whole script has a history of each link, which obeys the rules.
use Rattle.tl_settle.proofs.Names.{◌≡◌, ◌<◌, ℕ, suc, true, None, Option, Some, List, [], ◌∷◌, ◌++◌, map, refl, sym, ap, subst, ◌∙◌}
use Rattle.tl_settle.proofs.Names.{arith, append_assoc, append-nil, slice_get, is_none, rules_a, rules_d, HeadA, HeadD, BeatOf}
use Rattle.tl_settle.proofs.Names.{SideFault, map_true, Answer, Ask, Event, answered, asked, client_answer, manager_answer, far_a, far_d}
use Rattle.tl_settle.proofs.Names.{goes_a, goes_d, stops_a, stops_d, Reaches, by_a, by_d, start, IsBeat, IsHanded, Beats, far_alone, some_beats, heads}
use Rattle.tl_settle.proofs.Names.{State, settled_state, Handed}
use mathlib.Core.List.{IsPrefix}
use Rattle.tl_lanes.specs.Lanes.{IsWidth}
use Rattle.tl_lanes.proofs.Widths.{width_bounds}
use Rattle.tl_msg.specs.Rules.{Rules}
use Rattle.tl_msg.specs.Tables.{rules_b, rules_c, rules_e}
use Rattle.tl_convert.proofs.Accepting.{each_beat}
use Rattle.tl_convert.specs.Accepted.{accepted_of}
use Rattle.tl_convert.specs.Laws.{HasNoFaults, DueHasNoFaults}
use Rattle.tl_settle.proofs.Brings.{Known, own_homes}
use Rattle.tl_settle.proofs.Grows.{far_a_grows, far_d_grows}
use Rattle.tl_settle.proofs.Longer.{to_prefix}
use Rattle.tl_settle.proofs.Manager.{manager_stops}
use Rattle.tl_settle.proofs.Marks.{asked_ask, asked_answer, answered_ask, answered_answer}
use Rattle.tl_settle.proofs.Runs.{RunIs, run_is}
use Rattle.tl_settle.proofs.RunsObey.{beats_obey}
use Rattle.tl_settle.proofs.Settles.{good, one_settled}
use Rattle.tl_settle.proofs.Sides.{client_stops}
use Rattle.tl_settle.specs.InMessages.{AreBeats}
use Rattle.tl_settle.specs.Obeying.{LinksObey}
use Rattle.tl_settle.specs.Rounds.{ClientMoves, ManagerMoves, Run, begins, client_accepts, client_rests, client_takes, manager_accepts, manager_rests}
use Rattle.tl_settle.specs.Rounds.{manager_takes, round}

of_none : (o : Option SideFault) → is_none o ≡ true → o ≡ None
of_none None e = refl
of_none (Some x) e = cc

front : {X : Type 0} (xs : List X) (x : X) (rest all : List X) → xs ++ x ∷ rest ≡ all → (xs ++ x ∷ []) ++ rest ≡ all
front xs x rest all e = append_assoc xs (x ∷ []) rest ∙ e

module _ {C M : ℕ} (near : 0 < C) (far : 0 < M) (a : List (BeatOf HeadA C)) (d : List (BeatOf HeadD M)) where
  -- a run to a state after which nothing is under way
  pub record WholeRun (i j : ℕ) : Type 0 where
    pub client : List (Event C)
    pub manager : List (Event M)
    pub run : Run a d i j client manager
    pub a_taken : asked manager ≡ far_a a d i
    pub d_taken : answered client ≡ far_d a d j

  -- a side that takes all that is due
  record ManagerTook (i j : ℕ) (em : List (Event M)) : Type 0 where
    history : List (Event M)
    moves : ManagerMoves a d i j em j history
    all : asked history ≡ far_a a d i

  manager_takes_all : (i j : ℕ) (em fm : List (Event M)) (rest : List (BeatOf HeadA M)) → ManagerMoves a d i j em j fm →
      asked fm ++ rest ≡ far_a a d i → ManagerTook i j em
  manager_takes_all i j em fm [] moves e = record { history = fm; moves = moves; all = sym (append-nil (asked fm)) ∙ e }
  manager_takes_all i j em fm (b ∷ rest) moves e =
      let next : (asked fm ++ b ∷ []) ++ rest ≡ far_a a d i = front (asked fm) b rest (far_a a d i) e in
      manager_takes_all i j em (fm ++ Ask b ∷ []) rest (manager_takes j fm b moves (rest, next))
      (ap (λ bs. bs ++ rest) (asked_ask fm b) ∙ next)

  record ClientTook (i j : ℕ) (ec : List (Event C)) : Type 0 where
    history : List (Event C)
    moves : ClientMoves a d j i ec i history
    all : answered history ≡ far_d a d j

  client_takes_all : (i j : ℕ) (ec fc : List (Event C)) (rest : List (BeatOf HeadD C)) → ClientMoves a d j i ec i fc →
      answered fc ++ rest ≡ far_d a d j → ClientTook i j ec
  client_takes_all i j ec fc [] moves e = record { history = fc; moves = moves; all = sym (append-nil (answered fc)) ∙ e }
  client_takes_all i j ec fc (b ∷ rest) moves e =
      let next : (answered fc ++ b ∷ []) ++ rest ≡ far_d a d j = front (answered fc) b rest (far_d a d j) e in
      client_takes_all i j ec (fc ++ Answer b ∷ []) rest (client_takes i fc b moves (rest, next))
      (ap (λ bs. bs ++ rest) (answered_answer fc b) ∙ next)

  -- one beat more of A, after which the manager's side takes what that makes due
  asks_one : (i j : ℕ) (b : BeatOf HeadA C) → Reaches (goes_a a d) (goes_d a d) i j → (w : WholeRun i j) → slice_get a i ≡ Some b →
      stops_a a d i j b ≡ None → IsPrefix (far_a a d i) (far_a a d (suc i)) → WholeRun (suc i) j
  asks_one i j b r w next goes grown =
      let ok : client_answer w.client b ≡ None =
      client_stops near far a d i j w.client b r (run_is near far a d w.run).client w.d_taken ∙ goes in
      let asked_more : Run a d (suc i) j (w.client ++ Ask b ∷ []) w.manager =
      round i j (suc i) j w.client (w.client ++ Ask b ∷ []) w.manager w.manager w.run
      (client_accepts i w.client b client_rests next ok) manager_rests in
      let took : ManagerTook (suc i) j w.manager =
      manager_takes_all (suc i) j w.manager w.manager grown.0 manager_rests (ap (λ bs. bs ++ grown.0) w.a_taken ∙ grown.1) in
      record {
        client = w.client ++ Ask b ∷ [];
        manager = took.history;
        run = round (suc i) j (suc i) j (w.client ++ Ask b ∷ []) (w.client ++ Ask b ∷ []) w.manager took.history asked_more client_rests took.moves;
        a_taken = took.all;
        d_taken = answered_ask w.client b ∙ w.d_taken;
      }

  -- one beat more of D
  answers_one : (i j : ℕ) (b : BeatOf HeadD M) → Reaches (goes_a a d) (goes_d a d) i j → (w : WholeRun i j) → slice_get d j ≡ Some b →
      stops_d a d i j b ≡ None → IsPrefix (far_d a d j) (far_d a d (suc j)) → WholeRun i (suc j)
  answers_one i j b r w next goes grown =
      let ok : manager_answer w.manager b ≡ None =
      manager_stops near far a d i j w.manager b r (run_is near far a d w.run).manager_is w.a_taken ∙ goes in
      let answered_more : Run a d i (suc j) w.client (w.manager ++ Answer b ∷ []) =
      round i j i (suc j) w.client w.client w.manager (w.manager ++ Answer b ∷ []) w.run client_rests
      (manager_accepts j w.manager b manager_rests next ok) in
      let took : ClientTook i (suc j) w.client =
      client_takes_all i (suc j) w.client w.client grown.0 client_rests (ap (λ bs. bs ++ grown.0) w.d_taken ∙ grown.1) in
      record {
        client = took.history;
        manager = w.manager ++ Answer b ∷ [];
        run = round i (suc j) i (suc j) w.client took.history (w.manager ++ Answer b ∷ []) (w.manager ++ Answer b ∷ []) answered_more took.moves
            manager_rests;
        a_taken = asked_answer w.manager b ∙ w.a_taken;
        d_taken = took.all;
      }

  pub whole_run : {i j : ℕ} → Reaches (goes_a a d) (goes_d a d) i j → WholeRun i j
  whole_run start = record { client = []; manager = []; run = begins; a_taken = refl; d_taken = refl }
  whole_run (by_a i j r g) =
      let found = map_true (λ b. is_none (stops_a a d i j b)) (slice_get a i) g in
      asks_one i j found.0 r (whole_run r) found.1 (of_none (stops_a a d i j found.0) found.2)
      (to_prefix (far_a_grows near far a d i (suc i) (omega arith) (good near far a d (by_a i j r g)).a_fine))
  whole_run (by_d i j r g) =
      let found = map_true (λ b. is_none (stops_d a d i j b)) (slice_get d j) g in
      answers_one i j found.0 r (whole_run r) found.1 (of_none (stops_d a d i j found.0) found.2)
      (to_prefix (far_d_grows near far a d j (suc j) (omega arith) (good near far a d (by_d i j r g)).d_fine))

-- a channel that nothing couples to another one has no fault there
module _ {H : Type 0} (r : Rules H) {w v : ℕ} (near : 0 < w) (known : Known r w v) (fine : DueHasNoFaults r w v)
    (fixed : (h : H) (x : ℕ) → r.lane_address h x ≡ r.lane_address h 0) where
  alone_fine : (bs : List (BeatOf H w)) → ((k : ℕ) (b : BeatOf H w) → slice_get bs k ≡ Some b → IsBeat r b) → HasNoFaults r (far_alone r v bs)
  alone_fine bs beats =
      let h : IsHanded r (accepted_of r bs) = (known.longest bs beats).handed in
      let own : List ℕ = map (λ h. r.lane_address h 0) (heads r w (accepted_of r bs)) in
      fine (accepted_of r bs) own h.messages h.rest
      (subst (λ hs. Handed r w (accepted_of r bs) hs h.messages h.rest) (own_homes r (some_beats r w near) fixed h.handed) h.handed)

pub links_obey : {C M : ℕ} → IsWidth C → IsWidth M → Known rules_a C M → Known rules_b M C → Known rules_c C M → Known rules_d M C →
    Known rules_e C M → DueHasNoFaults rules_b M C → DueHasNoFaults rules_c C M → DueHasNoFaults rules_e C M →
    (script : Beats C M) → AreBeats script → LinksObey script
links_obey {C} {M} cw mw on_a on_b on_c on_d on_e fine_b fine_c fine_e script held =
    let near : 0 < C = (width_bounds C cw).0 in
    let far : 0 < M = (width_bounds M mw).0 in
    let a = script.a in
    let d = script.d in
    let s : State = settled_state a d in
    let w : WholeRun near far a d s.a s.d = whole_run near far a d (one_settled near far a d).settled.reached in
    let r : RunIs near far a d s.a s.d w.client w.manager = run_is near far a d w.run in
    let obeys = beats_obey cw mw a d on_a on_d (each_beat rules_a on_a.exact a held.a) (each_beat rules_d on_d.exact d held.d) w.run in
    record {
      client = w.client;
      manager = w.manager;
      run = w.run;
      client_asked = r.client.accepted;
      client_answered = w.d_taken;
      manager_asked = w.a_taken;
      manager_answered = r.manager_is.accepted;
      client_obeys = obeys.0;
      manager_obeys = obeys.1;
      b = alone_fine rules_b far on_b fine_b (λ h x. refl) script.b (each_beat rules_b on_b.exact script.b held.b);
      c = alone_fine rules_c near on_c fine_c (λ h x. refl) script.c (each_beat rules_c on_c.exact script.c held.c);
      e = alone_fine rules_e near on_e fine_e (λ h x. refl) script.e (each_beat rules_e on_e.exact script.e held.e);
    }
