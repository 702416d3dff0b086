-- In one order of the events of both sides each link obeys the rules, and clocks show such an order.
use Rattle.tl_settle.proofs.Names.{◌≡◌, ◌≤◌, ◌<◌, ◌+◌, ◌⊎◌, ℕ, zero, suc, List, [], ◌∷◌, ◌++◌, length, map, refl, sym, ap, subst, ◌∙◌, arith}
use Rattle.tl_settle.proofs.Names.{⊎_elim, append_assoc, append-nil, map-append, rules_a, rules_d, HeadA, HeadD, BeatOf, Extends, more, extends-on}
use Rattle.tl_settle.proofs.Names.{of_prefix, heads_extend, heads, IsHandedWith, Event, Ask, Answer, asked, answered}
use mathlib.Core.List.{IsPrefix}
use Rattle.tl_convert.proofs.Extends.{extends-cons, extends-refl}
use Rattle.tl_convert.proofs.FarFine.{far_fine}
use Rattle.tl_convert.specs.Due.{due}
use Rattle.tl_lanes.specs.Lanes.{IsWidth}
use Rattle.tl_settle.proofs.ChannelFacts.{laws_a, laws_d, masked_a, masked_d}
use Rattle.tl_settle.proofs.Grows.{map_grows}
use Rattle.tl_settle.proofs.Links.{asked-append, answered-append, asks_behind, answers_behind, request_goes, response_goes}
use Rattle.tl_settle.proofs.Longer.{to_prefix}
use Rattle.tl_settle.proofs.Marks.{asked_ask, asked_answer, answered_ask, answered_answer}
use Rattle.tl_settle.proofs.Obeys.{Obeyed, silent, with_ask, with_answer, obeyed, obeys}
use Rattle.tl_settle.specs.Obeying.{ObeysRules, RequestsObey, ResponsesObey}
use Rattle.tl_settle.specs.OneOrder.{InOneOrder, none_yet, client_accepted, manager_took, manager_accepted, client_took, DueByClient, DueByManager, Timed}
use Rattle.tl_settle.proofs.Names.{homes_after, requests, responses}
use Rattle.tl_settle.proofs.Runs.{RunIs, run_is}
use Rattle.tl_settle.specs.Rounds.{ClientMoves, ManagerMoves, Run, begins, client_accepts, client_rests, client_takes, manager_accepts, manager_rests}
use Rattle.tl_settle.specs.Rounds.{manager_takes, round}
use Rattle.tl_settle.specs.OneOrder.{events, AreBefore, ClocksAgree, ClientSentBefore, ManagerSentBefore}

requests_front : {w : ℕ} (es rest : List (Event w)) → RequestsObey (es ++ rest) → RequestsObey es
requests_front es rest o before after b f = o before (after ++ rest) b (ap (λ q. q ++ rest) f ∙ append_assoc before (Ask b ∷ after) rest)

responses_front : {w : ℕ} (es rest : List (Event w)) → ResponsesObey (es ++ rest) → ResponsesObey es
responses_front es rest o before after b f = o before (after ++ rest) b (ap (λ q. q ++ rest) f ∙ append_assoc before (Answer b ∷ after) rest)

obeys_front : {w : ℕ} {front es : List (Event w)} → Extends front es → Obeyed es → Obeyed front
obeys_front (more front rest) o =
    let rules : ObeysRules (front ++ rest) = obeys o in
    obeyed front (record { requests = requests_front front rest rules.requests; responses = responses_front front rest rules.responses })

asked_extend : {w : ℕ} {x y : List (Event w)} → Extends x y → Extends (asked x) (asked y)
asked_extend (more x rest) = rw (asked-append x rest) (more (asked x) (asked rest))

answered_extend : {w : ℕ} {x y : List (Event w)} → Extends x y → Extends (answered x) (answered y)
answered_extend (more x rest) = rw (answered-append x rest) (more (answered x) (answered rest))

module _ {C M : ℕ} (cw : IsWidth C) (mw : IsWidth M) (sent_a : List (BeatOf HeadA C)) (a_homes : List ℕ) (sent_d : List (BeatOf HeadD M))
    (d_homes : List ℕ) (handed_a : IsHandedWith rules_a sent_a a_homes) (handed_d : IsHandedWith rules_d sent_d d_homes)
  where
    record Both (x : List (Event C)) (y : List (Event M)) : Type 0 where
      on_client : Obeyed x
      on_manager : Obeyed y
      a_behind : Extends (heads rules_a M (asked y)) (heads rules_a C (asked x))
      d_behind : Extends (heads rules_d C (answered x)) (heads rules_d M (answered y))

    both : {x : List (Event C)} {y : List (Event M)} → InOneOrder x y → RequestsObey x → ResponsesObey y →
        Extends (asked y) (due rules_a C M sent_a a_homes) → Extends (answered x) (due rules_d M C sent_d d_homes) → Both x y
    both none_yet rx ry on_a on_d = record { on_client = silent; on_manager = silent; a_behind = more [] []; d_behind = more [] [] }
    both (client_accepted x y b o) rx ry on_a on_d =
        let before : Both x y =
        both o (requests_front x (Ask b ∷ []) rx) ry on_a (subst (λ ys. Extends ys (due rules_d M C sent_d d_homes)) (answered_ask x b) on_d) in
        record {
          on_client = with_ask x b before.on_client (rx x [] b refl);
          on_manager = before.on_manager;
          a_behind = subst (λ ys. Extends (heads rules_a M (asked y)) (heads rules_a C ys)) (sym (asked_ask x b))
              (extends-on before.a_behind (heads_extend rules_a C (more (asked x) (b ∷ []))));
          d_behind = subst (λ ys. Extends (heads rules_d C ys) (heads rules_d M (answered y))) (sym (answered_ask x b)) before.d_behind;
        }
    both (manager_accepted x y b o) rx ry on_a on_d =
        let before : Both x y =
        both o rx (responses_front y (Answer b ∷ []) ry) (subst (λ ys. Extends ys (due rules_a C M sent_a a_homes)) (asked_answer y b) on_a) on_d in
        record {
          on_client = before.on_client;
          on_manager = with_answer y b before.on_manager (ry y [] b refl);
          a_behind = subst (λ ys. Extends (heads rules_a M ys) (heads rules_a C (asked x))) (sym (asked_answer y b)) before.a_behind;
          d_behind = subst (λ ys. Extends (heads rules_d C (answered x)) (heads rules_d M ys)) (sym (answered_answer y b))
              (extends-on before.d_behind (heads_extend rules_d M (more (answered y) (b ∷ []))));
        }
    both (manager_took x y b o sent) rx ry on_a on_d =
        let one : Extends (asked y ++ b ∷ []) (due rules_a C M sent_a a_homes) =
        subst (λ ys. Extends ys (due rules_a C M sent_a a_homes)) (asked_ask y b) on_a in
        let before : Both x y =
        both o rx (responses_front y (Ask b ∷ []) ry) (extends-on (more (asked y) (b ∷ [])) one) on_d in
        let first : Extends sent.front x = of_prefix _ _ sent.first in
        let behind : Extends (heads rules_a M (asked y ++ b ∷ [])) (heads rules_a C (asked x)) =
        extends-on (asks_behind cw mw sent.front sent.homes (obeys_front first before.on_client) (of_prefix _ _ sent.due))
        (heads_extend rules_a C (asked_extend first)) in
        record {
          on_client = before.on_client;
          on_manager = with_ask y b before.on_manager (request_goes cw mw before.on_client before.on_manager b
              (far_fine rules_a laws_a masked_a cw mw sent_a a_homes handed_a (asked y) b one) behind before.d_behind);
          a_behind = subst (λ ys. Extends (heads rules_a M ys) (heads rules_a C (asked x))) (sym (asked_ask y b)) behind;
          d_behind = subst (λ ys. Extends (heads rules_d C (answered x)) (heads rules_d M ys)) (sym (answered_ask y b)) before.d_behind;
        }
    both (client_took x y b o sent) rx ry on_a on_d =
        let one : Extends (answered x ++ b ∷ []) (due rules_d M C sent_d d_homes) =
        subst (λ ys. Extends ys (due rules_d M C sent_d d_homes)) (answered_answer x b) on_d in
        let before : Both x y =
        both o (requests_front x (Answer b ∷ []) rx) ry on_a (extends-on (more (answered x) (b ∷ [])) one) in
        let first : Extends sent.front y = of_prefix _ _ sent.first in
        let behind : Extends (heads rules_d C (answered x ++ b ∷ [])) (heads rules_d M (answered y)) =
        extends-on (answers_behind cw mw sent.front sent.homes (obeys_front first before.on_manager) (of_prefix _ _ sent.due))
        (heads_extend rules_d M (answered_extend first)) in
        record {
          on_client = with_answer x b before.on_client (response_goes cw mw before.on_client before.on_manager b
              (far_fine rules_d laws_d masked_d mw cw sent_d d_homes handed_d (answered x) b one) before.a_behind behind);
          on_manager = before.on_manager;
          a_behind = subst (λ ys. Extends (heads rules_a M (asked y)) (heads rules_a C ys)) (sym (asked_answer x b)) before.a_behind;
          d_behind = subst (λ ys. Extends (heads rules_d C ys) (heads rules_d M (answered y))) (sym (answered_answer x b)) behind;
        }

    pub both_obey : {x : List (Event C)} {y : List (Event M)} → InOneOrder x y → RequestsObey x → ResponsesObey y →
        Extends (asked y) (due rules_a C M sent_a a_homes) → Extends (answered x) (due rules_d M C sent_d d_homes) → ObeysRules x × ObeysRules y
    both_obey o rx ry on_a on_d = let b = both o rx ry on_a on_d in (obeys b.on_client, obeys b.on_manager)

-- the form of the law
pub one_order_obeys : {C M : ℕ} → IsWidth C → IsWidth M → (x : List (Event C)) (y : List (Event M)) → InOneOrder x y → RequestsObey x →
    ResponsesObey y → (a_homes d_homes : List ℕ) → IsHandedWith rules_a (asked x) a_homes → IsHandedWith rules_d (answered y) d_homes →
    IsPrefix (asked y) (due rules_a C M (asked x) a_homes) → IsPrefix (answered x) (due rules_d M C (answered y) d_homes) →
    ObeysRules x × ObeysRules y
one_order_obeys cw mw x y o rx ry a_homes d_homes handed_a handed_d on_a on_d =
    both_obey cw mw (asked x) a_homes (answered y) d_homes handed_a handed_d o rx ry (of_prefix _ _ on_a) (of_prefix _ _ on_d)

-- ---- clocks

-- events that are all before a time come before the first event that is not before it
front_in : {w : ℕ} (front rest first others : List (Timed w)) (t : Timed w) (time : ℕ) → front ++ rest ≡ first ++ t ∷ others →
    AreBefore front time → time ≤ t.time → Extends front first
front_in [] rest first others t time e earlier late = more [] first
front_in (f ∷ front) rest [] others t time e earlier late =
    let head : f ≡ t = cc in
    let same : f.time ≡ t.time = ap (λ q. q.time) head in
    let less : f.time < time = earlier [] front f refl in
    absurd (omega arith)
front_in (f ∷ front) rest (g ∷ first) others t time e earlier late =
    let head : f ≡ g = cc in
    let tail : front ++ rest ≡ first ++ t ∷ others = cc in
    subst (λ z. Extends (f ∷ front) (z ∷ first)) head
    (extends-cons f (front_in front rest first others t time tail (λ before after s q. earlier (f ∷ before) after s (ap (λ z. f ∷ z) q)) late))

either_first : (s t : ℕ) → (s ≤ t) ⊎ (t < s)
either_first s t = grind arith

module _ {C M : ℕ} (xs : List (Timed C)) (ys : List (Timed M)) (agree : ClocksAgree xs ys) where
  seen_d : (y1 : List (Timed M)) (far : List (BeatOf HeadD C)) (time : ℕ) → (s : ManagerSentBefore ys far time) → Extends s.front y1 →
      DueByManager (events y1) far
  seen_d y1 far time s on = record { front = events s.front; first = to_prefix (map_grows (λ t. t.event) on); homes = s.homes; due = s.due }

  seen_a : (x1 : List (Timed C)) (far : List (BeatOf HeadA M)) (time : ℕ) → (s : ClientSentBefore xs far time) → Extends s.front x1 →
      DueByClient (events x1) far
  seen_a x1 far time s on = record { front = events s.front; first = to_prefix (map_grows (λ t. t.event) on); homes = s.homes; due = s.due }

  client_steps : (x1 rest : List (Timed C)) (y1 : List (Timed M)) (time : ℕ) (v : Event C) → xs ≡ x1 ++ record { time = time; event = v } ∷ rest →
      ((far : List (BeatOf HeadD C)) → (s : ManagerSentBefore ys far time) → Extends s.front y1) → InOneOrder (events x1) (events y1) →
      InOneOrder (events (x1 ++ record { time = time; event = v } ∷ [])) (events y1)
  client_steps x1 rest y1 time (Ask b) e seen o =
      subst (λ q. InOneOrder q (events y1)) (sym (map-append (λ t. t.event) x1 (record { time = time; event = Ask b } ∷ [])))
      (client_accepted (events x1) (events y1) b o)
  client_steps x1 rest y1 time (Answer b) e seen o =
      let far : List (BeatOf HeadD C) = answered (events x1) ++ b ∷ [] in
      let s : ManagerSentBefore ys far time = agree.d x1 rest time b e in
      subst (λ q. InOneOrder q (events y1)) (sym (map-append (λ t. t.event) x1 (record { time = time; event = Answer b } ∷ [])))
      (client_took (events x1) (events y1) b o (seen_d y1 far time s (seen far s)))

  manager_steps : (x1 : List (Timed C)) (y1 rest : List (Timed M)) (time : ℕ) (v : Event M) → ys ≡ y1 ++ record { time = time; event = v } ∷ rest →
      ((far : List (BeatOf HeadA M)) → (s : ClientSentBefore xs far time) → Extends s.front x1) → InOneOrder (events x1) (events y1) →
      InOneOrder (events x1) (events (y1 ++ record { time = time; event = v } ∷ []))
  manager_steps x1 y1 rest time (Answer b) e seen o =
      subst (λ q. InOneOrder (events x1) q) (sym (map-append (λ t. t.event) y1 (record { time = time; event = Answer b } ∷ [])))
      (manager_accepted (events x1) (events y1) b o)
  manager_steps x1 y1 rest time (Ask b) e seen o =
      let far : List (BeatOf HeadA M) = asked (events y1) ++ b ∷ [] in
      let s : ClientSentBefore xs far time = agree.a y1 rest time b e in
      subst (λ q. InOneOrder (events x1) q) (sym (map-append (λ t. t.event) y1 (record { time = time; event = Ask b } ∷ [])))
      (manager_took (events x1) (events y1) b o (seen_a x1 far time s (seen far s)))

  merge : (n : ℕ) (x1 x2 : List (Timed C)) (y1 y2 : List (Timed M)) → length x2 + length y2 ≤ n → xs ≡ x1 ++ x2 → ys ≡ y1 ++ y2 →
      InOneOrder (events x1) (events y1) → InOneOrder (events xs) (events ys)
  merge n x1 [] y1 [] l ex ey o =
      subst (λ q. InOneOrder (events q) (events ys)) (sym (ex ∙ append-nil x1))
      (subst (λ q. InOneOrder (events x1) (events q)) (sym (ey ∙ append-nil y1)) o)
  merge zero x1 (s ∷ x2) y1 y2 l ex ey o = absurd (omega arith)
  merge zero x1 [] y1 (t ∷ y2) l ex ey o = absurd (omega arith)
  merge (suc n) x1 (s ∷ x2) y1 [] l ex ey o =
      merge n (x1 ++ s ∷ []) x2 y1 [] (omega arith) (ex ∙ sym (append_assoc x1 (s ∷ []) x2)) ey
      (client_steps x1 x2 y1 s.time s.event ex
      (λ far k. subst (λ q. Extends k.front q) (ey ∙ append-nil y1) (of_prefix _ _ k.first)) o)
  merge (suc n) x1 [] y1 (t ∷ y2) l ex ey o =
      merge n x1 [] (y1 ++ t ∷ []) y2 (omega arith) ex (ey ∙ sym (append_assoc y1 (t ∷ []) y2))
      (manager_steps x1 y1 y2 t.time t.event ey
      (λ far k. subst (λ q. Extends k.front q) (ex ∙ append-nil x1) (of_prefix _ _ k.first)) o)
  merge (suc n) x1 (s ∷ x2) y1 (t ∷ y2) l ex ey o = ⊎_elim
      (λ (le : s.time ≤ t.time).
      merge n (x1 ++ s ∷ []) x2 y1 (t ∷ y2) (omega arith) (ex ∙ sym (append_assoc x1 (s ∷ []) x2)) ey
      (client_steps x1 x2 y1 s.time s.event ex
      (λ far k. front_in k.front k.first.0 y1 y2 t s.time (k.first.1 ∙ ey) k.earlier le) o))
      (λ (less : t.time < s.time).
      merge n x1 (s ∷ x2) (y1 ++ t ∷ []) y2 (omega arith) ex (ey ∙ sym (append_assoc y1 (t ∷ []) y2))
      (manager_steps x1 y1 y2 t.time t.event ey
      (λ far k. front_in k.front k.first.0 x1 x2 s t.time (k.first.1 ∙ ex) k.earlier (omega arith)) o))
      (either_first s.time t.time)

  pub clocks_order : InOneOrder (events xs) (events ys)
  clocks_order = merge (length xs + length ys) [] xs [] ys (omega arith) refl refl none_yet

-- ---- an order goes on

module _ {C M : ℕ} where
  client_goes : (d_homes : List ℕ) (before rest whole : List (Event C)) (y : List (Event M)) → whole ≡ before ++ rest → InOneOrder before y →
      Extends (answered whole) (due rules_d M C (answered y) d_homes) → InOneOrder whole y
  client_goes d_homes before [] whole y e o on = subst (λ q. InOneOrder q y) (sym (e ∙ append-nil before)) o
  client_goes d_homes before (Ask b ∷ rest) whole y e o on =
      client_goes d_homes (before ++ Ask b ∷ []) rest whole y (e ∙ sym (append_assoc before (Ask b ∷ []) rest)) (client_accepted before y b o) on
  client_goes d_homes before (Answer b ∷ rest) whole y e o on =
      let parts : (answered before ++ b ∷ []) ++ answered rest ≡ answered whole =
      append_assoc (answered before) (b ∷ []) (answered rest) ∙ sym (ap (λ es. answered es) e ∙ answered-append before (Answer b ∷ rest)) in
      let one : Extends (answered before ++ b ∷ []) (due rules_d M C (answered y) d_homes) =
      extends-on (subst (λ ys. Extends (answered before ++ b ∷ []) ys) parts (more (answered before ++ b ∷ []) (answered rest))) on in
      client_goes d_homes (before ++ Answer b ∷ []) rest whole y (e ∙ sym (append_assoc before (Answer b ∷ []) rest))
      (client_took before y b o (record { front = y; first = to_prefix (extends-refl y); homes = d_homes; due = to_prefix one })) on

  manager_goes : (a_homes : List ℕ) {x x' : List (Event C)} → Extends x x' → (before rest whole : List (Event M)) → whole ≡ before ++ rest →
      InOneOrder x' before → Extends (asked whole) (due rules_a C M (asked x) a_homes) → InOneOrder x' whole
  manager_goes a_homes {x} {x'} later before [] whole e o on = subst (λ q. InOneOrder x' q) (sym (e ∙ append-nil before)) o
  manager_goes a_homes {x} {x'} later before (Answer b ∷ rest) whole e o on =
      manager_goes a_homes later (before ++ Answer b ∷ []) rest whole (e ∙ sym (append_assoc before (Answer b ∷ []) rest))
      (manager_accepted x' before b o) on
  manager_goes a_homes {x} {x'} later before (Ask b ∷ rest) whole e o on =
      let parts : (asked before ++ b ∷ []) ++ asked rest ≡ asked whole =
      append_assoc (asked before) (b ∷ []) (asked rest) ∙ sym (ap (λ es. asked es) e ∙ asked-append before (Ask b ∷ rest)) in
      let one : Extends (asked before ++ b ∷ []) (due rules_a C M (asked x) a_homes) =
      extends-on (subst (λ ys. Extends (asked before ++ b ∷ []) ys) parts (more (asked before ++ b ∷ []) (asked rest))) on in
      manager_goes a_homes later (before ++ Ask b ∷ []) rest whole (e ∙ sym (append_assoc before (Ask b ∷ []) rest))
      (manager_took x' before b o (record { front = x; first = to_prefix later; homes = a_homes; due = to_prefix one })) on

  -- each side takes only beats that were due by the other's history at the last meeting
  pub order_goes_on : (x x' : List (Event C)) (y y' : List (Event M)) → IsPrefix x x' → IsPrefix y y' → (a_homes d_homes : List ℕ) →
      Extends (answered x') (due rules_d M C (answered y) d_homes) → Extends (asked y') (due rules_a C M (asked x) a_homes) →
      InOneOrder x y → InOneOrder x' y'
  order_goes_on x x' y y' x_on y_on a_homes d_homes taken_d taken_a o =
      manager_goes a_homes (of_prefix x x' x_on) y y_on.0 y' (sym y_on.1) (client_goes d_homes x x_on.0 x' y (sym x_on.1) o taken_d) taken_a

-- ---- a run in rounds is in one order

module _ {C M : ℕ} (near : 0 < C) (far : 0 < M) (a : List (BeatOf HeadA C)) (d : List (BeatOf HeadD M)) where
  moves_extend : {j x : ℕ} {es : List (Event C)} {y : ℕ} {fs : List (Event C)} → ClientMoves a d j x es y fs → Extends es fs
  moves_extend client_rests = extends-refl _
  moves_extend (client_takes y fs b moves on) = extends-on (moves_extend moves) (more fs (Answer b ∷ []))
  moves_extend (client_accepts y fs b moves at ok) = extends-on (moves_extend moves) (more fs (Ask b ∷ []))

  module _ {i j : ℕ} {ec : List (Event C)} {em : List (Event M)} (r : RunIs near far a d i j ec em) where
    client_ordered : {x : ℕ} {fc : List (Event C)} → InOneOrder ec em → ClientMoves a d j i ec x fc → InOneOrder fc em
    client_ordered o client_rests = o
    client_ordered o (client_accepts y fs b moves at ok) = client_accepted fs em b (client_ordered o moves)
    client_ordered o (client_takes y fs b moves on) =
        client_took fs em b (client_ordered o moves)
        (record {
          front = em;
          first = to_prefix (extends-refl em);
          homes = homes_after (heads rules_a C a) [] (responses a d j);
          due = subst (λ bs. IsPrefix (answered fs ++ b ∷ []) (due rules_d M C bs (homes_after (heads rules_a C a) [] (responses a d j))))
              (sym r.manager_is.accepted) on;
        })

    manager_ordered : {fc : List (Event C)} {y : ℕ} {fm : List (Event M)} → Extends ec fc → InOneOrder fc em → ManagerMoves a d i j em y fm → InOneOrder fc fm
    manager_ordered later o manager_rests = o
    manager_ordered {fc} later o (manager_accepts y fs b moves at ok) = manager_accepted fc fs b (manager_ordered later o moves)
    manager_ordered {fc} later o (manager_takes y fs b moves on) =
        manager_took fc fs b (manager_ordered later o moves)
        (record {
          front = ec;
          first = to_prefix later;
          homes = map (λ h. h.address) (requests a d i);
          due = subst (λ bs. IsPrefix (asked fs ++ b ∷ []) (due rules_a C M bs (map (λ h. h.address) (requests a d i)))) (sym r.client.accepted) on;
        })

  pub run_in_order : {i j : ℕ} {ec : List (Event C)} {em : List (Event M)} → Run a d i j ec em → InOneOrder ec em
  run_in_order begins = none_yet
  run_in_order (round i j x y ec fc em fm before client_part manager_part) =
      let r : RunIs near far a d i j ec em = run_is near far a d before in
      manager_ordered r (moves_extend client_part) (client_ordered r (run_in_order before) client_part) manager_part
