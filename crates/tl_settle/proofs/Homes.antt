-- The homes that the manager's side gives are those of the definition of the far list.
use Rattle.tl_settle.proofs.Names.{◌≡◌, ◌<◌, ◌⊎◌, inl, inr, ℕ, Bool, true, false, cond, Option, Some, List, [], ◌∷◌, ◌++◌, take, map, refl, sym, ap}
use Rattle.tl_settle.proofs.Names.{◌∙◌, append_assoc, append-nil, option_map_or, rules_a, rules_d, BeatOf, heads, HeadA, HeadD, is_release_ack}
use Rattle.tl_settle.proofs.Names.{is_request_of, responses_to, partner, home_of, homes_after, Reaches, goes_a, goes_d, responses, far_a, far_d}
use Rattle.tl_settle.proofs.Names.{Event, asked, answered, Mark, Asks, Answers, marks, open_request, home_after, homes_from, manager_homes, Extends}
use Rattle.tl_settle.proofs.Names.{more, extends-on}
use Rattle.tl_convert.specs.Due.{due}
use Rattle.tl_settle.proofs.Orders.{asks, answers, Ordered, unmarked, ask, answer, ClientIs, ManagerIs}
use Rattle.tl_settle.proofs.Settles.{good, there_on}
use Rattle.tl_settle.proofs.Manager.{manager_asks, manager_answers, whole_asks}
use Rattle.tl_settle.proofs.Opens.{Match, matches, asks_ask, asks_answer, answers_ask, answers_answer}
use Rattle.tl_settle.proofs.Sides.{nth_stays}
use Rattle.tl_settle.proofs.Grows.{homes_more}

-- one message more
pub from_ask : (before ms : List Mark) (h : HeadA) → homes_from before (ms ++ Asks h ∷ []) ≡ homes_from before ms
from_ask before [] h = refl
from_ask before (Asks x ∷ ms) h = from_ask (before ++ Asks x ∷ []) ms h
from_ask before (Answers x ∷ ms) h = ap (λ q. home_after before x ∷ q) (from_ask (before ++ Answers x ∷ []) ms h)

pub from_answer : (before ms : List Mark) (h : HeadD) →
    homes_from before (ms ++ Answers h ∷ []) ≡ homes_from before ms ++ home_after (before ++ ms) h ∷ []
from_answer before [] h = ap (λ q. home_after q h ∷ []) (sym (append-nil before))
from_answer before (Asks x ∷ ms) h =
    from_answer (before ++ Asks x ∷ []) ms h ∙
    ap (λ q. homes_from (before ++ Asks x ∷ []) ms ++ home_after q h ∷ []) (append_assoc before (Asks x ∷ []) ms)
from_answer before (Answers x ∷ ms) h =
    ap (λ q. home_after before x ∷ q) (from_answer (before ++ Answers x ∷ []) ms h ∙
    ap (λ q. homes_from (before ++ Answers x ∷ []) ms ++ home_after q h ∷ []) (append_assoc before (Answers x ∷ []) ms))

-- a response finds its partner
one_home : (requests : List HeadA) (ms : List Mark) (h : HeadD) (t : Bool) → is_release_ack h ≡ t → Ordered ms → Extends (asks ms) requests →
    (t ≡ true) ⊎ ((q : HeadA) × (open_request h.source ms ≡ Some q)) → home_after ms h ≡ home_of requests (answers ms) h
one_home requests ms h true e o on opened =
    ap (λ t. cond t 0 (option_map_or (λ q. q.address) (open_request h.source ms) 0)) e ∙
    ap (λ t. cond t 0 (option_map_or (λ q. q.address) (partner requests (answers ms) h.source) 0)) (sym e)
one_home requests ms h false e o on (inl ack) = cc
one_home requests ms h false e o on (inr (q, opened)) =
    let m : Match (open_request h.source ms) (asks ms) (answers ms) h.source = matches o h.source in
    let there : partner requests (answers ms) h.source ≡ Some q =
    nth_stays (is_request_of h.source) (responses_to h.source (answers ms)) q on (sym m.is ∙ opened) in
    ap (λ (x : Option HeadA). cond (is_release_ack h) 0 (option_map_or (λ y. y.address) x 0)) (opened ∙ sym there)

pub homes_given : {ms : List Mark} → Ordered ms → (requests : List HeadA) → Extends (asks ms) requests →
    homes_from [] ms ≡ homes_after requests [] (answers ms)
homes_given unmarked requests on = refl
homes_given (ask ms h o free) requests on =
    let before : Extends (asks ms) requests = extends-on (rw (asks_ask ms h) (more (asks ms) (h ∷ []))) on in
    from_ask [] ms h ∙ homes_given o requests before ∙ ap (λ hs. homes_after requests [] hs) (sym (answers_ask ms h))
homes_given (answer ms h o opened) requests on =
    let before : Extends (asks ms) requests = rw (asks_answer ms h) at on in
    from_answer [] ms h ∙ ap (λ q. q ++ home_after ms h ∷ []) (homes_given o requests before) ∙
    ap (λ x. homes_after requests [] (answers ms) ++ x ∷ []) (one_home requests ms h (is_release_ack h) refl o before opened) ∙
    sym (homes_more requests [] (answers ms) (h ∷ [])) ∙ ap (λ hs. homes_after requests [] hs) (sym (answers_answer ms h))

module _ {C M : ℕ} (near : 0 < C) (far : 0 < M) (a : List (BeatOf HeadA C)) (d : List (BeatOf HeadD M)) where
  pub manager_homes_are : (i j : ℕ) (es : List (Event M)) → Reaches (goes_a a d) (goes_d a d) i j → ManagerIs a d i j es →
      manager_homes es ≡ homes_after (heads rules_a C a) [] (responses a d j)
  manager_homes_are i j es r m =
      let on : Extends (asks (marks es)) (heads rules_a C a) =
      extends-on (manager_asks near far a d i j es m)
      (extends-on (there_on near far a d i (good near far a d r).a_fine) (whole_asks near far a d i)) in
      homes_given m.ordered (heads rules_a C a) on ∙ ap (λ hs. homes_after (heads rules_a C a) [] hs) (manager_answers near far a d i j es m)

  -- so the far beats of the beats accepted on each side, with the homes given there, are those of the definitions
  pub far_d_given : (i j : ℕ) (es : List (Event M)) → Reaches (goes_a a d) (goes_d a d) i j → ManagerIs a d i j es →
      due rules_d M C (answered es) (manager_homes es) ≡ far_d a d j
  far_d_given i j es r m =
      ap (λ bs. due rules_d M C bs (manager_homes es)) m.accepted ∙ ap (λ hs. due rules_d M C (take j d) hs) (manager_homes_are i j es r m)

  pub far_a_given : (i j : ℕ) (es : List (Event C)) → ClientIs a d i j es →
      due rules_a C M (asked es) (map (λ h. h.address) (heads rules_a C (asked es))) ≡ far_a a d i
  far_a_given i j es c = ap (λ bs. due rules_a C M bs (map (λ h. h.address) (heads rules_a C bs))) c.accepted
