-- Two links that a bridge joins: the beats that it passes on from one of them are accepted by the rules of the other.
use Rattle.tl_settle.proofs.Names.{◌≡◌, ◌≤◌, ◌<◌, ℕ, zero, suc, Bool, true, false, cond, Option, None, Some, List, [], ◌∷◌, ◌++◌, length, refl}
use Rattle.tl_settle.proofs.Names.{sym, ap, subst, ◌∙◌, arith, length-filter, ◌==◌, slice_get, slice_get_past, option_map_or, is_some, filter}
use Rattle.tl_settle.proofs.Names.{rules_a, rules_d, HeadA, HeadD, BeatOf, BeatFault, Beat, SourceBusy, Extends}
use Rattle.tl_settle.proofs.Names.{more, extends-on, count_by-append, count-grows, equal_true, not_equal, heads_open, heads_extend, due_behind, Event, Ask, Answer, answered, map, append-nil, append_assoc}
use Rattle.tl_settle.proofs.Names.{asked, client_answer, manager_answer, marks, open_request, to_request, is_release_ack, is_request_of}
use Rattle.tl_settle.proofs.Names.{is_response_to, requests_of, responses_to, heads, left, fault_after, IsHandedWith, width_bounds}
use Rattle.tl_convert.proofs.FarFine.{far_fine}
use Rattle.tl_convert.specs.Due.{due}
use Rattle.tl_lanes.specs.Lanes.{IsWidth}
use Rattle.std.proofs.lemmas.List.Elements.{filter-append}
use Rattle.tl_settle.proofs.ChannelFacts.{laws_a, laws_d, masked_a, masked_d}
use Rattle.tl_settle.proofs.Obeys.{Obeyed, with_ask, with_answer, obeyed, obeys, ordered, sized, read_a, read_d}
use mathlib.Core.List.{IsPrefix}
use Rattle.tl_settle.specs.Obeying.{ObeysRules, RequestsObey, ResponsesObey}
use Rattle.tl_settle.proofs.Marks.{asked_ask, asked_answer, answered_ask, answered_answer}
use Rattle.tl_settle.proofs.Opens.{Match, matches, asks_heads, answers_heads, at_end}
use Rattle.tl_settle.proofs.Orders.{asks, answers}
use Rattle.tl_settle.proofs.SameHeads.{same_a, same_d}
use Rattle.tl_settle.proofs.Sides.{nth_stays, to_response}

-- no fault and, if a message opens, nothing that holds it back: that is the result None
ask_goes : (o : Option BeatFault) (request : Option HeadA) (l : ℕ) → o ≡ None → (l ≡ 0 → request ≡ None) →
    option_map_or (λ x. Some (Beat x)) o (cond (l == 0) (cond (is_some request) (Some SourceBusy) None) None) ≡ None
ask_goes o request zero e f = rw (e, f refl) refl
ask_goes o request (suc l) e f = rw (e, not_equal (suc l) 0 (λ z. absurd (omega arith))) refl

answer_goes : (o : Option BeatFault) (request : Option HeadA) (h : HeadD) (l : ℕ) (t : Bool) → o ≡ None →
    (l ≡ 0 → t ≡ false → (q : HeadA) × (request ≡ Some q) × ((q.size == h.size) ≡ true)) →
    option_map_or (λ x. Some (Beat x)) o (cond (l == 0) (cond t None (to_request request h)) None) ≡ None
answer_goes o request h (suc l) t e f = rw (e, not_equal (suc l) 0 (λ z. absurd (omega arith))) refl
answer_goes o request h zero true e f = rw e refl
answer_goes o request h zero false e f =
    let q = f refl refl in
    rw (e, q.1, q.2) refl

module _ {C M : ℕ} (cw : IsWidth C) (mw : IsWidth M) where
  near : 0 < C
  near = (width_bounds C cw).0

  far : 0 < M
  far = (width_bounds M mw).0

  module _ {client : List (Event C)} {manager : List (Event M)} (on_client : Obeyed client) (on_manager : Obeyed manager) where
    -- A request comes to the manager's link while its source has none outstanding there. For each source, the client's
    -- link began at most one request more than it received responses, and the manager's link began those responses
    request_free : (b : BeatOf HeadA M) → Extends (heads rules_a M (asked manager ++ b ∷ [])) (heads rules_a C (asked client)) →
        Extends (heads rules_d C (answered client)) (heads rules_d M (answered manager)) → left rules_a M (asked manager) ≡ 0 →
        open_request b.head.source (marks manager) ≡ None
    request_free b on seen e =
        let s : ℕ = b.head.source in
        let here : Match (open_request s (marks manager)) (asks (marks manager)) (answers (marks manager)) s = matches (ordered on_manager) s in
        let there : Match (open_request s (marks client)) (asks (marks client)) (answers (marks client)) s = matches (ordered on_client) s in
        let grown : requests_of s (heads rules_a M (asked manager ++ b ∷ [])) ≤ requests_of s (heads rules_a C (asked client)) =
        count-grows (is_request_of s) on in
        let open_one : requests_of s (heads rules_a M (asked manager ++ b ∷ [])) ≡ requests_of s (heads rules_a M (asked manager) ++ b.head ∷ []) =
        ap (λ hs. requests_of s hs) (heads_open rules_a M 0 (asked manager) b e) in
        let one = count_by-append (is_request_of s) (heads rules_a M (asked manager)) (b.head ∷ []) in
        let u : ◌≡◌ {A = ℕ} (cond (is_request_of s b.head) 1 0) 1 = ap (λ x. cond x 1 0) (equal_true s s refl) in
        let back : responses_to s (heads rules_d C (answered client)) ≤ responses_to s (heads rules_d M (answered manager)) =
        count-grows (is_response_to s) seen in
        let l : length (filter (is_request_of s) (asks (marks manager))) ≡ requests_of s (heads rules_a M (asked manager)) =
        length-filter (is_request_of s) (asks (marks manager)) ∙ ap (λ q. requests_of s q) (asks_heads 0 0 manager) in
        let asked_there : requests_of s (asks (marks client)) ≡ requests_of s (heads rules_a C (asked client)) =
        ap (λ hs. requests_of s hs) (asks_heads 0 0 client) in
        let answered_there : responses_to s (answers (marks client)) ≡ responses_to s (heads rules_d C (answered client)) =
        ap (λ hs. responses_to s hs) (answers_heads 0 0 client) in
        let answered_here : responses_to s (answers (marks manager)) ≡ responses_to s (heads rules_d M (answered manager)) =
        ap (λ hs. responses_to s hs) (answers_heads 0 0 manager) in
        let high = there.high in
        here.is ∙ slice_get_past (filter (is_request_of s) (asks (marks manager))) (responses_to s (answers (marks manager))) (omega arith)

    -- so it is accepted there
    pub request_goes : (b : BeatOf HeadA M) → fault_after rules_a (asked manager) b ≡ None →
        Extends (heads rules_a M (asked manager ++ b ∷ [])) (heads rules_a C (asked client)) →
        Extends (heads rules_d C (answered client)) (heads rules_d M (answered manager)) → client_answer manager b ≡ None
    request_goes b fine on seen =
        ask_goes (fault_after rules_a (asked manager) b) (open_request b.head.source (marks manager)) (left rules_a M (asked manager)) fine
        (request_free b on seen)

    -- A response comes to the client's link while its request is outstanding, with that size: it has the same number
    -- there among those of its source, and the manager's link began it while the request of that number was outstanding
    response_meets : (b : BeatOf HeadD C) → Extends (heads rules_a M (asked manager)) (heads rules_a C (asked client)) →
        Extends (heads rules_d C (answered client ++ b ∷ [])) (heads rules_d M (answered manager)) → left rules_d C (answered client) ≡ 0 →
        is_release_ack b.head ≡ false →
        (q : HeadA) × (open_request b.head.source (marks client) ≡ Some q) × ((q.size == b.head.size) ≡ true)
    response_meets b seen on e other =
        let s : ℕ = b.head.source in
        let k : ℕ = responses_to s (answers (marks client)) in
        let here : Match (open_request s (marks client)) (asks (marks client)) (answers (marks client)) s = matches (ordered on_client) s in
        let before : filter (is_response_to s) (heads rules_d C (answered client ++ b ∷ [])) ≡
        filter (is_response_to s) (answers (marks client)) ++ b.head ∷ [] =
        ap (λ hs. filter (is_response_to s) hs) (heads_open rules_d C 0 (answered client) b e) ∙
        filter-append (is_response_to s) (heads rules_d C (answered client)) (b.head ∷ []) ∙
        ap (λ t. filter (is_response_to s) (heads rules_d C (answered client)) ++ cond t (b.head ∷ []) []) (to_response s b.head other refl) ∙
        ap (λ hs. filter (is_response_to s) hs ++ b.head ∷ []) (sym (answers_heads 0 0 client)) in
        let nth : slice_get (filter (is_response_to s) (heads rules_d C (answered client ++ b ∷ []))) k ≡ Some b.head =
        ap (λ xs. slice_get xs k) before ∙
        at_end (filter (is_response_to s) (answers (marks client))) b.head k (length-filter (is_response_to s) (answers (marks client))) in
        let there : slice_get (filter (is_response_to s) (answers (marks manager))) k ≡ Some b.head =
        ap (λ hs. slice_get (filter (is_response_to s) hs) k) (answers_heads 0 0 manager) ∙ nth_stays (is_response_to s) k b.head on nth in
        let q = sized on_manager s k b.head there in
        let begun : slice_get (filter (is_request_of s) (heads rules_a M (asked manager))) k ≡ Some q.0 =
        ap (λ hs. slice_get (filter (is_request_of s) hs) k) (sym (asks_heads 0 0 manager)) ∙ q.1 in
        let met : slice_get (filter (is_request_of s) (asks (marks client))) k ≡ Some q.0 =
        ap (λ hs. slice_get (filter (is_request_of s) hs) k) (asks_heads 0 0 client) ∙ nth_stays (is_request_of s) k q.0 seen begun in
        (q.0, here.is ∙ met, q.2)

    -- so it is accepted there
    pub response_goes : (b : BeatOf HeadD C) → fault_after rules_d (answered client) b ≡ None →
        Extends (heads rules_a M (asked manager)) (heads rules_a C (asked client)) →
        Extends (heads rules_d C (answered client ++ b ∷ [])) (heads rules_d M (answered manager)) → manager_answer client b ≡ None
    response_goes b fine seen on =
        answer_goes (fault_after rules_d (answered client) b) (open_request b.head.source (marks client)) b.head (left rules_d C (answered client))
        (is_release_ack b.head) fine (response_meets b seen on)

  -- the messages begun there by the beats that have arrived have begun here
  pub asks_behind : (es : List (Event C)) (homes : List ℕ) {taken : List (BeatOf HeadA M)} → Obeyed es →
      Extends taken (due rules_a C M (asked es) homes) → Extends (heads rules_a M taken) (heads rules_a C (asked es))
  asks_behind es homes o on =
      extends-on (heads_extend rules_a M on) (due_behind rules_a same_a C near M far (asked es) homes (read_a near o))

  pub answers_behind : (es : List (Event M)) (homes : List ℕ) {taken : List (BeatOf HeadD C)} → Obeyed es →
      Extends taken (due rules_d M C (answered es) homes) → Extends (heads rules_d C taken) (heads rules_d M (answered es))
  answers_behind es homes o on =
      extends-on (heads_extend rules_d C on) (due_behind rules_d same_d M far C near (answered es) homes (read_d far o))

  -- the same for all beats that are taken, one after the other, if these beats were accepted
  module _ (sent_a : List (BeatOf HeadA C)) (a_homes : List ℕ) (sent_d : List (BeatOf HeadD M)) (d_homes : List ℕ)
      (handed_a : IsHandedWith rules_a sent_a a_homes) (handed_d : IsHandedWith rules_d sent_d d_homes)
    where
      requests_go : (bs : List (BeatOf HeadA M)) (client : List (Event C)) (manager : List (Event M)) → Obeyed client → Obeyed manager →
          asked client ≡ sent_a → answered manager ≡ sent_d → Extends (asked manager ++ bs) (due rules_a C M sent_a a_homes) →
          Extends (answered client) (due rules_d M C sent_d d_homes) → Obeyed (manager ++ map Ask bs)
      requests_go [] client manager oc om from_client from_manager on seen = subst Obeyed (sym (append-nil manager)) om
      requests_go (b ∷ bs) client manager oc om from_client from_manager on seen =
          let parts : (asked manager ++ b ∷ []) ++ bs ≡ asked manager ++ b ∷ bs = append_assoc (asked manager) (b ∷ []) bs in
          let all : Extends ((asked manager ++ b ∷ []) ++ bs) (due rules_a C M sent_a a_homes) =
          subst (λ ys. Extends ys (due rules_a C M sent_a a_homes)) (sym parts) on in
          let one : Extends (asked manager ++ b ∷ []) (due rules_a C M sent_a a_homes) = extends-on (more (asked manager ++ b ∷ []) bs) all in
          let fine : client_answer manager b ≡ None =
          request_goes oc om b (far_fine rules_a laws_a masked_a cw mw sent_a a_homes handed_a (asked manager) b one)
          (asks_behind client a_homes oc (subst (λ ys. Extends (asked manager ++ b ∷ []) (due rules_a C M ys a_homes)) (sym from_client) one))
          (answers_behind manager d_homes om (subst (λ ys. Extends (answered client) (due rules_d M C ys d_homes)) (sym from_manager) seen)) in
          subst Obeyed (append_assoc manager (Ask b ∷ []) (map Ask bs))
          (requests_go bs client (manager ++ Ask b ∷ []) oc (with_ask manager b om fine) from_client (answered_ask manager b ∙ from_manager)
          (subst (λ ys. Extends (ys ++ bs) (due rules_a C M sent_a a_homes)) (sym (asked_ask manager b)) all) seen)

      responses_go : (bs : List (BeatOf HeadD C)) (client : List (Event C)) (manager : List (Event M)) → Obeyed client → Obeyed manager →
          asked client ≡ sent_a → answered manager ≡ sent_d → Extends (asked manager) (due rules_a C M sent_a a_homes) →
          Extends (answered client ++ bs) (due rules_d M C sent_d d_homes) → Obeyed (client ++ map Answer bs)
      responses_go [] client manager oc om from_client from_manager seen on = subst Obeyed (sym (append-nil client)) oc
      responses_go (b ∷ bs) client manager oc om from_client from_manager seen on =
          let parts : (answered client ++ b ∷ []) ++ bs ≡ answered client ++ b ∷ bs = append_assoc (answered client) (b ∷ []) bs in
          let all : Extends ((answered client ++ b ∷ []) ++ bs) (due rules_d M C sent_d d_homes) =
          subst (λ ys. Extends ys (due rules_d M C sent_d d_homes)) (sym parts) on in
          let one : Extends (answered client ++ b ∷ []) (due rules_d M C sent_d d_homes) = extends-on (more (answered client ++ b ∷ []) bs) all in
          let fine : manager_answer client b ≡ None =
          response_goes oc om b (far_fine rules_d laws_d masked_d mw cw sent_d d_homes handed_d (answered client) b one)
          (asks_behind client a_homes oc (subst (λ ys. Extends (asked manager) (due rules_a C M ys a_homes)) (sym from_client) seen))
          (answers_behind manager d_homes om (subst (λ ys. Extends (answered client ++ b ∷ []) (due rules_d M C ys d_homes)) (sym from_manager) one)) in
          subst Obeyed (append_assoc client (Answer b ∷ []) (map Answer bs))
          (responses_go bs (client ++ Answer b ∷ []) manager (with_answer client b oc fine) om (asked_answer client b ∙ from_client) from_manager seen
          (subst (λ ys. Extends (ys ++ bs) (due rules_d M C sent_d d_homes)) (sym (answered_answer client b)) all))

      -- so both links obey the rules still, once the manager's side has taken requests, and the client's side responses
      pub requests_obey : (bs : List (BeatOf HeadA M)) (client : List (Event C)) (manager : List (Event M)) → ObeysRules client → ObeysRules manager →
          asked client ≡ sent_a → answered manager ≡ sent_d → Extends (asked manager ++ bs) (due rules_a C M sent_a a_homes) →
          Extends (answered client) (due rules_d M C sent_d d_homes) → ObeysRules (manager ++ map Ask bs)
      requests_obey bs client manager oc om from_client from_manager on seen =
          obeys (requests_go bs client manager (obeyed client oc) (obeyed manager om) from_client from_manager on seen)

      pub responses_obey : (bs : List (BeatOf HeadD C)) (client : List (Event C)) (manager : List (Event M)) → ObeysRules client → ObeysRules manager →
          asked client ≡ sent_a → answered manager ≡ sent_d → Extends (asked manager) (due rules_a C M sent_a a_homes) →
          Extends (answered client ++ bs) (due rules_d M C sent_d d_homes) → ObeysRules (client ++ map Answer bs)
      responses_obey bs client manager oc om from_client from_manager seen on =
          obeys (responses_go bs client manager (obeyed client oc) (obeyed manager om) from_client from_manager seen on)

-- the beats of two histories, one after the other
pub asked-append : {w : ℕ} (es fs : List (Event w)) → asked (es ++ fs) ≡ asked es ++ asked fs
asked-append [] fs = refl
asked-append (Ask b ∷ es) fs = ap (λ q. b ∷ q) (asked-append es fs)
asked-append (Answer b ∷ es) fs = asked-append es fs

pub answered-append : {w : ℕ} (es fs : List (Event w)) → answered (es ++ fs) ≡ answered es ++ answered fs
answered-append [] fs = refl
answered-append (Ask b ∷ es) fs = answered-append es fs
answered-append (Answer b ∷ es) fs = ap (λ q. b ∷ q) (answered-append es fs)

-- A round that begins when both links obey the rules: each side advances by itself, and takes only beats that were due
-- then. So both links still obey them
module _ {C M : ℕ} (cw : IsWidth C) (mw : IsWidth M) (client : List (Event C)) (manager : List (Event M)) (oc : Obeyed client) (om : Obeyed manager)
    (a_homes d_homes : List ℕ) (handed_a : IsHandedWith rules_a (asked client) a_homes) (handed_d : IsHandedWith rules_d (answered manager) d_homes)
  where
    client_on : (before rest whole : List (Event C)) → Obeyed before → whole ≡ before ++ rest → RequestsObey whole →
        Extends (heads rules_a M (asked manager)) (heads rules_a C (asked before)) →
        Extends (answered whole) (due rules_d M C (answered manager) d_homes) → Obeyed whole
    client_on before [] whole o e own seen on = subst Obeyed (sym (e ∙ append-nil before)) o
    client_on before (Ask b ∷ rest) whole o e own seen on =
        client_on (before ++ Ask b ∷ []) rest whole (with_ask before b o (own before rest b e)) (e ∙ sym (append_assoc before (Ask b ∷ []) rest)) own
        (subst (λ ys. Extends (heads rules_a M (asked manager)) (heads rules_a C ys)) (sym (asked_ask before b))
        (extends-on seen (heads_extend rules_a C (more (asked before) (b ∷ []))))) on
    client_on before (Answer b ∷ rest) whole o e own seen on =
        let parts : (answered before ++ b ∷ []) ++ answered rest ≡ answered whole =
        append_assoc (answered before) (b ∷ []) (answered rest) ∙ sym (ap (λ es. answered es) e ∙ answered-append before (Answer b ∷ rest)) in
        let one : Extends (answered before ++ b ∷ []) (due rules_d M C (answered manager) d_homes) =
        extends-on (subst (λ ys. Extends (answered before ++ b ∷ []) ys) parts (more (answered before ++ b ∷ []) (answered rest))) on in
        let fine : manager_answer before b ≡ None =
        response_goes cw mw o om b (far_fine rules_d laws_d masked_d mw cw (answered manager) d_homes handed_d (answered before) b one) seen
        (answers_behind cw mw manager d_homes om one) in
        client_on (before ++ Answer b ∷ []) rest whole (with_answer before b o fine) (e ∙ sym (append_assoc before (Answer b ∷ []) rest)) own
        (subst (λ ys. Extends (heads rules_a M (asked manager)) (heads rules_a C ys)) (sym (asked_answer before b)) seen) on

    manager_on : (before rest whole : List (Event M)) → Obeyed before → whole ≡ before ++ rest → ResponsesObey whole →
        Extends (heads rules_d C (answered client)) (heads rules_d M (answered before)) →
        Extends (asked whole) (due rules_a C M (asked client) a_homes) → Obeyed whole
    manager_on before [] whole o e own seen on = subst Obeyed (sym (e ∙ append-nil before)) o
    manager_on before (Answer b ∷ rest) whole o e own seen on =
        manager_on (before ++ Answer b ∷ []) rest whole (with_answer before b o (own before rest b e)) (e ∙ sym (append_assoc before (Answer b ∷ []) rest))
        own
        (subst (λ ys. Extends (heads rules_d C (answered client)) (heads rules_d M ys)) (sym (answered_answer before b))
        (extends-on seen (heads_extend rules_d M (more (answered before) (b ∷ []))))) on
    manager_on before (Ask b ∷ rest) whole o e own seen on =
        let parts : (asked before ++ b ∷ []) ++ asked rest ≡ asked whole =
        append_assoc (asked before) (b ∷ []) (asked rest) ∙ sym (ap (λ es. asked es) e ∙ asked-append before (Ask b ∷ rest)) in
        let one : Extends (asked before ++ b ∷ []) (due rules_a C M (asked client) a_homes) =
        extends-on (subst (λ ys. Extends (asked before ++ b ∷ []) ys) parts (more (asked before ++ b ∷ []) (asked rest))) on in
        let fine : client_answer before b ≡ None =
        request_goes cw mw oc o b (far_fine rules_a laws_a masked_a cw mw (asked client) a_homes handed_a (asked before) b one)
        (asks_behind cw mw client a_homes oc one) seen in
        manager_on (before ++ Ask b ∷ []) rest whole (with_ask before b o fine) (e ∙ sym (append_assoc before (Ask b ∷ []) rest)) own
        (subst (λ ys. Extends (heads rules_d C (answered client)) (heads rules_d M ys)) (sym (answered_ask before b)) seen) on

pub round_obeys : {C M : ℕ} → IsWidth C → IsWidth M → (client client' : List (Event C)) (manager manager' : List (Event M)) → ObeysRules client →
    ObeysRules manager → (a_homes d_homes : List ℕ) → IsHandedWith rules_a (asked client) a_homes → IsHandedWith rules_d (answered manager) d_homes →
    Extends (answered client) (due rules_d M C (answered manager) d_homes) → Extends (asked manager) (due rules_a C M (asked client) a_homes) →
    IsPrefix client client' → IsPrefix manager manager' → RequestsObey client' → ResponsesObey manager' →
    Extends (answered client') (due rules_d M C (answered manager) d_homes) → Extends (asked manager') (due rules_a C M (asked client) a_homes) →
    ObeysRules client' × ObeysRules manager'
round_obeys cw mw client client' manager manager' oc om a_homes d_homes handed_a handed_d seen_d seen_a on_c on_m own_c own_m taken_d taken_a =
    let c : Obeyed client = obeyed client oc in
    let m : Obeyed manager = obeyed manager om in (
      obeys (client_on cw mw client manager c m a_homes d_homes handed_a handed_d client on_c.0 client' c (sym on_c.1) own_c
          (asks_behind cw mw client a_homes c seen_a) taken_d),
      obeys (manager_on cw mw client manager c m a_homes d_homes handed_a handed_d manager on_m.0 manager' m (sym on_m.1) own_m
          (answers_behind cw mw manager d_homes m seen_d) taken_a),
    )
