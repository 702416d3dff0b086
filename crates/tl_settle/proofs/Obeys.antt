-- Histories that obey the rules, event by event, and what their messages are then.
use Rattle.tl_settle.proofs.Names.{◌≡◌, ◌<◌, ◌⊎◌, ℕ, zero, suc, Bool, true, false, cond, Option, None, Some, List, [], ◌∷◌, ◌++◌, length, refl}
use Rattle.tl_settle.proofs.Names.{sym, ap, subst, ◌∙◌, ⊎_elim, inl, inr, append_assoc, append-nil, map, length-filter, ◌==◌, slice_get, option_map_or}
use Rattle.tl_settle.proofs.Names.{is_some, filter, rules_a, rules_d, HeadA, HeadD, BeatOf, BeatFault, SideFault, Beat, SourceBusy}
use Rattle.tl_settle.proofs.Names.{SizeMismatch, some_not_none, more, Answer, Ask, Event, answered, asked}
use Rattle.tl_settle.proofs.Names.{client_answer, manager_answer, marks, open_request, to_request, is_release_ack, is_request_of, is_response_to}
use Rattle.tl_settle.proofs.Names.{responses_to, left, fault_after}
use Rattle.std.proofs.lemmas.List.{same_from_push}
use Rattle.std.proofs.lemmas.List.Elements.{filter-append}
use Rattle.tl_burst.proofs.Admitted.{last-cases}
use Rattle.tl_convert.proofs.FarHeads.{IsRead, is-read-none, is-read-more}
use Rattle.tl_settle.specs.Obeying.{ObeysRules, RequestsObey, ResponsesObey}
use Rattle.tl_settle.proofs.Orders.{asks, answers, Ordered, unmarked, ask, answer}
use Rattle.tl_settle.proofs.Opens.{matches, response_source, asks_ask, asks_answer, answers_ask, answers_answer}
use Rattle.tl_settle.proofs.Marks.{asked_ask, asked_answer, answered_ask, answered_answer, marks_ask_first, marks_ask_inside, marks_answer_first}
use Rattle.tl_settle.proofs.Marks.{marks_answer_inside}
use Rattle.tl_settle.proofs.SameHeads.{same_a, same_d}
use Rattle.tl_settle.proofs.Sides.{client_first, nth_stays}

pub data Obeyed {w : ℕ} : List (Event w) → Type 0 where
  silent : Obeyed []
  with_ask : (es : List (Event w)) (b : BeatOf HeadA w) → Obeyed es → client_answer es b ≡ None → Obeyed (es ++ Ask b ∷ [])
  with_answer : (es : List (Event w)) (b : BeatOf HeadD w) → Obeyed es → manager_answer es b ≡ None → Obeyed (es ++ Answer b ∷ [])

-- ---- the two formulations

obeyed_on : {w : ℕ} (es before rest : List (Event w)) → ObeysRules es → Obeyed before → es ≡ before ++ rest → Obeyed es
obeyed_on es before [] o b e = subst Obeyed (sym (e ∙ append-nil before)) b
obeyed_on es before (Ask x ∷ rest) o b e =
    obeyed_on es (before ++ Ask x ∷ []) rest o (with_ask before x b (o.requests before rest x e)) (e ∙ sym (append_assoc before (Ask x ∷ []) rest))
obeyed_on es before (Answer x ∷ rest) o b e =
    obeyed_on es (before ++ Answer x ∷ []) rest o (with_answer before x b (o.responses before rest x e))
    (e ∙ sym (append_assoc before (Answer x ∷ []) rest))

pub obeyed : {w : ℕ} (es : List (Event w)) → ObeysRules es → Obeyed es
obeyed es o = obeyed_on es [] es o silent refl

-- an event is in a list with one more if it was in it before, or is the last one
pub at_last : {X : Type 0} (es : List X) (x y : X) (before after : List X) → es ++ x ∷ [] ≡ before ++ y ∷ after →
    ((others : List X) × (es ≡ before ++ y ∷ others)) ⊎ ((es ≡ before) × (x ≡ y))
at_last es x y before after e = ⊎_elim
    (λ none.
    let same = same_from_push es before x y (e ∙ ap (λ q. before ++ y ∷ q) none) in
    inr (same.0, same.1))
    (λ (front, z, f).
    let g : es ++ x ∷ [] ≡ (before ++ y ∷ front) ++ z ∷ [] = e ∙ ap (λ q. before ++ y ∷ q) f ∙ sym (append_assoc before (y ∷ front) (z ∷ [])) in
    let same = same_from_push es (before ++ y ∷ front) x z g in
    inl (front, same.0))
    (last-cases after)

never : {X : Type 0} (before : List X) (x : X) (after : List X) → [] ≡ before ++ x ∷ after → ⊥
never [] x after e = cc
never (y ∷ before) x after e = cc

pub requests_none : {w : ℕ} → RequestsObey {w = w} []
requests_none before after b e = absurd (never before (Ask b) after e)

pub responses_none : {w : ℕ} → ResponsesObey {w = w} []
responses_none before after b e = absurd (never before (Answer b) after e)

pub obeys_none : {w : ℕ} → ObeysRules {w = w} []
obeys_none = record { requests = requests_none; responses = responses_none }

same_ask : {w : ℕ} {x y : BeatOf HeadA w} → Ask x ≡ Ask y → x ≡ y
same_ask e = cc

same_answer : {w : ℕ} {x y : BeatOf HeadD w} → Answer x ≡ Answer y → x ≡ y
same_answer e = cc

-- one more event, which is accepted if it is of that channel
pub requests_ask : {w : ℕ} (es : List (Event w)) (b : BeatOf HeadA w) → RequestsObey es → client_answer es b ≡ None → RequestsObey (es ++ Ask b ∷ [])
requests_ask es b o fine before after c e = ⊎_elim
    (λ (others, f). o before others c f)
    (λ (p : (es ≡ before) × (Ask b ≡ Ask c)). subst (λ q. client_answer q c ≡ None) p.0 (subst (λ x. client_answer es x ≡ None) (same_ask p.1) fine))
    (at_last es (Ask b) (Ask c) before after e)

requests_answer : {w : ℕ} (es : List (Event w)) (b : BeatOf HeadD w) → RequestsObey es → RequestsObey (es ++ Answer b ∷ [])
requests_answer es b o before after c e = ⊎_elim
    (λ (others, f). o before others c f)
    (λ (p : (es ≡ before) × (Answer b ≡ Ask c)). let f = p.1 in absurd (cc))
    (at_last es (Answer b) (Ask c) before after e)

pub responses_answer : {w : ℕ} (es : List (Event w)) (b : BeatOf HeadD w) → ResponsesObey es → manager_answer es b ≡ None →
    ResponsesObey (es ++ Answer b ∷ [])
responses_answer es b o fine before after c e = ⊎_elim
    (λ (others, f). o before others c f)
    (λ (p : (es ≡ before) × (Answer b ≡ Answer c)). subst (λ q. manager_answer q c ≡ None) p.0
    (subst (λ x. manager_answer es x ≡ None) (same_answer p.1) fine))
    (at_last es (Answer b) (Answer c) before after e)

responses_ask : {w : ℕ} (es : List (Event w)) (b : BeatOf HeadA w) → ResponsesObey es → ResponsesObey (es ++ Ask b ∷ [])
responses_ask es b o before after c e = ⊎_elim
    (λ (others, f). o before others c f)
    (λ (p : (es ≡ before) × (Ask b ≡ Answer c)). let f = p.1 in absurd (cc))
    (at_last es (Ask b) (Answer c) before after e)

pub requests_answers : {w : ℕ} (es : List (Event w)) (bs : List (BeatOf HeadD w)) → RequestsObey es → RequestsObey (es ++ map Answer bs)
requests_answers es [] o = subst RequestsObey (sym (append-nil es)) o
requests_answers es (b ∷ bs) o =
    subst RequestsObey (append_assoc es (Answer b ∷ []) (map Answer bs)) (requests_answers (es ++ Answer b ∷ []) bs (requests_answer es b o))

pub responses_asks : {w : ℕ} (es : List (Event w)) (bs : List (BeatOf HeadA w)) → ResponsesObey es → ResponsesObey (es ++ map Ask bs)
responses_asks es [] o = subst ResponsesObey (sym (append-nil es)) o
responses_asks es (b ∷ bs) o =
    subst ResponsesObey (append_assoc es (Ask b ∷ []) (map Ask bs)) (responses_asks (es ++ Ask b ∷ []) bs (responses_ask es b o))

pub obeys_ask : {w : ℕ} (es : List (Event w)) (b : BeatOf HeadA w) → ObeysRules es → client_answer es b ≡ None → ObeysRules (es ++ Ask b ∷ [])
obeys_ask es b o fine = record { requests = requests_ask es b o.requests fine; responses = responses_ask es b o.responses }

pub obeys_answer : {w : ℕ} (es : List (Event w)) (b : BeatOf HeadD w) → ObeysRules es → manager_answer es b ≡ None → ObeysRules (es ++ Answer b ∷ [])
obeys_answer es b o fine = record { requests = requests_answer es b o.requests; responses = responses_answer es b o.responses fine }

-- ---- the meaning of the result None

no_fault : (o : Option BeatFault) (rest : Option SideFault) → option_map_or (λ x. Some (Beat x)) o rest ≡ None → o ≡ None
no_fault (Some x) rest e = cc
no_fault None rest e = refl

pub ask_fine : {w : ℕ} (es : List (Event w)) (b : BeatOf HeadA w) → client_answer es b ≡ None → fault_after rules_a (asked es) b ≡ None
ask_fine es b ok = no_fault (fault_after rules_a (asked es) b) _ ok

pub answer_fine : {w : ℕ} (es : List (Event w)) (b : BeatOf HeadD w) → manager_answer es b ≡ None → fault_after rules_d (answered es) b ≡ None
answer_fine es b ok = no_fault (fault_after rules_d (answered es) b) _ ok

-- a request that begins finds its source without one
pub ask_opens : {w : ℕ} (es : List (Event w)) (b : BeatOf HeadA w) → client_answer es b ≡ None → left rules_a w (asked es) ≡ 0 →
    open_request b.head.source (marks es) ≡ None
ask_opens es b ok e =
    some_not_none (open_request b.head.source (marks es))
    (client_first (fault_after rules_a (asked es) b) (is_some (open_request b.head.source (marks es)))
    (subst (λ x. option_map_or (λ x. Some (Beat x)) (fault_after rules_a (asked es) b)
    (cond (x == 0) (cond (is_some (open_request b.head.source (marks es))) (Some SourceBusy) None) None) ≡ None) e ok))

-- a response that begins finds its request, of its size
request_says : (o : Option HeadA) (h : HeadD) → to_request o h ≡ None → (q : HeadA) × (o ≡ Some q) × ((q.size == h.size) ≡ true)
request_says None h e = cc
request_says (Some q) h e = (q, refl, size_says (q.size == h.size) e)
  where
    size_says : (t : Bool) → cond t None (Some SizeMismatch) ≡ None → t ≡ true
    size_says true f = refl
    size_says false f = cc

answer_says : (o : Option BeatFault) (request : Option HeadA) (h : HeadD) (r : Bool) → r ≡ false →
    option_map_or (λ x. Some (Beat x)) o (cond true (cond r None (to_request request h)) None) ≡ None →
    to_request request h ≡ None
answer_says (Some x) request h r f e = cc
answer_says None request h true f e = cc
answer_says None request h false f e = e

pub answer_opens : {w : ℕ} (es : List (Event w)) (b : BeatOf HeadD w) → manager_answer es b ≡ None → left rules_d w (answered es) ≡ 0 →
    is_release_ack b.head ≡ false → (q : HeadA) × (open_request b.head.source (marks es) ≡ Some q) × ((q.size == b.head.size) ≡ true)
answer_opens es b ok e f =
    request_says (open_request b.head.source (marks es)) b.head
    (answer_says (fault_after rules_d (answered es) b) (open_request b.head.source (marks es)) b.head (is_release_ack b.head) f
    (subst (λ x. option_map_or (λ x. Some (Beat x)) (fault_after rules_d (answered es) b)
    (cond (x == 0) (cond (is_release_ack b.head) None (to_request (open_request b.head.source (marks es)) b.head)) None) ≡ None) e ok))

-- ---- requests and responses take turns

ordered_ask : {w : ℕ} (es : List (Event w)) (b : BeatOf HeadA w) (l : ℕ) → left rules_a w (asked es) ≡ l → client_answer es b ≡ None →
    Ordered (marks es) → Ordered (marks (es ++ Ask b ∷ []))
ordered_ask es b zero e ok o = rw (marks_ask_first 0 0 es b e) (ask (marks es) b.head o (ask_opens es b ok e))
ordered_ask es b (suc l) e ok o = rw (marks_ask_inside 0 0 l es b e) o

ordered_answer : {w : ℕ} (es : List (Event w)) (b : BeatOf HeadD w) (l : ℕ) (t : Bool) → left rules_d w (answered es) ≡ l →
    is_release_ack b.head ≡ t → manager_answer es b ≡ None → Ordered (marks es) → Ordered (marks (es ++ Answer b ∷ []))
ordered_answer es b (suc l) t e f ok o = rw (marks_answer_inside 0 0 l es b e) o
ordered_answer es b zero true e f ok o = rw (marks_answer_first 0 0 es b e) (answer (marks es) b.head o (inl f))
ordered_answer es b zero false e f ok o =
    rw (marks_answer_first 0 0 es b e)
    (answer (marks es) b.head o (inr (let q = answer_opens es b ok e f in (q.0, q.1))))

pub ordered : {w : ℕ} {es : List (Event w)} → Obeyed es → Ordered (marks es)
ordered silent = unmarked
ordered (with_ask es b o ok) = ordered_ask es b (left rules_a _ (asked es)) refl ok (ordered o)
ordered (with_answer es b o ok) = ordered_answer es b (left rules_d _ (answered es)) (is_release_ack b.head) refl refl ok (ordered o)

-- ---- each response has the size of its request

abbrev pub AreSized : List HeadA → List HeadD → Type 0
AreSized qs rs = (s k : ℕ) (h : HeadD) → slice_get (filter (is_response_to s) rs) k ≡ Some h →
    (q : HeadA) × (slice_get (filter (is_request_of s) qs) k ≡ Some q) × ((q.size == h.size) ≡ true)

last_one : {X : Type 0} (us : List X) (h x : X) (k : ℕ) → slice_get (us ++ h ∷ []) k ≡ Some x →
    (slice_get us k ≡ Some x) ⊎ ((k ≡ length us) × (h ≡ x))
last_one [] h x zero e = let f : h ≡ x = cc in inr (refl, f)
last_one [] h x (suc k) e = cc
last_one (u ∷ us) h x zero e = inl e
last_one (u ∷ us) h x (suc k) e = ⊎_elim (λ f. inl f) (λ (p : (k ≡ length us) × (h ≡ x)). inr (ap suc p.0, p.1)) (last_one us h x k e)

sized_more : (qs : List HeadA) (rs : List HeadD) (h : HeadD) → AreSized qs rs →
    ((s : ℕ) → is_response_to s h ≡ true → (q : HeadA) × (slice_get (filter (is_request_of s) qs) (responses_to s rs) ≡ Some q) ×
    ((q.size == h.size) ≡ true)) → AreSized qs (rs ++ h ∷ [])
sized_more qs rs h old new s k x e = by_test (is_response_to s h) refl
  where
    parts : filter (is_response_to s) (rs ++ h ∷ []) ≡ filter (is_response_to s) rs ++ cond (is_response_to s h) (h ∷ []) []
    parts = filter-append (is_response_to s) rs (h ∷ [])

    by_test : (t : Bool) → is_response_to s h ≡ t →
        (q : HeadA) × (slice_get (filter (is_request_of s) qs) k ≡ Some q) × ((q.size == x.size) ≡ true)
    by_test false f =
        let g : filter (is_response_to s) (rs ++ h ∷ []) ≡ filter (is_response_to s) rs =
        parts ∙ ap (λ b. filter (is_response_to s) rs ++ cond b (h ∷ []) []) f ∙ append-nil (filter (is_response_to s) rs) in
        old s k x (ap (λ xs. slice_get xs k) (sym g) ∙ e)
    by_test true f =
        let g : filter (is_response_to s) (rs ++ h ∷ []) ≡ filter (is_response_to s) rs ++ h ∷ [] =
        parts ∙ ap (λ b. filter (is_response_to s) rs ++ cond b (h ∷ []) []) f in
        ⊎_elim
        (λ here. old s k x here)
        (λ (p : (k ≡ length (filter (is_response_to s) rs)) × (h ≡ x)).
        let q = new s f in
        let l : length (filter (is_response_to s) rs) ≡ responses_to s rs = length-filter (is_response_to s) rs in
        (q.0, ap (λ n. slice_get (filter (is_request_of s) qs) n) (p.0 ∙ l) ∙ q.1, subst (λ y. (q.0.size == y.size) ≡ true) p.1 q.2))
        (last_one (filter (is_response_to s) rs) h x k (ap (λ xs. slice_get xs k) (sym g) ∙ e))

sized_ask : {w : ℕ} (es : List (Event w)) (b : BeatOf HeadA w) (l : ℕ) → left rules_a w (asked es) ≡ l →
    AreSized (asks (marks es)) (answers (marks es)) → AreSized (asks (marks (es ++ Ask b ∷ []))) (answers (marks (es ++ Ask b ∷ [])))
sized_ask es b zero e old =
    rw (marks_ask_first 0 0 es b e, asks_ask (marks es) b.head, answers_ask (marks es) b.head)
    (λ s k h f. let q = old s k h f in (q.0, nth_stays (is_request_of s) k q.0 (more (asks (marks es)) (b.head ∷ [])) q.1, q.2))
sized_ask es b (suc l) e old = rw (marks_ask_inside 0 0 l es b e) old

sized_answer : {w : ℕ} (es : List (Event w)) (b : BeatOf HeadD w) (l : ℕ) → left rules_d w (answered es) ≡ l → Ordered (marks es) →
    manager_answer es b ≡ None →
    AreSized (asks (marks es)) (answers (marks es)) → AreSized (asks (marks (es ++ Answer b ∷ []))) (answers (marks (es ++ Answer b ∷ [])))
sized_answer es b zero e o ok old =
    rw (marks_answer_first 0 0 es b e, asks_answer (marks es) b.head, answers_answer (marks es) b.head)
    (sized_more (asks (marks es)) (answers (marks es)) b.head old (λ s f.
    let r = response_source s b.head (is_release_ack b.head) refl f in
    let q = answer_opens es b ok e r.0 in
    let at : open_request s (marks es) ≡ Some q.0 = subst (λ x. open_request x (marks es) ≡ Some q.0) r.1 q.1 in
    (q.0, sym (matches o s).is ∙ at, q.2)))
sized_answer es b (suc l) e o ok old = rw (marks_answer_inside 0 0 l es b e) old

pub sized : {w : ℕ} {es : List (Event w)} → Obeyed es → AreSized (asks (marks es)) (answers (marks es))
sized silent = λ s k h e. absurd (cc)
sized (with_ask es b o ok) = sized_ask es b (left rules_a _ (asked es)) refl (sized o)
sized (with_answer es b o ok) = sized_answer es b (left rules_d _ (answered es)) refl (ordered o) ok (sized o)

-- ---- the heads of its beats determine where messages begin

pub read_a : {w : ℕ} (near : 0 < w) {es : List (Event w)} → Obeyed es → IsRead rules_a same_a w near (asked es)
read_a near silent = is-read-none rules_a same_a _ near
read_a near (with_ask es b o ok) = rw (asked_ask es b) (is-read-more rules_a same_a _ near (asked es) b (ask_fine es b ok) (read_a near o))
read_a near (with_answer es b o ok) = rw (asked_answer es b) (read_a near o)

pub read_d : {w : ℕ} (near : 0 < w) {es : List (Event w)} → Obeyed es → IsRead rules_d same_d w near (answered es)
read_d near silent = is-read-none rules_d same_d _ near
read_d near (with_ask es b o ok) = rw (answered_ask es b) (read_d near o)
read_d near (with_answer es b o ok) =
    rw (answered_answer es b) (is-read-more rules_d same_d _ near (answered es) b (answer_fine es b ok) (read_d near o))

pub obeys : {w : ℕ} {es : List (Event w)} → Obeyed es → ObeysRules es
obeys silent = obeys_none
obeys (with_ask es b o ok) = obeys_ask es b (obeys o) ok
obeys (with_answer es b o ok) = obeys_answer es b (obeys o) ok
