-- The open request of a source by the order of a history, and by counts.
use Rattle.tl_settle.proofs.Names.{◌≡◌, ◌≤◌, ◌<◌, ◌-◌, ℕ, zero, suc, Bool, true, false, cond, Option, None, Some, List, [], ◌∷◌, ◌++◌, length, refl}
use Rattle.tl_settle.proofs.Names.{sym, ap, subst, ◌∙◌, arith, zero-le, ⊎_elim, append-nil, nat_tests, slice_get_within, slice_get_past}
use Rattle.tl_settle.proofs.Names.{length-filter, ◌==◌, ◌&&◌, not, slice_get, filter, rules_a, rules_d, HeadA, HeadD, count_by-append, none_past}
use Rattle.tl_settle.proofs.Names.{true_equal, Answer, Answers, Ask, Asks, Event, Mark, answered, asked, marks_from, open_after, open_from}
use Rattle.tl_settle.proofs.Names.{open_request, is_release_ack, is_request_of, is_response_to, partner, requests_of, responses_to, heads_from}
use Rattle.tl_settle.proofs.Names.{beats_of}
use Rattle.std.proofs.lemmas.List.Elements.{filter-append}
use Rattle.tl_settle.proofs.Orders.{Ordered, answer, answers, ask, asks, unmarked}

-- the marks of a history are the messages that begin in its two lists
pub asks_heads : {w : ℕ} (a d : ℕ) (es : List (Event w)) → asks (marks_from a d es) ≡ heads_from rules_a w a (asked es)
asks_heads a d [] = refl
asks_heads {w} zero d (Ask b ∷ es) = ap (λ q. b.head ∷ q) (asks_heads (beats_of rules_a b.head w - 1) d es)
asks_heads (suc a) d (Ask b ∷ es) = asks_heads a d es
asks_heads {w} a zero (Answer b ∷ es) = asks_heads a (beats_of rules_d b.head w - 1) es
asks_heads a (suc d) (Answer b ∷ es) = asks_heads a d es

pub answers_heads : {w : ℕ} (a d : ℕ) (es : List (Event w)) → answers (marks_from a d es) ≡ heads_from rules_d w d (answered es)
answers_heads a d [] = refl
answers_heads {w} zero d (Ask b ∷ es) = answers_heads (beats_of rules_a b.head w - 1) d es
answers_heads (suc a) d (Ask b ∷ es) = answers_heads a d es
answers_heads {w} a zero (Answer b ∷ es) = ap (λ q. b.head ∷ q) (answers_heads a (beats_of rules_d b.head w - 1) es)
answers_heads a (suc d) (Answer b ∷ es) = answers_heads a d es

-- one more mark
pub open_more : (s : ℕ) (o : Option HeadA) (ms : List Mark) (m : Mark) → open_from s o (ms ++ m ∷ []) ≡ open_after s (open_from s o ms) m
open_more s o [] m = refl
open_more s o (x ∷ ms) m = open_more s (open_after s o x) ms m

pub asks_ask : (ms : List Mark) (h : HeadA) → asks (ms ++ Asks h ∷ []) ≡ asks ms ++ h ∷ []
asks_ask [] h = refl
asks_ask (Asks x ∷ ms) h = ap (λ q. x ∷ q) (asks_ask ms h)
asks_ask (Answers x ∷ ms) h = asks_ask ms h

pub asks_answer : (ms : List Mark) (h : HeadD) → asks (ms ++ Answers h ∷ []) ≡ asks ms
asks_answer [] h = refl
asks_answer (Asks x ∷ ms) h = ap (λ q. x ∷ q) (asks_answer ms h)
asks_answer (Answers x ∷ ms) h = asks_answer ms h

pub answers_ask : (ms : List Mark) (h : HeadA) → answers (ms ++ Asks h ∷ []) ≡ answers ms
answers_ask [] h = refl
answers_ask (Asks x ∷ ms) h = answers_ask ms h
answers_ask (Answers x ∷ ms) h = ap (λ q. x ∷ q) (answers_ask ms h)

pub answers_answer : (ms : List Mark) (h : HeadD) → answers (ms ++ Answers h ∷ []) ≡ answers ms ++ h ∷ []
answers_answer [] h = refl
answers_answer (Asks x ∷ ms) h = answers_answer ms h
answers_answer (Answers x ∷ ms) h = ap (λ q. x ∷ q) (answers_answer ms h)

pub at_end : {X : Type 0} (xs : List X) (x : X) (k : ℕ) → length xs ≡ k → slice_get (xs ++ x ∷ []) k ≡ Some x
at_end [] x zero e = refl
at_end [] x (suc k) e = absurd (omega arith)
at_end (y ∷ xs) x zero e = absurd (omega arith)
at_end (y ∷ xs) x (suc k) e = at_end xs x k (omega arith)

-- The outstanding request at s is the one whose number is the number of responses so far; there are as many responses
-- as requests, or one less.
pub record Match (o : Option HeadA) (qs : List HeadA) (rs : List HeadD) (s : ℕ) : Type 0 where
  pub is : o ≡ partner qs rs s
  pub low : responses_to s rs ≤ requests_of s qs
  pub high : requests_of s qs ≤ suc (responses_to s rs)

match_ask : (s : ℕ) (o : Option HeadA) (qs : List HeadA) (rs : List HeadD) (h : HeadA) (t : Bool) → is_request_of s h ≡ t → Match o qs rs s →
    (t ≡ true → o ≡ None) → Match (cond t (Some h) o) (qs ++ h ∷ []) rs s
match_ask s o qs rs h true e m free =
    let f : slice_get (filter (is_request_of s) qs) (responses_to s rs) ≡ None = sym m.is ∙ free refl in
    let n : length (filter (is_request_of s) qs) ≤ responses_to s rs = none_past (filter (is_request_of s) qs) (responses_to s rs) f in
    let c : length (filter (is_request_of s) qs) ≡ requests_of s qs = length-filter (is_request_of s) qs in
    let l = m.low in
    let g : filter (is_request_of s) (qs ++ h ∷ []) ≡ filter (is_request_of s) qs ++ h ∷ [] =
    filter-append (is_request_of s) qs (h ∷ []) ∙ ap (λ b. filter (is_request_of s) qs ++ cond b (h ∷ []) []) e in
    let a = count_by-append (is_request_of s) qs (h ∷ []) in
    let u : ◌≡◌ {A = ℕ} (cond (is_request_of s h) 1 0) 1 = ap (λ b. cond b 1 0) e in
    record {
      is = sym (ap (λ xs. slice_get xs (responses_to s rs)) g ∙
          at_end (filter (is_request_of s) qs) h (responses_to s rs) (omega arith));
      low = omega arith;
      high = omega arith;
    }
match_ask s o qs rs h false e m free =
    let g : filter (is_request_of s) (qs ++ h ∷ []) ≡ filter (is_request_of s) qs =
    filter-append (is_request_of s) qs (h ∷ []) ∙ ap (λ b. filter (is_request_of s) qs ++ cond b (h ∷ []) []) e ∙
    append-nil (filter (is_request_of s) qs) in
    let a = count_by-append (is_request_of s) qs (h ∷ []) in
    let u : ◌≡◌ {A = ℕ} (cond (is_request_of s h) 1 0) 0 = ap (λ b. cond b 1 0) e in
    let l = m.low in
    let k = m.high in
    record { is = m.is ∙ sym (ap (λ xs. slice_get xs (responses_to s rs)) g); low = omega arith; high = omega arith }

match_answer : (s : ℕ) (o : Option HeadA) (qs : List HeadA) (rs : List HeadD) (h : HeadD) (t : Bool) → is_response_to s h ≡ t → Match o qs rs s →
    (t ≡ true → (q : HeadA) × (o ≡ Some q)) → Match (cond t None o) qs (rs ++ h ∷ []) s
match_answer s o qs rs h true e m some =
    let q = some refl in
    let f : slice_get (filter (is_request_of s) qs) (responses_to s rs) ≡ Some q.0 = sym m.is ∙ q.1 in
    let n : responses_to s rs < length (filter (is_request_of s) qs) =
    slice_get_within (filter (is_request_of s) qs) (responses_to s rs) q.0 f in
    let c : length (filter (is_request_of s) qs) ≡ requests_of s qs = length-filter (is_request_of s) qs in
    let a = count_by-append (is_response_to s) rs (h ∷ []) in
    let u : ◌≡◌ {A = ℕ} (cond (is_response_to s h) 1 0) 1 = ap (λ b. cond b 1 0) e in
    let k = m.high in
    record {
      is = sym (slice_get_past (filter (is_request_of s) qs) (responses_to s (rs ++ h ∷ [])) (omega arith));
      low = omega arith;
      high = omega arith;
    }
match_answer s o qs rs h false e m some =
    let a = count_by-append (is_response_to s) rs (h ∷ []) in
    let u : ◌≡◌ {A = ℕ} (cond (is_response_to s h) 1 0) 0 = ap (λ b. cond b 1 0) e in
    let n : responses_to s (rs ++ h ∷ []) ≡ responses_to s rs = omega arith in
    let l = m.low in
    let k = m.high in
    record { is = m.is ∙ sym (ap (λ x. slice_get (filter (is_request_of s) qs) x) n); low = omega arith; high = omega arith }

is_source : (s : ℕ) (h : HeadA) → is_request_of s h ≡ true → h.source ≡ s
is_source s h e = grind (arith, nat_tests)

-- a response to s has that source, and is no ReleaseAck
pub response_source : (s : ℕ) (h : HeadD) (t : Bool) → is_release_ack h ≡ t → is_response_to s h ≡ true → (t ≡ false) × (h.source ≡ s)
response_source s h true e r = absurd (let f : false ≡ true = ap (λ b. not b && (h.source == s)) (sym e) ∙ r in cc)
response_source s h false e r =
    let f : (h.source == s) ≡ true = ap (λ b. not b && (h.source == s)) (sym e) ∙ r in
    (refl, true_equal h.source s f)

pub matches : {ms : List Mark} → Ordered ms → (s : ℕ) → Match (open_request s ms) (asks ms) (answers ms) s
matches unmarked s = record { is = refl; low = zero-le; high = zero-le }
matches (ask ms h o free) s =
    rw (open_more s None ms (Asks h), asks_ask ms h, answers_ask ms h)
    (match_ask s (open_request s ms) (asks ms) (answers ms) h (is_request_of s h) refl (matches o s)
    (λ e. subst (λ x. open_request x ms ≡ None) (is_source s h e) free))
matches (answer ms h o opened) s =
    rw (open_more s None ms (Answers h), asks_answer ms h, answers_answer ms h)
    (match_answer s (open_request s ms) (asks ms) (answers ms) h (is_response_to s h) refl (matches o s)
    (λ e.
    let r = response_source s h (is_release_ack h) refl e in
    ⊎_elim (λ ack. absurd (let f : true ≡ false = sym ack ∙ r.0 in cc))
    (λ (p : (q : HeadA) × (open_request h.source ms ≡ Some q)). (p.0, subst (λ x. open_request x ms ≡ Some p.0) r.1 p.1))
    opened))
