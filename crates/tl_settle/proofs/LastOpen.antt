-- The open request of a source is the last message of the source that began.
use Rattle.tl_settle.proofs.Names.{◌≡◌, ℕ, Bool, true, false, cond, Option, None, Some, List, [], ◌∷◌, ◌++◌, ◌⊎◌, inl, inr, refl, sym, ap, ◌∙◌}
use Rattle.tl_settle.proofs.Names.{⊎_elim, ◌&&◌, not, list_all, is_some, HeadA, HeadD, Answers, Asks, Mark, open_after, open_from, open_request}
use Rattle.tl_settle.proofs.Names.{is_request_of, is_response_to, not-true, and_parts, same_Some}
use Rattle.tl_settle.specs.Laws.{is_of, answers_to, IsOpenRequest, IsBusy}

open_over : (s : ℕ) (o : Option HeadA) (xs ys : List Mark) → open_from s o (xs ++ ys) ≡ open_from s (open_from s o xs) ys
open_over s o [] ys = refl
open_over s o (x ∷ xs) ys = open_over s (open_after s o x) xs ys

-- messages of other sources leave an open request as it is
rests : (s : ℕ) (o : Option HeadA) (ms : List Mark) → list_all (λ m. not (is_of s m)) ms ≡ true → open_from s o ms ≡ o
rests s o [] e = refl
rests s o (Asks h ∷ ms) e =
    let other = not-true (is_request_of s h) (and_parts (not (is_request_of s h)) (list_all (λ m. not (is_of s m)) ms) e).0 in
    ap (λ b. open_from s (cond b (Some h) o) ms) other ∙ rests s o ms (and_parts (not (is_request_of s h)) (list_all (λ m. not (is_of s m)) ms) e).1
rests s o (Answers h ∷ ms) e =
    let other = not-true (is_response_to s h) (and_parts (not (is_response_to s h)) (list_all (λ m. not (is_of s m)) ms) e).0 in
    ap (λ b. open_from s (cond b None o) ms) other ∙ rests s o ms (and_parts (not (is_response_to s h)) (list_all (λ m. not (is_of s m)) ms) e).1

pub last_is_open : (s : ℕ) (ms : List Mark) (h : HeadA) → IsOpenRequest s ms h → open_request s ms ≡ Some h
last_is_open s ms h i =
    ap (λ q. open_from s None q) i.parts ∙ open_over s None i.before (Asks h ∷ i.after) ∙
    ap (λ b. open_from s (cond b (Some h) (open_from s None i.before)) i.after) i.is_its ∙ rests s (Some h) i.after i.is_last

-- if a request is outstanding, it is the last of its source that began, or it was outstanding before, and none of its
-- source began
abbrev Found : (s : ℕ) (o : Option HeadA) (ms : List Mark) (h : HeadA) → Type 0
Found s o ms h = IsOpenRequest s ms h ⊎ ((o ≡ Some h) × (list_all (λ m. not (is_of s m)) ms ≡ true))

by_request : (s : ℕ) (o : Option HeadA) (g : HeadA) (ms : List Mark) (h : HeadA) (b : Bool) → is_request_of s g ≡ b →
    cond b (Some g) o ≡ Some h → list_all (λ m. not (is_of s m)) ms ≡ true → Found s o (Asks g ∷ ms) h
by_request s o g ms h true is e rest = inl (record {
  before = [];
  after = ms;
  parts = ap (λ q. Asks q ∷ ms) (same_Some g h e);
  is_its = ap (λ q. is_request_of s q) (sym (same_Some g h e)) ∙ is;
  is_last = rest;
})
by_request s o g ms h false is e rest = inr (e, ap (λ q. not q && list_all (λ m. not (is_of s m)) ms) is ∙ rest)

by_response : (s : ℕ) (o : Option HeadA) (g : HeadD) (ms : List Mark) (h : HeadA) (b : Bool) → is_response_to s g ≡ b →
    cond b None o ≡ Some h → list_all (λ m. not (is_of s m)) ms ≡ true → Found s o (Answers g ∷ ms) h
by_response s o g ms h true is e rest = let f : None ≡ Some h = e in cc
by_response s o g ms h false is e rest = inr (e, ap (λ q. not q && list_all (λ m. not (is_of s m)) ms) is ∙ rest)

one_more : (s : ℕ) (m : Mark) (ms : List Mark) (h : HeadA) → IsOpenRequest s ms h → IsOpenRequest s (m ∷ ms) h
one_more s m ms h i = record {
  before = m ∷ i.before;
  after = i.after;
  parts = ap (λ q. m ∷ q) i.parts;
  is_its = i.is_its;
  is_last = i.is_last;
}

found : (s : ℕ) (o : Option HeadA) (ms : List Mark) (h : HeadA) → open_from s o ms ≡ Some h → Found s o ms h
found s o [] h e = inr (e, refl)
found s o (Asks g ∷ ms) h e =
    ⊎_elim (λ i. inl (one_more s (Asks g) ms h i)) (λ p. by_request s o g ms h (is_request_of s g) refl p.0 p.1)
    (found s (open_after s o (Asks g)) ms h e)
found s o (Answers g ∷ ms) h e =
    ⊎_elim (λ i. inl (one_more s (Answers g) ms h i)) (λ p. by_response s o g ms h (is_response_to s g) refl p.0 p.1)
    (found s (open_after s o (Answers g)) ms h e)

pub open_is_last : (s : ℕ) (ms : List Mark) (h : HeadA) → open_request s ms ≡ Some h → IsOpenRequest s ms h
open_is_last s ms h e = ⊎_elim (λ i. i) (λ p. let f : None ≡ Some h = p.0 in cc) (found s None ms h e)

-- a message that is of no source responds to none
no_answer : (s : ℕ) (ms : List Mark) → list_all (λ m. not (is_of s m)) ms ≡ true → list_all (λ m. not (answers_to s m)) ms ≡ true
no_answer s [] e = refl
no_answer s (Asks h ∷ ms) e = no_answer s ms (and_parts (not (is_request_of s h)) (list_all (λ m. not (is_of s m)) ms) e).1
no_answer s (Answers h ∷ ms) e =
    ap (λ q. q && list_all (λ m. not (answers_to s m)) ms) (and_parts (not (is_response_to s h)) (list_all (λ m. not (is_of s m)) ms) e).0 ∙
    no_answer s ms (and_parts (not (is_response_to s h)) (list_all (λ m. not (is_of s m)) ms) e).1

some_cond : (b : Bool) (h : HeadA) (o : Option HeadA) → is_some o ≡ true → is_some (cond b (Some h) o) ≡ true
some_cond true h o e = refl
some_cond false h o e = e

-- an outstanding request stays if no response of its source begins
stays : (s : ℕ) (o : Option HeadA) (ms : List Mark) → is_some o ≡ true → list_all (λ m. not (answers_to s m)) ms ≡ true →
    is_some (open_from s o ms) ≡ true
stays s o [] is e = is
stays s o (Asks h ∷ ms) is e = stays s (cond (is_request_of s h) (Some h) o) ms (some_cond (is_request_of s h) h o is) e
stays s o (Answers h ∷ ms) is e =
    let other = not-true (is_response_to s h) (and_parts (not (is_response_to s h)) (list_all (λ m. not (answers_to s m)) ms) e).0 in
    ap (λ b. is_some (open_from s (cond b None o) ms)) other ∙
    stays s o ms is (and_parts (not (is_response_to s h)) (list_all (λ m. not (answers_to s m)) ms) e).1

pub unanswered_is_busy : (s : ℕ) (ms : List Mark) → IsBusy s ms → is_some (open_request s ms) ≡ true
unanswered_is_busy s ms i =
    ap (λ q. is_some (open_from s None q)) i.parts ∙ ap (λ q. is_some q) (open_over s None i.before (Asks i.request ∷ i.after)) ∙
    ap (λ b. is_some (open_from s (cond b (Some i.request) (open_from s None i.before)) i.after)) i.is_its ∙
    stays s (Some i.request) i.after refl i.unanswered

busy_at : (s : ℕ) (ms : List Mark) (o : Option HeadA) → open_request s ms ≡ o → is_some o ≡ true → IsBusy s ms
busy_at s ms None e is = let f : false ≡ true = is in cc
busy_at s ms (Some h) e is = let i = open_is_last s ms h e in record {
  request = h;
  before = i.before;
  after = i.after;
  parts = i.parts;
  is_its = i.is_its;
  unanswered = no_answer s i.after i.is_last;
}

pub busy_is_unanswered : (s : ℕ) (ms : List Mark) → is_some (open_request s ms) ≡ true → IsBusy s ms
busy_is_unanswered s ms is = busy_at s ms (open_request s ms) refl is
