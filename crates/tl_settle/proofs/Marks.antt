-- The beats and the messages of a history with one event more.
use Rattle.tl_settle.proofs.Names.{◌≡◌, ◌-◌, ℕ, zero, suc, List, [], ◌∷◌, ◌++◌, refl, ap, rules_a, rules_d, HeadA, HeadD, BeatOf, Answer, Answers}
use Rattle.tl_settle.proofs.Names.{Ask, Asks, Event, answered, asked, marks_from, left_from, beats_of}

-- a history with one event more
pub asked_ask : {w : ℕ} (es : List (Event w)) (b : BeatOf HeadA w) → asked (es ++ Ask b ∷ []) ≡ asked es ++ b ∷ []
asked_ask [] b = refl
asked_ask (Ask x ∷ es) b = ap (λ q. x ∷ q) (asked_ask es b)
asked_ask (Answer x ∷ es) b = asked_ask es b

pub asked_answer : {w : ℕ} (es : List (Event w)) (b : BeatOf HeadD w) → asked (es ++ Answer b ∷ []) ≡ asked es
asked_answer [] b = refl
asked_answer (Ask x ∷ es) b = ap (λ q. x ∷ q) (asked_answer es b)
asked_answer (Answer x ∷ es) b = asked_answer es b

pub answered_ask : {w : ℕ} (es : List (Event w)) (b : BeatOf HeadA w) → answered (es ++ Ask b ∷ []) ≡ answered es
answered_ask [] b = refl
answered_ask (Ask x ∷ es) b = answered_ask es b
answered_ask (Answer x ∷ es) b = ap (λ q. x ∷ q) (answered_ask es b)

pub answered_answer : {w : ℕ} (es : List (Event w)) (b : BeatOf HeadD w) → answered (es ++ Answer b ∷ []) ≡ answered es ++ b ∷ []
answered_answer [] b = refl
answered_answer (Ask x ∷ es) b = answered_answer es b
answered_answer (Answer x ∷ es) b = ap (λ q. x ∷ q) (answered_answer es b)

-- its marks
pub marks_ask_first : {w : ℕ} (a d : ℕ) (es : List (Event w)) (b : BeatOf HeadA w) → left_from rules_a w a (asked es) ≡ 0 →
    marks_from a d (es ++ Ask b ∷ []) ≡ marks_from a d es ++ Asks b.head ∷ []
marks_ask_first zero d [] b e = refl
marks_ask_first (suc a) d [] b e = cc
marks_ask_first {w} zero d (Ask x ∷ es) b e = ap (λ q. Asks x.head ∷ q) (marks_ask_first (beats_of rules_a x.head w - 1) d es b e)
marks_ask_first (suc a) d (Ask x ∷ es) b e = marks_ask_first a d es b e
marks_ask_first {w} a zero (Answer x ∷ es) b e = ap (λ q. Answers x.head ∷ q) (marks_ask_first a (beats_of rules_d x.head w - 1) es b e)
marks_ask_first a (suc d) (Answer x ∷ es) b e = marks_ask_first a d es b e

pub marks_ask_inside : {w : ℕ} (a d l : ℕ) (es : List (Event w)) (b : BeatOf HeadA w) → left_from rules_a w a (asked es) ≡ suc l →
    marks_from a d (es ++ Ask b ∷ []) ≡ marks_from a d es
marks_ask_inside zero d l [] b e = cc
marks_ask_inside (suc a) d l [] b e = refl
marks_ask_inside {w} zero d l (Ask x ∷ es) b e = ap (λ q. Asks x.head ∷ q) (marks_ask_inside (beats_of rules_a x.head w - 1) d l es b e)
marks_ask_inside (suc a) d l (Ask x ∷ es) b e = marks_ask_inside a d l es b e
marks_ask_inside {w} a zero l (Answer x ∷ es) b e = ap (λ q. Answers x.head ∷ q) (marks_ask_inside a (beats_of rules_d x.head w - 1) l es b e)
marks_ask_inside a (suc d) l (Answer x ∷ es) b e = marks_ask_inside a d l es b e

pub marks_answer_first : {w : ℕ} (a d : ℕ) (es : List (Event w)) (b : BeatOf HeadD w) → left_from rules_d w d (answered es) ≡ 0 →
    marks_from a d (es ++ Answer b ∷ []) ≡ marks_from a d es ++ Answers b.head ∷ []
marks_answer_first a zero [] b e = refl
marks_answer_first a (suc d) [] b e = cc
marks_answer_first {w} zero d (Ask x ∷ es) b e = ap (λ q. Asks x.head ∷ q) (marks_answer_first (beats_of rules_a x.head w - 1) d es b e)
marks_answer_first (suc a) d (Ask x ∷ es) b e = marks_answer_first a d es b e
marks_answer_first {w} a zero (Answer x ∷ es) b e = ap (λ q. Answers x.head ∷ q) (marks_answer_first a (beats_of rules_d x.head w - 1) es b e)
marks_answer_first a (suc d) (Answer x ∷ es) b e = marks_answer_first a d es b e

pub marks_answer_inside : {w : ℕ} (a d l : ℕ) (es : List (Event w)) (b : BeatOf HeadD w) → left_from rules_d w d (answered es) ≡ suc l →
    marks_from a d (es ++ Answer b ∷ []) ≡ marks_from a d es
marks_answer_inside a zero l [] b e = cc
marks_answer_inside a (suc d) l [] b e = refl
marks_answer_inside {w} zero d l (Ask x ∷ es) b e = ap (λ q. Asks x.head ∷ q) (marks_answer_inside (beats_of rules_a x.head w - 1) d l es b e)
marks_answer_inside (suc a) d l (Ask x ∷ es) b e = marks_answer_inside a d l es b e
marks_answer_inside {w} a zero l (Answer x ∷ es) b e = ap (λ q. Answers x.head ∷ q) (marks_answer_inside a (beats_of rules_d x.head w - 1) l es b e)
marks_answer_inside a (suc d) l (Answer x ∷ es) b e = marks_answer_inside a d l es b e
