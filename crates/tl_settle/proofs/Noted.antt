-- The record of one more event in a book.
use Rattle.tl_settle.proofs.Names.{◌≡◌, ◌==◌, ℕ, zero, suc, Bool, List, [], ◌∷◌, ◌++◌, refl, sym, ap, ◌∙◌}
use Rattle.tl_settle.proofs.Names.{rules_a, rules_d, HeadA, HeadD, BeatOf, left, Event, Ask, Answer, Asks, Answers, asked, answered, marks}
use Rattle.tl_settle.proofs.Names.{equal_true, not_equal}
use Rattle.tl_settle.proofs.Marks.{marks_ask_first, marks_ask_inside, marks_answer_first, marks_answer_inside}
use Rattle.tl_settle.specs.Inner.Noting.{begun_with}

-- the messages of a history with one event more
pub marks_ask : {w : ℕ} (es : List (Event w)) (b : BeatOf HeadA w) →
    marks (es ++ Ask b ∷ []) ≡ begun_with (left rules_a w (asked es) == 0) (Asks b.head) (marks es)
marks_ask {w} es b = by_left (left rules_a w (asked es)) refl
  where
    by_left : (n : ℕ) → left rules_a w (asked es) ≡ n →
        marks (es ++ Ask b ∷ []) ≡ begun_with (left rules_a w (asked es) == 0) (Asks b.head) (marks es)
    by_left zero e = marks_ask_first 0 0 es b e ∙ ap (λ t. begun_with t (Asks b.head) (marks es)) (sym (equal_true (left rules_a w (asked es)) 0 e))
    by_left (suc n) e =
        marks_ask_inside 0 0 n es b e ∙
        ap (λ t. begun_with t (Asks b.head) (marks es)) (sym (not_equal (left rules_a w (asked es)) 0 (λ z. absurd (cc (z, e)))))

pub marks_answer : {w : ℕ} (es : List (Event w)) (b : BeatOf HeadD w) →
    marks (es ++ Answer b ∷ []) ≡ begun_with (left rules_d w (answered es) == 0) (Answers b.head) (marks es)
marks_answer {w} es b = by_left (left rules_d w (answered es)) refl
  where
    by_left : (n : ℕ) → left rules_d w (answered es) ≡ n →
        marks (es ++ Answer b ∷ []) ≡ begun_with (left rules_d w (answered es) == 0) (Answers b.head) (marks es)
    by_left zero e = marks_answer_first 0 0 es b e ∙
        ap (λ t. begun_with t (Answers b.head) (marks es)) (sym (equal_true (left rules_d w (answered es)) 0 e))
    by_left (suc n) e =
        marks_answer_inside 0 0 n es b e ∙
        ap (λ t. begun_with t (Answers b.head) (marks es)) (sym (not_equal (left rules_d w (answered es)) 0 (λ z. absurd (cc (z, e)))))

-- the record of a side for an event is the one of its history, if `seen` are the beats of that channel
pub noted_ask : {w : ℕ} (es : List (Event w)) (b : BeatOf HeadA w) (seen : List (BeatOf HeadA w)) (first : Bool) → asked es ≡ seen →
    first ≡ (left rules_a w seen == 0) → begun_with first (Asks b.head) (marks es) ≡ marks (es ++ Ask b ∷ [])
noted_ask {w} es b seen first same opens =
    ap (λ t. begun_with t (Asks b.head) (marks es)) (opens ∙ ap (λ q. left rules_a w q == 0) (sym same)) ∙ sym (marks_ask es b)

pub noted_answer : {w : ℕ} (es : List (Event w)) (b : BeatOf HeadD w) (seen : List (BeatOf HeadD w)) (first : Bool) → answered es ≡ seen →
    first ≡ (left rules_d w seen == 0) → begun_with first (Answers b.head) (marks es) ≡ marks (es ++ Answer b ∷ [])
noted_answer {w} es b seen first same opens =
    ap (λ t. begun_with t (Answers b.head) (marks es)) (opens ∙ ap (λ q. left rules_d w q == 0) (sym same)) ∙ sym (marks_answer es b)
