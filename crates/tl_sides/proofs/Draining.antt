-- A side takes all beats of an inbox, one after another.
use Rattle.std.proofs.Common.{◌≡◌, ℕ, ◌+◌, ◌<◌, List, [], ◌∷◌, ◌++◌, length, take, map, sym, ap, ◌∙◌, get_or, append-nil, append_assoc}
use Rattle.std.proofs.lemmas.List.{take_more}
use Rattle.tl_sides.proofs.Words.{HeadA, HeadD, BeatOf, Event, Ask, Answer, asked, answered, asked_ask, answered_answer}

-- the beats that a side took are the last of its history
pub answered-all : {w : ℕ} (es : List (Event w)) (bs : List (BeatOf HeadD w)) → answered (es ++ map Answer bs) ≡ answered es ++ bs
answered-all es [] = ap answered (append-nil es) ∙ sym (append-nil (answered es))
answered-all es (b ∷ bs) =
    ap answered (sym (append_assoc es (Answer b ∷ []) (map Answer bs))) ∙ answered-all (es ++ Answer b ∷ []) bs ∙
    ap (λ q. q ++ bs) (answered_answer es b) ∙
    append_assoc (answered es) (b ∷ []) bs

pub asked-all : {w : ℕ} (es : List (Event w)) (bs : List (BeatOf HeadA w)) → asked (es ++ map Ask bs) ≡ asked es ++ bs
asked-all es [] = ap asked (append-nil es) ∙ sym (append-nil (asked es))
asked-all es (b ∷ bs) =
    ap asked (sym (append_assoc es (Ask b ∷ []) (map Ask bs))) ∙ asked-all (es ++ Ask b ∷ []) bs ∙ ap (λ q. q ++ bs) (asked_ask es b) ∙
    append_assoc (asked es) (b ∷ []) bs

-- the first beats of a list, and one more
pub next-taken : {B : Type 0} (bs : List B) (i : ℕ) (b : B) → i < length bs → b ≡ get_or bs i b → take (i + 1) bs ≡ take i bs ++ b ∷ []
next-taken bs i b lt is = take_more bs i b lt ∙ ap (λ y. take i bs ++ y ∷ []) (sym is)
