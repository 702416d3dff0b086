-- The lines of far beats, as they are written while the beats come.
use Rattle.tl_answer.proofs.Names.{◌≡◌, ◌++◌, ◌∷◌, ℕ, List, [], refl, sym, ap, ◌∙◌, append_assoc, Form, Result, IfOk, subst, false, Beats, far_beats}
use Rattle.tl_answer.proofs.Names.{verdicts, far_header, far_lines, taken, report, HasLines, spelled, text_of, TextFault}
use Rattle.tl_msg.specs.declared.verdict.Verdict.{Verdict}
use Rattle.tl_run.specs.declared.outcome.Outcome.{Outcome}
use Rattle.tl_answer.specs.declared.far_text.FarTexts.{FarTexts}
use Rattle.tl_answer.specs.declared.parts.AnswerParts.{AnswerParts}
use Rattle.std.proofs.lemmas.Grind.{flat_map-append}
use Rattle.tl_msg.specs.declared.beat.BeatOf.{BeatOf}
use Rattle.tl_trace.specs.Lines.{line_text, beats_text}

module _ {H : Type 0} (f : Form H) (w : ℕ) where
  -- the lines of two lists
  lines-joined : (xs ys : List (BeatOf H w)) → beats_text f w (xs ++ ys) ≡ beats_text f w xs ++ beats_text f w ys
  lines-joined xs ys = flat_map-append (λ b. line_text f w b ++ 10 ∷ []) xs ys

  -- the lines of more beats, after those of a list
  pub lines-more : (before after : List ℕ) (xs more : List (BeatOf H w)) → before ≡ beats_text f w xs → after ≡ before ++ beats_text f w more →
      after ≡ beats_text f w (xs ++ more)
  lines-more before after xs more is on = on ∙ ap (λ q. q ++ beats_text f w more) is ∙ sym (lines-joined xs more)

  -- the same after a start
  pub lines-on : (start before after : List ℕ) (xs more : List (BeatOf H w)) → before ≡ start ++ beats_text f w xs →
      after ≡ before ++ beats_text f w more → after ≡ start ++ beats_text f w (xs ++ more)
  lines-on start before after xs more is on =
      on ∙ ap (λ q. q ++ beats_text f w more) is ∙ append_assoc start (beats_text f w xs) (beats_text f w more) ∙ ap (λ q. start ++ q)
      (sym (lines-joined xs more))

-- five texts after another one
five-behind : (t a b c d e : List ℕ) → t ++ a ++ b ++ c ++ d ++ e ≡ t ++ (a ++ b ++ c ++ d ++ e)
five-behind t a b c d e =
    ap (λ q. q ++ e) (ap (λ q. q ++ d) (ap (λ q. q ++ c) (append_assoc t a b) ∙ append_assoc t (a ++ b) c) ∙ append_assoc t (a ++ b ++ c) d) ∙
    append_assoc t (a ++ b ++ c ++ d) e

-- four texts that equal these, appended to another one
pub four-put : (a b c d e b' c' d' e' t1 t2 t3 t4 : List ℕ) → b' ≡ b → c' ≡ c → d' ≡ d → e' ≡ e → t1 ≡ a ++ b' → t2 ≡ t1 ++ c' → t3 ≡ t2 ++ d' →
    t4 ≡ t3 ++ e' → t4 ≡ a ++ b ++ c ++ d ++ e
four-put a b c d e b' c' d' e' t1 t2 t3 t4 is_b is_c is_d is_e put_b put_c put_d put_e = rw (put_e, put_d, put_c, put_b, is_e, is_d, is_c, is_b) refl

-- five texts, each of which has these lines, the first after a start and the last before an end
pub all-spelled : (start a b c d e end : List ℕ) (a' b' c' d' e' e'' : List ℕ) → a' ≡ start ++ a → b' ≡ b → c' ≡ c → d' ≡ d → e' ≡ e →
    e'' ≡ e' ++ end →
    a' ++ b' ++ c' ++ d' ++ e'' ≡ start ++ (a ++ b ++ c ++ d ++ e) ++ end
all-spelled start a b c d e end a' b' c' d' e' e'' in_a in_b in_c in_d in_e behind =
    rw (behind, in_a, in_b, in_c, in_d, in_e) (sym (append_assoc (start ++ a ++ b ++ c ++ d) e end) ∙ ap (λ q. q ++ end)
    (five-behind start a b c d e))

-- far beats that are those that a run took
pub taken-of : {C M : ℕ} (far : Beats M C) (outcome : Outcome C M) → far.a ≡ outcome.a.items → far.b ≡ outcome.b.items → far.c ≡ outcome.c.items →
    far.d ≡ outcome.d.items → far.e ≡ outcome.e.items → far ≡ taken outcome
taken-of far outcome a b c d e = rw (sym a) (rw (sym b) (rw (sym c) (rw (sym d) (rw (sym e) refl))))

-- the lines of all far beats of near beats, with their verdicts, are the answer to the near beats
pub answer-is : {C M : ℕ} (made : Result AnswerParts TextFault) (texts far : FarTexts) (version : ℕ) (near : Beats C M) (found : List Verdict) →
    texts ≡ far → far.version ≡ version → found ≡ verdicts near → HasLines far (far_beats near) →
    ((beats : Beats M C) → HasLines texts beats →
    IfOk made (λ made. spelled made ≡ far_header texts.version C M ++ far_lines texts.version beats ++ report found)) →
    IfOk made (λ made. spelled made ≡ text_of version near false)
answer-is {C} {M} made texts far version near found same of_version are has is =
    let in_texts = is (far_beats near) (subst (λ t. HasLines t (far_beats near)) (sym same) has) in
    let in_version = subst (λ v. IfOk made (λ made. spelled made ≡ far_header v C M ++ far_lines v (far_beats near) ++ report found))
    (ap (λ t. t.version) same ∙ of_version) in_texts in
    subst (λ vs. IfOk made (λ made. spelled made ≡ far_header version C M ++ far_lines version (far_beats near) ++ report vs)) are in_version
