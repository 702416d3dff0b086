-- The outcome of a run determines the answer.
use Rattle.tl_answer.proofs.Names.{Result, Ok, Err, IfOk, ◌≡◌, ℕ, Bool, true, false, List, [], ◌∷◌, ◌++◌, length, refl, sym, ap, ◌∙◌}
use Rattle.tl_answer.proofs.Names.{append-nil, append_assoc, arith, list_all, Beats, far_beats, verdicts, EndsIn, near_beats, Tells, IsScriptOf}
use Rattle.tl_answer.proofs.Names.{Script, Line, far_header, far_lines, near, taken, report, is_done, text_of, IsAnswer, TextFault}
use Rattle.tl_msg.specs.declared.verdict.Verdict.{Verdict}
use Rattle.tl_run.specs.declared.outcome.Outcome.{Outcome}

-- the far beats that a run took are those of its script
taken-is : {C M : ℕ} (bs : Beats C M) (outcome : Outcome C M) → EndsIn bs outcome → taken outcome ≡ far_beats bs
taken-is bs outcome h = rw h.far_a (rw h.far_b (rw h.far_c (rw h.far_d (rw h.far_e refl))))

-- the near beats of a trace's script are those of its lines
pub near-is : {C M : ℕ} (lines : List Line) (s : Script C M) → IsScriptOf lines s → near_beats s ≡ near C M lines
near-is lines s is = rw is.a (rw is.b (rw is.c (rw is.d (rw is.e refl))))

-- an answer without far beats is that of a check
pub without-far : {C M : ℕ} (version : ℕ) (bs : Beats C M) → far_header version C M ++ report (verdicts bs) ≡ text_of version bs true
without-far {C} {M} version bs = ap (λ line. line ++ report (verdicts bs)) (sym (append-nil (far_header version C M)))

-- an answer by what a run took is that of its script
pub of-run : {C M : ℕ} (version : ℕ) (bs : Beats C M) (outcome : Outcome C M) → EndsIn bs outcome →
    far_header version C M ++ far_lines version (taken outcome) ++ report outcome.verdicts ≡ text_of version bs false
of-run {C} {M} version bs outcome h =
    ap (λ far. far_header version C M ++ far_lines version far ++ report outcome.verdicts) (taken-is bs outcome h) ∙
    ap (λ vs. far_header version C M ++ far_lines version (far_beats bs) ++ report vs) h.verdicts_are

-- the text written for the near beats of a trace is the answer to the text of that trace
module _ (version C M : ℕ) (lines : List Line) (text : List ℕ) (told : Tells text version C M lines) where
  pub script-text : (bs : Beats C M) → bs ≡ near C M lines → (check : Bool) → (answer : List ℕ) → answer ≡ text_of version bs check →
      (done : Bool) → done ≡ list_all is_done (verdicts bs) → IsAnswer text check answer done
  script-text bs same check answer text-is done done-is = record {
    version = version;
    client = C;
    manager = M;
    lines = lines;
    told = told;
    answered = text-is ∙ ap (λ q. text_of version q check) same;
    all_done = done-is ∙ ap (λ q. list_all is_done (verdicts q)) same;
  }

  -- the same for a check, whose answer has only the verdicts
  pub checks-text : (ended : List Verdict) → ended ≡ verdicts (near C M lines) →
      (answer : List ℕ) → answer ≡ far_header version C M ++ report ended →
      (done : Bool) → done ≡ list_all is_done ended → IsAnswer text true answer done
  checks-text ended are answer text-is done done-is =
      script-text (near C M lines) refl true answer
      (text-is ∙ ap (λ vs. far_header version C M ++ report vs) are ∙ without-far version (near C M lines))
      done (done-is ∙ ap (λ vs. list_all is_done vs) are)

-- five texts, one after another
pub lines-behind : (o0 o1 o2 o3 o4 o5 a b c d e : List ℕ) → o1 ≡ o0 ++ a → o2 ≡ o1 ++ b → o3 ≡ o2 ++ c → o4 ≡ o3 ++ d → o5 ≡ o4 ++ e →
    o5 ≡ o0 ++ (a ++ b ++ c ++ d ++ e)
lines-behind o0 o1 o2 o3 o4 o5 a b c d e p q r s t = rw t (rw s (rw r (rw q (rw p (simp append_assoc)))))

-- a text followed by the report of five verdicts
pub with-report : (vs : List Verdict) → length vs ≡ 5 → (before after : List ℕ) →
    ((a b c d e : Verdict) → vs ≡ a ∷ b ∷ c ∷ d ∷ e ∷ [] → after ≡ before ++ report (a ∷ b ∷ c ∷ d ∷ e ∷ [])) → after ≡ before ++ report vs
with-report (a ∷ b ∷ c ∷ d ∷ e ∷ []) five before after is = is a b c d e refl
with-report [] five before after is = absurd (omega arith)
with-report (a ∷ []) five before after is = absurd (omega arith)
with-report (a ∷ b ∷ []) five before after is = absurd (omega arith)
with-report (a ∷ b ∷ c ∷ []) five before after is = absurd (omega arith)
with-report (a ∷ b ∷ c ∷ d ∷ []) five before after is = absurd (omega arith)
with-report (a ∷ b ∷ c ∷ d ∷ e ∷ f ∷ more) five before after is = absurd (omega arith)

-- a property that follows from two clauses of a result
pub of-both : {X : Type 0} (P Q R : X → Type 0) → ((made : X) → P made → Q made → R made) → (given : Result X TextFault) →
    IfOk given P → IfOk given Q → IfOk given R
of-both P Q R follows (Ok made) p q = follows made p q
of-both P Q R follows (Err fault) p q = tt
