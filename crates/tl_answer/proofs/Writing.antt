-- The effect of writing an answer.
use Rattle.std.specs.Prelude.{OnErr}
use Rattle.tl_stream.specs.Outputs.{AppendsPart}
use Rattle.tl_answer.proofs.Names.{◌∙◌}
use Rattle.tl_answer.proofs.Names.{Result, Ok, Err, IfSome, IfOk, OnOk, IfErr, ◌≡◌, ℕ, Bool, List, ◌++◌, Option}
use Rattle.tl_answer.proofs.Names.{None, Some, false, refl, sym, ap, subst, append_assoc, Appends-trans, Appends, Keeps}
use Rattle.tl_answer.proofs.Names.{AnswersRead, spelled, AnswersText, IsAnswer, TextFault}
use Rattle.tl_order.specs.Orders.{is_check, is_sync}
use Rattle.tl_order.specs.declared.Order.{Order}
use Rattle.tl_order.specs.declared.Order.TheVariants.{Run, Check}
use Rattle.tl_stream.specs.declared.fault.TextFault.TheVariants as faults
use Rattle.tl_answer.specs.declared.parts.AnswerParts.{AnswerParts}

-- two texts, two more after them, and one more
pub five-out : (w0 w1 w2 w3 : Option (List ℕ)) (a b c d e : List ℕ) → Appends w0 w1 (a ++ b) → Appends w1 w2 (c ++ d) → Appends w2 w3 e →
    Appends w0 w3 (a ++ b ++ c ++ d ++ e)
five-out w0 w1 w2 w3 a b c d e to_b to_d to_e =
    subst (Appends w0 w3) (ap (λ q. q ++ e) (sym (append_assoc (a ++ b) c d)))
    (Appends-trans w0 w2 w3 (a ++ b ++ (c ++ d)) e (Appends-trans w0 w1 w2 (a ++ b) (c ++ d) to_b to_d) to_e)

-- the first bytes of a text, with more after it; and of a second text, once the first one is out
pub begun-first : {held holds : Option (List ℕ)} (text more : List ℕ) → AppendsPart held holds text → AppendsPart held holds (text ++ more)
begun-first text more b = record {
  part = b.part;
  rest = b.rest ++ more;
  whole = ap (λ q. q ++ more) b.whole ∙ append_assoc b.part b.rest more;
  appended = b.appended;
}

pub begun-second : {w0 w1 w2 : Option (List ℕ)} (text more : List ℕ) → Appends w0 w1 text → AppendsPart w1 w2 more → AppendsPart w0 w2 (text ++ more)
begun-second {w0} {w1} {w2} text more out b = record {
  part = text ++ b.part;
  rest = b.rest;
  whole = ap (λ q. text ++ q) b.whole ∙ sym (append_assoc text b.part b.rest);
  appended = Appends-trans w0 w1 w2 text b.part out b.appended;
}

pub begun-both : {E : Type 0} (w0 w1 w2 : Option (List ℕ)) (text more : List ℕ) (r : Result (Unit {0}) E) → Appends w0 w1 text →
    OnErr r (AppendsPart w1 w2 more) → OnErr r (AppendsPart w0 w2 (text ++ more))
begun-both w0 w1 w2 text more (Ok done) out b = tt
begun-both w0 w1 w2 text more (Err fault) out b = begun-second text more out b

-- the first bytes of five texts: of the first two, of the next two, or of the last one
module _ (a b c d e : List ℕ) where
  pub begun-ab : {w0 w1 : Option (List ℕ)} → AppendsPart w0 w1 (a ++ b) → AppendsPart w0 w1 (a ++ b ++ c ++ d ++ e)
  begun-ab p = begun-first (a ++ b ++ c ++ d) e (begun-first (a ++ b ++ c) d (begun-first (a ++ b) c p))

  pub begun-cd : {w0 w1 w2 : Option (List ℕ)} → Appends w0 w1 (a ++ b) → AppendsPart w1 w2 (c ++ d) → AppendsPart w0 w2 (a ++ b ++ c ++ d ++ e)
  begun-cd {w0} {w1} {w2} ab p = begun-first (a ++ b ++ c ++ d) e
      (subst (AppendsPart w0 w2) (sym (append_assoc (a ++ b) c d)) (begun-second (a ++ b) (c ++ d) ab p))

  pub begun-e : {w0 : Option (List ℕ)} (w1 : Option (List ℕ)) {w2 w3 : Option (List ℕ)} → Appends w0 w1 (a ++ b) → Appends w1 w2 (c ++ d) → AppendsPart w2 w3 e → AppendsPart w0 w3 (a ++ b ++ c ++ d ++ e)
  begun-e {w0} w1 {w2} ab cd p = begun-second (a ++ b ++ c ++ d) e
      (subst (Appends w0 w2) (sym (append_assoc (a ++ b) c d)) (Appends-trans w0 w1 w2 (a ++ b) (c ++ d) ab cd)) p

-- whatever holds, holds of an error
pub on-err : {T E P : Type 0} (r : Result T E) → P → OnErr r P
on-err (Ok done) p = tt
on-err (Err fault) p = p

keeps-itself : (held : Option (List ℕ)) → Keeps held held
keeps-itself None = tt
keeps-itself (Some text) = refl

-- a run in two threads is no check
pub no-check : (order : Order) → is_sync order ≡ false → is_check order ≡ false
no-check (Run ring turns sync) threads = refl
no-check Check threads = absurd (let bad = threads in cc)

-- a text without an answer, if nothing was written
pub unwritten : (unread left held : Option (List ℕ)) (order : Order) (fault : TextFault) → AnswersRead unread left order (Err fault) →
    AnswersText unread left held held order (Err fault)
unwritten unread left held order (faults.Trace fault) read = (read.0, keeps-itself held, read.1, read.2)
unwritten unread left held order faults.Stalled read = read
unwritten unread left held order faults.Read read = keeps-itself held
unwritten unread left held order faults.Write read = absurd read
unwritten unread left held order faults.TooLong read = (keeps-itself held, read)
unwritten unread left held order faults.OutOfMemory read = keeps-itself held

-- the text that was written is the answer, or the first bytes of it
pub written : (unread left held holds : Option (List ℕ)) (order : Order) (made : AnswerParts) (result : Result Bool TextFault) →
    AnswersRead unread left order (Ok made)
    → OnOk result (Appends held holds (spelled made)) → OnErr result (AppendsPart held holds (spelled made)) →
    IfOk result (λ done. done ≡ made.all_done) → IfErr result (λ fault. fault ≡ faults.Write) → AnswersText unread left held holds order result
written unread left held holds order made (Err fault) read out part done kind =
    subst (λ f. AnswersText unread left held holds order (Err f)) (sym kind) (read.0, begun unread read.1)
  where
    begun : (u : Option (List ℕ)) → IfSome u (λ text. IsAnswer text (is_check order) (spelled made) made.all_done)
        → IfSome u (λ text. (bytes : List ℕ) × (all_done : Bool) × IsAnswer text (is_check order) bytes all_done × AppendsPart held holds bytes)
    begun None is = tt
    begun (Some text) is = (spelled made, made.all_done, is, part)
written unread left held holds order made (Ok all_done) read out part done kind = (read.0, answer unread read.1)
  where
    answer : (u : Option (List ℕ)) → IfSome u (λ text. IsAnswer text (is_check order) (spelled made) made.all_done)
        → IfSome u (λ text. (bytes : List ℕ) × IsAnswer text (is_check order) bytes all_done × Appends held holds bytes)
    answer None is = tt
    answer (Some text) is = (spelled made, subst (λ d. IsAnswer text (is_check order) (spelled made) d) (sym done) is, out)
