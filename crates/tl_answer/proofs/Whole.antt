-- The result of reading a text incrementally is a result of the whole text.
use Rattle.tl_answer.proofs.Names.{IfSome, IfOk, IfErr, IsOfText, ◌≡◌, ℕ, ◌-◌, ◌<◌, ◌≤◌, Bool, true, false, nat_eq, ◌||◌, List, [], ◌∷◌, ◌++◌}
use Rattle.tl_answer.proofs.Names.{length, Option, None, Some, Result, Ok, Err, refl, sym, ap, ◌∙◌, subst, arith, length-append, or_parts}
use Rattle.tl_answer.proofs.Names.{eqb-true, list_any, Consumes, IsAtEnd, is_newline, body, header_of, IsFirstFault, Header, IsFresh, IsRefused}
use Rattle.tl_answer.proofs.Names.{held, unread_of, ReadsAnswer, spelled, IsAnswer, most_bytes, TextFault, Input}
use Rattle.tl_trace.specs.declared.fault.TraceFault.{TraceFault}
use Rattle.tl_trace.specs.declared.fault.TraceKind.TheVariants as kinds
use Rattle.tl_stream.specs.declared.fault.TextFault.TheVariants as faults
use Rattle.tl_answer.specs.declared.answer.Answer.{Answer}
use Rattle.tl_answer.specs.declared.parts.AnswerParts.{AnswerParts}
use Rattle.tl_stream.specs.Inputs.{HasTaken}
use Rattle.tl_stream.proofs.Between.{held_size, of_text, of_whole}
use Rattle.tl_answer.proofs.Headers.{no_header}
use Rattle.tl_stream.proofs.ToRead.{header_short, unlike}

-- an answer to the text that was read is one to the text that the reader had
pub reads_answer : (unread left : Option (List ℕ)) (check : Bool) (input : Input) (text : List ℕ) → Consumes unread left text → IsAtEnd left →
    length text ≤ most_bytes → (given : Result AnswerParts TextFault)
    → IfOk given (λ made. IsAnswer text check (spelled made) made.all_done) → IfErr given (λ fault. fault ≡ faults.OutOfMemory) →
    ReadsAnswer unread left check input given
reads_answer unread left check input text took end few (Ok made) is none = record {
  end = end;
  few = of_whole (λ t. length t ≤ most_bytes) unread left text took end few;
  answer = of_whole (λ t. IsAnswer t check (spelled made) made.all_done) unread left text took end is;
}
reads_answer unread left check input text took end few (Err fault) is none = subst (IsRefused unread left input) (sym none) tt

-- ---- a text without a header

body_ended : (bytes more : List ℕ) → list_any is_newline bytes ≡ true → body (bytes ++ more) ≡ body bytes
body_ended [] more ends = absurd cc
body_ended (byte ∷ bytes) more ends = pick (is_newline byte) refl ends (body_ended bytes more)
  where
    pick : (b : Bool) → is_newline byte ≡ b → b || list_any is_newline bytes ≡ true →
        (list_any is_newline bytes ≡ true → body (bytes ++ more) ≡ body bytes) → body (byte ∷ bytes ++ more) ≡ body (byte ∷ bytes)
    pick true e ends rest = rw e refl
    pick false e ends rest = rw e (ap (λ (xs : List ℕ). byte ∷ xs) (rest ends))

body_free : (bytes more : List ℕ) → list_any is_newline bytes ≡ false → body (bytes ++ more) ≡ bytes ++ body more
body_free [] more free = refl
body_free (byte ∷ bytes) more free =
    let parts = or_parts (is_newline byte) (list_any is_newline bytes) free in free_more parts.0 (body_free bytes more parts.1)
  where
    free_more : is_newline byte ≡ false → body (bytes ++ more) ≡ bytes ++ body more → body (byte ∷ bytes ++ more) ≡ byte ∷ bytes ++ body more
    free_more other rest = rw other (ap (λ (xs : List ℕ). byte ∷ xs) rest)

long_none : (text : List ℕ) → 64 < length text → header_of text ≡ None
long_none text long = pick (header_of text) refl
  where
    pick : (o : Option Header) → header_of text ≡ o → header_of text ≡ None
    pick None e = e
    pick (Some h) e = let short = header_short text h e in absurd (omega (arith, short, long))

header_missing : (left : Option (List ℕ)) (input : Input) → IsFresh left input → header_of (body (held input)) ≡ None →
    IfSome (unread_of input left) (λ text. IsFirstFault text 1 kinds.Header)
header_missing left input fresh none = pick (list_any is_newline (held input)) refl (nat_eq input.to (length input.buffer.items)) refl
  where
    P : List ℕ → Type 0
    P text = IsFirstFault text 1 kinds.Header

    size : length (held input) ≡ input.to - input.from
    size = held_size input fresh.taken.from fresh.taken.to

    pick : (ends : Bool) → list_any is_newline (held input) ≡ ends → (full : Bool) → nat_eq input.to (length input.buffer.items) ≡ full →
        IfSome (unread_of input left) P
    pick true e full is = of_text P (unread_of input left) left (held input) fresh.taken.took
        (λ more. no_header (held input ++ more) (ap header_of (body_ended (held input) more e) ∙ none))
    pick false e false is = of_whole P (unread_of input left) left (held input) fresh.taken.took
        (fresh.taken.end (unlike input.to (length input.buffer.items) is)) (no_header (held input) none)
    pick false e true is = of_text P (unread_of input left) left (held input) fresh.taken.took (λ more.
        let room = fresh.taken.room in
        let first = fresh.first in
        let whole = eqb-true input.to (length input.buffer.items) is in
        let sum = length-append (held input) (body more) in
        let long : 64 < length (held input ++ body more) = omega (arith, room, first, whole, sum, size) in
        no_header (held input ++ more) (ap header_of (body_free (held input) more e) ∙ long_none (held input ++ body more) long))

-- the fault of a text whose first piece has no header
pub header_refused : (left : Option (List ℕ)) (input : Input) → IsFresh left input → (bytes : List ℕ) → bytes ≡ held input → (fault : TextFault) →
    (fault ≡ faults.Trace (record { line = 1; kind = kinds.Header })) × (header_of (body bytes) ≡ None) →
    IsRefused (unread_of input left) left input fault
header_refused left input fresh bytes same fault none = subst (IsRefused (unread_of input left) left input) (sym none.0)
    (([], fresh.taken), λ p. absurd cc, header_missing left input fresh (ap (λ text. header_of (body text)) (sym same) ∙ none.1))

-- ---- a text in memory

-- its first piece was read, and nothing of it is used
pub slice_fresh : (text left : List ℕ) (input : Input) → HasTaken (Some text) (Some left) [] input → input.from ≡ 0 → IsFresh (Some left) input
slice_fresh text left input taken first = record { taken = rw (ap Some (sym taken.took)) taken; first = first }

module _ (text left : List ℕ) (input : Input) (taken : HasTaken (Some text) (Some left) [] input) (after : Input) (rest : Option (List ℕ)) where
  -- the answer to it
  pub slice_answered : (check : Bool) (parts : AnswerParts) → ReadsAnswer (unread_of input (Some left)) rest check after (Ok parts) →
      (given : Result Answer TextFault) → IfOk given (λ made. made.text.items ≡ spelled parts) → IfOk given (λ made. made.all_done ≡ parts.all_done) →
      IfOk given (λ made. IsAnswer text check made.text.items made.all_done)
  slice_answered check parts read (Err fault) text_is done_is = tt
  slice_answered check parts read (Ok made) text_is done_is = rw (text_is, done_is, taken.took) read.answer

  -- and its first fault
  pub slice_refused : (fault : TraceFault) (given : TextFault) → given ≡ faults.Trace fault → IsRefused (unread_of input (Some left)) rest after given →
      IsOfText text (faults.Trace fault)
  slice_refused fault given is read =
      let refused = subst (IsRefused (unread_of input (Some left)) rest after) is read in (refused.1, rw taken.took refused.2)
