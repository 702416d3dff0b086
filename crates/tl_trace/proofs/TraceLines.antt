-- A trace as it is written, line by line.
use Rattle.tl_trace.proofs.Names.{◌≡◌, ◌≤◌, ◌<◌, ◌+◌, ◌++◌, ℕ, List, [], ◌∷◌, length, take, sym, ap, ◌∙◌, append_assoc, append-nil, flat_map-append}
use Rattle.tl_trace.proofs.Names.{take_more, take_all, Line, header_text, newline, text_of_line, lines_text, trace_text}
use Rattle.std.proofs.Math.ListN.{get_or}

module _ (version client manager : ℕ) (lines : List Line) where
  -- the header and the first lines
  pub record IsWritten (out : List ℕ) (i : ℕ) : Type 0 where
    pub text : out ≡ header_text version client manager ++ newline ++ lines_text version client manager (take i lines)

  pub written_none : (header before behind out : List ℕ) → header ≡ header_text version client manager → before ≡ [] → behind ≡ before ++ header
      → out ≡ behind ++ 10 ∷ [] → IsWritten out 0
  written_none header before behind out is none first last =
      record {
        text = last ∙ ap (λ (xs : List ℕ). xs ++ newline) (first ∙ ap (λ (xs : List ℕ). xs ++ header) none ∙ is) ∙
            sym (append-nil (header_text version client manager ++ newline));
      }

  pub written_more : (xs : List Line) (i : ℕ) (d : Line) (line out new : List ℕ) → i < length xs → xs ≡ lines →
      line ≡ text_of_line version client manager (get_or xs i d) ++ newline → new ≡ out ++ line → IsWritten out i → IsWritten new (i + 1)
  written_more xs i d line out new less same is added far = record {
    text =
        added ∙ ap (λ (ys : List ℕ). ys ++ line) far.text ∙
        append_assoc (header_text version client manager ++ newline) (lines_text version client manager (take i lines)) line ∙
        ap (λ (ys : List ℕ). header_text version client manager ++ newline ++ ys)
        (ap (λ (ys : List ℕ). lines_text version client manager (take i lines) ++ ys) (is ∙ sym (append-nil (text (get_or xs i d)))) ∙
        sym (flat_map-append text (take i lines) (get_or xs i d ∷ [])) ∙ ap (lines_text version client manager) (sym here));
  }
    where
      text : Line → List ℕ
      text x = text_of_line version client manager x ++ newline

      here : take (i + 1) lines ≡ take i lines ++ get_or xs i d ∷ []
      here = ap (take (i + 1)) (sym same) ∙ take_more xs i d less ∙ ap (λ (ys : List Line). take i ys ++ get_or xs i d ∷ []) same

  pub written_all : (xs : List Line) (out : List ℕ) (i : ℕ) → xs ≡ lines → length xs ≤ i → IsWritten out i
      → out ≡ trace_text version client manager lines
  written_all xs out i same past far =
      far.text
      ∙ ap (λ (ys : List Line). header_text version client manager ++ newline ++ lines_text version client manager ys)
      (ap (take i) (sym same) ∙ take_all i xs past ∙ same)
