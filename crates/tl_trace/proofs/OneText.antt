-- Each trace has exactly one text.
use Rattle.tl_trace.proofs.Names.{◌≡◌, ℕ, true, List, [], ◌∷◌, ◌++◌, refl, ap, ◌∙◌, lit≤, list_all, and_parts, form_a, form_b, form_c, form_d, form_e}
use Rattle.tl_trace.proofs.Names.{newline, header_text, SaysLine, is_kept_line, text_of_line, IsTrace, TellsLines, Tells, lines_text, trace_text}
use Rattle.tl_trace.proofs.Names.{Line, A, B, C, D, E}
use Rattle.tl_trace.proofs.Spelling.{only_line, is_line}
use Rattle.tl_trace.proofs.Shaped.{kept_parts}

pub says_only : (version client manager : ℕ) (line : Line) (text : List ℕ) → SaysLine version client manager line text
    → text ≡ text_of_line version client manager line
says_only version client manager (A b) text says = only_line (form_a version) client b text says
says_only version client manager (B b) text says = only_line (form_b version) manager b text says
says_only version client manager (C b) text says = only_line (form_c version) client b text says
says_only version client manager (D b) text says = only_line (form_d version) manager b text says
says_only version client manager (E b) text says = only_line (form_e version) client b text says

pub says_it : (version client manager : ℕ) (line : Line) → is_kept_line version client manager line ≡ true
    → SaysLine version client manager line (text_of_line version client manager line)
says_it version client manager (A b) kept = is_line (form_a version) (lit≤ tt) client b (kept_parts (form_a version) client b kept).1
says_it version client manager (B b) kept = is_line (form_b version) (lit≤ tt) manager b (kept_parts (form_b version) manager b kept).1
says_it version client manager (C b) kept = is_line (form_c version) (lit≤ tt) client b (kept_parts (form_c version) client b kept).1
says_it version client manager (D b) kept = is_line (form_d version) (lit≤ tt) manager b (kept_parts (form_d version) manager b kept).1
says_it version client manager (E b) kept = is_line (form_e version) (lit≤ tt) client b (kept_parts (form_e version) client b kept).1

pub lines_only : (version client manager : ℕ) (lines : List Line) (text : List ℕ) → TellsLines version client manager lines text
    → text ≡ lines_text version client manager lines
lines_only version client manager [] text told = told
lines_only version client manager (line ∷ lines) text told =
    let body = told.0 in
    let rest = told.1 in
    told.2 ∙ ap (λ (xs : List ℕ). xs ++ newline ++ rest) (says_only version client manager line body told.3)
    ∙ ap (λ (xs : List ℕ). text_of_line version client manager line ++ newline ++ xs) (lines_only version client manager lines rest told.4)

pub lines_told : (version client manager : ℕ) (lines : List Line) → list_all (is_kept_line version client manager) lines ≡ true
    → TellsLines version client manager lines (lines_text version client manager lines)
lines_told version client manager [] kept = refl
lines_told version client manager (line ∷ lines) kept =
    let here =
    says_it version client manager line
    (and_parts (is_kept_line version client manager line) (list_all (is_kept_line version client manager) lines) kept).0 in
    let rest =
    lines_told version client manager lines
    (and_parts (is_kept_line version client manager line) (list_all (is_kept_line version client manager) lines) kept).1 in
    (text_of_line version client manager line, lines_text version client manager lines, refl, here, rest)

pub text_only : (version client manager : ℕ) (lines : List Line) (text : List ℕ) → Tells text version client manager lines
    → text ≡ trace_text version client manager lines
text_only version client manager lines text tells =
    tells.header
    ∙ ap (λ (xs : List ℕ). header_text version client manager ++ newline ++ xs) (lines_only version client manager lines tells.rest tells.told)

pub text_told : (version client manager : ℕ) (lines : List Line) (text : List ℕ) → IsTrace version client manager lines
    → text ≡ trace_text version client manager lines → Tells text version client manager lines
text_told version client manager lines text trace e =
    record { trace = trace; rest = lines_text version client manager lines; header = e; told = lines_told version client manager lines trace.kept }
