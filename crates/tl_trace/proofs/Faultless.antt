-- The text of a trace has no fault.
use Rattle.tl_trace.proofs.Names.{◌≡◌, ℕ, zero, suc, ◌+◌, Bool, true, false, cond, ◌&&◌, ◌||◌, List, [], ◌∷◌, ◌++◌, length, map, replicate, Option}
use Rattle.tl_trace.proofs.Names.{None, Some, is_none, refl, sym, ap, ◌∙◌, append_assoc, append-nil, add-one, decimal, codes, find, ◌==◌, list_all}
use Rattle.tl_trace.proofs.Names.{list_any, eqb-true, or_from, and_parts, list_any-append, versions, widths, is_version, is_width, newline}
use Rattle.tl_trace.proofs.Names.{header_text, SaysLine, is_kept_line, TellsLines, Tells, is_newline, cut, headers, header_of, is_header_of}
use Rattle.tl_trace.proofs.Names.{body_fault, later_fault, faults_after, faults_of_lines, faults, is_readable, TraceKind, Header, Line, A, B, C, D, E}
use Rattle.std.proofs.lemmas.Slice.Eq.{bytes_eq-Decides}
use Rattle.tl_trace.proofs.ReadLines.{IsFree, cut_line, body_line, ended, read_as_a, read_as_b, read_as_c, read_as_d, read_as_e}
use Rattle.tl_trace.proofs.Walk.{later_line}
use Rattle.tl_trace.proofs.Headers.{header, is_header, known}
use Rattle.tl_trace.proofs.Cover.{says_free}
use Rattle.tl_trace.proofs.OneTrace.{in_list, no_newline, no_newline_in_version, same_header}

-- ---- the header

both_free : (xs ys : List ℕ) → IsFree xs → IsFree ys → IsFree (xs ++ ys)
both_free xs ys x y = list_any-append is_newline xs ys ∙ or_from (list_any is_newline xs) (list_any is_newline ys) x y

header_free : (version client manager : ℕ) → is_version version ≡ true → is_width version client ≡ true → is_width version manager ≡ true
    → IsFree (header_text version client manager)
header_free version client manager v c m =
    let a = codes "tilelink-trace " ++ decimal version in
    let b = a ++ codes " client " ++ decimal client in
    both_free (b ++ codes " manager ") (decimal manager) (both_free b (codes " manager ")
    (both_free (a ++ codes " client ") (decimal client)
    (both_free a (codes " client ") (both_free (codes "tilelink-trace ") (decimal version) refl (no_newline_in_version version v)) refl)
    (no_newline version client c)) refl)
    (no_newline version manager m)

abbrev is_it : (version client manager : ℕ) → Header → Bool
is_it version client manager h = (version == h.version) && ((client == h.client) && (manager == h.manager))

listed : (version client manager : ℕ) → is_version version ≡ true → is_width version client ≡ true → is_width version manager ≡ true
    → list_any (is_it version client manager) headers ≡ true
listed version client manager v c m =
    in_list (λ n. list_any (is_it version client n) headers) (widths version) manager m
    (in_list (λ n. list_all (λ k. list_any (is_it version n k) headers) (widths version)) (widths version) client c
    (in_list (λ v. list_all (λ n. list_all (λ k. list_any (is_it v n k) headers) (widths v)) (widths v)) versions version v refl))

found_some : (p q : Header → Bool) (xs : List Header) → list_any q xs ≡ true → ((x : Header) → q x ≡ true → p x ≡ true)
    → (x : Header) × (find p xs ≡ Some x)
found_some p q [] e h = absurd cc
found_some p q (y ∷ xs) e h = pick (p y) refl (q y) refl e (found_some p q xs)
  where
    pick : (b : Bool) → p y ≡ b → (c : Bool) → q y ≡ c → q y || list_any q xs ≡ true
        → (list_any q xs ≡ true → ((x : Header) → q x ≡ true → p x ≡ true) → (x : Header) × (find p xs ≡ Some x))
        → (x : Header) × (cond (p y) (Some y) (find p xs) ≡ Some x)
    pick true here c there e more = (y, ap (λ (b : Bool). cond b (Some y) (find p xs)) here)
    pick false here true there e more = absurd (let bad = sym here ∙ h y there in cc)
    pick false here false there e more =
        let rest = more (ap (λ (b : Bool). b || list_any q xs) (sym there) ∙ e) h in
        (rest.0, ap (λ (b : Bool). cond b (Some y) (find p xs)) here ∙ rest.1)

named : (version client manager : ℕ) (h : Header) → is_it version client manager h ≡ true → is_header_of (header_text version client manager) h ≡ true
named version client manager h e =
    let first = and_parts (version == h.version) ((client == h.client) && (manager == h.manager)) e in
    let v = eqb-true version h.version first.0 in
    let c = eqb-true client h.client (and_parts (client == h.client) (manager == h.manager) first.1).0 in
    let m = eqb-true manager h.manager (and_parts (client == h.client) (manager == h.manager) first.1).1 in
    let there = header_text h.version h.client h.manager in
    let same : header_text version client manager ≡ there =
    ap (λ (n : ℕ). header_text n client manager) v ∙ ap (λ (n : ℕ). header_text h.version n manager) c
    ∙ ap (λ (n : ℕ). header_text h.version h.client n) m in
    (bytes_eq-Decides (header_text version client manager) there).1 same

pub header_names : (version client manager : ℕ) → is_version version ≡ true → is_width version client ≡ true → is_width version manager ≡ true
    → header_of (header_text version client manager) ≡ Some (header version client manager)
unfolding header_of
header_names version client manager v c m =
    let text = header_text version client manager in
    let some =
    found_some (is_header_of text) (is_it version client manager) headers (listed version client manager v c m) (named version client manager) in
    let h = some.0 in
    let is = is_header text h some.1 in
    let all = known text h some.1 in
    let same =
    same_header version client manager h.version h.client h.manager [] [] v c m all.0 all.1 all.2 (ap (λ (t : List ℕ). t ++ newline ++ []) is) in
    some.1 ∙ ap (λ (n : ℕ). Some (header n h.client h.manager)) (sym same.versions)
    ∙ ap (λ (n : ℕ). Some (header version n h.manager)) (sym same.clients) ∙ ap (λ (n : ℕ). Some (header version client n)) (sym same.managers)

-- ---- the lines

says_faultless : (version client manager : ℕ) (line : Line) (text : List ℕ) → is_kept_line version client manager line ≡ true
    → SaysLine version client manager line text → body_fault version client manager text ≡ None
says_faultless version client manager (A b) text kept says = (read_as_a version client manager text b (record { line = says; kept = kept })).faultless
says_faultless version client manager (B b) text kept says = (read_as_b version client manager text b (record { line = says; kept = kept })).faultless
says_faultless version client manager (C b) text kept says = (read_as_c version client manager text b (record { line = says; kept = kept })).faultless
says_faultless version client manager (D b) text kept says = (read_as_d version client manager text b (record { line = says; kept = kept })).faultless
says_faultless version client manager (E b) text kept says = (read_as_e version client manager text b (record { line = says; kept = kept })).faultless

lines_faults : (version client manager : ℕ) (lines : List Line) (text more : List ℕ) → list_all (is_kept_line version client manager) lines ≡ true
    → TellsLines version client manager lines text
    → map (later_fault version client manager) (cut (text ++ more)) ≡ replicate (length lines) None ++
    map (later_fault version client manager) (cut more)
lines_faults version client manager [] text more kept told = ap (λ (t : List ℕ). map (later_fault version client manager) (cut (t ++ more))) told
lines_faults version client manager (line ∷ lines) text more kept told =
    let body = told.0 in
    let rest = told.1 in
    let free = says_free version client manager line body told.3 in
    let fault : later_fault version client manager (body ++ newline) ≡ None =
    later_line version client manager body free
    ∙ says_faultless version client manager line body
    (and_parts (is_kept_line version client manager line) (list_all (is_kept_line version client manager) lines) kept).0 told.3 in
    let later =
    lines_faults version client manager lines rest more
    (and_parts (is_kept_line version client manager line) (list_all (is_kept_line version client manager) lines) kept).1 told.4 in
    let whole : text ++ more ≡ body ++ newline ++ (rest ++ more) = ap (λ (t : List ℕ). t ++ more) told.2 ∙ append_assoc (body ++ newline) rest more in
    ap (λ (t : List ℕ). map (later_fault version client manager) (cut t)) whole
    ∙ ap (λ (ls : List (List ℕ)). map (later_fault version client manager) ls) (cut_line body (rest ++ more) free)
    ∙ ap (λ (o : Option TraceKind). o ∷ map (later_fault version client manager) (cut (rest ++ more))) fault
    ∙ ap (λ (os : List (Option TraceKind)). None ∷ os) later

-- the text of a trace, and more text after it: the lines of the trace have no fault
pub text_faults : (text more : List ℕ) (version client manager : ℕ) (lines : List Line) → Tells text version client manager lines
    → faults (text ++ more) ≡ replicate (length lines + 1) None ++ map (later_fault version client manager) (cut more)
text_faults text more version client manager lines t =
    let first = header_text version client manager in
    let later = map (later_fault version client manager) (cut more) in
    let free = header_free version client manager t.trace.known_version t.trace.client_width t.trace.manager_width in
    let whole : text ++ more ≡ first ++ newline ++ (t.rest ++ more) =
    ap (λ (xs : List ℕ). xs ++ more) t.header ∙ append_assoc (first ++ newline) t.rest more in
    ap faults whole ∙ ap faults_of_lines (cut_line first (t.rest ++ more) free)
    ∙ ap (λ (o : Option Header). faults_after o (first ++ newline) (cut (t.rest ++ more))) (ap header_of (body_line first free) ∙
    header_names version client manager t.trace.known_version t.trace.client_width t.trace.manager_width)
    ∙ ap (λ (o : Option TraceKind). o ∷ map (later_fault version client manager) (cut (t.rest ++ more))) (ended first)
    ∙ ap (λ (os : List (Option TraceKind)). None ∷ os) (lines_faults version client manager lines t.rest more t.trace.kept t.told)
    ∙ ap (λ (n : ℕ). replicate n None ++ later) (sym (add-one (length lines)))

all_none : (n : ℕ) → list_all (is_none {T = TraceKind}) (replicate n None ++ []) ≡ true
all_none zero = refl
all_none (suc n) = all_none n

pub no_fault : (text : List ℕ) (version client manager : ℕ) (lines : List Line) → Tells text version client manager lines → is_readable text ≡ true
no_fault text version client manager lines t =
    ap (λ (xs : List ℕ). is_readable xs) (sym (append-nil text)) ∙ ap (list_all is_none) (text_faults text [] version client manager lines t)
    ∙ all_none (length lines + 1)
