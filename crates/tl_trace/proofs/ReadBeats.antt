-- Reading beats by channel: the beats that were read, and one step more.
use Rattle.std.specs.Prelude.{IfErr}
use Rattle.tl_trace.proofs.Names.{◌≡◌, ℕ, ◌+◌, ◌<◌, true, false, Result, Ok, Err, arith, List, [], ◌∷◌, ◌++◌, length, drop, take, get_or, subst}
use Rattle.tl_trace.proofs.Names.{Option}
use Rattle.tl_trace.proofs.Names.{None, Some, refl, sym, ap, ◌∙◌, append_assoc, take_more, filter_map, cons_option, slice_range, option_to_list}
use Rattle.tl_trace.proofs.Names.{is_err, OnOk, Discarded, IsScriptOf, IsRestOf, beat_of_a, beat_of_b, beat_of_c, beat_of_d, beat_of_e, IsPushed, LineAt}
use Rattle.tl_trace.proofs.Names.{Line, Script, newline, is_newline, body, cases_eq, or_parts, list_any, inl, inr}
use Rattle.std.proofs.lemmas.List.Elements.{filter_map-append}
use Rattle.tl_trace.proofs.ReadLines.{IsFree, body_last}
use Rattle.tl_trace.proofs.Walk.{free_line, split_line, last_line}

one : {X : Type 0} (o : Option X) → cons_option o [] ≡ option_to_list o
one None = refl
one (Some y) = refl

-- one more line, of this or another channel
grown : {X : Type 0} (h : Line → Option X) (lines : List Line) (line : Line) (before now : List X) → before ≡ filter_map h lines
    → now ≡ before ++ option_to_list (h line) → now ≡ filter_map h (lines ++ line ∷ [])
grown {X} h lines line before now was is =
    is ∙ ap (λ (xs : List X). xs ++ option_to_list (h line)) was
    ∙ ap (λ (xs : List X). filter_map h lines ++ xs) (sym (one (h line))) ∙ sym (filter_map-append h lines (line ∷ []))

-- a beat more, of one channel
pub pushed : {C M : ℕ} (lines : List Line) (line : Line) (s s' : Script C M) → IsScriptOf lines s → IsPushed line s s'
    → IsScriptOf (lines ++ line ∷ []) s'
pushed {C} {M} lines line s s' far put = record {
  a = grown (beat_of_a C) lines line s.a.items s'.a.items far.a put.a;
  b = grown (beat_of_b M) lines line s.b.items s'.b.items far.b put.b;
  c = grown (beat_of_c C) lines line s.c.items s'.c.items far.c put.c;
  d = grown (beat_of_d M) lines line s.d.items s'.d.items far.d put.d;
  e = grown (beat_of_e C) lines line s.e.items s'.e.items far.e put.e;
}

-- the same after beats were removed
grown_past : {X : Type 0} (h : Line → Option X) (lines : List Line) (line : Line) (discarded before now : List X) → discarded ++ before ≡ filter_map h lines
    → now ≡ before ++ option_to_list (h line) → discarded ++ now ≡ filter_map h (lines ++ line ∷ [])
grown_past {X} h lines line discarded before now was is =
    grown h lines line (discarded ++ before) (discarded ++ now) was (ap (λ (xs : List X). discarded ++ xs) is ∙
    sym (append_assoc discarded before (option_to_list (h line))))

pub pushed_past : {C M : ℕ} (lines : List Line) (line : Line) (discarded : Discarded C M) (s s' : Script C M) → IsRestOf lines discarded s → IsPushed line s s'
    → IsRestOf (lines ++ line ∷ []) discarded s'
pushed_past {C} {M} lines line discarded s s' far put = record {
  a = grown_past (beat_of_a C) lines line discarded.a s.a.items s'.a.items far.a put.a;
  b = grown_past (beat_of_b M) lines line discarded.b s.b.items s'.b.items far.b put.b;
  c = grown_past (beat_of_c C) lines line discarded.c s.c.items s'.c.items far.c put.c;
  d = grown_past (beat_of_d M) lines line discarded.d s.d.items s'.d.items far.d put.d;
  e = grown_past (beat_of_e C) lines line discarded.e s.e.items s'.e.items far.e put.e;
}

-- the beat of the line at i
pub script_more : {C M : ℕ} (xs lines : List Line) (i : ℕ) (d : Line) (s s' : Script C M) → i < length xs → xs ≡ lines → IsScriptOf (take i lines) s
    → IsPushed (get_or xs i d) s s' → IsScriptOf (take (i + 1) lines) s'
script_more {C} {M} xs lines i d s s' lt same far put =
    let here : take (i + 1) lines ≡ take i lines ++ get_or xs i d ∷ [] =
    ap (take (i + 1)) (sym same) ∙ take_more xs i d lt ∙ ap (λ (ys : List Line). take i ys ++ get_or xs i d ∷ []) same in
    let P : List Line → Type 0 = λ ys. IsScriptOf ys s' in
    subst P (sym here) (pushed (take i lines) (get_or xs i d) s s' far put)

pub on_ok : {A E : Type 0} {P : Type 0} (r : Result A E) → OnOk r P → is_err r ≡ false → P
on_ok (Ok v) p e = p
on_ok (Err x) p e = absurd cc

-- and for a result that is an error
pub on_err : {A E : Type 0} {P : Type 0} (r : Result A E) → IfErr r (λ _. P) → is_err r ≡ true → P
on_err (Ok v) p e = absurd cc
on_err (Err x) p e = p

body_more : (line more : List ℕ) → IsFree line → body (line ++ newline ++ more) ≡ line
body_more [] more free = refl
body_more (byte ∷ line) more free =
    let no : is_newline byte ≡ false = (or_parts (is_newline byte) (list_any is_newline line) free).0 in
    rw no (ap (λ (xs : List ℕ). byte ∷ xs) (body_more line more (or_parts (is_newline byte) (list_any is_newline line) free).1))

-- the first line of a text without its end
pub first_line : (text : List ℕ) (end : ℕ) → LineAt text 0 end → body text ≡ slice_range text 0 end
first_line text end line =
    let free = free_line text 0 end line in
    elim (cases_eq end (length text)) [
      | inl e ↦ ap body (last_line text 0 end line e) ∙ body_last (slice_range text 0 end) free
      | inr ne ↦ ap body (split_line text 0 end line (omega (arith, line.to, ne))) ∙ body_more (slice_range text 0 end) (drop (end + 1) text) free
    ]
