-- The lines of a text of times.
use Rattle.std.proofs.Common.{◌≡◌, ◌≤◌, ◌<◌, ◌+◌, ◌++◌, ◌∷◌, [], ℕ, zero, suc, Bool, true, false, List, cond, length, drop, Option, Some, None}
use Rattle.std.proofs.Common.{◌≢◌, ◌⊎◌, refl, sym, subst, ap, ◌∙◌, arith, length-drop, inl, inr, add-one, drop-cons, get_or, is_none}
use Rattle.std.proofs.lemmas.Bool.{cases_eq, cases_lt, lt-ltb, le-ltb, or_right}
use Rattle.std.proofs.lemmas.List.{drop_all}
use Rattle.std.proofs.lemmas.Option.{slice_get_past}
use Rattle.std.specs.List.{list_any, slice_get, slice_range}
use Rattle.tl_msg.specs.Firsts.{unless}
use Rattle.tl_trace.proofs.ReadLines.{IsFree, body_line, cut_line}
use Rattle.tl_trace.proofs.Walk.{cut_whole, free_line, last_line, split_line}
use Rattle.tl_trace.specs.Faults.{cut, is_newline, onto_first}
use Rattle.tl_trace.specs.Inner.Reading.{LineAt}
use Rattle.tl_trace.specs.Texts.{newline}
use Rattle.tl_times.specs.Inner.Lines.{IsNextTime, first_fault}
use Rattle.tl_times.specs.Time.{time_of}
use Rattle.tl_times.specs.Times.{AreTimes, IsFirstBadTime, fault_at, line_fault, time_above, time_at, time_fault, time_in, or_zero}
use Rattle.tl_times.specs.declared.times.NextTime.{NextTime}
use Rattle.tl_times.specs.declared.times.TimesKind.{TimesKind}
use Rattle.tl_times.specs.declared.times.TimesKind.TheVariants.{NoTime, Earlier, TooFew, TooMany}

-- ---- one line

cut_here : (text : List ℕ) (at end : ℕ) → LineAt text at end → end < length text
    → cut (drop at text) ≡ (slice_range text at end ++ newline) ∷ cut (drop (end + 1) text)
cut_here text at end line lt =
    ap cut (split_line text at end line lt) ∙ cut_line (slice_range text at end) (drop (end + 1) text) (free_line text at end line)

cut_there : (text : List ℕ) (at end : ℕ) → LineAt text at end → at < length text → end ≡ length text
    → cut (drop at text) ≡ slice_range text at end ∷ []
cut_there text at end line lt e =
    let whole = last_line text at end line e in
    let long : 0 < length (slice_range text at end) = omega (arith, ap length whole, length-drop at text) in
    ap cut whole ∙ cut_whole (slice_range text at end) long (free_line text at end line)

-- no line is left
cut_nothing : (text : List ℕ) (at : ℕ) → length text ≤ at → cut (drop at text) ≡ []
cut_nothing text at past = ap cut (drop_all at text past)

has_end : (line : List ℕ) → list_any is_newline (line ++ newline) ≡ true
has_end [] = refl
has_end (byte ∷ line) = or_right (is_newline byte) (list_any is_newline (line ++ newline)) (has_end line)

time_of_line : (line : List ℕ) → IsFree line → time_in (line ++ newline) ≡ time_of line
time_of_line line free = rw (has_end line) (ap time_of (body_line line free))

no_end : (line : List ℕ) → IsFree line → time_in line ≡ None
no_end line free = rw free refl

pub too_few : (text : List ℕ) (at last : ℕ) → at ≡ length text → first_fault text at last ≡ Some TooFew
too_few text at last e = ap (λ lines. line_fault last (slice_get lines 0)) (cut_nothing text at (omega (arith, e)))

pub without_end : (text : List ℕ) (at end last : ℕ) → LineAt text at end → at < length text → end ≡ length text
    → first_fault text at last ≡ Some NoTime
without_end text at end last line lt e =
    ap (λ lines. line_fault last (slice_get lines 0)) (cut_there text at end line lt e)
    ∙ ap (time_fault last) (no_end (slice_range text at end) (free_line text at end line))

-- the fault of a line with its end
line_with : (text : List ℕ) (at end last : ℕ) (time : Option ℕ) → LineAt text at end → end < length text
    → time_of (slice_range text at end) ≡ time → first_fault text at last ≡ time_fault last time
line_with text at end last time line lt is =
    ap (λ lines. line_fault last (slice_get lines 0)) (cut_here text at end line lt)
    ∙ ap (time_fault last) (time_of_line (slice_range text at end) (free_line text at end line) ∙ is)

pub no_time : (text : List ℕ) (at end last : ℕ) → LineAt text at end → end < length text → time_of (slice_range text at end) ≡ None
    → first_fault text at last ≡ Some NoTime
no_time text at end last line lt is = line_with text at end last None line lt is

pub earlier : (text : List ℕ) (at end last time : ℕ) → LineAt text at end → end < length text → time_of (slice_range text at end) ≡ Some time
    → time < last → first_fault text at last ≡ Some Earlier
earlier text at end last time line lt is before =
    line_with text at end last (Some time) line lt is ∙ ap (λ b. cond b (Some Earlier) None) (lt-ltb time last before)

pub next_time : (text : List ℕ) (at end last time : ℕ) → LineAt text at end → end < length text → time_of (slice_range text at end) ≡ Some time
    → last ≤ time → IsNextTime text at last (record { time = time; end = end + 1 })
next_time text at end last time line lt is order = record {
  line = slice_range text at end ++ newline;
  lines = cut_here text at end line lt;
  time = time_of_line (slice_range text at end) (free_line text at end line) ∙ is;
  order = order;
  from = omega (arith, line.from);
  to = omega (arith, lt);
}

-- a line with a time has no fault
good_line : (text : List ℕ) (at last : ℕ) (next : NextTime) → IsNextTime text at last next → first_fault text at last ≡ None
good_line text at last next is =
    ap (λ lines. line_fault last (slice_get lines 0)) is.lines ∙ ap (time_fault last) is.time
    ∙ ap (λ b. cond b (Some Earlier) None) (le-ltb next.time last is.order)

-- ---- all lines up to a position

-- the lines before this position have times, the last of which is `last`
pub record SoFar (times : List ℕ) (beats beat at last : ℕ) : Type 0 where
  pub within : at ≤ length times
  pub few : beat ≤ at
  pub rest : drop beat (cut times) ≡ cut (drop at times)
  pub above : last ≡ time_above (cut times) beat
  pub none : (k : ℕ) → k < beat → fault_at times beats k ≡ None

pub before_all : (times : List ℕ) (beats : ℕ) → SoFar times beats 0 0 0
before_all times beats = record { within = omega arith; few = omega arith; rest = refl; above = refl; none = λ k less. absurd (omega arith) }

get_drop : {X : Type 0} (xs : List X) (n : ℕ) → slice_get xs n ≡ slice_get (drop n xs) 0
get_drop [] zero = refl
get_drop [] (suc n) = refl
get_drop (x ∷ xs) zero = refl
get_drop (x ∷ xs) (suc n) = get_drop xs n

drop_next : {X : Type 0} (xs : List X) (n : ℕ) (y : X) (ys : List X) → drop n xs ≡ y ∷ ys → drop (suc n) xs ≡ ys
drop_next xs zero y ys e = ap (drop 1) e
drop_next [] (suc n) y ys e = absurd cc
drop_next (x ∷ xs) (suc n) y ys e = drop_next xs n y ys e

module _ (times : List ℕ) (beats beat at last : ℕ) (far : SoFar times beats beat at last) where
  line_here : slice_get (cut times) beat ≡ slice_get (cut (drop at times)) 0
  line_here = get_drop (cut times) beat ∙ ap (λ lines. slice_get lines 0) far.rest

  fault_here : beat < beats → fault_at times beats beat ≡ first_fault times at last
  fault_here less =
      let lines = cut times in
      ap (λ b. cond b (line_fault (time_above lines beat) (slice_get lines beat)) (unless (is_none (slice_get lines beat)) TooMany))
      (lt-ltb beat beats less)
      ∙ ap (λ t. line_fault t (slice_get lines beat)) (sym far.above) ∙ ap (line_fault last) line_here

  pub refused : (kind : TimesKind) → beat < beats → first_fault times at last ≡ Some kind → IsFirstBadTime times beats (beat + 1) kind
  refused kind less is = record { before = beat; place = refl; here = fault_here less ∙ is; none_before = far.none }

  pub advance : (next : NextTime) → beat < beats → IsNextTime times at last next → SoFar times beats (beat + 1) next.end next.time
  advance next less is = record {
    within = is.to;
    few = omega (arith, far.few, is.from);
    rest = ap (λ n. drop n (cut times)) (add-one beat) ∙ drop_next (cut times) beat is.line (cut (drop next.end times)) (far.rest ∙ is.lines);
    above = sym (ap (λ n. time_above (cut times) n) (add-one beat)
        ∙ ap (λ o. or_zero (time_at o)) (line_here ∙ ap (λ lines. slice_get lines 0) is.lines) ∙ ap or_zero is.time);
    none = λ k few. of k few (cases_eq k beat);
  }
    where
      of : (k : ℕ) → k < beat + 1 → (k ≡ beat) ⊎ (k ≢ beat) → fault_at times beats k ≡ None
      of k few (inl e) = subst (λ n. fault_at times beats n ≡ None) (sym e) (fault_here less ∙ good_line times at last next is)
      of k few (inr ne) = far.none k (omega (arith, few, ne))

-- ---- the end

few_lines : {X : Type 0} (xs : List X) (n : ℕ) → drop n xs ≡ [] → length xs ≤ n
few_lines xs n e = omega (arith, length-drop n xs, ap length e)

pub all_good : (times : List ℕ) (beats at last : ℕ) → SoFar times beats beats at last → length times ≤ at → AreTimes times beats
all_good times beats at last far past k = of (cases_lt k beats)
  where
    lines : List (List ℕ)
    lines = cut times

    few : length lines ≤ beats
    few = few_lines lines beats (far.rest ∙ cut_nothing times at past)

    of : (k < beats) ⊎ (beats ≤ k) → fault_at times beats k ≡ None
    of (inl less) = far.none k less
    of (inr more) =
        ap (λ b. cond b (line_fault (time_above lines k) (slice_get lines k)) (unless (is_none (slice_get lines k)) TooMany)) (le-ltb k beats more)
        ∙ ap (λ o. unless (is_none o) TooMany) (slice_get_past lines k (omega (arith, few, more)))

some_line : (byte : ℕ) (text : List ℕ) → is_none (slice_get (cut (byte ∷ text)) 0) ≡ false
some_line byte text = of (is_newline byte) (cut text)
  where
    of : (b : Bool) (lines : List (List ℕ)) → is_none (slice_get (cond b ((byte ∷ []) ∷ lines) (onto_first byte lines)) 0) ≡ false
    of true lines = refl
    of false [] = refl
    of false (line ∷ lines) = refl

pub too_many : (times : List ℕ) (beats at last : ℕ) → SoFar times beats beats at last → at < length times
    → IsFirstBadTime times beats (beats + 1) TooMany
too_many times beats at last far less =
    let lines = cut times in
    let some : is_none (slice_get lines beats) ≡ false =
    ap is_none (line_here times beats beats at last far) ∙ ap (λ text. is_none (slice_get (cut text) 0)) (drop-cons times at 0 less)
    ∙ some_line (get_or times at 0) (drop (suc at) times) in
    record {
      before = beats;
      place = refl;
      here =
          ap (λ b. cond b (line_fault (time_above lines beats) (slice_get lines beats)) (unless (is_none (slice_get lines beats)) TooMany))
          (le-ltb beats beats (omega arith))
          ∙ ap (λ b. unless b TooMany) some;
      none_before = far.none;
    }

-- ---- counting

-- the lines before this position, and those after it
pub record IsCounted (text : List ℕ) (at lines : ℕ) : Type 0 where
  pub within : at ≤ length text + 1
  pub few : lines ≤ at
  pub all : lines + length (cut (drop at text)) ≡ length (cut text)

pub none_counted : (text : List ℕ) → IsCounted text 0 0
none_counted text = record { within = omega arith; few = omega arith; all = omega arith }

next_count : (text : List ℕ) (at end : ℕ) → LineAt text at end → at < length text
    → length (cut (drop at text)) ≡ length (cut (drop (end + 1) text)) + 1
next_count text at end line less = elim (cases_eq end (length text)) [
  | inl e ↦ omega (arith, ap length (cut_there text at end line less e), ap length (cut_nothing text (end + 1) (omega (arith, e))))
  | inr ne ↦ omega (arith, ap length (cut_here text at end line (omega (arith, line.to, ne))))
]

pub one_counted : (text : List ℕ) (at lines end : ℕ) → IsCounted text at lines → LineAt text at end → at < length text
    → IsCounted text (end + 1) (lines + 1)
one_counted text at lines end far line less = record {
  within = omega (arith, line.to);
  few = omega (arith, far.few, line.from);
  all = omega (arith, far.all, next_count text at end line less);
}

pub all_counted : (text : List ℕ) (at lines : ℕ) → IsCounted text at lines → length text ≤ at → lines ≡ length (cut text)
all_counted text at lines far past = omega (arith, far.all, ap length (cut_nothing text at past))
