-- The beat of a line, appended to those of its channel.
use Rattle.tl_trace.proofs.Names.{◌≡◌, ◌≤◌, ◌<◌, ◌+◌, ◌-◌, arith, ℕ, zero, suc, length, take, drop, drop-cons, true, false, cond, List, [], ◌++◌}
use Rattle.tl_trace.proofs.Names.{Option, Some, Result, Ok, Err, sym, ap, ◌∙◌, ◌∷◌, append-nil, slice_index, is_ok, is_err}
use Rattle.tl_trace.proofs.Names.{slice_range, option_to_list, form_a, form_b, form_c, form_d, form_e, Form, IsLinePushed, IsNextPushed, IsSameScript}
use Rattle.tl_trace.proofs.Names.{IsPushed, IsReadLine, Script, WIDEST, Line, BeatOf, HeadA, HeadB, HeadC, HeadD, HeadE, Vec, refl, subst}
use Rattle.tl_trace.proofs.Names.{IsSameAt, ParsedLines, ArePushed, AreLinesPushed, AreBehind, AreNextPushed}
use Rattle.tl_trace.proofs.Names.{head_length, HasHead}
use Rattle.std.proofs.Common.{Global}
use Rattle.tl_trace.specs.Inner.Reading.{CanPush}
use Rattle.tl_trace.proofs.KnownHeads.{head_there}
use Rattle.tl_trace.specs.declared.line.Line.TheVariants as lines
use Rattle.tl_trace.proofs.Narrow.{wide, near_a, near_b, near_c, near_d, near_e}

-- the list after an allocation that succeeded
pub was_put : {A E X : Type 0} (r : Result A E) (now put before : X) → is_err r ≡ false → now ≡ cond (is_ok r) put before → now ≡ put
was_put (Ok v) now put before went is = is
was_put (Err x) now put before went is = absurd cc

-- and after one that failed
pub was_kept : {A E X : Type 0} (r : Result A E) (now put before : X) → is_err r ≡ true → now ≡ cond (is_ok r) put before → now ≡ before
was_kept (Ok v) now put before went is = absurd cc
was_kept (Err x) now put before went is = is

-- the positions of a line that begins at `at` and has a head and `rest` bytes after it
pub line_places : (at rest_at head rest n : ℕ) → rest_at ≡ 1 + head → rest_at + rest < n - at →
    (1 ≤ rest_at + rest) × (1 + head ≤ rest_at + rest) × (at + (rest_at + rest) ≤ n) × (at < at + (rest_at + rest)) × (at + (rest_at + rest) < n)
line_places at rest_at head rest n some less = (omega arith, omega arith, omega arith, omega arith, omega arith)

-- the part after a head is within its line
pub rest_room : (at m d r n : ℕ) → r ≡ m + d → n ≡ at + r → at + (m + d) ≤ n
rest_room at m d r n parts long = omega arith

-- the first byte of a line, which has one
pub first_in : (text : List ℕ) (at long : ℕ) → 1 ≤ long → at < length text
    → slice_index (take ((at + long) - at) (drop at text)) 0 ≡ slice_index text at
first_in text at zero some less = absurd (omega arith)
first_in text at (suc long) some less =
    let size : (at + suc long) - at ≡ suc long = omega arith in
    ap (λ (n : ℕ). slice_index (take n (drop at text)) 0) size ∙ ap (λ (xs : List ℕ). slice_index (take (suc long) xs) 0) (drop-cons text at 0 less)

-- two positions with the same bytes have the same first byte
pub same_first : (text : List ℕ) (at before n : ℕ) → 1 ≤ n → before < length text → IsSameAt text at before n
    → slice_index text at ≡ slice_index text before
same_first text at before n some less is =
    sym (first_in text at n some (omega (arith, is.within))) ∙ ap (λ (xs : List ℕ). slice_index xs 0) is.same ∙ first_in text before n some less

-- the next line, whose head has the text of the one from `at` on
pub next_line : {H : Type 0} (f : Form H) (version w : ℕ) (text : List ℕ) (place at len : ℕ) (h : H) → len ≡ head_length f
    → IsSameAt text place at len → CanPush f w text at → HasHead f version (slice_range text at (at + head_length f)) h
    → CanPush f w text place × HasHead f version (slice_range text place (place + head_length f)) h
next_line f version w text place at len h long same can has = (
  record {
    width = can.width;
    inside = omega (arith, long, same.within);
    letter = same_first text place at len (omega (arith, long)) can.inside same ∙ can.letter;
  },
  head_there f version text place at len h long same.same has,
)

pub at_most : (w : ℕ) → w ≤ w
at_most w = omega arith

-- a list that stays has no beat more
stays : {X : Type 0} {before after : List X} → after ≡ before → after ≡ before ++ []
stays {X} {before} {after} same = same ∙ sym (append-nil before)

-- a narrow beat that was put is that of its line
put_wide : {X : Type 0} (before : List X) {after : List X} {b : X} {o : Option X} → Some b ≡ o → after ≡ before ++ b ∷ []
    → after ≡ before ++ option_to_list o
put_wide {X} before {after} {b} {o} same is = is ∙ ap (λ (p : Option X). before ++ option_to_list p) same

-- ---- lines of one channel

-- before the first of them
pub no_line_yet : {H Z : Type 0} (f : Form H) (w : ℕ) (text : List ℕ) (at : ℕ) (list : Vec (BeatOf H w) Z)
    → AreLinesPushed f w text at list list (record { count = 0; place = at })
no_line_yet f w text at list = record { ends = []; count = refl; few = omega arith; pushed = (refl, refl) }

module _ {H Z : Type 0} (f : Form H) (w : ℕ) (text : List ℕ) (at : ℕ) (before now after : Vec (BeatOf H w) Z) where
  same_put : (ends : List ℕ) (place : ℕ) → after.items ≡ now.items → ArePushed f w text at before now ends place
      → ArePushed f w text at before after ends place
  same_put [] place same p = (same ∙ p.0, p.1)
  same_put (end ∷ ends) place same p =
      (p.0, p.1, p.2, subst (λ (xs : List (BeatOf H w)). IsLinePushed f w text p.1 p.0.items xs end) (sym same) p.3, p.4)

  -- a list that stays has no line more
  pub none_more : (lines : ParsedLines) → after.items ≡ now.items → AreLinesPushed f w text at before now lines
      → AreLinesPushed f w text at before after lines
  none_more lines same far = record { ends = far.ends; count = far.count; few = far.few; pushed = same_put far.ends lines.place same far.pushed }

  -- and here it has one
  pub one_more_line : (count place end : ℕ) → AreLinesPushed f w text at before now (record { count = count; place = place })
      → IsLinePushed f w text place now.items after.items end
      → AreLinesPushed f w text at before after (record { count = count + 1; place = end + 1 })
  one_more_line count place end far p = record {
    ends = end ∷ far.ends;
    count = omega (arith, far.count);
    few = omega (arith, far.few, p.from);
    pushed = (now, place, far.pushed, p, refl);
  }

-- ---- in a script the lists of the other channels stay

-- a script with another list of one channel
module _ {C M : ℕ} where
  abbrev pub with_a : Script C M → Vec (BeatOf HeadA C) Global → Script C M
  with_a s v = record { a = v; b = s.b; c = s.c; d = s.d; e = s.e }

  abbrev pub with_b : Script C M → Vec (BeatOf HeadB M) Global → Script C M
  with_b s v = record { a = s.a; b = v; c = s.c; d = s.d; e = s.e }

  abbrev pub with_c : Script C M → Vec (BeatOf HeadC C) Global → Script C M
  with_c s v = record { a = s.a; b = s.b; c = v; d = s.d; e = s.e }

  abbrev pub with_d : Script C M → Vec (BeatOf HeadD M) Global → Script C M
  with_d s v = record { a = s.a; b = s.b; c = s.c; d = v; e = s.e }

  abbrev pub with_e : Script C M → Vec (BeatOf HeadE C) Global → Script C M
  with_e s v = record { a = s.a; b = s.b; c = s.c; d = s.d; e = v }

module _ {C M : ℕ} (version : ℕ) (text : List ℕ) (at : ℕ) where
  -- the line of a beat that was put
  put_line : {H : Type 0} {f : Form H} {w : ℕ} {before after : List (BeatOf H w)} {end : ℕ} (s s' : Script C M)
      → IsLinePushed f w text at before after end → (line : Line)
      → IsReadLine version C M (slice_range text at end) line → IsPushed line s s' → IsNextPushed version text at s s' end
  put_line s s' p line read put = record { line = line; from = omega (arith, p.from); to = p.to; stop = p.stop; read = read; put = put }

  next_a : (s : Script C M) (v v' : Vec (BeatOf HeadA C) Global) (end : ℕ) → C ≤ WIDEST → IsLinePushed (form_a version) C text at v.items v'.items end
      → IsNextPushed version text at (with_a s v) (with_a s v') end
  next_a s v v' end few p =
      let near = near_a version C M (slice_range text at end) p.beat few p.read in
      put_line (with_a s v) (with_a s v') p (lines.A (wide p.beat)) near.0
      (record { a = put_wide v.items near.1 p.put; b = stays refl; c = stays refl; d = stays refl; e = stays refl })

  next_b : (s : Script C M) (v v' : Vec (BeatOf HeadB M) Global) (end : ℕ) → M ≤ WIDEST → IsLinePushed (form_b version) M text at v.items v'.items end
      → IsNextPushed version text at (with_b s v) (with_b s v') end
  next_b s v v' end few p =
      let near = near_b version C M (slice_range text at end) p.beat few p.read in
      put_line (with_b s v) (with_b s v') p (lines.B (wide p.beat)) near.0
      (record { a = stays refl; b = put_wide v.items near.1 p.put; c = stays refl; d = stays refl; e = stays refl })

  next_c : (s : Script C M) (v v' : Vec (BeatOf HeadC C) Global) (end : ℕ) → C ≤ WIDEST → IsLinePushed (form_c version) C text at v.items v'.items end
      → IsNextPushed version text at (with_c s v) (with_c s v') end
  next_c s v v' end few p =
      let near = near_c version C M (slice_range text at end) p.beat few p.read in
      put_line (with_c s v) (with_c s v') p (lines.C (wide p.beat)) near.0
      (record { a = stays refl; b = stays refl; c = put_wide v.items near.1 p.put; d = stays refl; e = stays refl })

  next_d : (s : Script C M) (v v' : Vec (BeatOf HeadD M) Global) (end : ℕ) → M ≤ WIDEST → IsLinePushed (form_d version) M text at v.items v'.items end
      → IsNextPushed version text at (with_d s v) (with_d s v') end
  next_d s v v' end few p =
      let near = near_d version C M (slice_range text at end) p.beat few p.read in
      put_line (with_d s v) (with_d s v') p (lines.D (wide p.beat)) near.0
      (record { a = stays refl; b = stays refl; c = stays refl; d = put_wide v.items near.1 p.put; e = stays refl })

  next_e : (s : Script C M) (v v' : Vec (BeatOf HeadE C) Global) (end : ℕ) → C ≤ WIDEST → IsLinePushed (form_e version) C text at v.items v'.items end
      → IsNextPushed version text at (with_e s v) (with_e s v') end
  next_e s v v' end few p =
      let near = near_e version C M (slice_range text at end) p.beat few p.read in
      put_line (with_e s v) (with_e s v') p (lines.E (wide p.beat)) near.0
      (record { a = stays refl; b = stays refl; c = stays refl; d = stays refl; e = put_wide v.items near.1 p.put })

module _ {C M : ℕ} (version : ℕ) (text : List ℕ) (at : ℕ) where
  behind_a : (s : Script C M) (v : Vec (BeatOf HeadA C) Global) (ends : List ℕ) (place : ℕ) → C ≤ WIDEST
      → ArePushed (form_a version) C text at s.a v ends place
      → AreBehind version text at s (with_a s v) ends place
  behind_a s v [] place few p = (record { a = p.0; b = refl; c = refl; d = refl; e = refl }, p.1)
  behind_a s v (end ∷ ends) place few p =
      (with_a s p.0, p.1, behind_a s p.0 ends p.1 few p.2, next_a version text p.1 s p.0 v end few p.3, p.4)

  pub lines_a : (s : Script C M) (v : Vec (BeatOf HeadA C) Global) (lines : ParsedLines) → C ≤ WIDEST
      → AreLinesPushed (form_a version) C text at s.a v lines → AreNextPushed version text at s (with_a s v) lines
  lines_a s v lines few far =
      record { ends = far.ends; count = far.count; few = far.few; pushed = behind_a s v far.ends lines.place few far.pushed }

  behind_b : (s : Script C M) (v : Vec (BeatOf HeadB M) Global) (ends : List ℕ) (place : ℕ) → M ≤ WIDEST
      → ArePushed (form_b version) M text at s.b v ends place
      → AreBehind version text at s (with_b s v) ends place
  behind_b s v [] place few p = (record { a = refl; b = p.0; c = refl; d = refl; e = refl }, p.1)
  behind_b s v (end ∷ ends) place few p =
      (with_b s p.0, p.1, behind_b s p.0 ends p.1 few p.2, next_b version text p.1 s p.0 v end few p.3, p.4)

  pub lines_b : (s : Script C M) (v : Vec (BeatOf HeadB M) Global) (lines : ParsedLines) → M ≤ WIDEST
      → AreLinesPushed (form_b version) M text at s.b v lines → AreNextPushed version text at s (with_b s v) lines
  lines_b s v lines few far =
      record { ends = far.ends; count = far.count; few = far.few; pushed = behind_b s v far.ends lines.place few far.pushed }

  behind_c : (s : Script C M) (v : Vec (BeatOf HeadC C) Global) (ends : List ℕ) (place : ℕ) → C ≤ WIDEST
      → ArePushed (form_c version) C text at s.c v ends place
      → AreBehind version text at s (with_c s v) ends place
  behind_c s v [] place few p = (record { a = refl; b = refl; c = p.0; d = refl; e = refl }, p.1)
  behind_c s v (end ∷ ends) place few p =
      (with_c s p.0, p.1, behind_c s p.0 ends p.1 few p.2, next_c version text p.1 s p.0 v end few p.3, p.4)

  pub lines_c : (s : Script C M) (v : Vec (BeatOf HeadC C) Global) (lines : ParsedLines) → C ≤ WIDEST
      → AreLinesPushed (form_c version) C text at s.c v lines → AreNextPushed version text at s (with_c s v) lines
  lines_c s v lines few far =
      record { ends = far.ends; count = far.count; few = far.few; pushed = behind_c s v far.ends lines.place few far.pushed }

  behind_d : (s : Script C M) (v : Vec (BeatOf HeadD M) Global) (ends : List ℕ) (place : ℕ) → M ≤ WIDEST
      → ArePushed (form_d version) M text at s.d v ends place
      → AreBehind version text at s (with_d s v) ends place
  behind_d s v [] place few p = (record { a = refl; b = refl; c = refl; d = p.0; e = refl }, p.1)
  behind_d s v (end ∷ ends) place few p =
      (with_d s p.0, p.1, behind_d s p.0 ends p.1 few p.2, next_d version text p.1 s p.0 v end few p.3, p.4)

  pub lines_d : (s : Script C M) (v : Vec (BeatOf HeadD M) Global) (lines : ParsedLines) → M ≤ WIDEST
      → AreLinesPushed (form_d version) M text at s.d v lines → AreNextPushed version text at s (with_d s v) lines
  lines_d s v lines few far =
      record { ends = far.ends; count = far.count; few = far.few; pushed = behind_d s v far.ends lines.place few far.pushed }

  behind_e : (s : Script C M) (v : Vec (BeatOf HeadE C) Global) (ends : List ℕ) (place : ℕ) → C ≤ WIDEST
      → ArePushed (form_e version) C text at s.e v ends place
      → AreBehind version text at s (with_e s v) ends place
  behind_e s v [] place few p = (record { a = refl; b = refl; c = refl; d = refl; e = p.0 }, p.1)
  behind_e s v (end ∷ ends) place few p =
      (with_e s p.0, p.1, behind_e s p.0 ends p.1 few p.2, next_e version text p.1 s p.0 v end few p.3, p.4)

  pub lines_e : (s : Script C M) (v : Vec (BeatOf HeadE C) Global) (lines : ParsedLines) → C ≤ WIDEST
      → AreLinesPushed (form_e version) C text at s.e v lines → AreNextPushed version text at s (with_e s v) lines
  lines_e s v lines few far =
      record { ends = far.ends; count = far.count; few = far.few; pushed = behind_e s v far.ends lines.place few far.pushed }

  -- no line was appended
  none_put : (s s' : Script C M) (ends : List ℕ) (place : ℕ) → length ends ≤ 0 → AreBehind version text at s s' ends place → IsSameScript s s'
  none_put s s' [] place none p = p.0
  none_put s s' (end ∷ ends) place none p = absurd (omega (arith, none))

  pub no_lines : (s s' : Script C M) (lines : ParsedLines) → lines.count ≤ 0 → AreNextPushed version text at s s' lines → IsSameScript s s'
  no_lines s s' lines none far = none_put s s' far.ends lines.place (omega (arith, none, far.count)) far.pushed
