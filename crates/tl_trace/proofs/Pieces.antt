-- Reading a text incrementally: the part that was read, and one line more.
use Rattle.tl_trace.proofs.Names.{◌≡◌, ℕ, ◌+◌, ◌-◌, ◌<◌, ◌≤◌, true, ◌&&◌, List, [], ◌∷◌, ◌++◌, length, map, take, drop, replicate, Option, Some, None}
use Rattle.tl_trace.proofs.Names.{IsPieceRead, OutOfMemory, Result, Ok, Err, ◌≢◌, refl, sym, ap, ◌∙◌, arith, subst, append_assoc, append-nil}
use Rattle.tl_trace.proofs.Names.{length-append, take-append-drop, length-drop, inl, inr, cases_eq, and_from, list_all-append, list_all, list_any}
use Rattle.tl_trace.proofs.Names.{slice_range, WIDEST, newline, header_text, is_kept_line, Discarded, GoesOn, HasGrown, IsScriptOf, TellsScript}
use Rattle.tl_trace.proofs.Names.{IsHeaderLine, HasRemoved, HasRead, HasReadPast, IsUnfinished, more_discarded, is_newline, cut, body, body_fault}
use Rattle.tl_trace.proofs.Names.{AreBehind, AreNextPushed, ParsedLines, later_fault, header_of, faults, HasHeader, IsFirstFault, IsReadableTo}
use Rattle.tl_trace.proofs.Names.{IsPushed, IsReadLine, IsNextPushed}
use Rattle.tl_trace.proofs.Names.{IsSameScript, IsFaultyAt, IsReadableAt, LineAt, TraceKind, Line, LONGEST_LINE, Script, drop_all}
use Rattle.tl_trace.specs.declared.fault.TraceFault.{TraceFault}
use Rattle.tl_trace.specs.declared.script.Counts.{Counts}
use Rattle.tl_trace.proofs.Cover.{says_free, free_between}
use Rattle.tl_trace.proofs.Faultless.{text_faults}
use Rattle.tl_trace.proofs.Headers.{header, known, is_header}
use Rattle.tl_trace.proofs.LongLines.{says_short, long_fault, starts_line}
use Rattle.tl_trace.proofs.ReadBeats.{pushed_past, first_line}
use Rattle.tl_trace.proofs.ReadLines.{IsFree, body_line, cut_line, first_fault, readable_to, one_more, told_more}
use Rattle.tl_trace.proofs.Walk.{free_line, split_line, last_line, later_line, cut_whole, line_more}

-- ---- the part of a text that was read

-- its lines have no fault, whatever comes after them
pub read_faults : {C M : ℕ} (version : ℕ) (done more : List ℕ) (discarded : Discarded C M) (s : Script C M) (line : ℕ) → HasReadPast version done discarded s line
    → faults (done ++ more) ≡ replicate line None ++ map (later_fault version C M) (cut more)
read_faults {C} {M} version done more discarded s line r =
    text_faults done more version C M r.lines r.told ∙ ap (λ (n : ℕ). replicate n None ++ map (later_fault version C M) (cut more)) (sym r.place)

-- only the header line
pub begun : {C M : ℕ} (version : ℕ) (text : List ℕ) (s : Script C M) → IsScriptOf [] s → IsHeaderLine text version C M → HasRead version text s 1
begun {C} {M} version text s none line =
    let all = known (body text) (header version C M) line.named in
    record {
      lines = [];
      told = record {
        trace = record { known_version = all.0; client_width = all.1; manager_width = all.2; kept = refl };
        rest = [];
        header = line.whole ∙ ap (λ (b : List ℕ). b ++ newline) (is_header (body text) (header version C M) line.named) ∙
            sym (append-nil (header_text version C M ++ newline));
        told = refl;
      };
      script = record { a = none.a; b = none.b; c = none.c; d = none.d; e = none.e };
      place = omega arith;
    }

-- a line more
pub read_more : {C M : ℕ} (version : ℕ) (done b : List ℕ) (discarded : Discarded C M) (s s' : Script C M) (line : ℕ) (beat : Line)
    → HasReadPast version done discarded s line → IsReadLine version C M b beat → IsPushed beat s s'
    → HasReadPast version (done ++ b ++ newline) discarded s' (line + 1)
read_more {C} {M} version done b discarded s s' line beat r read put =
    let kept_line = is_kept_line version C M in
    record {
      lines = r.lines ++ beat ∷ [];
      told = record {
        trace = record {
          known_version = r.told.trace.known_version;
          client_width = r.told.trace.client_width;
          manager_width = r.told.trace.manager_width;
          kept = list_all-append kept_line r.lines (beat ∷ []) ∙ and_from (list_all kept_line r.lines) (kept_line beat && true) r.told.trace.kept
              (and_from (kept_line beat) true read.kept refl);
        };
        rest = r.told.rest ++ b ++ newline;
        header = ap (λ (xs : List ℕ). xs ++ b ++ newline) r.told.header ∙
            ap (λ (xs : List ℕ). xs ++ newline) (append_assoc (header_text version C M ++ newline) r.told.rest b)
            ∙ append_assoc (header_text version C M ++ newline) (r.told.rest ++ b) newline;
        told = told_more version C M r.lines beat r.told.rest b r.told.told read.says;
      };
      script = pushed_past r.lines beat discarded s s' r.script put;
      place = let sum = length-append r.lines (beat ∷ []) in omega (arith, r.place);
    }

-- ---- a line of a piece

-- the bytes that are left if the piece ends within a line
pub left : (piece : List ℕ) (at end : ℕ) → LineAt piece at end → end ≡ length piece → end - at < LONGEST_LINE → IsUnfinished (drop at piece)
left piece at end l e few = record {
  free = ap (list_any is_newline) (last_line piece at end l e) ∙ free_line piece at end l;
  short = let long = length-drop at piece in omega arith;
}

-- a line of a beat that is not left ends in the piece
pub ends_inside : (version client manager : ℕ) (piece : List ℕ) (at end : ℕ) (beat : Line) → client ≤ WIDEST → manager ≤ WIDEST → LineAt piece at end
    → (end ≡ length piece → LONGEST_LINE ≤ end - at)
    → IsReadLine version client manager (slice_range piece at end) beat → end < length piece
ends_inside version client manager piece at end beat client_few manager_few l long read = elim (cases_eq end (length piece)) [
  | inl e ↦
      let size : length (slice_range piece at end) ≡ length piece - at = ap length (sym (last_line piece at end l e)) ∙ length-drop at piece in
      let short = says_short version client manager beat (slice_range piece at end) client_few manager_few read.says in
      let much = long e in
      absurd (omega arith)
  | inr ne ↦ omega (arith, l.to, ne)
]

-- ---- the walk over a piece

longer : {X : Type 0} (xs ys zs us : List X) → GoesOn xs ys → zs ≡ ys ++ us → GoesOn xs zs
longer {X} xs ys zs us g put = (g.0 ++ us, put ∙ ap (λ (q : List X). q ++ us) g.1 ∙ append_assoc xs g.0 us)

kept : {X : Type 0} (xs ys zs : List X) → GoesOn xs ys → zs ≡ ys → GoesOn xs zs
kept xs ys zs g same = (g.0, same ∙ g.1)

all-same : {C M : ℕ} (s s' : Script C M) → IsSameScript s s' → HasGrown s s'
all-same s s' same = record {
  a = kept s.a.items s.a.items s'.a.items ([], sym (append-nil s.a.items)) same.a;
  b = kept s.b.items s.b.items s'.b.items ([], sym (append-nil s.b.items)) same.b;
  c = kept s.c.items s.c.items s'.c.items ([], sym (append-nil s.c.items)) same.c;
  d = kept s.d.items s.d.items s'.d.items ([], sym (append-nil s.d.items)) same.d;
  e = kept s.e.items s.e.items s'.e.items ([], sym (append-nil s.e.items)) same.e;
}

-- the part of a piece that was read, from this script and this line number on
pub record Walked {C M : ℕ} (version : ℕ) (piece : List ℕ) (first : Script C M) (line : ℕ) (s : Script C M) (at before : ℕ) : Type 0 where
  pub within : at ≤ length piece
  pub few : before ≤ line + at
  pub grown : HasGrown first s
  pub read : (done : List ℕ) (discarded : Discarded C M) → HasReadPast version done discarded first line → HasReadPast version (done ++ take at piece) discarded s before

module _ {C M : ℕ} (version : ℕ) (piece : List ℕ) (first : Script C M) (line : ℕ) where
  pub starts : Walked version piece first line first 0 line
  starts = record {
    within = omega arith;
    few = omega arith;
    grown = all-same first first (record { a = refl; b = refl; c = refl; d = refl; e = refl });
    read = λ done discarded r. subst (λ text. HasReadPast version text discarded first line) (sym (append-nil done)) r;
  }

  to_end : (at end : ℕ) → LineAt piece at end → end < length piece → take (end + 1) piece ≡ take at piece ++ slice_range piece at end ++ newline
  to_end at end l lt =
      let whole : (end + 1) - 0 ≡ end + 1 = omega arith in
      let front : at - 0 ≡ at = omega arith in
      ap (λ (n : ℕ). take n piece) (sym whole) ∙ line_more piece 0 at end (omega arith) l lt
      ∙ ap (λ (n : ℕ). take n piece ++ slice_range piece at end ++ newline) front

  pub walks : (s s' : Script C M) (at before end : ℕ) (beat : Line) → Walked version piece first line s at before → LineAt piece at end
      → IsReadLine version C M (slice_range piece at end) beat
      → end < length piece → IsPushed beat s s' → Walked version piece first line s' (end + 1) (before + 1)
  walks s s' at before end beat w l read lt put = record {
    within = omega arith;
    few = omega (arith, w.few, l.from);
    grown = record {
      a = longer first.a.items s.a.items s'.a.items _ w.grown.a put.a;
      b = longer first.b.items s.b.items s'.b.items _ w.grown.b put.b;
      c = longer first.c.items s.c.items s'.c.items _ w.grown.c put.c;
      d = longer first.d.items s.d.items s'.d.items _ w.grown.d put.d;
      e = longer first.e.items s.e.items s'.e.items _ w.grown.e put.e;
    };
    read = λ done discarded r.
        let whole : (done ++ take at piece) ++ slice_range piece at end ++ newline ≡ done ++ take (end + 1) piece =
        ap (λ (xs : List ℕ). xs ++ newline) (append_assoc done (take at piece) (slice_range piece at end))
        ∙ append_assoc done (take at piece ++ slice_range piece at end) newline ∙ ap (λ (xs : List ℕ). done ++ xs) (sym (to_end at end l lt)) in
        subst (λ text. HasReadPast version text discarded s' (before + 1)) whole
        (read_more version (done ++ take at piece) (slice_range piece at end) discarded s s' before beat (w.read done discarded r) read put);
  }

  -- a line that the quick reader takes
  pub walks_quick : (s s' : Script C M) (at before end : ℕ) → Walked version piece first line s at before → IsNextPushed version piece at s s' end
      → Walked version piece first line s' (end + 1) (before + 1)
  walks_quick s s' at before end w q =
      let l : LineAt piece at end = record {
        from = q.from;
        to = omega (arith, q.to);
        free = free_between piece at end (omega (arith, q.to)) (says_free version C M q.line (slice_range piece at end) q.read.says);
        stop = λ _. q.stop;
      } in
      walks s s' at before end q.line w l q.read q.to q.put

  -- one that it does not take
  pub waits : (s s' : Script C M) (at before : ℕ) → Walked version piece first line s at before → IsSameScript s s'
      → Walked version piece first line s' at before
  waits s s' at before w same = record {
    within = w.within;
    few = w.few;
    grown = record {
      a = kept first.a.items s.a.items s'.a.items w.grown.a same.a;
      b = kept first.b.items s.b.items s'.b.items w.grown.b same.b;
      c = kept first.c.items s.c.items s'.c.items w.grown.c same.c;
      d = kept first.d.items s.d.items s'.d.items w.grown.d same.d;
      e = kept first.e.items s.e.items s'.e.items w.grown.e same.e;
    };
    read = λ done discarded r.
        let far = w.read done discarded r in
        record {
          lines = far.lines;
          told = far.told;
          script = record {
            a = ap (λ q. discarded.a ++ q) same.a ∙ far.script.a;
            b = ap (λ q. discarded.b ++ q) same.b ∙ far.script.b;
            c = ap (λ q. discarded.c ++ q) same.c ∙ far.script.c;
            d = ap (λ q. discarded.d ++ q) same.d ∙ far.script.d;
            e = ap (λ q. discarded.e ++ q) same.e ∙
                far.script.e;
          };
          place = far.place;
        };
  }

  -- lines that the quick reader takes
  walks_behind : (s s' : Script C M) (at before place : ℕ) (ends : List ℕ) → Walked version piece first line s at before
      → AreBehind version piece at s s' ends place
      → Walked version piece first line s' place (before + length ends)
  walks_behind s s' at before place [] w p =
      let none : before ≡ before + 0 = omega arith in
      subst (λ (n : ℕ). Walked version piece first line s' place n) none
      (subst (λ (n : ℕ). Walked version piece first line s' n before) (sym p.1) (waits s s' at before w p.0))
  walks_behind s s' at before place (end ∷ ends) w p =
      let far = walks_quick p.0 s' p.1 (before + length ends) end (walks_behind s p.0 at before p.1 ends w p.2) p.3 in
      let one : before + length ends + 1 ≡ before + length (end ∷ ends) = omega arith in
      subst (λ (n : ℕ). Walked version piece first line s' place n) one
      (subst (λ (n : ℕ). Walked version piece first line s' n (before + length ends + 1)) (sym p.4) far)

  pub walks_lines : (s s' : Script C M) (at before : ℕ) (lines : ParsedLines) → Walked version piece first line s at before
      → AreNextPushed version piece at s s' lines
      → Walked version piece first line s' lines.place (before + lines.count)
  walks_lines s s' at before lines w far =
      subst (λ (n : ℕ). Walked version piece first line s' lines.place (before + n)) (sym far.count)
      (walks_behind s s' at before lines.place far.ends w far.pushed)

  -- and if it ends with a whole line
  pub left_none : (at : ℕ) → length piece ≤ at → IsUnfinished (drop at piece)
  left_none at le = subst IsUnfinished (sym (drop_all at piece le)) (record { free = refl; short = omega arith })

  -- the lines after those that were read
  later : (s : Script C M) (at before : ℕ) → Walked version piece first line s at before → (done more : List ℕ) (discarded : Discarded C M)
      → HasReadPast version done discarded first line
      → faults (done ++ piece ++ more) ≡ replicate before None ++ map (later_fault version C M) (cut (drop at piece ++ more))
  later s at before w done more discarded r =
      let parts : piece ++ more ≡ take at piece ++ (drop at piece ++ more) =
      ap (λ (xs : List ℕ). xs ++ more) (sym (take-append-drop at piece)) ∙ append_assoc (take at piece) (drop at piece) more in
      let whole : done ++ piece ++ more ≡ (done ++ take at piece) ++ (drop at piece ++ more) =
      append_assoc done piece more ∙ ap (λ (xs : List ℕ). done ++ xs) parts ∙ sym (append_assoc done (take at piece) (drop at piece ++ more)) in
      ap faults whole ∙ read_faults version (done ++ take at piece) (drop at piece ++ more) discarded s before (w.read done discarded r)

  -- the line at a position, if it ends in the piece
  cut_here : (at end : ℕ) (more : List ℕ) → LineAt piece at end → end < length piece
      → cut (drop at piece ++ more) ≡ (slice_range piece at end ++ newline) ∷ cut (drop (end + 1) piece ++ more)
  cut_here at end more l lt =
      let b = slice_range piece at end in
      ap (λ (xs : List ℕ). cut (xs ++ more)) (split_line piece at end l lt) ∙ ap cut (append_assoc (b ++ newline) (drop (end + 1) piece) more)
      ∙ cut_line b (drop (end + 1) piece ++ more) (free_line piece at end l)

  -- the fault of the line that was read last
  pub refused : (s : Script C M) (at before end : ℕ) (kind : TraceKind) → C ≤ WIDEST → M ≤ WIDEST → Walked version piece first line s at before
      → LineAt piece at end → at < length piece
      → (end ≡ length piece → LONGEST_LINE ≤ end - at) → body_fault version C M (slice_range piece at end) ≡ Some kind
      → (done more : List ℕ) (discarded : Discarded C M) → HasReadPast version done discarded first line → IsFirstFault (done ++ piece ++ more) (before + 1) kind
  refused s at before end kind client manager w l lt long fault done more discarded r =
      let b = slice_range piece at end in
      let free = free_line piece at end l in
      let all = later s at before w done more discarded r in
      elim (cases_eq end (length piece)) [
        | inl e ↦
            let rest : drop at piece ≡ b = last_line piece at end l e in
            let enough : LONGEST_LINE ≤ length b = let size : length b ≡ length piece - at = ap length (sym rest) ∙ length-drop at piece in
            let much = long e in omega arith in
            unended b free enough rest fault
        | inr ne ↦
            let inside : end < length piece = omega (arith, l.to, ne) in
            first_fault (done ++ piece ++ more) before kind (map (later_fault version C M) (cut (drop (end + 1) piece ++ more)))
            (all ∙ ap (λ (ls : List (List ℕ)). replicate before None ++ map (later_fault version C M) ls) (cut_here at end more l inside)
            ∙ ap (λ (o : Option TraceKind). replicate before None ++ o ∷ map (later_fault version C M) (cut (drop (end + 1) piece ++ more)))
            (later_line version C M b free ∙ fault))
      ]
    where
      unended : (b : List ℕ) → IsFree b → LONGEST_LINE ≤ length b → drop at piece ≡ b → body_fault version C M b ≡ Some kind
          → IsFirstFault (done ++ piece ++ more) (before + 1) kind
      unended [] free enough rest is = absurd (omega arith)
      unended (byte ∷ b) free enough rest is =
          let starts = starts_line byte b more free in
          first_fault (done ++ piece ++ more) before kind (map (later_fault version C M) starts.rest)
          (later s at before w done more discarded r ∙ ap (λ (xs : List ℕ). replicate before None ++ map (later_fault version C M) (cut (xs ++ more))) rest
          ∙ ap (λ (ls : List (List ℕ)). replicate before None ++ map (later_fault version C M) ls) starts.cuts
          ∙ ap (λ (o : Option TraceKind). replicate before None ++ o ∷ map (later_fault version C M) starts.rest)
          (long_fault version C M (byte ∷ b) starts.end kind client manager free enough is))

  -- no line up to one that was read and not stored has a fault
  pub unstored : (s : Script C M) (at before end : ℕ) (beat : Line) → Walked version piece first line s at before → LineAt piece at end
      → IsReadLine version C M (slice_range piece at end) beat → end < length piece
      → (done more : List ℕ) (discarded : Discarded C M) → HasReadPast version done discarded first line → IsReadableTo (done ++ piece ++ more) (before + 1)
  unstored s at before end beat w l read lt done more discarded r =
      let b = slice_range piece at end in
      let rest = map (later_fault version C M) (cut (drop (end + 1) piece ++ more)) in
      let is : later_fault version C M (b ++ newline) ≡ None = later_line version C M b (free_line piece at end l) ∙ read.faultless in
      let place = (w.read done discarded r).place in
      readable_to (done ++ piece ++ more) (before + 1) rest (omega arith)
      (later s at before w done more discarded r ∙ ap (λ (ls : List (List ℕ)). replicate before None ++ map (later_fault version C M) ls)
      (cut_here at end more l lt)
      ∙ ap (λ (o : Option TraceKind). replicate before None ++ o ∷ rest) is ∙ one_more before rest)

  -- the same for the fault that `push_with_diagnostics` names
  pub refused_at : (s : Script C M) (at before : ℕ) (kind : TraceKind) → C ≤ WIDEST → M ≤ WIDEST → Walked version piece first line s at before
      → at < length piece → IsFaultyAt version C M piece at kind
      → (done more : List ℕ) (discarded : Discarded C M) → HasReadPast version done discarded first line → IsFirstFault (done ++ piece ++ more) (before + 1) kind
  refused_at s at before kind client manager w lt f = refused s at before f.end kind client manager w f.line lt f.long f.fault

  pub unstored_at : (s : Script C M) (at before : ℕ) → Walked version piece first line s at before → IsReadableAt version C M piece at
      → (done more : List ℕ) (discarded : Discarded C M) → HasReadPast version done discarded first line → IsReadableTo (done ++ piece ++ more) (before + 1)
  unstored_at s at before w u = unstored s at before u.end u.beat w u.line u.read u.inside

  -- a piece that is used up except for a line without its end
  pub ends : (s : Script C M) (at before : ℕ) → Walked version piece first line s at before → IsUnfinished (drop at piece)
      → IsPieceRead version piece first line s before (Ok at)
  ends s at before w rest = record {
    used = w.within;
    lines = w.few;
    rest = rest;
    grown = λ _. w.grown;
    told = w.read;
    fault = λ done more discarded r. tt;
    memory = λ done more discarded r. tt;
    stopped = λ done discarded r. tt;
  }

  -- and one with a line that is refused
  pub stops : (s s' : Script C M) (at before : ℕ) (kind : TraceKind) → C ≤ WIDEST → M ≤ WIDEST → Walked version piece first line s at before
      → at < length piece → (kind ≢ OutOfMemory → IsFaultyAt version C M piece at kind) → (kind ≡ OutOfMemory → IsReadableAt version C M piece at)
      → IsSameScript s s'
      → IsPieceRead version piece first line s' before (Err (record { line = before + 1; kind = kind }))
  stops s s' at before kind client manager w lt faulty readable same = record {
    used = tt;
    lines = tt;
    rest = tt;
    grown = λ ok. absurd cc;
    told = λ done discarded r. tt;
    fault = λ done more discarded r other. refused_at s at before kind client manager w lt (faulty other) done more discarded r;
    memory = λ done more discarded r is. unstored_at s at before w (readable is) done more discarded r;
    stopped = λ done discarded r. record { used = at; read = (waits s s' at before w same).read done discarded r; next = refl };
  }

  -- the same by the fault that names the line
  pub named_by : (s' : Script C M) (before : ℕ) (kind : TraceKind) (fault : TraceFault) → fault.line ≡ before + 1 → fault.kind ≡ kind
      → IsPieceRead version piece first line s' before (Err (record { line = before + 1; kind = kind }))
      → IsPieceRead version piece first line s' before (Err fault)
  named_by s' before kind fault place same is =
      subst (λ (k : TraceKind). IsPieceRead version piece first line s' before (Err (record { line = fault.line; kind = k }))) (sym same)
      (subst (λ (n : ℕ). IsPieceRead version piece first line s' before (Err (record { line = n; kind = kind }))) (sym place) is)

-- the same in a version that is this one
pub of_version : {C M : ℕ} {v w : ℕ} {piece : List ℕ} {before after : Script C M} {line last : ℕ} {r : Result ℕ TraceFault} → v ≡ w
    → IsPieceRead w piece before line after last r → IsPieceRead v piece before line after last r
of_version {piece = piece} {before = before} {after = after} {line = line} {last = last} {r = r} same =
    subst (λ k. IsPieceRead k piece before line after last r) (sym same)

-- the fault of what is left at the end of a text
pub end_faulty : {C M : ℕ} (version : ℕ) (done rest : List ℕ) (discarded : Discarded C M) (s : Script C M) (line : ℕ) (kind : TraceKind)
    → HasReadPast version done discarded s line → 0 < length rest → IsFree rest
    → later_fault version C M rest ≡ Some kind → IsFirstFault (done ++ rest) (line + 1) kind
end_faulty {C} {M} version done rest discarded s line kind r lt free fault =
    first_fault (done ++ rest) line kind [] (read_faults version done rest discarded s line r
    ∙ ap (λ (ls : List (List ℕ)). replicate line None ++ map (later_fault version C M) ls) (cut_whole rest lt free)
    ∙ ap (λ (o : Option TraceKind). replicate line None ++ o ∷ []) fault)

-- ---- a whole text

pub header_line : (text : List ℕ) (end version client manager : ℕ) → LineAt text 0 end → end < length text → HasHeader text version client manager
    → IsHeaderLine (take (end + 1) text) version client manager
header_line text end version client manager l lt named =
    let b = slice_range text 0 end in
    let size : (end + 1) - 0 ≡ end + 1 = omega arith in
    let is : take (end + 1) text ≡ b ++ newline = ap (λ (n : ℕ). take n text) (sym size) ∙ line_more text 0 0 end (omega arith) l lt in
    let first : body (take (end + 1) text) ≡ b = ap body is ∙ body_line b (free_line text 0 end l) in
    record {
      named = ap header_of (first ∙ sym (first_line text end l)) ∙ named;
      whole = is ∙ ap (λ (xs : List ℕ). xs ++ newline) (sym first);
    }

module _ (text : List ℕ) (n : ℕ) (later : List ℕ) (is : later ≡ drop n text) where
  front : take n text ++ later ≡ text
  front = ap (λ (xs : List ℕ). take n text ++ xs) is ∙ take-append-drop n text

  pub whole_text : take n text ++ later ++ [] ≡ text
  whole_text = append-nil (take n text ++ later) ∙ front

  module _ (used : ℕ) (rest : List ℕ) (left : rest ≡ drop used later) where
    pub parted_text : take n text ++ take used later ++ rest ≡ text
    parted_text =
        append_assoc (take n text) (take used later) rest
        ∙ ap (λ (xs : List ℕ). take n text ++ xs) (ap (λ (xs : List ℕ). take used later ++ xs) left ∙ take-append-drop used later) ∙ front

    pub used_text : rest ≡ [] → take n text ++ take used later ≡ text
    used_text none = sym (append-nil (take n text ++ take used later)) ∙ ap (λ (xs : List ℕ). take n text ++ take used later ++ xs)
        (sym none) ∙ parted_text

pub tells_script : {C M : ℕ} (version : ℕ) (done text : List ℕ) (s : Script C M) (line : ℕ) → done ≡ text → HasRead version done s line
    → TellsScript version text s
tells_script version done text s line same r = subst (λ t. TellsScript version t s) same (record {
  lines = r.lines;
  told = r.told;
  script = record { a = r.script.a; b = r.script.b; c = r.script.c; d = r.script.d; e = r.script.e };
})

-- ---- beats that are removed

parts-of : {X : Type 0} (discarded held left : List X) (n : ℕ) → left ≡ drop n held → (discarded ++ take n held) ++ left ≡ discarded ++ held
parts-of {X} discarded held left n is =
    append_assoc discarded (take n held) left ∙ ap (λ (xs : List X). discarded ++ xs) (ap (λ (xs : List X). take n held ++ xs) is ∙ take-append-drop n held)

pub lets_go : {C M : ℕ} (version : ℕ) (counts : Counts) (s s' : Script C M) (line : ℕ) → HasRemoved counts s s' → (done : List ℕ) (discarded : Discarded C M)
    → HasReadPast version done discarded s line → HasReadPast version done (more_discarded discarded counts s) s' line
lets_go version counts s s' line went done discarded r = record {
  lines = r.lines;
  told = r.told;
  script = record {
    a = parts-of discarded.a s.a.items s'.a.items counts.a went.a ∙ r.script.a;
    b = parts-of discarded.b s.b.items s'.b.items counts.b went.b ∙ r.script.b;
    c = parts-of discarded.c s.c.items s'.c.items counts.c went.c ∙ r.script.c;
    d = parts-of discarded.d s.d.items s'.d.items counts.d went.d ∙ r.script.d;
    e = parts-of discarded.e s.e.items s'.e.items counts.e went.e ∙ r.script.e;
  };
  place = r.place;
}
