-- Reading a text to its end, piece by piece.
use Rattle.tl_stream.proofs.Names.{IfSome, ◌≡◌, ◌≢◌, ℕ, ◌+◌, ◌-◌, ◌<◌, ◌≤◌, Bool, true, false, cond, nat_eq, nat_le, List, [], ◌++◌, length}
use Rattle.tl_stream.proofs.Names.{take, Option, Some, refl, sym, ap, ◌∙◌, subst, arith, eq-eqb, eqb-true, leb-true, IsAtEnd, list_all}
use Rattle.tl_stream.proofs.Names.{slice_range, header_of, HasHeader, IsFirstFault, versions, widths, is_version}
use Rattle.tl_stream.proofs.Names.{is_width, header_text, Header, HasTaken, HasUsedHeader, IsFresh, held, unread_of}
use Rattle.tl_stream.proofs.Names.{most_bytes, Input, IsWidth}
use Rattle.tl_trace.specs.Faults.{body}
use Rattle.std.specs.Fmt.{digits}
use Rattle.tl_trace.specs.Inner.Reading.{LineAt}
use Rattle.tl_trace.specs.declared.fault.TraceKind.TheVariants as kinds
use Rattle.tl_trace.proofs.Headers.{header, known, is_header}
use Rattle.tl_trace.proofs.OneTrace.{in_list}
use Rattle.tl_trace.proofs.Pieces.{header_line}
use Rattle.tl_trace.proofs.ReadBeats.{first_line}
use Rattle.tl_trace.proofs.Walk.{no_header_end, last_line}
use Rattle.tl_trace.proofs.Widths.{width_of}
use Rattle.tl_stream.proofs.Between.{held_size, advanced, of_whole}

-- the number of bytes that may still be read, plus one if the end was not found yet
abbrev pub to_read : Input → ℕ
to_read input = (most_bytes - input.total) + cond (nat_eq input.to (length input.buffer.items)) 1 0

-- the bytes that were read are not kept
pub record IsDraining (first left : Option (List ℕ)) (input input' : Input) : Type 0 where
  pub from : input'.from ≤ input'.to
  pub to : input'.to ≤ length input'.buffer.items
  pub few : input'.total ≤ most_bytes
  pub room : 0 < length input'.buffer.items
  pub some : (unread : Option (List ℕ)) × (used : List ℕ) × HasTaken unread left used input'
  pub taken : (unread : Option (List ℕ)) (used : List ℕ) → HasTaken unread first used input → (used' : List ℕ) × HasTaken unread left used' input'

-- a part that is shorter than a line is no buffer
pub part-short : (n part most long : ℕ) → n ≡ part → n < most → most < long → part < long
part-short n part most long size short room = omega arith

-- if the buffer was full and bytes were only used in between, another piece was read, or the end was found
pub smaller : (was a c : Input) (more : Bool) → a.total ≡ was.total → a.to ≡ was.to → a.buffer.items ≡ was.buffer.items →
    more ≡ nat_eq a.to (length a.buffer.items) → more ≡ true → a.total ≤ c.total →
    (c.to ≡ length c.buffer.items → a.total < c.total) → c.total ≤ most_bytes → to_read c < to_read was
smaller was a c more total to buffer is full less grown few = pick (nat_eq c.to (length c.buffer.items)) refl
  where
    was_full : nat_eq was.to (length was.buffer.items) ≡ true
    was_full = ap (λ (n : ℕ). nat_eq n (length was.buffer.items)) (sym to) ∙ ap (λ (n : ℕ). nat_eq a.to n) (ap length (sym buffer)) ∙ sym is ∙ full

    before : to_read was ≡ (most_bytes - was.total) + 1
    before = ap (λ (t : Bool). (most_bytes - was.total) + cond t 1 0) was_full

    pick : (t : Bool) → nat_eq c.to (length c.buffer.items) ≡ t → to_read c < to_read was
    pick true e =
        let lt = grown (eqb-true c.to (length c.buffer.items) e) in
        let after : to_read c ≡ (most_bytes - c.total) + 1 = ap (λ (t : Bool). (most_bytes - c.total) + cond t 1 0) e in
        omega (arith, before, after, lt, few, total)
    pick false e =
        let after : to_read c ≡ (most_bytes - c.total) + 0 = ap (λ (t : Bool). (most_bytes - c.total) + cond t 1 0) e in
        omega (arith, before, after, less, total)

pub unlike : (m n : ℕ) → nat_eq m n ≡ false → m ≢ n
unlike m n other e = absurd (let bad = sym other ∙ eq-eqb m n e in cc)

-- the header's line is used
pub header_used : (input input' : Input) (bytes : List ℕ) (end : ℕ) → bytes ≡ held input → input.from ≤ input.to →
    input.to ≤ length input.buffer.items → LineAt bytes 0 end → end < length bytes
    → input'.from ≡ input.from + (end + 1) → input'.to ≡ input.to → input'.buffer.items ≡ input.buffer.items → input'.total ≡ input.total
    → HasUsedHeader input input'
header_used input input' bytes end same forward within line lt from to buffer total =
    let size = held_size input forward within in
    let sized : length bytes ≡ length (held input) = ap length same in
    let inside : input.from + (end + 1) ≤ input.to = omega (arith, size, sized, lt, forward) in
    let line' : LineAt (held input) 0 end = subst (λ xs. LineAt xs 0 end) same line in
    let lt' : end < length (held input) = omega (arith, sized, lt) in
    record {
      line = take (end + 1) (held input);
      taken = λ unread left t. advanced input input' (end + 1) from to buffer total inside unread left [] t;
      header = λ version client manager named. header_line (held input) end version client manager line' lt' named;
      size = ap length buffer;
    }

-- the widths that a header names are widths
pub widths_named : (text : List ℕ) (version client manager : ℕ) → HasHeader text version client manager → IsWidth client × IsWidth manager
widths_named text version client manager is =
    let all = known (body text) (header version client manager) is in (width_of version client all.1, width_of version manager all.2)

-- ---- a text whose first line has no end, or no header

short_text : (version client manager : ℕ) → is_version version ≡ true → is_width version client ≡ true → is_width version manager ≡ true →
    nat_le (length (header_text version client manager)) 64 ≡ true
unfolding digits
short_text version client manager v c m =
    in_list (λ n. nat_le (length (header_text version client n)) 64) (widths version) manager m
    (in_list (λ n. list_all (λ k. nat_le (length (header_text version n k)) 64) (widths version)) (widths version) client c
    (in_list (λ v. list_all (λ n. list_all (λ k. nat_le (length (header_text v n k)) 64) (widths v)) (widths v)) versions version v refl))

-- a header is short
pub header_short : (text : List ℕ) (h : Header) → header_of text ≡ Some h → length text ≤ 64
header_short text h is =
    let all = known text h is in
    leb-true (length text) 64 (ap (λ (xs : List ℕ). nat_le (length xs) 64) (is_header text h is) ∙
    short_text h.version h.client h.manager all.0 all.1 all.2)

-- a header's line that is not whole is the text's end
pub header_unended : (left : Option (List ℕ)) (input : Input) (version client manager end : ℕ) (bytes : List ℕ) → bytes ≡ held input →
    IsFresh left input → HasHeader (held input) version client manager
    → LineAt bytes 0 end → length bytes ≤ end → IfSome (unread_of input left) (λ text. IsFirstFault text 1 kinds.NoEnd)
header_unended left input version client manager end bytes same fresh named line past =
    let line' : LineAt (held input) 0 end = subst (λ xs. LineAt xs 0 end) same line in
    let all : end ≡ length (held input) = omega (arith, past, ap length same, line'.to) in
    let first = first_line (held input) end line' in
    let some : header_of (slice_range (held input) 0 end) ≡ Some (header version client manager) = ap header_of (sym first) ∙ named in
    let whole : held input ≡ slice_range (held input) 0 end = last_line (held input) 0 end line' all in
    let short : length (held input) ≤ 64 =
    subst (λ n. n ≤ 64) (sym (ap length whole)) (header_short (slice_range (held input) 0 end) (header version client manager) some) in
    let size = held_size input fresh.taken.from fresh.taken.to in
    let not_full : input.to ≢ length input.buffer.items = λ e. let room = fresh.taken.room in let zero_from = fresh.first in
    absurd (omega (arith, room, zero_from, e, size, short)) in
    of_whole (λ text. IsFirstFault text 1 kinds.NoEnd) (unread_of input left) left (held input) fresh.taken.took (fresh.taken.end not_full)
    (no_header_end (held input) end (header version client manager) line' some all)

-- all that was read is used
pub used_up : (unread left : Option (List ℕ)) (used : List ℕ) (input : Input) → HasTaken unread left used input
    → HasTaken unread left (used ++ take (input.to - input.from) (held input))
    (record { buffer = input.buffer; from = input.to; to = input.to; total = input.total })
used_up unread left used input t =
    advanced input (record { buffer = input.buffer; from = input.to; to = input.to; total = input.total }) (input.to - input.from)
    (omega (arith, t.from)) refl refl refl (omega (arith, t.from)) unread left used t

-- the end was found
pub all_read : (unread left : Option (List ℕ)) (used : List ℕ) (input : Input) → HasTaken unread left used input →
    nat_eq input.to (length input.buffer.items) ≡ false
    → IsAtEnd left × IfSome unread (λ text. length text ≤ most_bytes)
all_read unread left used input t other =
    let end = t.end (unlike input.to (length input.buffer.items) other) in
    (end, of_whole (λ text. length text ≤ most_bytes) unread left (used ++ held input) t.took end (omega (arith, t.count, t.few)))
