-- The part of a text that was read, between two pieces of it.
use Rattle.tl_stream.proofs.Names.{IfSome, ◌≡◌, ◌≢◌, ℕ, ◌+◌, ◌-◌, ◌≤◌, List, ◌++◌, length, take, drop, Option, None, Some, refl, sym, ap, ◌∙◌, subst}
use Rattle.tl_stream.proofs.Names.{arith, length-append, length-drop, append_assoc, append-nil, take-append-drop, drop-drop, drop-take}
use Rattle.tl_stream.proofs.Names.{length-take-le, Consumes, IsAtEnd, slice_range, IsWidth, IsFirstFault, Discarded, HasReadPast, ScriptReader}
use Rattle.tl_stream.proofs.Names.{Bool, false, nat_eq, [], HasGrown, HasReadHeld, IsUnfinished, IsBetweenPast}
use Rattle.tl_stream.proofs.Names.{IsReading, HasTaken, IsRefused, held, most_bytes, Input}
use Rattle.tl_trace.specs.declared.fault.TraceFault.{TraceFault}
use Rattle.tl_trace.specs.declared.fault.TraceKind.{TraceKind}
use Rattle.tl_trace.specs.declared.fault.TraceKind.TheVariants as kinds
use Rattle.tl_stream.specs.Faults.{of_kind, of_trace}
use Rattle.std.proofs.lemmas.List.{length-take}
use Rattle.tl_stream.proofs.Lengths.{lines-below}

-- the lines that the input holds can be read
pub reading : {C M : ℕ} → IsWidth C → IsWidth M → {discarded : Discarded C M} (unread left : Option (List ℕ)) (lines : ScriptReader C M) (input : Input) →
    IsBetweenPast discarded unread left lines input → IsReading lines input
reading {C} {M} client manager {discarded} unread left lines input b =
    let below = lines-below b.used lines.version C M b.read.lines b.read.told in
    let sum = length-append b.used (held input) in
    let place : lines.line ≡ length b.read.lines + 1 = b.read.place in
    let count : input.total ≡ length (b.used ++ held input) = b.taken.count in
    let few : input.total ≤ most_bytes = b.taken.few in
    record {
      client = client;
      manager = manager;
      version = b.read.told.trace.known_version;
      from = b.taken.from;
      to = b.taken.to;
      few = omega arith;
    }

pub held_size : (input : Input) → input.from ≤ input.to → input.to ≤ length input.buffer.items → length (held input) ≡ input.to - input.from
held_size input from to =
    let after = length-drop input.from input.buffer.items in length-take-le (input.to - input.from) (drop input.from input.buffer.items) (omega arith)

-- a part of the held bytes is no longer than the buffer
taken_few : (n : ℕ) (input : Input) → length (take n (held input)) ≤ length input.buffer.items
taken_few n input =
    let rest = drop input.from input.buffer.items in
    let some = length-take n (held input) in
    let all = length-take (input.to - input.from) rest in
    let after = length-drop input.from input.buffer.items in
    omega (arith, some, all, after)

-- n bytes can be used
pub inside_held : (input : Input) (bytes : List ℕ) (n : ℕ) → bytes ≡ held input → input.from ≤ input.to → input.to ≤ length input.buffer.items →
    n ≤ length bytes → input.from + n ≤ input.to
inside_held input bytes n is from to few =
    let size = held_size input from to in let same = ap length is in omega (arith, size, same, from, few)

-- the remaining bytes of a part
rest_of : (xs : List ℕ) (from n to : ℕ) → from + n ≤ to → slice_range xs (from + n) to ≡ drop n (slice_range xs from to)
rest_of xs from n to le =
    let m = to - (from + n) in
    let whole : to - from ≡ n + m = omega arith in
    ap (take m) (sym (drop-drop n from xs)) ∙ sym (drop-take n m (drop from xs)) ∙ ap (λ (k : ℕ). drop n (take k (drop from xs))) (sym whole)

module _ (input input' : Input) (n : ℕ) (from : input'.from ≡ input.from + n) (to : input'.to ≡ input.to)
    (buffer : input'.buffer.items ≡ input.buffer.items) (total : input'.total ≡ input.total)
    (inside : input.from + n ≤ input.to) where
  pub held_rest : held input' ≡ drop n (held input)
  held_rest =
      ap (λ (xs : List ℕ). slice_range xs input'.from input'.to) buffer ∙ ap (λ (k : ℕ). slice_range input.buffer.items k input'.to) from
      ∙ ap (λ (k : ℕ). slice_range input.buffer.items (input.from + n) k) to ∙ rest_of input.buffer.items input.from n input.to inside

  -- n more bytes were used
  pub advanced : (unread left : Option (List ℕ)) (used : List ℕ) → HasTaken unread left used input →
      HasTaken unread left (used ++ take n (held input)) input'
  advanced unread left used t =
      let whole : used ++ take n (held input) ++ held input' ≡ used ++ held input =
      append_assoc used (take n (held input)) (held input') ∙
      ap (λ (xs : List ℕ). used ++ xs) (ap (λ (xs : List ℕ). take n (held input) ++ xs) held_rest ∙ take-append-drop n (held input)) in
      let long : length input'.buffer.items ≡ length input.buffer.items = ap length buffer in
      record {
        took = subst (Consumes unread left) (sym whole) t.took;
        count = total ∙ t.count ∙ ap length (sym whole);
        few = omega (arith, total, t.few);
        from = omega (arith, from, to, inside);
        to = omega (arith, to, long, t.to);
        end = λ other. t.end (λ e. other (to ∙ e ∙ sym long));
        room = omega (arith, long, t.room);
      }

  pub between_on : {C M : ℕ} (discarded : Discarded C M) (lines lines' : ScriptReader C M) (unread left : Option (List ℕ)) → lines'.version ≡ lines.version
      → ((done : List ℕ) → HasReadPast lines.version done discarded lines.script lines.line →
      HasReadPast lines.version (done ++ take n (held input)) discarded lines'.script lines'.line)
      → IsBetweenPast discarded unread left lines input → IsBetweenPast discarded unread left lines' input'
  between_on discarded lines lines' unread left version told b = record {
    used = b.used ++ take n (held input);
    taken = advanced unread left b.used b.taken;
    read = subst (λ v. HasReadPast v (b.used ++ take n (held input)) discarded lines'.script lines'.line) (sym version) (told b.used b.read);
  }

  pub unfinished : (bytes : List ℕ) → bytes ≡ held input → IsUnfinished (drop n bytes) → IsUnfinished (held input')
  unfinished bytes is rest = subst IsUnfinished (sym held_rest) (subst (λ xs. IsUnfinished (drop n xs)) is rest)

  -- the lines in the first n bytes were read
  module _ {C M : ℕ} (lines lines' : ScriptReader C M) (bytes : List ℕ) (is : bytes ≡ held input) (version : lines'.version ≡ lines.version)
      (told : (done : List ℕ) (discarded : Discarded C M) → HasReadPast lines.version done discarded lines.script lines.line →
      HasReadPast lines.version (done ++ take n bytes) discarded lines'.script lines'.line) where
    pub between_read : (unread left : Option (List ℕ)) (discarded : Discarded C M) → IsBetweenPast discarded unread left lines input →
        IsBetweenPast discarded unread left lines' input'
    between_read unread left discarded b =
        between_on discarded lines lines' unread left version
        (λ done r. subst (λ xs. HasReadPast lines.version (done ++ take n xs) discarded lines'.script lines'.line) is (told done discarded r)) b

    pub has_read : (more : Bool) → HasGrown lines.script lines'.script → IsUnfinished (drop n bytes) →
        more ≡ nat_eq input'.to (length input'.buffer.items) → (more ≡ false → held input' ≡ []) → HasReadHeld lines input lines' input' more
    unfolding between_read between_on
    has_read more grown rest full end = record {
      version = version;
      grown = grown;
      total = total;
      to = to;
      buffer = buffer;
      rest = unfinished bytes is rest;
      full = full;
      end = end;
      between = between_read;
      piece = take n (held input);
      piece_few = taken_few n input;
      piece_used = λ unread left discarded b. refl;
    }

-- ---- faults

-- the text's own fault, or out of memory
pub any_refused : (unread left : Option (List ℕ)) (used : List ℕ) (input : Input) (fault : TraceFault) → HasTaken unread left used input
    → (fault.kind ≢ kinds.OutOfMemory → IfSome unread (λ text. IsFirstFault text fault.line fault.kind)) →
    IsRefused unread left input (of_trace fault)
any_refused unread left used input fault t is = cases fault.kind refl
  where
    another : (kind : TraceKind) → fault.kind ≡ kind → kind ≢ kinds.OutOfMemory → ((x : List ℕ) × HasTaken unread left x input) ×
        (fault.kind ≢ kinds.OutOfMemory) × IfSome unread (λ text. IsFirstFault text fault.line fault.kind)
    another kind e other = let so : fault.kind ≢ kinds.OutOfMemory = λ p. other (sym e ∙ p) in ((used, t), so, is so)

    cases : (kind : TraceKind) → fault.kind ≡ kind → IsRefused unread left input (of_kind kind fault)
    cases kinds.OutOfMemory e = tt
    cases kinds.Header e = another kinds.Header e (λ p. absurd cc)
    cases kinds.Channel e = another kinds.Channel e (λ p. absurd cc)
    cases kinds.Length e = another kinds.Length e (λ p. absurd cc)
    cases kinds.Shape e = another kinds.Shape e (λ p. absurd cc)
    cases kinds.Range e = another kinds.Range e (λ p. absurd cc)
    cases kinds.NoEnd e = another kinds.NoEnd e (λ p. absurd cc)

-- a property of the bytes that were read, with all that may follow, is a property of the text
pub of_text : (P : List ℕ → Type 0) (unread left : Option (List ℕ)) (bytes : List ℕ) → Consumes unread left bytes →
    ((more : List ℕ) → P (bytes ++ more)) → IfSome unread P
of_text P None left bytes took all = tt
of_text P (Some text) None bytes took all = absurd took
of_text P (Some text) (Some more) bytes took all = subst P (sym took) (all more)

-- at the end what was read is the text
pub of_whole : (P : List ℕ → Type 0) (unread left : Option (List ℕ)) (bytes : List ℕ) → Consumes unread left bytes →
    IsAtEnd left → P bytes → IfSome unread P
of_whole P None left bytes took end is = tt
of_whole P (Some text) None bytes took end is = absurd took
of_whole P (Some text) (Some more) bytes took end is = subst P (sym (took ∙ ap (λ (xs : List ℕ). bytes ++ xs) end ∙ append-nil bytes)) is
