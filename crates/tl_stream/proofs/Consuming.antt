-- A consumer while a text is read: those beats that were consumed go, and more is read.
use Rattle.tl_stream.proofs.Names.{◌≡◌, ◌≢◌, ◌<◌, ◌≤◌, ◌++◌, ◌∙◌, ℕ, Bool, false, Option, List, [], length, refl, sym, ap, subst, arith}
use Rattle.tl_stream.proofs.Names.{length-append, append-nil, IfErr, IfOk, IfSome, Result, Ok, Err, Consumes, Tells}
use Rattle.tl_stream.proofs.Names.{Discarded, IsRestOf, beat_of_a, beat_of_b, beat_of_c, beat_of_d, beat_of_e, more_discarded, none_gone, Script, ScriptReader}
use Rattle.tl_stream.proofs.Names.{HasGrown, HasHeader, HasRead, HasReadPast, IsHeaderLine}
use Rattle.tl_stream.proofs.Names.{AreFew, HasReadHeld, HasTaken, HasUsedHeader, IsNew, IsReading, IsWidth, unread_of, IsReadThrough, IsBetweenPast}
use Rattle.tl_stream.proofs.Names.{IsRefused, ReadsScript, held}
use Rattle.tl_stream.proofs.Names.{most_bytes, TextFault, Input}
use Rattle.tl_trace.specs.declared.script.Counts.{Counts}
use Rattle.tl_stream.specs.Consuming.{HasAdvanced, none_yet, one_more, IsConsumedInPieces}
use Rattle.tl_stream.specs.Inner.Keeping.{Keeps}
use Rattle.tl_stream.specs.declared.fault.TextFault.TheVariants as faults
use Rattle.tl_stream.specs.declared.keep_all.KeepAll.{KeepAll}
use Rattle.tl_stream.proofs.Lengths.{few-chosen, lines-few}
use Rattle.tl_stream.specs.Inner.Consuming.{CanConsume}
use Rattle.tl_stream.specs.Inner.Lines.{IsBeginning, ReadsHeld}
use Rattle.tl_stream.proofs.Between.{reading}
use Rattle.tl_stream.proofs.ToRead.{unlike, widths_named}

-- why no more could be read
pub refused-read : (unread left : Option (List ℕ)) (input : Input) (fault : TextFault) → (fault ≢ faults.Read → fault ≡ faults.TooLong) →
    (fault ≡ faults.TooLong → IfSome unread (λ text. most_bytes < length text)) → IsRefused unread left input fault
refused-read unread left input (faults.Trace fault) kinds long = let no : faults.Trace fault ≡ faults.TooLong = kinds (λ p. absurd cc) in absurd cc
refused-read unread left input faults.Stalled kinds long = let no : faults.Stalled ≡ faults.TooLong = kinds (λ p. absurd cc) in absurd cc
refused-read unread left input faults.Read kinds long = tt
refused-read unread left input faults.Write kinds long = let no : faults.Write ≡ faults.TooLong = kinds (λ p. absurd cc) in absurd cc
refused-read unread left input faults.TooLong kinds long = long refl
refused-read unread left input faults.OutOfMemory kinds long = tt

module _ {L : Type 0} {C M : ℕ} (HasConsumed : L → Discarded C M → Script C M → Type 0) (ConsumesOn : L → L → Script C M → Counts → Type 0) (most : ℕ)
    (first : L) (unread left : Option (List ℕ)) (v : ℕ) (lines : ScriptReader C M) (input : Input) (consumer : L) where
  -- the consumer advanced over the lines that were used, and relates to the beats that are read after them
  pub record IsAhead : Type 0 where
    pub discarded : Discarded C M
    pub between : IsBetweenPast discarded unread left lines input
    pub has_consumed : (more : Script C M) → HasGrown lines.script more → AreFew discarded more → HasConsumed consumer discarded more
    pub version : lines.version ≡ v
    pub size : length input.buffer.items ≡ most
    pub advanced : HasAdvanced ConsumesOn v most first consumer between.used discarded

  -- more lines were read after those that the consumer advanced over
  pub record IsBehind : Type 0 where
    pub discarded : Discarded C M
    pub between : IsBetweenPast discarded unread left lines input
    pub has_consumed : HasConsumed consumer discarded lines.script
    pub version : lines.version ≡ v
    pub size : length input.buffer.items ≡ most
    pub text : List ℕ
    pub piece : List ℕ
    pub whole : between.used ≡ text ++ piece
    pub few : length piece ≤ most
    pub advanced : HasAdvanced ConsumesOn v most first consumer text discarded

module _ {C M : ℕ} where
  -- the beats that were removed, with those that the script holds, can be counted
  pub counted : (unread left : Option (List ℕ)) (discarded : Discarded C M) (lines : ScriptReader C M) (input : Input) →
      IsBetweenPast discarded unread left lines input → AreFew discarded lines.script
  counted unread left discarded lines input b =
      let sum = length-append b.used (held input) in
      let count = b.taken.count in
      let few : length b.used ≤ most_bytes = omega (arith, sum, count, b.taken.few) in
      let few_lines = lines-few b.used lines.version C M b.read.lines b.read.told few in
      let is = b.read.script in
      let s = lines.script in
      record {
        few_a = few-chosen (beat_of_a C) b.read.lines few_lines (discarded.a ++ s.a.items) is.a;
        few_b = few-chosen (beat_of_b M) b.read.lines few_lines (discarded.b ++ s.b.items) is.b;
        few_c = few-chosen (beat_of_c C) b.read.lines few_lines (discarded.c ++ s.c.items) is.c;
        few_d = few-chosen (beat_of_d M) b.read.lines few_lines (discarded.d ++ s.d.items) is.d;
        few_e = few-chosen (beat_of_e C) b.read.lines few_lines (discarded.e ++ s.e.items) is.e;
      }

  module _ {L : Type 0} {HasConsumed : L → Discarded C M → Script C M → Type 0} {ConsumesOn : L → L → Script C M → Counts → Type 0} {most : ℕ} {first : L}
      {unread left : Option (List ℕ)} {v : ℕ} where
    -- the first piece
    first-consumed : (lines : ScriptReader C M) (input input' : Input) (consumer : L) → lines.version ≡ v → IsNew HasConsumed consumer →
        HasTaken unread left [] input → HasHeader (held input) v C M →
        ((text : List ℕ) → IsHeaderLine text v C M → HasRead v text lines.script lines.line) →
        HasUsedHeader input input' → length input'.buffer.items ≡ most → consumer ≡ first →
        IsAhead HasConsumed ConsumesOn most first unread left v lines input' consumer
    first-consumed lines input input' consumer version new taken named none h size is = record {
      discarded = none_gone;
      between = record {
        used = h.line;
        taken = h.taken unread left taken;
        read = subst (λ v. HasRead v h.line lines.script lines.line) (sym version) (none h.line (h.header v C M named));
      };
      has_consumed = λ more grown few. new more few;
      version = version;
      size = size;
      advanced = subst (λ k. HasAdvanced ConsumesOn v most first k h.line none_gone) (sym is) (none_yet h.line (h.header v C M named));
    }

    -- the lines that the input held were read
    pub behind : {lines lines' : ScriptReader C M} {input input' : Input} {consumer : L} {more : Bool} →
        IsAhead HasConsumed ConsumesOn most first unread left v lines input consumer → HasReadHeld lines input lines' input' more →
        IsBehind HasConsumed ConsumesOn most first unread left v lines' input' consumer
    behind {lines' = lines'} {input' = input'} a r =
        let between = r.between unread left a.discarded a.between in
        record {
          discarded = a.discarded;
          between = between;
          has_consumed = a.has_consumed lines'.script r.grown (counted unread left a.discarded lines' input' between);
          version = r.version ∙ a.version;
          size = ap length r.buffer ∙ a.size;
          text = a.between.used;
          piece = r.piece;
          whole = r.piece_used unread left a.discarded a.between;
          few = subst (λ n. length r.piece ≤ n) a.size r.piece_few;
          advanced = a.advanced;
        }

    -- the text up to the end of these lines
    read-behind : {lines : ScriptReader C M} {input : Input} {consumer : L} (b : IsBehind HasConsumed ConsumesOn most first unread left v lines input consumer) →
        HasReadPast v (b.text ++ b.piece) b.discarded lines.script lines.line
    read-behind {lines = lines} b =
        subst (λ n. HasReadPast n (b.text ++ b.piece) b.discarded lines.script lines.line) b.version
        (subst (λ done. HasReadPast lines.version done b.discarded lines.script lines.line) b.whole b.between.read)

    -- they were consumed, some went, and more was read
    pub consumed : {left' : Option (List ℕ)} {lines : ScriptReader C M} {input : Input} {consumer : L}
        (b : IsBehind HasConsumed ConsumesOn most first unread left v lines input consumer)
        (lines' : ScriptReader C M) (input' : Input) (consumer' : L) (counts : Counts) → lines'.version ≡ lines.version
        → ((done : List ℕ) (discarded : Discarded C M) → HasReadPast lines.version done discarded lines.script lines.line →
        HasReadPast lines.version done (more_discarded discarded counts lines.script) lines'.script lines'.line)
        → ConsumesOn consumer consumer' lines.script counts → length input'.buffer.items ≡ length input.buffer.items
        → ((more : Script C M) → HasGrown lines'.script more → AreFew (more_discarded b.discarded counts lines.script) more →
        HasConsumed consumer' (more_discarded b.discarded counts lines.script) more)
        → HasTaken unread left' b.between.used input' → IsAhead HasConsumed ConsumesOn most first unread left' v lines' input' consumer'
    consumed {lines = lines} {consumer = consumer} b lines' input' consumer' counts version told on size has_consumed taken =
        let after = more_discarded b.discarded counts lines.script in
        let used = b.between.used in
        record {
          discarded = after;
          between = record {
            used = used;
            taken = taken;
            read = subst (λ v. HasReadPast v used after lines'.script lines'.line) (sym version) (told used b.discarded b.between.read);
          };
          has_consumed = has_consumed;
          version = version ∙ b.version;
          size = size ∙ b.size;
          advanced = subst (λ done. HasAdvanced ConsumesOn v most first consumer' done after) (sym b.whole)
              (one_more consumer consumer' b.text b.piece b.discarded lines.script lines.line counts b.advanced b.few (read-behind b) on);
        }

    -- nothing is left
    pub read-through : {lines lines' : ScriptReader C M} {input input' : Input} {consumer : L} {more : Bool} →
        IsBehind HasConsumed ConsumesOn most first unread left v lines' input' consumer → HasReadHeld lines input lines' input' more → more ≡ false →
        IsReadThrough HasConsumed unread left v consumer lines'.script × IsConsumedInPieces ConsumesOn v most first unread left consumer lines'.script
    read-through {lines' = lines'} {input' = input'} b r none =
        let used = b.between.used in
        let t = b.between.taken in
        let all : used ++ held input' ≡ used = ap (λ bytes. used ++ bytes) (r.end none) ∙ append-nil used in
        let took = subst (λ bytes. Consumes unread left bytes) all t.took in (
          record {
            text = used;
            took = took;
            end = t.end (unlike input'.to (length input'.buffer.items) (sym r.full ∙ none));
            few = let same = ap length all in omega (arith, same, t.count, t.few);
            lines = b.between.read.lines;
            told = subst (λ v. Tells used v C M b.between.read.lines) b.version b.between.read.told;
            discarded = b.discarded;
            rest = b.between.read.script;
            has_consumed = b.has_consumed;
          },
          record {
            text = b.text;
            piece = b.piece;
            took = subst (λ bytes. Consumes unread left bytes) b.whole took;
            discarded = b.discarded;
            advanced = b.advanced;
            few = b.few;
            line = lines'.line;
            read = read-behind b;
          },
        )

  module _ {L : Type 0} (HasConsumed : ℕ → L → Discarded C M → Script C M → Type 0) where
    -- the widths of a text that begins
    pub beginning_widths : {left : Option (List ℕ)} {input : Input} {lines : ScriptReader C M} {consumer : L} →
        IsBeginning HasConsumed left input lines consumer → IsWidth C × IsWidth M
    beginning_widths {input = input} b = widths_named (held input) b.0 C M b.3

    -- its header was used
    pub begins : (ConsumesOn : L → L → Script C M → Counts → Type 0) {left : Option (List ℕ)} {input input' : Input} {lines : ScriptReader C M} {consumer : L} →
        IsBeginning HasConsumed left input lines consumer → HasUsedHeader input input'
        → IsAhead (HasConsumed lines.version) ConsumesOn (length input.buffer.items) consumer (unread_of input left) left lines.version lines input' consumer
    begins ConsumesOn {left} {input} {input'} {lines} {consumer} b h =
        subst (λ v. IsAhead (HasConsumed v) ConsumesOn (length input.buffer.items) consumer (unread_of input left) left v lines input' consumer) (sym b.1)
        (first-consumed lines input input' consumer b.1 b.4 b.2.taken b.3 b.5 h h.size refl)

    module _ (ConsumesOn : L → L → Script C M → Counts → Type 0) (most : ℕ) (first : L) (unread left : Option (List ℕ)) (v : ℕ)
        (lines : ScriptReader C M) (input : Input) (consumer : L) where
      -- at the beginning of a round: the lines can be read, and the consumer can advance over them, in the form that `read_on` requires
      abbrev pub GoesOn : Type 0
      GoesOn = IsAhead (HasConsumed v) ConsumesOn most first unread left v lines input consumer × IsReading lines input × CanConsume HasConsumed lines input consumer

      pub goes-on : IsWidth C × IsWidth M → IsAhead (HasConsumed v) ConsumesOn most first unread left v lines input consumer → GoesOn
      goes-on widths ahead = (
        ahead,
        reading widths.0 widths.1 unread left lines input ahead.between,
        λ lines' input' more r. let b = behind ahead r in (v, b.discarded, b.has_consumed),
      )

    -- the lines that the input held can be consumed
    pub can-consume : (lines : ScriptReader C M) (input : Input) (lines' : ScriptReader C M) (input' : Input) (consumer : L)
        (r : Result Bool TextFault) → IsWidth C → IsWidth M → CanConsume HasConsumed lines input consumer → ReadsHeld lines input lines' input' r
        → IfOk r (λ _. IsWidth C × IsWidth M × ((version : ℕ) × (discarded : Discarded C M) × HasConsumed version consumer discarded lines'.script))
    can-consume lines input lines' input' consumer (Ok more) client manager can read = (client, manager, can lines' input' more read)
    can-consume lines input lines' input' consumer (Err fault) client manager can read = tt

  -- if all beats are kept, those at the end are the script
  pub reads-script : (unread left : Option (List ℕ)) (version : ℕ) (input : Input) (keeper : KeepAll) (result : Result (Script C M) TextFault) →
      IfOk result (IsReadThrough (Keeps version) unread left version keeper) → IfErr result (IsRefused unread left input) →
      ReadsScript unread left version input result
  reads-script unread left version input keeper (Err fault) ok err = err
  reads-script unread left version input keeper (Ok s) read err =
      let is = subst (λ discarded. IsRestOf read.lines discarded s) read.has_consumed read.rest in
      record {
        text = read.text;
        took = read.took;
        end = read.end;
        few = read.few;
        told = record { lines = read.lines; told = read.told; script = record { a = is.a; b = is.b; c = is.c; d = is.d; e = is.e } };
      }
