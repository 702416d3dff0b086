-- The state between two pieces of a text. Only private contracts use these words.
use Rattle.std.specs.Prelude.{◌≡◌, ◌≤◌, ◌<◌, ◌+◌, ◌++◌, ◌^◌, ℕ, Bool, true, false, nat_eq, List, [], length, Option, Result, Ok, Err}
use Rattle.tl_lanes.specs.Lanes.{IsWidth}
use Rattle.tl_trace.specs.Faults.{HasHeader}
use Rattle.tl_trace.specs.Scripts.{Discarded, HasGrown, HasRead, HasReadPast, IsHeaderLine, IsUnfinished, none_gone}
use Rattle.tl_trace.specs.Texts.{is_version}
use Rattle.tl_trace.specs.declared.script.Script.{Script}
use Rattle.tl_trace.specs.declared.script_reader.ScriptReader.{ScriptReader}
use Rattle.tl_stream.specs.Inputs.{HasTaken, IsFresh, IsRefused, held, unread_of}
use Rattle.tl_stream.specs.Consuming.{IsNew}
use Rattle.tl_stream.specs.declared.fault.TextFault.{TextFault}
use Rattle.tl_stream.specs.declared.input.Input.{Input}

-- the input holds the beginning of a text whose header names the version and the widths, and no line was read yet; each
-- part is stated as the caller knows it, so that it is found there
abbrev pub IsBeginning : {L : Type 0} {C M : ℕ} (HasConsumed : ℕ → L → Discarded C M → Script C M → Type 0) (left : Option (List ℕ)) (input : Input)
    (lines : ScriptReader C M) (consumer : L) → Type 0
IsBeginning {L} {C} {M} HasConsumed left input lines consumer =
    (version : ℕ) × (lines.version ≡ version) × IsFresh left input × HasHeader (held input) version C M × IsNew (HasConsumed version) consumer ×
    ((text : List ℕ) → IsHeaderLine text version C M → HasRead version text lines.script lines.line)

-- the lines that were read are the bytes of the text that were used, and these beats were removed
pub record IsBetweenPast {C M : ℕ} (discarded : Discarded C M) (unread left : Option (List ℕ)) (lines : ScriptReader C M) (input : Input) : Type 0 where
  pub used : List ℕ
  pub taken : HasTaken unread left used input
  pub read : HasReadPast lines.version used discarded lines.script lines.line

-- the same if no beat was removed
abbrev pub IsBetween : {C M : ℕ} (unread left : Option (List ℕ)) (lines : ScriptReader C M) (input : Input) → Type 0
IsBetween unread left lines input = IsBetweenPast none_gone unread left lines input

-- the lines that the input holds can be read
pub record IsReading {C M : ℕ} (lines : ScriptReader C M) (input : Input) : Type 0 where
  pub client : IsWidth C
  pub manager : IsWidth M
  pub version : is_version lines.version ≡ true
  pub from : input.from ≤ input.to
  pub to : input.to ≤ length input.buffer.items
  pub few : lines.line + length (held input) + 1 < 2 ^ 64

-- the header line was used
pub record HasUsedHeader (input input' : Input) : Type 0 where
  pub line : List ℕ
  pub taken : (unread left : Option (List ℕ)) → HasTaken unread left [] input → HasTaken unread left line input'
  pub header : (version client manager : ℕ) → HasHeader (held input) version client manager → IsHeaderLine line version client manager
  pub size : length input'.buffer.items ≡ length input.buffer.items

-- the result of using a header, for every text that has one
abbrev pub UsesHeader : (input input' : Input) → Result (Unit {0}) TextFault → Type 0
UsesHeader input input' (Ok _) = HasUsedHeader input input'
UsesHeader input input' (Err fault) =
    (left : Option (List ℕ)) (version client manager : ℕ) → IsFresh left input → HasHeader (held input) version client manager →
    IsRefused (unread_of input left) left input' fault

-- the whole lines that the input held were read, for every text and all beats that were removed
pub record HasReadHeld {C M : ℕ} (lines : ScriptReader C M) (input : Input) (lines' : ScriptReader C M) (input' : Input) (more : Bool) : Type 0 where
  pub version : lines'.version ≡ lines.version
  pub grown : HasGrown lines.script lines'.script
  pub total : input'.total ≡ input.total
  pub to : input'.to ≡ input.to
  pub buffer : input'.buffer.items ≡ input.buffer.items
  pub rest : IsUnfinished (held input')
  pub full : more ≡ nat_eq input'.to (length input'.buffer.items)
  pub end : more ≡ false → held input' ≡ []
  pub between : (unread left : Option (List ℕ)) (discarded : Discarded C M) → IsBetweenPast discarded unread left lines input →
      IsBetweenPast discarded unread left lines' input'
  -- the bytes of these lines
  pub piece : List ℕ
  pub piece_few : length piece ≤ length input.buffer.items
  pub piece_used : (unread left : Option (List ℕ)) (discarded : Discarded C M) (b : IsBetweenPast discarded unread left lines input) →
      (between unread left discarded b).used ≡ b.used ++ piece

-- the result of reading these lines
abbrev pub ReadsHeld : {C M : ℕ} (lines : ScriptReader C M) (input : Input) (lines' : ScriptReader C M) (input' : Input) →
    Result Bool TextFault → Type 0
ReadsHeld lines input lines' input' (Ok more) = HasReadHeld lines input lines' input' more
ReadsHeld {C} {M} lines input lines' input' (Err fault) =
    (unread left : Option (List ℕ)) (discarded : Discarded C M) → IsBetweenPast discarded unread left lines input → IsRefused unread left input' fault
