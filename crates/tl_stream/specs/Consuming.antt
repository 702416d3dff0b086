-- A text whose near beats are passed to a consumer while it is read (this project's choice).
use Rattle.std.specs.Prelude.{◌≤◌, ◌++◌, ◌^◌, ℕ, List, length, Option}
use Rattle.std.specs.Io.KnownBytes.{Consumes, IsAtEnd}
use Rattle.tl_trace.specs.Texts.{Tells}
use Rattle.tl_trace.specs.Scripts.{Discarded, HasReadPast, IsHeaderLine, IsRestOf, more_discarded, none_gone}
use Rattle.tl_trace.specs.declared.line.Line.{Line}
use Rattle.tl_trace.specs.declared.script.Counts.{Counts}
use Rattle.tl_trace.specs.declared.script.Script.{Script}
use Rattle.tl_stream.specs.Inputs.{most_bytes}

-- the beats that were removed, with those that the script holds, can be counted
pub record AreFew {C M : ℕ} (discarded : Discarded C M) (s : Script C M) : Type 0 where
  pub few_a : length (discarded.a ++ s.a.items) ≤ 2 ^ 40
  pub few_b : length (discarded.b ++ s.b.items) ≤ 2 ^ 40
  pub few_c : length (discarded.c ++ s.c.items) ≤ 2 ^ 40
  pub few_d : length (discarded.d ++ s.d.items) ≤ 2 ^ 40
  pub few_e : length (discarded.e ++ s.e.items) ≤ 2 ^ 40

-- The calls of a consumer while a text is read in pieces of at most `most` bytes. `new` is the consumer before the first
-- call
module _ {L : Type 0} {C M : ℕ} (ConsumesOn : L → L → Script C M → Counts → Type 0) (version most : ℕ) (new : L) where
  -- it has advanced over the lines of a text: over no beat after the header line, and after each piece over the beats
  -- that were not removed before and those of the lines that end in the piece
  pub data HasAdvanced : (consumer : L) → (text : List ℕ) → Discarded C M → Type 0 where
    none_yet : (header : List ℕ) → IsHeaderLine header version C M → HasAdvanced new header none_gone
    one_more : (before consumer : L) (text piece : List ℕ) (discarded : Discarded C M) (held : Script C M) (line : ℕ) (counts : Counts) →
        HasAdvanced before text discarded → length piece ≤ most → HasReadPast version (text ++ piece) discarded held line →
        ConsumesOn before consumer held counts → HasAdvanced consumer (text ++ piece) (more_discarded discarded counts held)

  -- the text was read to its end, and all but the beats of its last piece were passed to the consumer
  pub record IsConsumedInPieces (unread left : Option (List ℕ)) (consumer : L) (s : Script C M) : Type 0 where
    pub text : List ℕ
    pub piece : List ℕ
    pub took : Consumes unread left (text ++ piece)
    pub discarded : Discarded C M
    pub advanced : HasAdvanced consumer text discarded
    pub few : length piece ≤ most
    pub line : ℕ
    pub read : HasReadPast version (text ++ piece) discarded s line

-- how a consumer relates to the near beats that were removed and those that a script holds
module _ {L : Type 0} {C M : ℕ} (HasConsumed : L → Discarded C M → Script C M → Type 0) where
  -- it has advanced over no beat
  abbrev pub IsNew : L → Type 0
  IsNew consumer = (s : Script C M) → AreFew none_gone s → HasConsumed consumer none_gone s

  -- the text was read to its end, and the consumer is at the last beats of its script
  pub record IsReadThrough (unread left : Option (List ℕ)) (version : ℕ) (consumer : L) (s : Script C M) : Type 0 where
    pub text : List ℕ
    pub took : Consumes unread left text
    pub end : IsAtEnd left
    pub few : length text ≤ most_bytes
    pub lines : List Line
    pub told : Tells text version C M lines
    pub discarded : Discarded C M
    pub rest : IsRestOf lines discarded s
    pub has_consumed : HasConsumed consumer discarded s
