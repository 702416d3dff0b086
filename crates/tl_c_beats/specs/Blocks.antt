-- The block of an answer, as C has it (this project's choice).
use Rattle.std.specs.Prelude.{◌≡◌, ℕ, Bool, if◌then◌else◌, Option, None, Some}
use denote.RawPtr.{null_ptr}
use Rattle.std.specs.Vec.{vec_ptr, vec_len}
use Rattle.tl_c_beats.specs.declared.text_held.TextHeld.{TextHeld}
use Rattle.tl_c_beats.specs.declared.answer_block.AnswerBlock.{AnswerBlock}

-- the block of an answer: it holds the answer's text, and points to its bytes
pub record IsBlockOf (made : TextHeld) (done : Bool) (block : AnswerBlock) : Type 0 where
  pub held : block.owned.held ≡ Some made
  pub text : block.text ≡ vec_ptr made.text
  pub length : block.length ≡ vec_len made.text
  pub line : block.line ≡ 0
  pub all_done : block.all_done ≡ (if done then 1 else 0)

abbrev pub line_or_0 : Option ℕ → ℕ
line_or_0 None = 0
line_or_0 (Some line) = line

-- a block that holds nothing, with the line of a fault
pub record IsNoBlock (place : Option ℕ) (block : AnswerBlock) : Type 0 where
  pub held : block.owned.held ≡ None
  pub text : block.text ≡ null_ptr
  pub length : block.length ≡ 0
  pub line : block.line ≡ line_or_0 place
  pub all_done : block.all_done ≡ 0
