-- The results that C receives for the answer to a text (this project's choice).
use Rattle.std.specs.Prelude.{◌≡◌, ◌<◌, ◌==◌, ℕ, Bool, not, List, length}
use Rattle.tl_stream.specs.Faults.{text_fault_number, text_fault_line}
use Rattle.tl_answer.specs.Texts.{IsAnswer, IsOfText}
use Rattle.tl_stream.specs.Inputs.{most_bytes}
use Rattle.tl_answer.specs.declared.answer.Answer.{Answer}
use Rattle.tl_stream.specs.declared.fault.TextFault.{TextFault}
use Rattle.tl_stream.specs.declared.fault.TextFault.TheVariants as faults
use Rattle.tl_c_beats.specs.Blocks.{IsBlockOf, IsNoBlock}
use Rattle.tl_c_beats.specs.declared.answer_block.AnswerBlock.{AnswerBlock}

-- a flag is set if it is not 0
abbrev pub is_set : ℕ → Bool
is_set n = not (n == 0)

-- the errors of a call for a text: it is too long, or an error of any run over it
abbrev pub IsOfCall : (text : List ℕ) → TextFault → Type 0
IsOfCall text faults.TooLong = most_bytes < length text
IsOfCall text (faults.Trace fault) = IsOfText text (faults.Trace fault)
IsOfCall text faults.Stalled = ⊥
IsOfCall text faults.Read = ⊥
IsOfCall text faults.Write = ⊥
IsOfCall text faults.OutOfMemory = Unit {0}

-- C received the block of the answer to the text
pub record IsGiven (text : List ℕ) (check : Bool) (block : AnswerBlock) : Type 0 where
  pub made : Answer
  pub given : IsBlockOf (record { text = made.text }) made.all_done block
  pub answers : IsAnswer text check made.text.items made.all_done

-- C received the number and the line of the text's fault, and no block
pub record IsRefusal (text : List ℕ) (number : ℕ) (block : AnswerBlock) : Type 0 where
  pub fault : TextFault
  pub of_call : IsOfCall text fault
  pub numbered : number ≡ text_fault_number fault
  pub none : IsNoBlock (text_fault_line fault) block
