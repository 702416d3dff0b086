use Rattle.std.proofs.Common.{refl, ap, ◌∙◌}
use Rattle.std.specs.Prelude.{◌≡◌, ℕ, Bool, true, false, Some, if◌then◌else◌}
use mir.Val.{bool_byte}
use Rattle.tl_c_beats.proofs.answer_block.AnswerBlock.of.Goals as goal

-- a byte is 1 where the flag is set
byte : (done : Bool) (b : ℕ) → b ≡ bool_byte done → b ≡ (if done then 1 else 0)
byte false b is = is
byte true b is = is

-- (answered, as an edit turns it)
pub returns-in-Ok-clause-block : goal.returns-in-Ok-clause-block
returns-in-Ok-clause-block c = record {
  held = c.of_parts.ensures ∙ ap Some (c.of.ensures ∙ c.in-Ok.ensures.boxed);
  text = c.as_ptr-at.ensures;
  length = c.len-length.ensures;
  line = refl;
  all_done = byte _ _ c.from.ensures;
}
