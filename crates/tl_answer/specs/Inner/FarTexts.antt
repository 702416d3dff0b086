-- The lines of far beats, which are written when the beats are taken. Only contracts of private functions use these
-- words.
use Rattle.std.specs.Prelude.{◌≡◌, ◌++◌, ℕ}
use Rattle.tl_settle.specs.Outcomes.{Beats}
use Rattle.tl_trace.specs.Fields.{form_a, form_b, form_c, form_d, form_e}
use Rattle.tl_trace.specs.Lines.{beats_text}
use Rattle.tl_answer.specs.Answer.{far_header}
use Rattle.tl_answer.specs.declared.far_text.FarTexts.{FarTexts}

-- these are the lines of these far beats; those of A come after the first line of the answer
pub record HasLines {C M : ℕ} (t : FarTexts) (far : Beats M C) : Type 0 where
  pub a : t.a.items ≡ far_header t.version C M ++ beats_text (form_a t.version) M far.a
  pub b : t.b.items ≡ beats_text (form_b t.version) C far.b
  pub c : t.c.items ≡ beats_text (form_c t.version) M far.c
  pub d : t.d.items ≡ beats_text (form_d t.version) C far.d
  pub e : t.e.items ≡ beats_text (form_e t.version) M far.e
