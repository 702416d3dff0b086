-- The output while lines are processed.
use Rattle.std.specs.Prelude.{ℕ, Bool, true, false, List, Option, Result, Ok, Err}
use Rattle.std.specs.Io.KnownBytes.{Keeps, Appends}
use Rattle.tl_answer.specs.Texts.{IsAnswer}
use Rattle.tl_stream.specs.declared.fault.TextFault.{TextFault}
use Rattle.tl_explain.specs.Explained.{IsUntold}
use Rattle.tl_explain.specs.declared.explain.Explanation.{Explanation}

-- the output is some sentences, about which nothing more is proved; for a page, nothing was written
abbrev pub Continues : (is_page : Bool) (held holds : Option (List ℕ)) → Type 0
Continues false held holds = (sentences : List ℕ) × Appends held holds sentences
Continues true held holds = Keeps held holds

-- a text was explained, and the answer is that of a check; or the reason why it was not explained
abbrev pub Tells : (is_page : Bool) (text : List ℕ) (held holds : Option (List ℕ)) → Result Explanation TextFault → Type 0
Tells is_page text held holds (Ok telling) = IsAnswer text true telling.answer.text.items telling.answer.all_done × Continues is_page held holds
Tells is_page text held holds (Err fault) = IsUntold is_page text held holds fault
