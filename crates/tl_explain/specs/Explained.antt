-- The proved properties of the explanation of a text (this project's choice). Its sentences are for readers, and are
-- tested. After them comes the answer of a check: the version and the widths, and the verdict of each channel.
use Rattle.std.specs.Prelude.{◌≡◌, ◌++◌, ℕ, Bool, true, false, List, Option}
use Rattle.std.specs.Io.KnownBytes.{Keeps, Appends}
use Rattle.tl_answer.specs.Texts.{IsAnswer, IsOfText}
use Rattle.tl_explain.specs.declared.display_options.Format.{Format}
use Rattle.tl_explain.specs.declared.display_options.Format.TheVariants.{Text, Json, Page}
use Rattle.tl_stream.specs.declared.fault.TextFault.{TextFault}
use Rattle.tl_stream.specs.declared.fault.TextFault.TheVariants as faults

pub record IsExplanation (text : List ℕ) (explanation : List ℕ) (done : Bool) : Type 0 where
  pub sentences : List ℕ
  pub answer : List ℕ
  pub ends : explanation ≡ sentences ++ answer
  pub answered : IsAnswer text true answer done

-- whether the format is a page
abbrev pub is_page : Format → Bool
is_page Text = false
is_page Json = false
is_page Page = true

-- the output is the explanation of a text
abbrev pub Explains : (text : List ℕ) (held holds : Option (List ℕ)) (done : Bool) → Type 0
Explains text held holds done = (explanation : List ℕ) × IsExplanation text explanation done × Appends held holds explanation

-- the text is a valid trace, and `done` is true if and only if all channels in its answer are done
abbrev pub HasAnswer : (text : List ℕ) (done : Bool) → Type 0
HasAnswer text done = (answer : List ℕ) × IsAnswer text true answer done

-- some bytes were written, about which nothing is proved, and `done` says whether all channels are done, as in the
-- answer of a check
abbrev pub ShowsAnswer : (text : List ℕ) (held holds : Option (List ℕ)) (done : Bool) → Type 0
ShowsAnswer text held holds done = (output : List ℕ) × HasAnswer text done × Appends held holds output

-- the reason why a text has no explanation. After a fault of the text or a failed allocation, nothing was written. A
-- failed write is possible only if no page was requested.
abbrev pub IsUntold : (is_page : Bool) (text : List ℕ) (held holds : Option (List ℕ)) → TextFault → Type 0
IsUntold is_page text held holds (faults.Trace fault) = IsOfText text (faults.Trace fault) × Keeps held holds
IsUntold is_page text held holds faults.Stalled = ⊥
IsUntold is_page text held holds faults.Read = ⊥
IsUntold is_page text held holds faults.Write = is_page ≡ false
IsUntold is_page text held holds faults.TooLong = ⊥
IsUntold is_page text held holds faults.OutOfMemory = Keeps held holds
