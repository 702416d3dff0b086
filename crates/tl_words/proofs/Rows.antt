-- The meaning of whole command lines, computed.
use Rattle.std.proofs.Common.{◌≡◌, ◌∷◌, [], List, Some, None, true, false, codes, refl, lit<}
use Rattle.clap.specs.Words.{Text, takes}
use Rattle.clap.proofs.OnLiterals.{clap_on_literals}
use Rattle.tl_order.specs.declared.Order.TheVariants.{Run, Check}
use Rattle.tl_words.specs.CommandLines.{IsOrderOf, called_by, file_of, program}

-- the words, after the program's name
abbrev line : List Text → List Text
line words = codes "tlbridge" ∷ words

-- the defaults
run : IsOrderOf (called_by (line (codes "run" ∷ []))) (Run 16 4 false)
unfolding called_by clap_on_literals
run = (
  _,
  refl,
  (
    record { word = codes "16"; is_first = refl; numeral = (lit< tt, (lit< tt, (lit< tt, tt))); value = refl },
    record { word = codes "4"; is_first = refl; numeral = (lit< tt, (lit< tt, tt)); value = refl },
    record { none = λ e. refl; set = λ e. cc; unset = λ e. refl },
  ),
)

run_reads_standard_input : file_of (called_by (line (codes "run" ∷ []))) ≡ None
unfolding called_by clap_on_literals
run_reads_standard_input = refl

check : IsOrderOf (called_by (line (codes "check" ∷ codes "a.trace" ∷ []))) Check
unfolding called_by clap_on_literals
check = (_, refl)

check_reads_a_file : file_of (called_by (line (codes "check" ∷ codes "a.trace" ∷ []))) ≡ Some (codes "a.trace")
unfolding called_by clap_on_literals
check_reads_a_file = refl

-- options before and after the file, with their word after them or after `=`
abbrev whole : List Text
whole = line (codes "run" ∷ codes "--sync" ∷ codes "--ring=4096" ∷ codes "a.trace" ∷ codes "--turns" ∷ codes "1000" ∷ [])

whole_order : IsOrderOf (called_by whole) (Run 4096 1000 true)
unfolding called_by clap_on_literals
whole_order = (
  _,
  refl,
  (
    record { word = codes "4096"; is_first = refl; numeral = (lit< tt, (lit< tt, (lit< tt, (lit< tt, (lit< tt, tt))))); value = refl },
    record { word = codes "1000"; is_first = refl; numeral = (lit< tt, (lit< tt, (lit< tt, (lit< tt, (lit< tt, tt))))); value = refl },
    record { none = λ e. cc; set = λ e. refl; unset = λ e. cc },
  ),
)

whole_file : file_of (called_by whole) ≡ Some (codes "a.trace")
unfolding called_by clap_on_literals
whole_file = refl

whole_is_taken : takes program whole ≡ true
unfolding clap_on_literals
whole_is_taken = refl

-- one file, and a subcommand
two_files : takes program (line (codes "run" ∷ codes "a.trace" ∷ codes "b.trace" ∷ [])) ≡ false
unfolding clap_on_literals
two_files = refl

no_words : takes program (line []) ≡ false
unfolding clap_on_literals
no_words = refl
