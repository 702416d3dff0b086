-- The order and the file that a command line names: `tlbridge run [--ring N] [--turns N] [--sync] [FILE]`, or `tlbridge
-- check [FILE]`. How words are matched to a command is clap's (`subcommand_of`). The command, its names and its
-- defaults are this project's choice.
use Rattle.std.specs.Prelude.{◌≡◌, ℕ, Bool, true, false, List, [], ◌∷◌, Option, Some, None, option_and_then, codes}
use Rattle.std.specs.Str.Parse.{IsNumeral, digits_value, without_leading_plus}
use Rattle.clap.specs.Words.{App, Row, Rule, Shape, Text, fault_of, first_of, new_rule, one_of, subcommand_of}
use Rattle.clap.specs.Kinds.{Kinds, or_else}
use Rattle.clap.specs.Simple.{new_shape}
use Rattle.clap.specs.declared.error.kind.ErrorKind.TheVariants.{ValueValidation}
use Rattle.clap.specs.declared.builder.action.ArgAction.TheVariants.{SetTrue}
use Rattle.tl_order.specs.declared.Order.{Order}
use Rattle.tl_order.specs.declared.Order.TheVariants.{Run, Check}

-- an option with one word, and the default for that word
abbrev pub number_rule : (name default : Text) → Rule
number_rule name default = record (new_rule name) {
  long = Some name;
  value_names = 1;
  defaults = default ∷ [];
}

-- `--sync`
abbrev pub sync_rule : Rule
sync_rule = record (new_rule (codes "sync")) { long = Some (codes "sync"); action = Some SetTrue }

-- the file to read the trace from
abbrev pub file_rule : Rule
file_rule = record (new_rule (codes "file")) { value_names = 1 }

abbrev pub run_shape : Shape
run_shape = record (new_shape (codes "run")) {
  rules = number_rule (codes "ring") (codes "16") ∷ number_rule (codes "turns") (codes "4") ∷ sync_rule ∷ file_rule ∷ [];
}

abbrev pub check_shape : Shape
check_shape = record (new_shape (codes "check")) { rules = file_rule ∷ [] }

-- the whole command, which requires a subcommand
abbrev pub program : App
program = record {
  top = record (new_shape (codes "tlbridge")) {
    is_leaf = false;
    has_version = true;
    subcommand_required = true;
  };
  subs = run_shape ∷ check_shape ∷ [];
}

-- the subcommand that the words call, with its options
unfoldable pub called_by : List Text → Option (Text × List Row)
called_by words = subcommand_of program words

-- the kinds of error that clap finds in the words: none if the command takes them
unfoldable pub faults_in : List Text → Kinds
faults_in words = fault_of program words

-- the kinds that the error for these words may have: clap's, and if clap takes them, that of a number out of range
abbrev pub refused_kinds : List Text → Kinds
refused_kinds words = or_else (faults_in words) (ValueValidation ∷ [])

-- the word of an option is a decimal numeral, after a plus or without one, and this is its number
pub record IsNumberOf (name : Text) (rows : List Row) (number : ℕ) : Type 0 where
  pub word : Text
  pub is_first : first_of name rows ≡ Some word
  pub numeral : IsNumeral 10 (without_leading_plus word)
  pub value : digits_value 10 (without_leading_plus word) ≡ number

-- whether `--sync` is one of the words
pub record IsSync (rows : List Row) (sync : Bool) : Type 0 where
  pub none : one_of (codes "sync") rows ≡ None → sync ≡ false
  pub set : one_of (codes "sync") rows ≡ Some (codes "true") → sync ≡ true
  pub unset : one_of (codes "sync") rows ≡ Some (codes "false") → sync ≡ false

-- a run with the numbers and the flag of the options
abbrev pub IsRunOf : List Row → Order → Type 0
IsRunOf rows (Run ring turns sync) = IsNumberOf (codes "ring") rows ring × IsNumberOf (codes "turns") rows turns × IsSync rows sync
IsRunOf rows Check = ⊥

-- the order if this was called: a run if it was `run`, and a check if it was `check`
abbrev pub IsOrderOf : Option (Text × List Row) → Order → Type 0
IsOrderOf called (Run ring turns sync) = (rows : List Row) × (called ≡ Some (codes "run", rows)) × IsRunOf rows (Run ring turns sync)
IsOrderOf called Check = (rows : List Row) × (called ≡ Some (codes "check", rows))

-- the file that the words of the called subcommand name
abbrev pub file_of : Option (Text × List Row) → Option Text
file_of called = option_and_then (λ c. first_of (codes "file") c.1) called
