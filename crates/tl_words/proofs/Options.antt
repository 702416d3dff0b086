-- The options that clap finds, by its rows.
use Rattle.std.proofs.Common.{◌≡◌, ◌∙◌, ap₂, false, true, ℕ, Bor, box_value, List, [], ◌∷◌, Option, Some, None, Err, IfErr, IfOk, inl, inr}
use Rattle.std.proofs.Common.{IsOkAnd, Ok, Result, ◌++◌, option_map, codes, refl, subst, sym, ap, arith}
use Rattle.std.specs.Prelude.{◌||◌, OnOk, unwrap_or}
use Rattle.std.specs.Result.{result_and}
use Rattle.std.specs.Str.Parse.{ParsesUnsigned}
use Rattle.clap.specs.Simple.{app_of_fields}
use Rattle.clap.specs.Kinds.{FailsBy, HasKind, Kinds, or_else}
use Rattle.clap.specs.declared.error.Error.{Error}
use Rattle.clap.specs.Words.{AddsArg, AddsInTurn, AddsSubcommand, App, Row, Rule, Text, app_of, first_of, is_simple, is_simple_and_free, new_app}
use Rattle.clap.specs.Words.{subcommand_name_of, subcommand_rows, subcommand_rows_of, with_rule, with_subcommand}
use Rattle.clap.specs.declared.builder.arg.Arg.{Arg}
use Rattle.clap.specs.declared.builder.command.Command.{Command}
use Rattle.clap.specs.declared.builder.command.Command.TheOpen.{Command-F}
use Rattle.clap.specs.declared.builder.command.Command.TheViews.{out-Command as fields_of}
use Rattle.clap.specs.declared.parser.matches.ArgMatches.{ArgMatches}
use Rattle.clap.specs.declared.parser.matches.ArgMatches.TheViews.{out-ArgMatches, out-SubCommand}
use Rattle.clap.proofs.OnLiterals.{clap_on_literals}
use Rattle.tl_order.specs.declared.Order.{Order}
use Rattle.tl_order.specs.declared.Order.TheVariants.{Run, Check}
use Rattle.tl_words.specs.CommandLines.{IsNumberOf, IsOrderOf, IsRunOf, check_shape, file_of, program, run_shape}
use Rattle.tl_words.specs.Inner.Rules.{HasApp, HasRule, HasShape, bare}

-- clap's definitions apply to the words of this command
pub program_is_simple : is_simple program ≡ true
unfolding clap_on_literals
program_is_simple = refl

-- and finds each kind of error
pub program_is_free : is_simple_and_free program ≡ true
unfolding clap_on_literals
program_is_free = refl

-- words that were taken have none
pub none_found : {T : Type 0} (kinds : Kinds) (r : Result T Error) → FailsBy kinds r → IfOk r (λ _. kinds ≡ [])
none_found kinds (Ok x) none = none
none_found kinds (Err e) some = tt

-- words that were refused have a kind of error that clap finds
pub some_found : {T : Type 0} (kinds : Kinds) (r : Result T Error) → FailsBy kinds r → IfErr r (HasKind kinds)
some_found kinds (Ok x) none = tt
some_found kinds (Err e) some = some

-- an error of clap's is one of the whole command line, and so is a later one if clap finds none
pub first_kinds : (kinds next : Kinds) (e : Error) → HasKind kinds e → HasKind (or_else kinds next) e
first_kinds [] next e (inl memory) = inl memory
first_kinds [] next e (inr none) = absurd none
first_kinds (k ∷ ks) next e has = has

pub next_kinds : (kinds next : Kinds) (e : Error) → kinds ≡ [] → HasKind next e → HasKind (or_else kinds next) e
next_kinds kinds next e none has = subst (λ k. HasKind (or_else k next) e) (sym none) has

-- the word of `file` is found in the rows of the subcommand
pub file_by_rows : (called : Option (Text × List Row)) (rows : List Row) → Some rows ≡ option_map (λ c. c.1) called
    → first_of (codes "file") rows ≡ file_of called
file_by_rows None rows e = cc
file_by_rows (Some c) rows e = ap (λ o. first_of (codes "file") (unwrap_or o rows)) e

-- the name of the subcommand comes before its rows
pub name_by_rows : (m : ArgMatches) → option_map (λ c. c.0) (subcommand_rows_of m) ≡ subcommand_name_of m
name_by_rows m = elim (out-ArgMatches m).subcommand as
    (λ o. option_map (λ c. c.0) (subcommand_rows o) ≡ option_map (λ b. (out-SubCommand (box_value b)).name.now) o)
    [ None ↦ refl | Some b ↦ refl ]

-- if `run` was called, its rows determine the order
pub run_by_rows : (called : Option (Text × List Row)) (rows : List Row) (order : Order) → option_map (λ c. c.0) called ≡ Some (codes "run")
    → option_map (λ c. c.1) called ≡ Some rows → IsRunOf rows order → IsOrderOf called order
run_by_rows None rows order name found said = cc
run_by_rows (Some c) rows (Run ring turns sync) name found said = (rows, grind arith, said)
run_by_rows (Some c) rows Check name found said = absurd said

-- if `check` was called, the order is a check
pub check_by_rows : (called : Option (Text × List Row)) (rows : List Row) → option_map (λ c. c.0) called ≡ Some (codes "check")
    → option_map (λ c. c.1) called ≡ Some rows → IsOrderOf called Check
check_by_rows None rows name found = cc
check_by_rows (Some c) rows name found = (rows, grind arith)

-- a word that was read is a numeral, and the number is its value
pub number_of_word : {E : Type 0} (o : Option (Bor Text)) (d w : Bor Text) (name : Text) (rows : List Row) (n : ℕ) (r : Result ℕ E)
    → w ≡ unwrap_or o d → d.now ≡ [] → ParsesUnsigned 64 10 w.now r → r ≡ Ok n → option_map (λ s. s.now) o ≡ first_of name rows
    → IsNumberOf name rows n
number_of_word None d w name rows n r is empty parsed ok said =
    let none : w.now ≡ [] = ap (λ s. s.now) is ∙ empty in
    let has = rw (none, ok) at parsed in
    absurd (omega arith)
number_of_word (Some s) d w name rows n r is empty parsed ok said =
    let there : w.now ≡ s.now = ap (λ s. s.now) is in
    let has = rw (there, ok) at parsed in
    record { word = s.now; is_first = sym said; numeral = has.0.0; value = sym has.1 }

-- a command with a text above its help
pub with_about : (new about : Command) (x : Option (Bor Text)) (app : App) → fields_of about ≡ record (fields_of new) { about = x }
    → app_of new ≡ app → (fields_of new).has_globals ≡ false → (app_of about ≡ app) × ((fields_of about).has_globals ≡ false)
with_about new about x app e is none = (ap app_of_fields e ∙ is, ap (λ (f : Command-F Command). f.has_globals) e ∙ none)

-- a command with one more argument, the last
pub added : (old new : Command) (a : Arg) (app : App) (rule : Rule) → AddsArg old a new → HasApp app old → HasRule rule a
    → HasApp (with_rule app rule) new
added old new a app rule adds is has = (adds.shape has.1 ∙ ap₂ with_rule is.0 has.0, adds.globals ∙ ap₂ (λ x y. x || y) is.1 has.1)

-- arguments that have these rules, only in their own command
abbrev pub HaveRules : List Rule → List Arg → Type 0
HaveRules [] [] = Unit {0}
HaveRules (rule ∷ rules) (a ∷ args) = HasRule rule a × HaveRules rules args
HaveRules [] (a ∷ args) = ⊥
HaveRules (rule ∷ rules) [] = ⊥

-- a command with arguments of these rules, one after another
abbrev pub with_rules : App → List Rule → App
with_rules app [] = app
with_rules app (rule ∷ rules) = with_rules (with_rule app rule) rules

-- a command with these arguments, the last ones
pub all_added : (old new : Command) (args : List Arg) (app : App) (rules : List Rule) → AddsInTurn AddsArg old args new → HasApp app old
    → HaveRules rules args → HasApp (with_rules app rules) new
all_added old new [] app [] adds is have = subst (HasApp app) adds is
all_added old new (a ∷ args) app (rule ∷ rules) adds is have =
    all_added adds.0 new args (with_rule app rule) rules adds.2 (added old adds.0 a app rule adds.1 is have.0) have.1
all_added old new [] app (rule ∷ rules) adds is have = absurd have
all_added old new (a ∷ args) app [] adds is have = absurd have

-- the command before its subcommands, as it is made
pub bare_of_new : (new about version required : Command) (x : Option (Bor Text)) (y : Bor Text)
    → fields_of about ≡ record (fields_of new) { about = x } → fields_of version ≡ record (fields_of about) { version = Some y }
    → fields_of required ≡ record (fields_of version) { subcommand_required = true }
    → app_of new ≡ new_app (codes "tlbridge") → app_of required ≡ bare
bare_of_new new about version required x y is_about is_version is_required is =
    ap app_of_fields is_required
    ∙ ap (λ (f : Command-F Command). app_of_fields (record f { subcommand_required = true }))
    (is_version ∙ ap (λ (f : Command-F Command). record f { version = Some y }) is_about)
    ∙ ap (λ (p : App). record p { top = record p.top { has_version = true; subcommand_required = true } }) is

-- the whole command, with its two subcommands
pub program_of_parts : (top run check made : Command) → app_of top ≡ bare → HasShape run_shape run → HasShape check_shape check
    → AddsInTurn AddsSubcommand top (run ∷ check ∷ []) made → app_of made ≡ program
program_of_parts top run check made is is_run is_check added =
    ap app_of (sym added.2.2) ∙ added.2.1.shape is_check.1
    ∙ ap₂ with_subcommand (added.1.shape is_run.1 ∙ ap₂ with_subcommand is is_run.0) is_check.0

-- properties of two results that are Ok, if both are Ok
pub both_ok : {E : Type 0} (P Q : Type 0) (a b all : Result (Unit {0}) E) → all ≡ result_and a b → OnOk a P → OnOk b Q → OnOk all (P × Q)
both_ok P Q (Ok x) (Ok y) all joined p q = subst (λ r. OnOk r (P × Q)) (sym joined) (p, q)
both_ok P Q (Ok x) (Err e) all joined p q = subst (λ r. OnOk r (P × Q)) (sym joined) tt
both_ok P Q (Err e) b all joined p q = subst (λ r. OnOk r (P × Q)) (sym joined) tt

-- a list that was empty, after two puts
pub both_put : {E : Type 0} (one two : Result Command E) (none first both : List Command) → none ≡ []
    → IsOkAnd one (λ x. first ≡ none ++ x ∷ []) → IsOkAnd two (λ x. both ≡ first ++ x ∷ [])
    → IfOk one (HasShape run_shape) → IfOk two (HasShape check_shape)
    → (run check : Command) × (both ≡ run ∷ check ∷ []) × HasShape run_shape run × HasShape check_shape check
both_put (Ok x) (Ok y) none first both is_none is_first is_both run check =
    (x, y, is_both ∙ ap (λ l. l ++ y ∷ []) (is_first ∙ ap (λ l. l ++ x ∷ []) is_none), run, check)
both_put (Ok x) (Err e) none first both is_none is_first is_both run check = absurd is_both
both_put (Err e) two none first both is_none is_first is_both run check = absurd is_first
