-- How the parts of the command look to clap.
use Rattle.std.specs.Prelude.{◌≡◌, codes, false, true}
use Rattle.clap.specs.Words.{App, Rule, Shape, app_of, new_app, rule_of, shape_of}
use Rattle.clap.specs.declared.builder.command.Command.TheViews.{out-Command as fields_of}
use Rattle.clap.specs.declared.builder.arg.Arg.{Arg}
use Rattle.clap.specs.declared.builder.command.Command.{Command}

-- the argument has this rule, only in its own command
abbrev pub HasRule : Rule → Arg → Type 0
HasRule rule a = (rule_of a ≡ rule) × (a.global ≡ false)

-- the command is this one, and has no argument for its subcommands
abbrev pub HasApp : App → Command → Type 0
HasApp app c = (app_of c ≡ app) × ((fields_of c).has_globals ≡ false)

-- the subcommand has this shape, and has no argument for its own subcommands
abbrev pub HasShape : Shape → Command → Type 0
HasShape shape c = (shape_of c ≡ shape) × ((fields_of c).has_globals ≡ false)

-- the command without its subcommands
abbrev pub bare : App
bare = record (new_app (codes "tlbridge")) {
  top = record (new_app (codes "tlbridge")).top { has_version = true; subcommand_required = true };
}
