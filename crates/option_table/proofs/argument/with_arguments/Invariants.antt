-- The arguments so far are added.
use Rattle.std.proofs.Common.{◌≡◌, false, map, take}
use Rattle.clap.specs.Simple.{app_of}
use Rattle.clap.specs.declared.builder.command.Command.TheViews.{out-Command}
use Rattle.option_table.specs.Argument.{rule_by, with_rules}
use Rattle.option_table.proofs.argument.with_arguments.Given as goal

abbrev pub invariant-loop-argument : goal.invariant-loop-argument
invariant-loop-argument l =
    (app_of l.made ≡ with_rules (app_of l.initial.made) (map rule_by (take l.argument-index l.arguments)))
    × ((out-Command l.initial.made).has_globals ≡ false → (out-Command l.made).has_globals ≡ false)
