-- The names so far are the values of the options so far.
use Rattle.std.proofs.Common.{◌≡◌, map, take}
use Rattle.std.specs.List.{flat_map}
use Rattle.clap.specs.Matches.{found_of}
use Rattle.clap.specs.Walk.{rows_of}
use Rattle.option_table.specs.Value.{values_in}
use Rattle.krl_arguments.proofs.inputs.inputs_in.Given as goal

abbrev pub invariant-loop-option : goal.invariant-loop-option
invariant-loop-option l = map (λ name. name.now) l.names.items ≡ flat_map (λ option. values_in option (rows_of (found_of l.found))) (map (λ option. option.now) (take l.option-index l.options))
