-- Which words ask for which task (krl(1), SYNOPSIS).
use Rattle.std.specs.Prelude.{◌≡◌, ◌⊎◌, ℕ, ⊤, false, List, [], Option, Result, Ok}
use Rattle.std.specs.Prelude.{Err, string_bytes}
use Rattle.clap.specs.Faults.{fault_of}
use Rattle.clap.specs.Walk.{Row}
use Rattle.option_table.specs.Fault.{IsRefused}
use Rattle.option_table.specs.declared.fault.CommandFault.{CommandFault}
use Rattle.option_table.specs.declared.fault.CommandFault.TheVariants.{Usage, Words, NoMemory}
use Rattle.krl_arguments.specs.Options.{program}
use Rattle.krl_arguments.specs.Misuse.{text_of_misuse}
use Rattle.krl_arguments.specs.Task.{found_in, task_by, task_in}
use Rattle.krl_arguments.specs.declared.misuse.Misuse.{Misuse}
use Rattle.krl_arguments.specs.declared.task.Task.{Task as TaskOf}

-- The result of parsed words, by the subcommand that they name: the task of its values, or why
-- there is none, because the options do not go together.
abbrev pub AsksFor : Option (List ℕ × List Row) → Result TaskOf CommandFault → Type 0
AsksFor found (Ok task) = task_in found ≡ Ok (task_by task)
AsksFor found (Err (Words help text)) =
    (misuse : Misuse) × (task_in found ≡ Err misuse)
    × ((help ≡ false) × (string_bytes text ≡ text_of_misuse misuse))
AsksFor found (Err Usage) = ⊥
AsksFor found (Err NoMemory) = ⊤

-- The result of words that follow the program's name: if they can be parsed, the task that they ask
-- for, or why they ask for none; otherwise help, or why they are refused.
abbrev pub IsCommand : List (List ℕ) → Result TaskOf CommandFault → Type 0
IsCommand words (Ok task) = (fault_of program words ≡ []) × AsksFor (found_in words) (Ok task)
IsCommand words (Err (Words help text)) =
    ((fault_of program words ≡ []) × AsksFor (found_in words) (Err (Words help text)))
    ⊎ IsRefused program words help
IsCommand words (Err Usage) = ⊥
IsCommand words (Err NoMemory) = ⊤
