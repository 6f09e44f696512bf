-- Which words ask for which job (ssh-keygen(1), SYNOPSIS).
use Rattle.std.specs.Prelude.{◌≡◌, ℕ, ⊤, List, [], None, Some, Result, Ok, Err}
use Rattle.clap.specs.Faults.{fault_of}
use Rattle.option_table.specs.Fault.{IsRefused}
use Rattle.option_table.specs.declared.fault.CommandFault.{CommandFault}
use Rattle.option_table.specs.declared.fault.CommandFault.TheVariants.{Usage, Words, NoMemory}
use Rattle.krl_job.specs.declared.job.Job.{Job}
use Rattle.krl_job.specs.Job.{asked_of, job_of}
use Rattle.krl_job.specs.CommandLine.{CommandLine}
use Rattle.krl_words.specs.Options.{given_in, program}

-- The job that parsed words ask for, by their values.
abbrev pub AsksFor : CommandLine → Result Job CommandFault → Type 0
AsksFor given (Ok job) = job_of given ≡ Some (asked_of job)
AsksFor given (Err Usage) = job_of given ≡ None
AsksFor given (Err (Words help text)) = ⊥
AsksFor given (Err NoMemory) = ⊤

-- The result of words that follow the program's name: if they can be parsed, the job that they ask
-- for or Usage; otherwise why they cannot.
abbrev pub IsCommand : List (List ℕ) → Result Job CommandFault → Type 0
IsCommand words (Ok job) =
    (fault_of program words ≡ []) × AsksFor (given_in words) (Ok job)
IsCommand words (Err Usage) =
    (fault_of program words ≡ []) × AsksFor (given_in words) (Err Usage)
IsCommand words (Err (Words help text)) = IsRefused program words help
IsCommand words (Err NoMemory) = ⊤
