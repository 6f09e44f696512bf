-- The values of the words, by their matches.
use Rattle.std.proofs.Common.{◌≡◌, ℕ, Bool, true, List, [], Result, Ok, Err, refl, sym, ap, ap₂, ◌∙◌}
use Rattle.clap.specs.Faults.{fault_of, is_simple_and_free}
use Rattle.clap.specs.Kinds.{HasKind}
use Rattle.clap.specs.Matches.{found_of}
use Rattle.clap.specs.Simple.{App, HasMatchesOf, is_simple}
use Rattle.clap.specs.Walk.{rows_of}
use Rattle.clap.specs.declared.error.Error.{Error}
use Rattle.clap.specs.declared.parser.matches.ArgMatches.{ArgMatches}
use Rattle.clap.proofs.OnLiterals.{clap_on_literals}
use Rattle.option_table.proofs.Reading.{refused_by}
use Rattle.option_table.specs.Fault.{ReportsError}
use Rattle.option_table.specs.declared.fault.CommandFault.{CommandFault}
use Rattle.option_table.specs.declared.fault.CommandFault.TheVariants.{Usage, Words, NoMemory}
use Rattle.krl_job.specs.declared.job.Job.{Job}
use Rattle.krl_words.specs.Command.{AsksFor, IsCommand}
use Rattle.krl_job.specs.Job.{job_of}
use Rattle.krl_job.specs.CommandLine.{CommandLine}
use Rattle.krl_words.specs.Options.{given_in, given_of, program}
use Rattle.krl_words.specs.Order.{is_divided}

pub program_is_free : is_simple_and_free program ≡ true
unfolding clap_on_literals
program_is_free = refl

pub program_is_simple : is_simple program ≡ true
unfolding clap_on_literals
program_is_simple = refl

-- the matches have the same values as the words
pub held_by : (app : App) (words : List (List ℕ)) (m : ArgMatches) (divided : Bool) → app ≡ program → HasMatchesOf app words m → divided ≡ is_divided words
    → given_of divided (rows_of (found_of m)) ≡ given_in words
unfolding given_in
held_by app words m divided same has order = ap₂ given_of order ((rw same at has) program_is_simple).0

pub free_by : (app : App) (words : List (List ℕ)) → app ≡ program → (is_simple_and_free app ≡ true → fault_of app words ≡ []) → fault_of program words ≡ []
free_by app words same free = (rw same at free) program_is_free

pub fails_by : (app : App) (words : List (List ℕ)) (e : Error) → app ≡ program → (is_simple_and_free app ≡ true → HasKind (fault_of app words) e) → HasKind (fault_of program words) e
fails_by app words e same kinds = (rw same at kinds) program_is_free

-- the job of words that can be parsed
pub asked_for : (words : List (List ℕ)) (given : CommandLine) (result : Result Job CommandFault) → fault_of program words ≡ [] → given ≡ given_in words → AsksFor given result → IsCommand words result
asked_for words given (Ok job) free same asks = (free, ap job_of (sym same) ∙ asks)
asked_for words given (Err Usage) free same asks = (free, ap job_of (sym same) ∙ asks)
asked_for words given (Err (Words help text)) free same asks = absurd asks
asked_for words given (Err NoMemory) free same asks = tt

-- why words cannot be parsed
pub not_read : (words : List (List ℕ)) (e : Error) (fault : CommandFault) → HasKind (fault_of program words) e → ReportsError e fault → IsCommand words (Err fault)
not_read words e Usage kind reports = absurd reports
not_read words e NoMemory kind reports = tt
not_read words e (Words help text) kind reports = refused_by program words e help text kind reports
