-- How the program ends (ssh-keygen(1)).
use Rattle.std.specs.Prelude.{◌≡◌, ◌⊎◌, ℕ, Bool, List, map, Option, Ok, Err}
use Rattle.key_listing.specs.Listing.{list_run_of}
use Rattle.key_listing.specs.declared.listing.ListMode.{ListMode}
use Rattle.key_listing.specs.declared.listing.ListMode.TheVariants as lists
use Rattle.krl_job.specs.Job.{asked_of, authority_of}
use Rattle.krl_job.specs.declared.job.Job.{Job}
use Rattle.krl_job.specs.declared.job.Mode.{Mode}
use Rattle.krl_job.specs.declared.job.Mode.TheVariants as modes
use Rattle.krl_make.specs.Over.{RunsOver}
use Rattle.krl_make.specs.declared.run.Wanted.{Wanted}
use Rattle.krl_runs.specs.Query.{IsRun}
use Rattle.krl_system.specs.Files.{authority_name, name_of, now_of}
use Rattle.krl_words.specs.Command.{IsCommand}
use Rattle.list_making.specs.Target.{Old}
use Rattle.option_table.specs.Fault.{command_fault_status}
use Rattle.option_table.specs.declared.fault.CommandFault.{CommandFault}
use Rattle.run_faults.specs.Keys.{Named}
use Rattle.run_faults.specs.RunFault.{RunFault}
use Rattle.run_output.specs.Done.{Ends}
use Rattle.run_output.specs.Run.{Item}

-- The status is that of a run that ended so, with a device of which nothing is known.
pub record EndsWith (items : List Item) (status : ℕ) : Type 0 where
  pub before : Option (List ℕ)
  pub after : Option (List ℕ)
  pub failed : Bool
  pub fault : Option RunFault
  pub ends : Ends items before after failed status fault

-- `-l` and `-L`: the file of the job was listed, at some moment.
pub record IsListed (mode : ListMode) (job : Job) (status : ℕ) : Type 0 where
  pub moment : ℕ
  pub file : Named
  pub named : file.name ≡ job.file.now
  pub ends : EndsWith (list_run_of mode job.hash moment file) status

-- `-Q`: the list of the job was queried for the keys of its files.
pub record IsQueried (job : Job) (status : ℕ) : Type 0 where
  pub files : List Named
  pub named : map name_of files ≡ map now_of job.files.items
  pub before : Option (List ℕ)
  pub left : Option (List ℕ)
  pub failed : Bool
  pub items : List Item
  pub run : IsRun job.file.now files before job.dump failed left items
  pub ends : EndsWith items status

-- `-k`: the list of the job was made.
pub record IsMade (job : Job) : Type 0 where
  pub wanted : Wanted
  pub named : wanted.name.now ≡ job.file.now
  pub update : wanted.update ≡ job.update
  pub version : wanted.version ≡ job.version
  pub authority : authority_name wanted.authority.now ≡ authority_of job.authority
  pub files : map name_of wanted.files.now ≡ map now_of job.files.items
  pub old : Old
  pub bytes : List ℕ
  pub made : RunsOver wanted old (Ok bytes)

-- The job was done with this status, or it is 255.
abbrev pub EndsMode : Mode → Job → ℕ → Type 0
EndsMode modes.Keys job status = IsListed lists.Keys job status
EndsMode modes.Certs job status = IsListed lists.Certs job status
EndsMode modes.Make job status = (status ≡ 255) ⊎ ((status ≡ 0) × IsMade job)
EndsMode modes.Query job status = (status ≡ 255) ⊎ IsQueried job status

-- The job of the words was done, or the words were refused.
pub data EndsKeygen (words : List (List ℕ)) (status : ℕ) : Type 0 where
  done : (job : Job) → IsCommand words (Ok job) → EndsMode job.mode job status
      → EndsKeygen words status
  refused : (fault : CommandFault) → IsCommand words (Err fault)
      → (status ≡ command_fault_status fault) ⊎ (status ≡ 255) → EndsKeygen words status
