-- The files that a program opens.
use Rattle.std.specs.Prelude.{List, ℕ}
use Rattle.std.specs.Borrow.{Bor}
use Rattle.krl_job.specs.declared.job.AuthorityOption.{AuthorityOption}
use Rattle.krl_job.specs.declared.job.AuthorityOption.TheVariants.{NotGiven, All, File}
use Rattle.run_faults.specs.Keys.{Named}

abbrev pub name_of : Named → List ℕ
name_of file = file.name

abbrev pub now_of : Bor (List ℕ) → List ℕ
now_of name = name.now

-- the authority of `-s`, by the name of its file
abbrev pub authority_name : AuthorityOption Named → AuthorityOption (List ℕ)
authority_name NotGiven = NotGiven
authority_name All = All
authority_name (File file) = File file.name
