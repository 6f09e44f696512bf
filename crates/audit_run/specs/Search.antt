-- Which files of directories are read, and where keys are sought in their lines (krl(1), FILES THAT
-- ARE READ).
use Rattle.std.specs.Prelude.{ℕ, Bool, true, false, List, Option, Some, None}
use Rattle.audit_lines.specs.Front.{reads_every}
use Rattle.krl_audit.specs.Audit.{FileName}
use Rattle.audit_run.specs.declared.search.Search.{Search}
use Rattle.audit_run.specs.declared.search.Search.TheVariants as searches

-- the search that --scan and --all ask for, of which --scan reads every file, too
abbrev pub search_of : (scan every_file : Bool) → Search
search_of true every_file = searches.Anywhere
search_of false true = searches.EveryFile
search_of false false = searches.KeyFiles

-- every regular file of a directory is read, whatever its name
abbrev pub selects_every : Search → Bool
selects_every searches.KeyFiles = false
selects_every searches.EveryFile = true
selects_every searches.Anywhere = true

-- The search in this directory. Of a directory of authorized keys every file is read.
abbrev pub search_in : Search → List ℕ → Search
search_in searches.KeyFiles path = search_of false (reads_every path)
search_in searches.EveryFile path = searches.EveryFile
search_in searches.Anywhere path = searches.Anywhere

-- the name that decides how the lines of a file are read, unless keys are sought anywhere in them
abbrev pub read_as_in : Search → List ℕ → Option (List ℕ)
read_as_in searches.KeyFiles path = Some path
read_as_in searches.EveryFile path = Some path
read_as_in searches.Anywhere path = None

-- the name of a file at this path
abbrev pub name_in : Search → List ℕ → FileName
name_in search path = record { shown = path; read_as = read_as_in search path }
