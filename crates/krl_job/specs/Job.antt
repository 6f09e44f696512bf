-- The job that the options of a command line ask for (ssh-keygen(1), SYNOPSIS).
use Rattle.std.specs.Prelude.{ℕ, ◌^◌, ◌==◌, ◌&&◌, ◌||◌, not, Bool, true, false, nat_le, nat_lt}
use Rattle.std.specs.Prelude.{if◌then◌else◌, List, length, map, Option, None, Some, is_some}
use Rattle.std.specs.Prelude.{option_and_then, option_map, codes}
use Rattle.std.specs.Borrow.{Bor}
use Rattle.std.specs.Char.{is_ascii_digit}
use Rattle.std.specs.List.{list_all}
use Rattle.std.specs.Str.{str_eq_ignore_ascii_case}
use Rattle.std.specs.Str.Parse.{digits_value}
use Rattle.key_text.specs.declared.hash.Hash.{Hash}
use Rattle.key_text.specs.declared.hash.Hash.TheVariants.{Md5, Sha256}
use Rattle.krl_job.specs.declared.job.AuthorityOption.{AuthorityOption}
use Rattle.krl_job.specs.declared.job.AuthorityOption.TheVariants.{NotGiven, All, File}
use Rattle.krl_job.specs.declared.job.Job.{Job}
use Rattle.krl_job.specs.declared.job.Mode.{Mode}
use Rattle.krl_job.specs.declared.job.Mode.TheVariants.{Keys, Certs, Make, Query}
use Rattle.krl_job.specs.CommandLine.{CommandLine}

-- ---- a job

pub record Asked : Type 0 where
  pub mode : Mode
  pub file : List ℕ
  pub update : Bool
  pub authority : AuthorityOption (List ℕ)
  pub version : Option ℕ
  pub dump : Bool
  pub hash : Hash
  pub files : List (List ℕ)

abbrev pub authority_of : AuthorityOption (Bor (List ℕ)) → AuthorityOption (List ℕ)
authority_of NotGiven = NotGiven
authority_of All = All
authority_of (File name) = File name.now

-- the model of a job
abbrev pub asked_of : Job → Asked
asked_of job = record {
  mode = job.mode;
  file = job.file.now;
  update = job.update;
  authority = authority_of job.authority;
  version = job.version;
  dump = job.dump;
  hash = job.hash;
  files = map (λ name. name.now) job.files.items;
}

-- ---- the values of options

abbrev pub hash_called : List ℕ → Option Hash
hash_called text =
    if str_eq_ignore_ascii_case text (codes "md5") then Some Md5
    else if str_eq_ignore_ascii_case text (codes "sha256") then Some Sha256
    else None

-- SHA-256 if no hash is named
abbrev pub hash_named : Option (List ℕ) → Option Hash
hash_named None = Some Sha256
hash_named (Some text) = hash_called text

-- from 1 to 20 decimal digits whose number has at most 64 bits
abbrev pub is_number : List ℕ → Bool
is_number text = nat_le (length text) 20 && (list_all is_ascii_digit text
    && (nat_lt 0 (length text) && nat_lt (digits_value 10 text) (2 ^ 64)))

abbrev pub number_of : List ℕ → Option ℕ
number_of text = if is_number text then Some (digits_value 10 text) else None

abbrev pub version_named : Option (List ℕ) → Option (Option ℕ)
version_named None = Some None
version_named (Some text) = option_map (λ version. Some version) (number_of text)

abbrev pub authority_called : List ℕ → AuthorityOption (List ℕ)
authority_called text =
    if str_eq_ignore_ascii_case text (codes "none") then All else File text

abbrev pub authority_named : Option (List ℕ) → AuthorityOption (List ℕ)
authority_named None = NotGiven
authority_named (Some text) = authority_called text

-- ---- the sets of options

-- One of -l, -L, -k and -Q, or -l with -Q.
abbrev pub mode_by : Bool → Bool → Bool → Bool → Option Mode
mode_by true false false false = Some Keys
mode_by false true false false = Some Certs
mode_by false false true false = Some Make
mode_by list false false true = Some Query
mode_by list certificates make query = None

-- an option that belongs to -k alone
abbrev pub is_for_making : CommandLine → Bool
is_for_making given = given.update || (is_some given.authority || is_some given.version)

-- The options go with the mode. A file between two uses of -s belongs to neither authority.
abbrev pub fits : Mode → CommandLine → Bool
fits Keys given = not (is_for_making given) && length given.files == 0
fits Certs given = not (is_for_making given) && length given.files == 0
fits Make given = not (is_some given.hash) && not given.is_divided
fits Query given = not (is_for_making given) && not (is_some given.hash)

abbrev pub is_query : Mode → Bool
is_query Query = true
is_query mode = false

abbrev pub where_fit : CommandLine → Mode → Option Mode
where_fit given mode = if fits mode given then Some mode else None

-- the mode, if the options go together
abbrev pub mode_of : CommandLine → Option Mode
mode_of given = option_and_then (where_fit given)
    (mode_by given.list given.certificates given.make given.query)

abbrev pub job_with : CommandLine → Option Mode → Option (List ℕ) → Option Hash → Option (Option ℕ)
    → Option Asked
job_with given (Some mode) (Some file) (Some hash) (Some version) = Some (record {
  mode = mode;
  file = file;
  update = given.update;
  authority = authority_named given.authority;
  version = version;
  dump = is_query mode && given.list;
  hash = hash;
  files = given.files;
})
job_with given mode file hash version = None

-- The job of a command line: none if the options do not go together, -f is missing, a file is named
-- between two uses of -s, or the value of -E or -z is not valid.
unfoldable pub job_of : CommandLine → Option Asked
job_of given =
    job_with given (mode_of given) given.file (hash_named given.hash) (version_named given.version)
