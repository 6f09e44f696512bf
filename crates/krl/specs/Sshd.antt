-- What sshds read for keys, by the texts that were read of the files that the task names.
use Rattle.std.specs.Prelude.{◌≡◌, ◌||◌, ℕ, Bool, true, false, not, List, [], ◌∷◌, ◌++◌, codes, map}
use Rattle.std.specs.Prelude.{if◌then◌else◌, Option, Some, None, Result, Ok, Err}
use Rattle.std.specs.Borrow.{Bor}
use Rattle.std.specs.List.{list_all}
use Rattle.std.specs.Str.{bytes_eq}
use Rattle.check_run.specs.declared.limits.Used.{Used}
use Rattle.krl.specs.Names.{name_of, now_of}
use Rattle.krl.specs.declared.sshd.Sought.{Sought}
use Rattle.krl.specs.declared.sshd.SshdTexts.{SshdTexts}
use Rattle.krl_arguments.specs.declared.task.Audit.{Audit}
use Rattle.list_conditions.specs.declared.condition.SshdUse.{SshdUse}
use Rattle.list_conditions.specs.declared.condition.SshdUse.TheVariants.{Nothing, Other, This}
use Rattle.run_faults.specs.declared.cause.Cause.{Cause}
use Rattle.sshd_files.specs.Files.{File, file_of, files_at}
use Rattle.sshd_files.specs.Settings.{Configuration, settings_at}
use Rattle.sshd_files.specs.Users.{Account, users_at}
use Rattle.sshd_files.specs.declared.files.SshdFileKind.TheVariants.{Output}
use Rattle.sshd_files.specs.declared.settings.SettingsFault.{SettingsFault}
use Rattle.text_run.specs.Making.{Text}

-- ---- the texts

-- the file of users that the task names
abbrev pub users_name : Option (Bor (List ℕ)) → List ℕ
users_name None = codes "/etc/passwd"
users_name (Some name) = name.now

-- Without an output of sshd -T no users are read.
abbrev pub AreNamedUsers : (outputs : List (Bor (List ℕ))) → Option (Bor (List ℕ)) → Option Text
    → Type 0
AreNamedUsers [] passwd users = users ≡ None
AreNamedUsers (output ∷ outputs) passwd users =
    (text : Text) × ((users ≡ Some text) × (name_of text ≡ users_name passwd))

-- Texts with these names were read.
pub record AreTexts (task : Audit) (texts : SshdTexts) : Type 0 where
  pub outputs : map name_of texts.outputs.items ≡ map now_of task.sshd.items
  pub users : AreNamedUsers task.sshd.items task.passwd texts.users

-- ---- the settings and the users

abbrev pub stated_if : Result Configuration SettingsFault → Option Configuration
stated_if (Ok one) = Some one
stated_if (Err fault) = None

abbrev pub stated_by : Result (List ℕ) Cause → Option Configuration
stated_by (Ok bytes) = stated_if (settings_at bytes)
stated_by (Err cause) = None

-- the settings that a text states
abbrev pub stated_in : Text → Option Configuration
stated_in text = stated_by text.content

-- These are the users of the text. Without a text there is none.
abbrev pub AreUsers : Option Text → List Account → Type 0
AreUsers None accounts = accounts ≡ []
AreUsers (Some text) accounts =
    (bytes : List ℕ) × ((text.content ≡ Ok bytes) × (users_at bytes ≡ Ok accounts))

-- ---- the list

abbrev pub is_list : List ℕ → Option (List ℕ) → Bool
is_list list None = false
is_list list (Some other) = bytes_eq other list

-- this sshd uses this list
abbrev pub has_list : List ℕ → Configuration → Bool
has_list list one = is_list list one.list

-- The list is the one that all sshds use. There is none if one is given, or no sshd.
abbrev pub IsListOfAll : Option (Bor (List ℕ)) → List Configuration → Option (Bor (List ℕ))
    → Type 0
IsListOfAll given [] list = list ≡ None
IsListOfAll (Some given) (one ∷ settings) list = list ≡ None
IsListOfAll None (one ∷ settings) list =
    (name : Bor (List ℕ)) × ((list ≡ Some name)
    × (list_all (has_list name.now) (one ∷ settings) ≡ true))

-- ---- the list of one sshd, as to another list

-- which list an sshd uses that uses the list `other`, as to the list of this name: `one_file` is
-- whether both names lead to the same file
abbrev pub use_beside : List ℕ → (one_file : Bool) → Option (List ℕ) → SshdUse
use_beside list one_file None = Nothing
use_beside list one_file (Some other) = if bytes_eq other list || one_file then This else Other

-- An sshd with this setting uses so, as to the list of this name. Which names lead to the same file
-- is the system's, of which nothing is known.
abbrev pub IsUseIn : List ℕ → Option (List ℕ) → SshdUse → Type 0
IsUseIn list setting found = (one_file : Bool) × (found ≡ use_beside list one_file setting)

-- A text of this name was read, and it states which list the sshd uses.
pub record IsUse (list name : List ℕ) (used : Used) : Type 0 where
  pub text : Text
  pub name_is : name_of text ≡ name
  pub output_is : used.output.now ≡ name
  pub settings : Configuration
  pub stated : stated_in text ≡ Some settings
  pub found : IsUseIn list settings.list used.found

-- Without an output no list is that of an sshd.
abbrev pub IsUseBy : List ℕ → Option (Bor (List ℕ)) → Option Used → Type 0
IsUseBy list None used = used ≡ None
IsUseBy list (Some name) None = ⊥
IsUseBy list (Some name) (Some used) = IsUse list name.now used

-- ---- the files

-- the path of a file that may be standard input
abbrev pub input_path : List ℕ → List ℕ
input_path name = if bytes_eq name (codes "-") then codes "/dev/stdin" else name

abbrev pub output_file : List ℕ → File
output_file name = record { kind = Output; path = input_path name }

abbrev pub and_outputs : List (List ℕ) → Result (List File) (List ℕ)
    → Result (List File) (List ℕ)
and_outputs given (Ok files) = Ok (files ++ map output_file given)
and_outputs given (Err word) = Err word

abbrev pub is_empty : List (List ℕ) → Bool
is_empty [] = true
is_empty (name ∷ names) = false

-- The files that sshds read, and then these outputs of their command. A command whose output is
-- given is not among the files.
abbrev pub files_with : List (Bor (List ℕ)) → List Configuration → List Account
    → Result (List File) (List ℕ)
files_with given settings accounts = and_outputs (map now_of given)
    (files_at settings accounts (not (is_empty (map now_of given))))

-- The texts state this list, and these files.
pub record AreSought (task : Audit) (texts : SshdTexts) (sought : Sought) : Type 0 where
  pub settings : List Configuration
  pub accounts : List Account
  pub stated : map stated_in texts.outputs.items ≡ map Some settings
  pub users : AreUsers texts.users accounts
  pub list : IsListOfAll task.list settings sought.list
  pub files : files_with task.command_output.items settings accounts
      ≡ Ok (map file_of sought.files.items)
