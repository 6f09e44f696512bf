-- The files that sshd reads for keys.
use Rattle.std.specs.Prelude.{ℕ, Bool, not, ◌==◌, ◌&&◌, List, [], ◌∷◌, ◌++◌, map, filter, find}
use Rattle.std.specs.Prelude.{flat_map, reverse, Option, Some, None, Result, Ok, Err, if◌then◌else◌}
use Rattle.std.specs.BTreeSet.{insert_key}
use Rattle.std.specs.declared.cmp.Ordering.{Ordering}
use Rattle.std.specs.Cmp.Lexicographic.{slice_cmp}
use Rattle.std.specs.List.{list_any}
use Rattle.std.specs.Option.{option_to_list}
use Rattle.std.specs.Ordering.{eq_by_cmp, nat_cmp}
use Rattle.std.specs.Str.{bytes_eq}
use Rattle.sshd_files.specs.declared.files.SshdFileKind.{SshdFileKind}
use Rattle.sshd_files.specs.declared.files.SshdFileKind.TheVariants.{Keys, HostKey, Command, Output}
use Rattle.sshd_files.specs.declared.files.Listing.{Listing}
use Rattle.sshd_files.specs.declared.files.SshdFile.{SshdFile}
use Rattle.sshd_files.specs.Pattern.{is_unknown, path_of, patterns_of, words_of}
use Rattle.sshd_files.specs.Settings.{Configuration}
use Rattle.sshd_files.specs.Users.{Account}

-- what a file is read for, and its path or the text of the command
pub record File : Type 0 where
  pub kind : SshdFileKind
  pub path : List ℕ

abbrev pub file_of : SshdFile → File
file_of file = record { kind = file.kind; path = file.path.items }

abbrev pub file : SshdFileKind → List ℕ → File
file kind path = record { kind = kind; path = path }

-- ---- the files of the settings

-- the paths of one user, for each word that stands for one
abbrev pub user_files : (patterns : List (List ℕ)) → Account → List File
user_files patterns user = map (λ word. file Keys (path_of user word)) patterns

abbrev pub users_files : (patterns : List (List ℕ)) → List Account → List File
users_files patterns users = flat_map (user_files patterns) users

-- the command, if it was not asked
abbrev pub command_files : (asked : Bool) → Option (List ℕ) → List File
command_files asked command =
    if asked then [] else map (file Command) (option_to_list command)

-- the files that are those of no user
abbrev pub host_files : Configuration → (asked : Bool) → List File
host_files settings asked =
    map (file Keys) (option_to_list settings.authorities)
    ++ (map (file HostKey) settings.host_keys
    ++ (map (file Keys) settings.host_certificates ++ command_files asked settings.command))

-- all files of one sshd
unfoldable pub files_in : List Account → (asked : Bool) → Configuration → List File
files_in users asked settings =
    users_files (patterns_of settings.files) users ++ host_files settings asked

-- all files of each sshd, as often as they occur
unfoldable pub all_files : List Configuration → List Account → (asked : Bool) → List File
all_files settings users asked = flat_map (files_in users asked) settings

-- ---- each file once

abbrev pub number_of : SshdFileKind → ℕ
number_of Keys = 0
number_of HostKey = 1
number_of Command = 2
number_of Output = 3

-- two files have the same kind and the same path
abbrev pub is_same : File → File → Bool
is_same one other =
    (number_of one.kind == number_of other.kind) && bytes_eq one.path other.path

abbrev pub differs_from : File → File → Bool
differs_from one other = not (is_same one other)

-- no file of these is the same
abbrev pub is_absent : List File → File → Bool
is_absent files one = not (list_any (is_same one) files)

-- each file where it is first
unfoldable pub distinct : List File → List File
distinct [] = []
distinct (file ∷ files) = file ∷ filter (differs_from file) (distinct files)

-- ---- the files, or the word that stands for none

-- the first word with a token that is unknown
unfoldable pub unknown_word : List Configuration → Option (List ℕ)
unknown_word settings = find is_unknown (flat_map (λ one. words_of one.files) settings)

abbrev pub files_unless : Option (List ℕ) → List File → Result (List File) (List ℕ)
files_unless None files = Ok files
files_unless (Some word) files = Err word

-- the files that each sshd reads, each file once
unfoldable pub files_at : List Configuration → List Account → (asked : Bool)
    → Result (List File) (List ℕ)
files_at settings users asked =
    files_unless (unknown_word settings) (distinct (all_files settings users asked))

-- ---- the same, one file after another

-- A file as the bytes that a set holds: from the last one to the first, since most paths begin
-- alike.
abbrev pub key_of : File → List ℕ
key_of one = reverse (number_of one.kind ∷ one.path)

-- the files so far, and the set of their keys
pub record Listed : Type 0 where
  pub files : List File
  pub keys : List (List ℕ)

abbrev pub listed_of : Listing → Listed
listed_of listing =
    record {
      files = map file_of listing.files.items;
      keys = map (λ key. key.items) listing.seen.keys;
    }

abbrev pub nothing_listed : Listed
nothing_listed = record { files = []; keys = [] }

abbrev pub bytes_cmp : List ℕ → List ℕ → Ordering
bytes_cmp = slice_cmp nat_cmp

-- with one more file, unless it is there
unfoldable pub added : Listed → File → Listed
added listed one =
    if list_any (eq_by_cmp bytes_cmp (key_of one)) listed.keys then listed
    else record {
      files = listed.files ++ one ∷ [];
      keys = insert_key bytes_cmp listed.keys (key_of one);
    }

unfoldable pub all_added : Listed → List File → Listed
all_added listed [] = listed
all_added listed (one ∷ files) = all_added (added listed one) files
