-- How many bytes of a file its keys take.
use Rattle.std.specs.Prelude.{ℕ, ◌+◌, ◌*◌, List, length, sum_by, Result, Ok, Err}
use Rattle.run_faults.specs.declared.file_fault.FileFault.{FileFault}
use Rattle.run_faults.specs.Keys.{FileKey, Named}
use Rattle.run_faults.specs.RunFault.{RunFault}

-- the bytes of a file; a file that could not be read has none
abbrev pub content_size : Result (List ℕ) FileFault → ℕ
content_size (Ok text) = length text
content_size (Err fault) = 0

abbrev pub file_size : Named → ℕ
file_size file = content_size file.content

-- the bytes of all files
abbrev pub files_size : List Named → ℕ
files_size files = sum_by file_size files

-- Three times the number of bytes that a blob takes of a file at least: base64 has four for three,
-- and a type name of seven or more and a blank come before it.
abbrev pub blob_room : List ℕ → ℕ
blob_room blob = 4 * length blob + 24

abbrev pub key_room : Result FileKey RunFault → ℕ
key_room (Ok key) = blob_room key.line.blob
key_room (Err stop) = 0

-- the same for all keys
abbrev pub keys_room : List (Result FileKey RunFault) → ℕ
keys_room keys = sum_by key_room keys
