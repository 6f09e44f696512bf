-- The kind of file that a path leads to, by the mode of the file that is there (inode(7)), and
-- whether it is the null device.
use Rattle.std.specs.Prelude.{◌==◌, Bool, if◌then◌else◌}
use Rattle.std.specs.Fs.{file_type}
use Rattle.std.specs.declared.fs.attrs.Metadata.{Metadata}
use Rattle.audit_run.specs.declared.file_kind.FileKind.{FileKind}
use Rattle.audit_run.specs.declared.file_kind.FileKind.TheVariants as kinds

abbrev pub kind_of : (null : Bool) → Metadata → FileKind
kind_of null found =
    if (file_type found).bits == 0o040000 then kinds.Directory
    else if (file_type found).bits == 0o100000 then kinds.File
    else if (file_type found).bits == 0o120000 then kinds.Link
    else if null then kinds.Null else kinds.Other
