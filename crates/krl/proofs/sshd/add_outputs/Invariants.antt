-- The outputs so far are behind the files that were there.
use Rattle.std.proofs.Common.{◌≡◌, ◌++◌, map, take}
use Rattle.sshd_files.specs.Files.{file_of}
use Rattle.krl.specs.Names.{now_of}
use Rattle.krl.specs.Sshd.{output_file}
use Rattle.krl.proofs.sshd.add_outputs.Given as goal

abbrev pub invariant-loop-name : goal.invariant-loop-name
invariant-loop-name l = map file_of l.files.items ≡ map file_of l.initial.files.items ++ map output_file (map now_of (take l.name-index l.given))
