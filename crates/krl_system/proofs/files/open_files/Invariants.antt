-- The files so far have the names so far.
use Rattle.std.proofs.Common.{◌≡◌, map, take}
use Rattle.krl_system.specs.Files.{name_of, now_of}
use Rattle.krl_system.proofs.files.open_files.Given as goal

abbrev pub invariant-loop-name : goal.invariant-loop-name
invariant-loop-name l = map name_of l.files.items ≡ map now_of (take l.name-index l.names)
