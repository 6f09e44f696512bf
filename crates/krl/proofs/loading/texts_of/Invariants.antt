-- The texts so far have the names so far.
use Rattle.std.proofs.Common.{◌≡◌, map, take}
use Rattle.krl.specs.Names.{name_of, now_of}
use Rattle.krl.proofs.loading.texts_of.Given as goal

abbrev pub invariant-loop-name : goal.invariant-loop-name
invariant-loop-name l = map name_of l.texts.items ≡ map now_of (take l.name-index l.names)
