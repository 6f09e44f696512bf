use Rattle.std.proofs.Common.{◌≡◌, ◌++◌, take, codes}
use Rattle.std.specs.List.{flat_map}
use Rattle.key_text.specs.Fingerprints.{colon_pair}
use Rattle.key_text.proofs.fingerprints.md5_text.Given as goal

abbrev pub invariant-loop-byte : goal.invariant-loop-byte
invariant-loop-byte l = l.text.items ≡ codes "MD5" ++ flat_map colon_pair (take l.byte-index l.digest)
