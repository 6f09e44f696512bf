-- No comma and blank is in the bytes before the rest.
use Rattle.std.proofs.Common.{◌≡◌, length}
use Rattle.text_entries.specs.KeyId.{looks_like_several}
use Rattle.text_entries.proofs.key_id.looks_like_several.Given as goal

abbrev pub invariant-bytes : goal.invariant-bytes
invariant-bytes l = looks_like_several l.rest ≡ looks_like_several l.fn.id

abbrev pub decreases-bytes : goal.decreases-bytes
decreases-bytes l = length l.rest
