use Rattle.std.proofs.Common.{List, ℕ, Option, subst}
use Rattle.key_places.specs.Blob.{IsBlobOf}
use Rattle.key_places.proofs.BlobLaws.{blob_begins}
use Rattle.key_places.proofs.laws.blobs_begin_with_their_name.Goals as goal

pub returns : goal.returns
returns c = λ line blob place is same.
    blob_begins is.word place.name blob is.starts
    (subst (λ (read : Option (List ℕ)). IsBlobOf is.word read) same is.is_blob)
