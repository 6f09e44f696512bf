-- The printed fingerprint of a key.
use Rattle.std.specs.Prelude.{ℕ, List, [], ◌∷◌, ◌++◌, codes}
use Rattle.std.specs.List.{flat_map}
use Rattle.sha2.specs.Sha256.{sha256}
use Rattle.md5.specs.Md5.{md5}
use Rattle.hex.specs.Hex.{encode_lower}
use Rattle.base64.specs.Engines.{standard_no_pad}
use Rattle.base64.specs.GeneralPurpose.{encode_of}
use Rattle.ssh_wire.specs.Ascii.{colon}
use Rattle.key_text.specs.declared.hash.Hash.{Hash}
use Rattle.key_text.specs.declared.hash.Hash.TheVariants.{Md5, Sha256}

-- a colon, and the two lower case digits of a byte
unfoldable pub colon_pair : ℕ → List ℕ
colon_pair byte = colon ∷ encode_lower (byte ∷ [])

-- base64 without padding
unfoldable pub unpadded : List ℕ → List ℕ
unpadded bytes = encode_of standard_no_pad bytes

unfoldable pub fingerprint_text : Hash → List ℕ → List ℕ
fingerprint_text Md5 bytes = codes "MD5" ++ flat_map colon_pair (md5 bytes)
fingerprint_text Sha256 bytes = codes "SHA256:" ++ unpadded (sha256 bytes)
