-- The printed fingerprint of a key that is given by its blob or by its fingerprint, and the name of
-- an authority.
use Rattle.std.specs.Prelude.{ℕ, false, List, ◌++◌, Option, Some, None, codes, option_map}
use Rattle.key_text.specs.Fingerprints.{fingerprint_text, unpadded}
use Rattle.key_text.specs.declared.hash.Hash.TheVariants.{Sha256}
use Rattle.krl_fingerprints.specs.declared.keys_by.KeysBy.{KeysBy}
use Rattle.krl_fingerprints.specs.declared.keys_by.KeysBy.TheVariants.{Blob, Fingerprint}
use Rattle.line_pieces.specs.Visible.{visible}
use Rattle.text_index.specs.Explaining.{Explained}
use Rattle.audit_text.specs.declared.print.Spelling.{Spelling}

abbrev pub print_by : KeysBy → List ℕ → List ℕ
print_by Blob key = fingerprint_text Sha256 key
print_by Fingerprint key = codes "SHA256:" ++ unpadded key

-- how keys are spelled: how they are given, and the name of the certificate's authority
pub record Spelled : Type 0 where
  pub by : KeysBy
  pub authority : Option (List ℕ)

abbrev pub spelled_of : Spelling → Spelled
spelled_of spelling =
    record { by = spelling.by; authority = option_map (λ name. name.now) spelling.authority }

-- by the name that texts give, if there are texts
abbrev pub spelled_by : KeysBy → Option Explained → Spelled
spelled_by by None = record { by = by; authority = None }
spelled_by by (Some explained) = record { by = by; authority = explained.authority }

-- an authority by its name, or else by its fingerprint
abbrev pub authority_words : KeysBy → (key : List ℕ) → Option (List ℕ) → List ℕ
authority_words by key None = print_by by key
authority_words by key (Some name) = visible false name
