-- Lines of the hashes of keys.
use Rattle.std.proofs.Common.{◌≡◌, ℕ, List, [], ◌++◌, length, codes, Some, Ok, refl, ◌∙◌, arith}
use Rattle.std.proofs.lemmas.Bool.{eq-eqb}
use Rattle.std.proofs.lemmas.List.Elements.{All-append}
use Rattle.std.proofs.lemmas.List.Sums.{AllPass-from_list_all}
use Rattle.base64.proofs.EngineFacts.{decode_of-encode_of}
use Rattle.base64.specs.Engines.{standard_no_pad}
use Rattle.ssh_wire.specs.Wire.{IsBytes}
use Rattle.key_text.specs.FingerprintReading.{fingerprint_at}
use Rattle.key_text.specs.Fingerprints.{unpadded}
use Rattle.key_text.proofs.FingerprintLaws.{fingerprint_again}
use Rattle.krl_types.specs.Entry.{Sha1Entry, Sha256Entry}
use Rattle.krl_spec.specs.Entries.{order_entry}
use Rattle.krl_spec.specs.declared.directive.Directive.TheVariants as directives
use Rattle.list_text.specs.Text.{hash_line}
use Rattle.text_entries.specs.Says.{Names}
use Rattle.text_entries.specs.Values.{sha1_in}
use Rattle.text_entries.specs.Word.{word_named}
use Rattle.text_entries.specs.declared.standing.Standing.{Standing}
use Rattle.text_entries.specs.declared.word.Word.TheVariants as words
use Rattle.text_laws.proofs.Contents.{IsName, IsValue, nothing_left, solid_value}
use Rattle.text_laws.proofs.LineReads.{Reads, line_reads, literal_name, plain_text}
use Rattle.text_laws.proofs.Orders.{word_line_says}
use Rattle.text_laws.proofs.SolidBytes.{IsSolid, is_solid, unpadded_solid}

hash_name : IsName (codes "hash")
hash_name = literal_name (codes "hash") (omega arith) refl refl

hash_word : word_named (codes "hash") ≡ Some words.Hash
unfolding word_named
hash_word = refl

sha1_again : (hash : List ℕ) → IsBytes hash → length hash ≡ 20 → sha1_in (codes "SHA1:" ++ unpadded hash) ≡ Ok hash
unfolding sha1_in unpadded
sha1_again hash bytes size = rw (decode_of-encode_of standard_no_pad hash refl bytes, eq-eqb (length hash) 20 size) refl

sha256_again : (hash : List ℕ) → IsBytes hash → length hash ≡ 32
    → fingerprint_at (codes "SHA256:" ++ unpadded hash) ≡ Ok hash
sha256_again hash bytes size = fingerprint_again (codes "SHA256:" ++ unpadded hash) hash (record { encodes = record { spelled = refl; are_bytes = bytes }; size = size })

sha1_value : (hash : List ℕ) → IsValue (codes "SHA1:" ++ unpadded hash)
sha1_value hash =
    solid_value (codes "SHA1:" ++ unpadded hash) (All-append IsSolid (codes "SHA1:") (unpadded hash) (AllPass-from_list_all is_solid (codes "SHA1:") refl) (unpadded_solid hash))

sha256_value : (hash : List ℕ) → IsValue (codes "SHA256:" ++ unpadded hash)
sha256_value hash =
    solid_value (codes "SHA256:" ++ unpadded hash) (All-append IsSolid (codes "SHA256:") (unpadded hash) (AllPass-from_list_all is_solid (codes "SHA256:") refl) (unpadded_solid hash))

pub sha1_reads : (standing : Standing) (hash : List ℕ) → IsBytes hash → length hash ≡ 20
    → Reads standing (hash_line (codes "SHA1:") hash) (Names (Sha1Entry hash))
sha1_reads standing hash bytes size =
    let value : List ℕ = codes "SHA1:" ++ unpadded hash in
    let kept = sha1_value hash in
    line_reads standing (codes "hash") value [] (hash_line (codes "SHA1:") hash) (Names (Sha1Entry hash)) hash_name kept nothing_left (plain_text (codes "hash") value)
    (word_line_says standing (codes "hash") value [] words.Hash hash_name kept nothing_left hash_word ∙ rw (sha1_again hash bytes size) refl)

pub sha256_reads : (standing : Standing) (hash : List ℕ) → IsBytes hash → length hash ≡ 32
    → Reads standing (hash_line (codes "SHA256:") hash) (Names (Sha256Entry hash))
sha256_reads standing hash bytes size =
    let value : List ℕ = codes "SHA256:" ++ unpadded hash in
    let kept = sha256_value hash in
    let entry : order_entry standing.current directives.Hash value ≡ Ok (Sha256Entry hash) = rw (sha256_again hash bytes size) refl in
    line_reads standing (codes "hash") value [] (hash_line (codes "SHA256:") hash) (Names (Sha256Entry hash)) hash_name kept nothing_left (plain_text (codes "hash") value)
    (word_line_says standing (codes "hash") value [] words.Hash hash_name kept nothing_left hash_word ∙ rw entry refl)
