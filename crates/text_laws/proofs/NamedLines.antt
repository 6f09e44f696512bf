-- Lines of certificate authorities and keys.
use Rattle.std.proofs.Common.{◌≡◌, ◌≢◌, ℕ, ◌==◌, false, List, [], ◌∷◌, ◌++◌, length, All, codes, true, Option, None, Some, Result, Ok, Err, refl, ap, ◌∙◌, arith}
use Rattle.std.proofs.lemmas.Bool.{ne_eqb}
use Rattle.std.specs.List.{AllPass}
use Rattle.std.proofs.lemmas.List.Sums.{AllPass-from_list_all}
use Rattle.std.proofs.lemmas.List.Elements.{All-append, All-cons, All-weaker}
use Rattle.base64.proofs.EngineFacts.{decode_of-encode_of}
use Rattle.base64.specs.Engines.{standard}
use Rattle.base64.specs.GeneralPurpose.{encode_of}
use Rattle.sha2.specs.Sha256.{sha256}
use Rattle.ssh_wire.specs.Wire.{IsBytes}
use Rattle.ssh_key.specs.Key.{PublicKey}
use Rattle.ssh_key.specs.KeyReading.{key_at}
use Rattle.ssh_key.specs.Kind.{type_name}
use Rattle.ssh_key.specs.declared.fault.KeyFault.{KeyFault}
use Rattle.ssh_key.specs.declared.kind.Kind.{Kind}
use Rattle.ssh_key.specs.declared.kind.Kind.TheVariants.{Rsa, Dsa, Ecdsa256, Ecdsa384, Ecdsa521, Ed25519, EcdsaSk, Ed25519Sk}
use Rattle.key_text.specs.Fingerprints.{fingerprint_text, unpadded}
use Rattle.key_text.specs.declared.hash.Hash.TheVariants.{Sha256}
use Rattle.krl_types.specs.Entry.{KeyEntry}
use Rattle.krl_spec.specs.Entries.{order_entry}
use Rattle.krl_spec.specs.Keys.{plain_in}
use Rattle.krl_spec.specs.declared.directive.Directive.TheVariants as directives
use Rattle.list_text.specs.Text.{authority_line, key_line, named_line}
use Rattle.text_entries.specs.AuthorityNames.{can_have}
use Rattle.text_entries.specs.Says.{Current, Declares, Names, declares, name_says}
use Rattle.text_entries.specs.Values.{authority_blob_in, authority_in, authority_key_in, bare_authority_in, blob_in, is_all, some_bytes}
use Rattle.text_entries.specs.Word.{word_named}
use Rattle.text_entries.specs.declared.standing.Standing.{Standing}
use Rattle.text_entries.specs.declared.word.Word.TheVariants as words
use Rattle.text_laws.specs.FactLines.{CanDeclare, authority_says}
use Rattle.text_laws.specs.Names.{CanBeNamed}
use Rattle.text_laws.proofs.Contents.{IsName, IsRest, comment_left, nothing_left, solid_value}
use Rattle.text_laws.proofs.KeyValues.{begins_named, key_is_value, key_subject, key_value}
use Rattle.text_laws.proofs.LineReads.{Reads, comment_text, line_reads, literal_name, plain_text}
use Rattle.text_laws.proofs.Marks.{declared_says, mark_name}
use Rattle.text_laws.proofs.Orders.{word_line_says}
use Rattle.text_laws.proofs.SolidBytes.{HasNoFeed, IsNoHyphen, IsSolid, base64_solid, is_no_hyphen, is_solid, kept_no_feed, solid_kept, unpadded_no_hyphen, unpadded_solid}

-- ---- the fingerprint behind a key

print_no_feed : (blob : List ℕ) → All HasNoFeed (fingerprint_text Sha256 blob)
unfolding fingerprint_text
print_no_feed blob =
    let solid = All-append IsSolid (codes "SHA256:") (unpadded (sha256 blob)) (AllPass-from_list_all is_solid (codes "SHA256:") refl) (unpadded_solid (sha256 blob)) in
    All-weaker IsSolid HasNoFeed (λ byte is. kept_no_feed byte (solid_kept byte is)) (codes "SHA256:" ++ unpadded (sha256 blob)) solid

print_no_hyphen : (blob : List ℕ) → AllPass is_no_hyphen (fingerprint_text Sha256 blob)
unfolding fingerprint_text
print_no_hyphen blob =
    All-append IsNoHyphen (codes "SHA256:") (unpadded (sha256 blob)) (AllPass-from_list_all is_no_hyphen (codes "SHA256:") refl) (unpadded_no_hyphen (sha256 blob))

print_left : (blob : List ℕ) → IsRest (32 ∷ 35 ∷ 32 ∷ fingerprint_text Sha256 blob)
print_left blob =
    comment_left (32 ∷ fingerprint_text Sha256 blob) (All-cons IsNoHyphen 32 (fingerprint_text Sha256 blob) refl (print_no_hyphen blob)) (All-cons HasNoFeed 32 (fingerprint_text Sha256 blob) refl (print_no_feed blob))

-- ---- bytes

blob_again : (blob : List ℕ) → IsBytes blob → blob_in (encode_of standard blob) ≡ Ok blob
unfolding blob_in
blob_again blob bytes = rw (decode_of-encode_of standard blob refl bytes) refl

-- ---- authorities

ca_name : IsName (codes "ca")
ca_name = literal_name (codes "ca") (omega arith) refl refl

ca_word : word_named (codes "ca") ≡ Some words.Authority
unfolding word_named
ca_word = refl

blob_name : IsName (codes "ca-blob")
blob_name = literal_name (codes "ca-blob") (omega arith) refl refl

blob_word : word_named (codes "ca-blob") ≡ Some words.AuthorityBlob
unfolding word_named
blob_word = refl

all_read : (standing : Standing) → Reads standing (codes "ca: all\n") (Current [])
unfolding authority_in
all_read standing =
    let kept = solid_value (codes "all") (AllPass-from_list_all is_solid (codes "all") refl) in
    line_reads standing (codes "ca") (codes "all") [] (codes "ca: all\n") (Current []) ca_name kept nothing_left refl
    (word_line_says standing (codes "ca") (codes "all") [] words.Authority ca_name kept nothing_left ca_word)

-- no type name is `all`
not_all : (kind : Kind) (rest : List ℕ) → is_all (type_name kind ++ 32 ∷ rest) ≡ false
not_all Rsa rest = refl
not_all Dsa rest = refl
not_all Ecdsa256 rest = refl
not_all Ecdsa384 rest = refl
not_all Ecdsa521 rest = refl
not_all Ed25519 rest = refl
not_all EcdsaSk rest = refl
not_all Ed25519Sk rest = refl

bare_again : (blob : List ℕ) (key : PublicKey) (bytes : IsBytes blob) (read : key_at blob ≡ Ok key)
    → bare_authority_in (key_value blob key bytes read) ≡ Ok blob
unfolding authority_key_in
bare_again blob key bytes read =
    rw (begins_named key.kind (encode_of standard blob), key_subject blob key bytes read) refl

authority_again : (blob : List ℕ) (key : PublicKey) (bytes : IsBytes blob) (read : key_at blob ≡ Ok key)
    → authority_in (key_value blob key bytes read) ≡ Ok blob
unfolding authority_in
authority_again blob key bytes read = rw (not_all key.kind (encode_of standard blob)) (bare_again blob key bytes read)

some_again : (blob : List ℕ) → blob ≢ [] → some_bytes blob ≡ Ok blob
some_again [] some = absurd (some refl)
some_again (byte ∷ blob) some = refl

authority_blob_again : (blob : List ℕ) → IsBytes blob → blob ≢ []
    → authority_blob_in (encode_of standard blob) ≡ Ok blob
unfolding authority_blob_in
authority_blob_again blob bytes some = rw (blob_again blob bytes) (some_again blob some)

named_authority : (standing : Standing) (blob : List ℕ) → IsBytes blob → blob ≢ []
    → (read : Result PublicKey KeyFault) → key_at blob ≡ read
    → Reads standing (named_line (codes "ca") blob read) (Current blob)
named_authority standing blob bytes some (Ok key) read =
    let kept = key_is_value blob key bytes read in
    let rest : List ℕ = 32 ∷ 35 ∷ 32 ∷ fingerprint_text Sha256 blob in
    let value : List ℕ = key_value blob key bytes read in
    line_reads standing (codes "ca") value rest (named_line (codes "ca") blob (Ok key)) (Current blob) ca_name kept (print_left blob)
    (comment_text (codes "ca") (type_name key.kind) (encode_of standard blob) (fingerprint_text Sha256 blob))
    (word_line_says standing (codes "ca") value rest words.Authority ca_name kept (print_left blob) ca_word ∙ rw (authority_again blob key bytes read) refl)
named_authority standing blob bytes some (Err fault) read =
    let value : List ℕ = encode_of standard blob in
    let kept = solid_value value (base64_solid blob) in
    line_reads standing (codes "ca-blob") value [] (named_line (codes "ca") blob (Err fault)) (Current blob) blob_name kept nothing_left (plain_text (codes "ca-blob") value)
    (word_line_says standing (codes "ca-blob") value [] words.AuthorityBlob blob_name kept nothing_left blob_word ∙ rw (authority_blob_again blob bytes some) refl)

-- an authority that is given a name
declared_authority : (standing : Standing) (name blob : List ℕ) → IsBytes blob → CanBeNamed name blob → can_have standing.names name blob ≡ true
    → Reads standing (authority_line (Some name) blob) (Declares name blob)
declared_authority standing name blob bytes can free =
    let key : PublicKey = can.key in
    let kept = key_is_value blob key bytes can.read in
    let rest : List ℕ = 32 ∷ 35 ∷ 32 ∷ fingerprint_text Sha256 blob in
    let value : List ℕ = key_value blob key bytes can.read in
    let again : declares standing.names name value ≡ Ok blob = rw (can.named, bare_again blob key bytes can.read, free) refl in
    rw can.read
    (line_reads standing (64 ∷ name) value rest (64 ∷ named_line name blob (Ok key)) (Declares name blob) (mark_name name can.named) kept (print_left blob)
    (comment_text (64 ∷ name) (type_name key.kind) (encode_of standard blob) (fingerprint_text Sha256 blob))
    (declared_says standing name value rest can.named kept (print_left blob) ∙ ap (name_says name) again))

pub authority_reads : (standing : Standing) (named : Option (List ℕ)) (authority : List ℕ) → IsBytes authority → CanDeclare standing.names named authority
    → Reads standing (authority_line named authority) (authority_says named authority)
authority_reads standing (Some name) authority bytes can = declared_authority standing name authority bytes can.0 can.1
authority_reads standing None [] bytes can = all_read standing
authority_reads standing None (byte ∷ authority) bytes can =
    let some : (length (byte ∷ authority) == 0) ≡ false = ne_eqb (length (byte ∷ authority)) 0 (λ none. absurd (omega (arith, none))) in
    rw some (named_authority standing (byte ∷ authority) bytes (λ none. absurd cc) (key_at (byte ∷ authority)) refl)

-- ---- keys

key_name : IsName (codes "key")
key_name = literal_name (codes "key") (omega arith) refl refl

key_word : word_named (codes "key") ≡ Some words.Key
unfolding word_named
key_word = refl

key_blob_name : IsName (codes "key-blob")
key_blob_name = literal_name (codes "key-blob") (omega arith) refl refl

key_blob_word : word_named (codes "key-blob") ≡ Some words.KeyBlob
unfolding word_named
key_blob_word = refl

plain_again : (blob : List ℕ) (key : PublicKey) (bytes : IsBytes blob) (read : key_at blob ≡ Ok key)
    → plain_in (key_value blob key bytes read) ≡ Ok blob
unfolding plain_in
plain_again blob key bytes read = rw (key_subject blob key bytes read) refl

named_key : (standing : Standing) (blob : List ℕ) → IsBytes blob → (read : Result PublicKey KeyFault)
    → key_at blob ≡ read
    → Reads standing (named_line (codes "key") blob read) (Names (KeyEntry blob))
named_key standing blob bytes (Ok key) read =
    let kept = key_is_value blob key bytes read in
    let rest : List ℕ = 32 ∷ 35 ∷ 32 ∷ fingerprint_text Sha256 blob in
    let value : List ℕ = key_value blob key bytes read in
    let entry : order_entry standing.current directives.Key value ≡ Ok (KeyEntry blob) = rw (plain_again blob key bytes read) refl in
    line_reads standing (codes "key") value rest (named_line (codes "key") blob (Ok key)) (Names (KeyEntry blob)) key_name kept (print_left blob)
    (comment_text (codes "key") (type_name key.kind) (encode_of standard blob) (fingerprint_text Sha256 blob))
    (word_line_says standing (codes "key") value rest words.Key key_name kept (print_left blob) key_word ∙ rw (begins_named key.kind (encode_of standard blob), entry) refl)
named_key standing blob bytes (Err fault) read =
    let value : List ℕ = encode_of standard blob in
    let kept = solid_value value (base64_solid blob) in
    line_reads standing (codes "key-blob") value [] (named_line (codes "key") blob (Err fault)) (Names (KeyEntry blob)) key_blob_name kept nothing_left (plain_text (codes "key-blob") value)
    (word_line_says standing (codes "key-blob") value [] words.KeyBlob key_blob_name kept nothing_left key_blob_word ∙ rw (blob_again blob bytes) refl)

pub key_reads : (standing : Standing) (blob : List ℕ) → IsBytes blob
    → Reads standing (key_line blob) (Names (KeyEntry blob))
key_reads standing blob bytes = named_key standing blob bytes (key_at blob) refl
