-- The type name and the base64 of a key are read as the key.
use Rattle.std.proofs.Common.{◌≡◌, ℕ, ◌<◌, ◌-◌, true, List, [], ◌∷◌, ◌++◌, length, take, drop, Contains, Ok, refl, sym, ap, subst, ◌∙◌, arith, append-nil, length-append, inl, nat_lt}
use Rattle.std.specs.List.{AllPass, list_all, prefix_len, suffix_len}
use Rattle.std.proofs.lemmas.Bool.{and_parts, ltb-true}
use Rattle.std.proofs.lemmas.List.Elements.{All-cons, All-nil}
use Rattle.std.proofs.lemmas.List.Sums.{AllPass-from_list_all}
use Rattle.base64.specs.Engines.{standard}
use Rattle.base64.specs.GeneralPurpose.{encode_of}
use Rattle.ssh_wire.specs.Wire.{BeginsWith, IsBytes, string}
use Rattle.ssh_wire.proofs.Digits.{IsBytes-cons, IsBytes-nil}
use Rattle.ssh_wire.proofs.Fields.{length-string}
use Rattle.ssh_key.specs.Key.{IsKey, PublicKey}
use Rattle.ssh_key.specs.KeyReading.{key_at}
use Rattle.ssh_key.specs.Kind.{type_name}
use Rattle.ssh_key.specs.declared.kind.Kind.{Kind}
use Rattle.ssh_key.specs.declared.kind.Kind.TheVariants.{Rsa, Dsa, Ecdsa256, Ecdsa384, Ecdsa521, Ed25519, EcdsaSk, Ed25519Sk}
use Rattle.ssh_key.proofs.Keys.{key_found}
use Rattle.key_text.specs.Blanks.{after_blanks, before_ending, first_word, is_blank, is_ending, trimmed}
use Rattle.key_text.specs.KeyLine.{AreWords, IsKeyLine, base64, no_comment}
use Rattle.key_text.specs.LineReading.{content, line_at}
use Rattle.key_text.specs.TypeName.{certificate_names, is_type_name, plain_names, type_names}
use Rattle.key_text.proofs.LineBase64.{base64_passes, base64_some}
use Rattle.key_text.proofs.LineLaws.{line_again}
use Rattle.key_text.proofs.LineNames.{Contains-from_test, name_is_word}
use Rattle.ssh_cert.specs.SubjectReading.{of_key, plain_key, subject_of}
use Rattle.ssh_cert.proofs.Subjects.{subject_again}
use Rattle.keyed_lines.specs.Keys.{subject_in}
use Rattle.krl_spec.proofs.LongestParts.{end_gone}
use Rattle.text_entries.specs.Values.{begins_with_key}
use Rattle.text_laws.proofs.Contents.{IsValue, joined_value, no_blank, solid_value}
use Rattle.text_laws.proofs.SolidBytes.{base64_solid, is_solid}

-- ---- type names

bytes_from_test : (text : List ℕ) → list_all (λ byte. nat_lt byte 256) text ≡ true → IsBytes text
bytes_from_test [] passes = IsBytes-nil
bytes_from_test (byte ∷ text) passes =
    let parts = and_parts (nat_lt byte 256) (list_all (λ b. nat_lt b 256) text) passes in
    IsBytes-cons byte text (ltb-true byte 256 parts.0) (bytes_from_test text parts.1)

small_name : (kind : Kind) → list_all (λ byte. nat_lt byte 256) (type_name kind) ≡ true
small_name Rsa = refl
small_name Dsa = refl
small_name Ecdsa256 = refl
small_name Ecdsa384 = refl
small_name Ecdsa521 = refl
small_name Ed25519 = refl
small_name EcdsaSk = refl
small_name Ed25519Sk = refl

name_solid : (kind : Kind) → AllPass is_solid (type_name kind)
name_solid Rsa = AllPass-from_list_all is_solid (type_name Rsa) refl
name_solid Dsa = AllPass-from_list_all is_solid (type_name Dsa) refl
name_solid Ecdsa256 = AllPass-from_list_all is_solid (type_name Ecdsa256) refl
name_solid Ecdsa384 = AllPass-from_list_all is_solid (type_name Ecdsa384) refl
name_solid Ecdsa521 = AllPass-from_list_all is_solid (type_name Ecdsa521) refl
name_solid Ed25519 = AllPass-from_list_all is_solid (type_name Ed25519) refl
name_solid EcdsaSk = AllPass-from_list_all is_solid (type_name EcdsaSk) refl
name_solid Ed25519Sk = AllPass-from_list_all is_solid (type_name Ed25519Sk) refl

pub name_bytes : (kind : Kind) → IsBytes (type_name kind)
name_bytes kind = bytes_from_test (type_name kind) (small_name kind)

is_name : (kind : Kind) → is_type_name (type_name kind) ≡ true
unfolding is_type_name type_names plain_names certificate_names
is_name Rsa = refl
is_name Dsa = refl
is_name Ecdsa256 = refl
is_name Ecdsa384 = refl
is_name Ecdsa521 = refl
is_name Ed25519 = refl
is_name EcdsaSk = refl
is_name Ed25519Sk = refl

pub begins_named : (kind : Kind) (rest : List ℕ) → begins_with_key (type_name kind ++ 32 ∷ rest) ≡ true
unfolding first_word is_type_name type_names plain_names certificate_names
begins_named Rsa rest = refl
begins_named Dsa rest = refl
begins_named Ecdsa256 rest = refl
begins_named Ecdsa384 rest = refl
begins_named Ecdsa521 rest = refl
begins_named Ed25519 rest = refl
begins_named EcdsaSk rest = refl
begins_named Ed25519Sk rest = refl

-- ---- the value

module _ (blob : List ℕ) (key : PublicKey) (bytes : IsBytes blob) (read : key_at blob ≡ Ok key) where
  abbrev pub key_value : List ℕ
  key_value = type_name key.kind ++ 32 ∷ encode_of standard blob

  is_key : IsKey blob key
  is_key = key_found blob key bytes read

  named : Contains type_names (type_name key.kind)
  named = Contains-from_test (type_name key.kind) (is_name key.kind)

  begins : BeginsWith blob (type_name key.kind)
  begins = record { rest = key.fields; spelled = is_key.spelled; fits = omega (arith, (name_is_word (type_name key.kind) named).1) }

  some_bytes : 0 < length blob
  some_bytes = omega (arith, ap length is_key.spelled, length-append (string (type_name key.kind)) key.fields, length-string (type_name key.kind))

  pub key_is_value : IsValue key_value
  unfolding base64
  key_is_value =
      joined_value (type_name key.kind) (encode_of standard blob) (name_is_word (type_name key.kind) named).2 (base64_some blob some_bytes)
      (solid_value (type_name key.kind) (name_solid key.kind)) (solid_value (encode_of standard blob) (base64_solid blob))

  bare : trimmed key_value ≡ key_value
  unfolding trimmed after_blanks before_ending
  bare =
      let whole = key_is_value in
      let starts : drop (prefix_len is_blank key_value) key_value ≡ key_value = ap (λ (n : ℕ). drop n key_value) (no_blank key_value whole.starts) in
      let ends : take (length key_value - suffix_len is_ending key_value) key_value ≡ key_value =
      ap (λ (xs : List ℕ). take (length xs - suffix_len is_ending xs) xs) (sym (append-nil key_value))
      ∙ end_gone is_ending key_value [] (All-nil (λ byte. is_ending byte ≡ true)) whole.ends in
      ap (λ (xs : List ℕ). take (length xs - suffix_len is_ending xs) xs) starts ∙ ends

  is_line : IsKeyLine key_value (type_name key.kind) blob []
  unfolding base64
  is_line =
      let words : AreWords key_value (type_name key.kind) (encode_of standard blob) [] = record {
        name = named;
        blanks = 32 ∷ [];
        are_blanks = record { some = omega arith; each = All-cons (λ byte. is_blank byte ≡ true) 32 [] refl (All-nil (λ byte. is_blank byte ≡ true)) };
        is_word = record { some = base64_some blob some_bytes; each = base64_passes blob };
        end = [];
        ended = no_comment;
        spelled = ap (λ (xs : List ℕ). type_name key.kind ++ 32 ∷ xs) (sym (append-nil (encode_of standard blob)));
      } in
      record { words = inl (subst (λ (t : List ℕ). AreWords t (type_name key.kind) (encode_of standard blob) []) (sym bare) words); bytes = bytes; begins = begins }

  pub key_subject : subject_in key_value ≡ Ok (of_key blob)
  unfolding subject_in
  key_subject =
      let line : line_at key_value ≡ Ok (content (type_name key.kind) blob []) = line_again key_value (type_name key.kind) blob [] is_line in
      let asked : subject_of blob ≡ Ok (of_key blob) = subject_again blob (of_key blob) (plain_key key is_key refl) in
      rw (line, asked) refl
