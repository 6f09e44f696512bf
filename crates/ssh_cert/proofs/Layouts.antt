-- The tables of a certificate spell the bytes that are written out.
use Rattle.std.proofs.Common.{◌≡◌, ℕ, ◌^◌, ◌<◌, List, [], ◌∷◌, ◌++◌, length, map, refl, ap, subst, ◌∙◌, arith}
use Rattle.ssh_wire.specs.Rows.{BeginsWithTable, table_text}
use Rattle.ssh_wire.specs.Wire.{string}
use Rattle.ssh_wire.proofs.RowLaws.{AreParts, ArePassed, table_is_text, table_text_begins}
use Rattle.ssh_key.specs.Key.{BeginsWithFields, PublicKey}
use Rattle.ssh_key.specs.Kind.{certificate_name}
use Rattle.ssh_cert.specs.declared.role.Role.{Role}
use Rattle.ssh_cert.specs.declared.role.Role.TheVariants.{User, Host}
use Rattle.ssh_cert.specs.Cert.{AreValues, Cert, IsCertificate, Values, certificate_with, role_number, texts_of}
use Rattle.ssh_cert.specs.Field.{Meaning, closing_fields, closing_table, opening_fields, row_of}
use Rattle.ssh_cert.specs.Layout.{IsCertificateText, certificate_type}
use Rattle.ssh_cert.proofs.Certs.{length-certificate_name, opening_spelled}
use Rattle.ssh_cert.proofs.Meanings.{kind_again, value_passes}

type_is : (role : Role) → role_number role ≡ certificate_type role
type_is User = refl
type_is Host = refl

role_fits : (role : Role) → role_number role < 2 ^ 32
role_fits User = omega arith
role_fits Host = omega arith

-- ---- what the tables spell

nonce_fits : (blob name nonce fields : List ℕ) → BeginsWithTable opening_fields [] blob (name ∷ nonce ∷ []) fields → length nonce < 2 ^ 32
nonce_fits blob name nonce fields (first, left, s, _, (second, rest, t, _, (all, same))) =
    let nonces : second ≡ nonce = cc in subst (λ (v : List ℕ). length v < 2 ^ 32) nonces t.is_part

-- the bytes of the parts, one after the other
joined : {blob fields rest closing : List ℕ} (first second public : List ℕ) → blob ≡ first ++ (second ++ fields) → fields ≡ public ++ rest → rest ≡ closing → blob ≡ first ++ (second ++ (public ++ closing))
joined first second public opens found closes =
    opens ∙ ap (λ (t : List ℕ). first ++ (second ++ t)) (found ∙ ap (λ (t : List ℕ). public ++ t) closes)

-- a certificate of these values
spelled_with : (blob nonce fields rest : List ℕ) (key : PublicKey) (values : Values closing_table) → BeginsWithTable opening_fields [] blob (certificate_name key.kind ∷ nonce ∷ []) fields → BeginsWithFields fields key rest
    → rest ≡ table_text closing_fields (texts_of closing_table values) → AreParts closing_fields (texts_of closing_table values) → AreValues closing_table values → IsCertificateText blob (certificate_with nonce key values)
spelled_with blob nonce fields rest key (serial, (role, (key_id, (principals, (after, (before, (critical, (extensions, (reserved, (authority, (signature, none))))))))))) opening public closing
    (serial_is, (role_is, (key_id_is, (principals_are, (after_is, (before_is, (critical_are, (extensions_are, (reserved_is, (authority_is, (signature_is, _)))))))))))
    (_, (_, (_, (_, (_, (_, (_, (_, (_, (is_key, (begins, _))))))))))) = record {
      reserved = reserved;
      signature = signature.0;
      spelled = rw (← type_is role) (joined (string (certificate_name key.kind)) (string nonce) key.fields (opening_spelled blob (certificate_name key.kind) nonce fields opening) public.spelled closing);
      key_is = public.is_key;
      authority_is = is_key;
      algorithm_is = begins;
      nonce_fits = nonce_fits blob (certificate_name key.kind) nonce fields opening;
      serial_fits = serial_is.1;
      key_id_fits = key_id_is;
      principals_fit = principals_are;
      after_fits = after_is.1;
      before_fits = before_is.1;
      critical_fits = critical_are;
      extensions_fit = extensions_are;
      reserved_fits = reserved_is;
      signature_fits = signature_is;
    }

pub certificate_spelled : (blob : List ℕ) (c : Cert) → IsCertificate blob c → IsCertificateText blob c
certificate_spelled blob c is =
    let text = table_is_text closing_fields is.rest (texts_of closing_table is.values) is.closing in
    subst (IsCertificateText blob) is.same (spelled_with blob c.nonce is.fields is.rest c.key is.values is.opening is.public text.0 text.1 is.are_values)

-- ---- and what is written out is spelled by the tables

values_pass : (table : List Meaning) (before : List (List ℕ)) (values : Values table) → AreParts (map row_of table) (texts_of table values) → AreValues table values → ArePassed (map row_of table) before (texts_of table values)
values_pass [] before values parts are = refl
values_pass (meaning ∷ table) before values parts are =
    (parts.0, value_passes meaning before values.0 parts.0 are.0, values_pass table _ values.1 parts.1 are.1)

pub certificate_spells : (blob : List ℕ) (c : Cert) → IsCertificateText blob c → IsCertificate blob c
certificate_spells blob c is =
    let values : Values closing_table =
    (c.serial, (c.role, (c.key_id, (c.principals, (c.after, (c.before, (c.critical, (c.extensions, (is.reserved, ((c.authority, c.authority_key), ((is.signature, c.algorithm), tt))))))))))) in
    let texts : List (List ℕ) = texts_of closing_table values in
    let type_fits : role_number c.role < 2 ^ 32 = role_fits c.role in
    let authority_fits : length c.authority < 2 ^ 32 = omega (arith, is.authority_is.short) in
    let parts : AreParts closing_fields texts =
    ((refl, is.serial_fits), ((refl, type_fits), (is.key_id_fits, (is.principals_fit, ((refl, is.after_fits), ((refl, is.before_fits), (is.critical_fits, (is.extensions_fit, (is.reserved_fits, (authority_fits, (is.signature_fits, tt))))))))))) in
    let are : AreValues closing_table values = (tt, (tt, (tt, (tt, (tt, (tt, (tt, (tt, (tt, (is.authority_is, (is.algorithm_is, tt))))))))))) in
    let rest : List ℕ = table_text closing_fields texts in
    let fields : List ℕ = c.key.fields ++ rest in
    let name : List ℕ = certificate_name c.key.kind in
    let spelled : blob ≡ string name ++ (string c.nonce ++ fields) = rw (type_is c.role) is.spelled in
    record {
      values = values;
      fields = fields;
      rest = rest;
      opening = (
        name,
        string c.nonce ++ fields,
        record { is_part = length-certificate_name c.key.kind; spelled = spelled },
        rw (kind_again c.key.kind) refl,
        (c.nonce, fields, record { is_part = is.nonce_fits; spelled = refl }, refl, (refl, refl)),
      );
      public = record { is_key = is.key_is; spelled = refl };
      closing = table_text_begins closing_fields [] texts (values_pass closing_table [] values parts are);
      are_values = are;
      same = refl;
    }
