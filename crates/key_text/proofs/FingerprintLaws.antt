-- Reading a printed fingerprint agrees with the relation: reading returns only the digest of a fingerprint, reads each
-- fingerprint, and reports the first fault.
use Rattle.std.proofs.lemmas.Grind.{common_steps}
use Rattle.std.proofs.Common.{◌≡◌, ◌≢◌, ℕ, zero, suc, true, false, eqb, List, ◌++◌, Result, Ok, Err, length, drop, slice_index, nat_eq, refl, sym, ap, subst, ◌∙◌, inl, inr, ◌⊎◌, arith}
use Rattle.std.specs.List.{starts_with}
use Rattle.std.proofs.lemmas.Bool.{cases_Bool, eq-eqb, eqb-true, eqb-false, ne_eqb}
use Rattle.std.proofs.lemmas.List.{drop_at}
use Rattle.base64.proofs.EngineFacts.{decode_of-encode_of, decode_of_strict}
use Rattle.base64.specs.Engines.{standard_no_pad}
use Rattle.base64.specs.GeneralPurpose.{decode_of}
use Rattle.base64.specs.declared.decode.DecodeError.{DecodeError}
use Rattle.std.specs.Int.{to_be_bytes, w32}
use Rattle.sha2.specs.Sha256.{digest_bytes, sha256}
use Rattle.sha2.proofs.Facts256.{length-sha256}
use Rattle.ssh_wire.specs.Wire.{IsBytes}
use Rattle.key_text.specs.declared.hash.Hash.TheVariants.{Sha256}
use Rattle.key_text.specs.Fingerprints.{fingerprint_text, unpadded}
use Rattle.key_text.specs.FingerprintReading.{Encodes, HasOtherBase64, IsFingerprint, IsFingerprintFault, fingerprint_at, sha256_prefix, sized}
use Rattle.key_text.specs.declared.fingerprint_fault.FingerprintFault.{FingerprintFault}
use Rattle.key_text.specs.declared.fingerprint_fault.FingerprintFault.TheVariants.{Prefix, Base64, Length, NoMemory}
use Rattle.key_text.proofs.DecodedBytes.{engine_fits}
use Rattle.key_text.proofs.ListLaws.{front_met, front_not, front_taken}
use Rattle.ssh_wire.proofs.Digits.{IsBytes-append, IsBytes-back, IsBytes-big, IsBytes-nil}
use Rattle.ssh_wire.proofs.Steps.{err_is, failed_err, ok_or_err, passed_ok}

-- ---- the prefix

after : (text rest : List ℕ) → text ≡ sha256_prefix ++ rest → drop 7 text ≡ rest
after text rest e = rw e (drop_at sha256_prefix rest 7 refl)

-- reading continues after the prefix, or stops at it
pub prefixed_at : (text rest : List ℕ) → text ≡ sha256_prefix ++ rest → fingerprint_at text ≡ sized (decode_of standard_no_pad rest)
unfolding fingerprint_at
prefixed_at text rest e = grind (arith, common_steps, after, front_met)

prefix_or_not : (text : List ℕ) → ((fingerprint_at text ≡ Err Prefix) × ((rest : List ℕ) → text ≢ sha256_prefix ++ rest)) ⊎ ((rest : List ℕ) × (text ≡ sha256_prefix ++ rest))
unfolding fingerprint_at
prefix_or_not text = elim (cases_Bool (starts_with nat_eq text sha256_prefix)) [
  | inl met ↦ inr (drop 7 text, front_taken text sha256_prefix met)
  | inr not ↦ inl (rw not refl, front_not text sha256_prefix not)
]

-- ---- the base64

abbrev done : List ℕ → Result (List ℕ) DecodeError
done bytes = Ok bytes

sized_ok : (read : Result (List ℕ) DecodeError) (digest : List ℕ) → sized read ≡ Ok digest → (read ≡ Ok digest) × (length digest ≡ 32)
sized_ok (Err error) digest e = absurd cc
sized_ok (Ok bytes) digest e = let g = passed_ok (eqb (length bytes) 32) Length bytes digest e in (ap done g.1, ap length (sym g.1) ∙ eqb-true _ _ g.0)

-- the texts that are refused there: no base64, or the base64 of another number of bytes
Refused : Result (List ℕ) DecodeError → FingerprintFault → Type 0
Refused read fault =
    ((error : DecodeError) × (read ≡ Err error) × (fault ≡ Base64))
    ⊎ ((bytes : List ℕ) × (read ≡ Ok bytes) × (length bytes ≢ 32) × (fault ≡ Length))

sized_err : (read : Result (List ℕ) DecodeError) (fault : FingerprintFault) → sized read ≡ Err fault → Refused read fault
unfolding Refused
sized_err (Err error) fault e = let same : fault ≡ Base64 = cc in inl (error, refl, same)
sized_err (Ok bytes) fault e = let g = failed_err (eqb (length bytes) 32) bytes Length fault e in inr (bytes, refl, eqb-false _ _ g.0, g.1)

decoded_encodes : (text rest bytes : List ℕ) → IsBytes text → text ≡ sha256_prefix ++ rest → decode_of standard_no_pad rest ≡ Ok bytes → Encodes text bytes
unfolding unpadded
decoded_encodes text rest bytes fits e read =
    let rest_fits : IsBytes rest = IsBytes-back sha256_prefix rest (subst IsBytes e fits) in
    record {
      spelled = e ∙ ap (λ (xs : List ℕ). sha256_prefix ++ xs) (decode_of_strict standard_no_pad rest bytes (refl, refl) rest_fits read);
      are_bytes = engine_fits standard_no_pad rest bytes rest_fits read;
    }

encoded_again : (bytes : List ℕ) → IsBytes bytes → decode_of standard_no_pad (unpadded bytes) ≡ Ok bytes
unfolding unpadded
encoded_again bytes fits = decode_of-encode_of standard_no_pad bytes refl fits

-- ---- the whole

pub fingerprint_found : (text digest : List ℕ) → IsBytes text → fingerprint_at text ≡ Ok digest → IsFingerprint text digest
fingerprint_found text digest fits e = elim (prefix_or_not text) [
  | inl none ↦ absurd (ok_or_err digest Prefix (fingerprint_at text) e none.0)
  | inr has ↦
      let kept = sized_ok (decode_of standard_no_pad has.0) digest (sym (prefixed_at text has.0 has.1) ∙ e) in
      record { encodes = decoded_encodes text has.0 digest fits has.1 kept.0; size = kept.1 }
]

pub fingerprint_again : (text digest : List ℕ) → IsFingerprint text digest → fingerprint_at text ≡ Ok digest
fingerprint_again text digest is =
    let test : eqb (length digest) 32 ≡ true = eq-eqb (length digest) 32 is.size in
    prefixed_at text (unpadded digest) is.encodes.spelled ∙ rw (encoded_again digest is.encodes.are_bytes, test) refl

refused_there : (text rest : List ℕ) (fault : FingerprintFault) → IsBytes text → text ≡ sha256_prefix ++ rest → Refused (decode_of standard_no_pad rest) fault → IsFingerprintFault text fault
unfolding Refused
refused_there text rest fault fits e (inl bad) =
    let is : HasOtherBase64 text = record { rest = rest; prefixed = e; none = λ bytes bytes_fit same. ok_or_err bytes bad.0 (decode_of standard_no_pad rest) (ap (decode_of standard_no_pad) (sym same) ∙ encoded_again bytes bytes_fit) bad.1 } in
    subst (IsFingerprintFault text) (sym bad.2) is
refused_there text rest fault fits e (inr other) =
    subst (IsFingerprintFault text) (sym other.3) (other.0, decoded_encodes text rest other.0 fits e other.1, other.2)

pub fingerprint_refused : (text : List ℕ) (fault : FingerprintFault) → IsBytes text → fingerprint_at text ≡ Err fault → IsFingerprintFault text fault
fingerprint_refused text fault fits e = elim (prefix_or_not text) [
  | inl none ↦ subst (IsFingerprintFault text) (err_is Prefix fault (fingerprint_at text) none.0 e) none.1
  | inr has ↦ refused_there text has.0 fault fits has.1 (sized_err (decode_of standard_no_pad has.0) fault (sym (prefixed_at text has.0 has.1) ∙ e))
]

-- ---- reading reports a first fault

pub fingerprint_fault_met : (text : List ℕ) (fault : FingerprintFault) → IsBytes text → IsFingerprintFault text fault → fingerprint_at text ≡ Err fault
fingerprint_fault_met text Prefix fits none = elim (prefix_or_not text) [
  | inl met ↦ met.0
  | inr has ↦ absurd (none has.0 has.1)
]
fingerprint_fault_met text Base64 fits other = prefixed_at text other.rest other.prefixed ∙ refused_base64 (decode_of standard_no_pad other.rest) refl
  where
    refused_base64 : (read : Result (List ℕ) DecodeError) → decode_of standard_no_pad other.rest ≡ read → sized read ≡ Err Base64
    refused_base64 (Err error) e = refl
    refused_base64 (Ok bytes) e =
        let is = decoded_encodes text other.rest bytes fits other.prefixed e in
        absurd (other.none bytes is.are_bytes (sym (after text (unpadded bytes) is.spelled) ∙ after text other.rest other.prefixed))
fingerprint_fault_met text Length fits other =
    let test : eqb (length other.0) 32 ≡ false = ne_eqb (length other.0) 32 other.2 in
    prefixed_at text (unpadded other.0) other.1.spelled ∙ rw (encoded_again other.0 other.1.are_bytes, test) refl
fingerprint_fault_met text NoMemory fits never = absurd never

-- ---- a printed fingerprint

digest_are_bytes : (hash : List ℕ) (n : ℕ) → IsBytes (digest_bytes hash n)
unfolding digest_bytes
digest_are_bytes hash zero = IsBytes-nil
digest_are_bytes hash (suc n) = IsBytes-append (digest_bytes hash n) (to_be_bytes w32 (slice_index hash n)) (digest_are_bytes hash n) (IsBytes-big 4 (slice_index hash n))

sha256_are_bytes : (bytes : List ℕ) → IsBytes (sha256 bytes)
unfolding sha256
sha256_are_bytes bytes = grind (arith, common_steps, digest_are_bytes)

pub printed_is_fingerprint : (bytes : List ℕ) → IsFingerprint (fingerprint_text Sha256 bytes) (sha256 bytes)
unfolding fingerprint_text
printed_is_fingerprint bytes = grind (arith, common_steps, length-sha256, sha256_are_bytes)
