-- Reading the parts of a login returns exactly what they spell.
use Rattle.std.proofs.Common.{◌≡◌, ℕ, ◌<◌, ◌^◌, true, false, List, [], ◌∷◌, ◌++◌, length, take, drop, codes, nat_lt}
use Rattle.std.proofs.Common.{Option, Some, None, Result, Ok, Err, refl, sym, ap, subst, ◌∙◌, arith, inl, inr}
use Rattle.std.specs.Prelude.{option_map}
use Rattle.std.specs.Result.{result_ok}
use Rattle.std.specs.Str.Parse.{digits_value}
use Rattle.std.proofs.lemmas.Bool.{eqb-true, le-ltb, lt-ltb, ltb-true}
use Rattle.std.proofs.lemmas.List.{append_assoc, drop_at, length-append, take-append-drop, take_at}
use Rattle.ssh_wire.specs.Wire.{IsBytes}
use Rattle.ssh_wire.proofs.Digits.{IsBytes-front}
use Rattle.key_text.specs.FingerprintReading.{IsFingerprint, fingerprint_at}
use Rattle.key_text.proofs.LineWords.{FailsFirst}
use Rattle.key_text.proofs.FingerprintLaws.{fingerprint_again, fingerprint_found}
use Rattle.login_lines.specs.declared.words.Class.TheVariants.{Digit, Kind}
use Rattle.login_lines.specs.KeyNames.{Name, digest_at, key_at, named, printed_at}
use Rattle.login_lines.specs.Logins.{Signed, certificate_at, certificate_or_end, ends_counted, ends_here, is_end}
use Rattle.login_lines.specs.Logins.{serial_at, signed, signed_at}
use Rattle.login_lines.specs.Numbers.{IsNumber, number_of}
use Rattle.login_lines.specs.Spelling.{IsCertificate, IsCertified, IsEnd, IsTail, NamesKey, counted_tail, ended}
use Rattle.login_lines.specs.Spelling.{ended_by_return, group_text, plain_tail}
use Rattle.login_lines.specs.Words.{IsWordOf, after, group_at, passes, span_at}
use Rattle.login_lines.proofs.Parts.{IsBytes-behind, IsBytes-rest, NoParenthesis, after_again, after_found, bind_some}
use Rattle.login_lines.proofs.Parts.{both_pass, group_again, group_found, literal_passes, met_some, option_cases}
use Rattle.login_lines.proofs.Parts.{other_some, some_is, span_again, span_found, word_passes}
use Rattle.login_lines.proofs.Prints.{print_passes, print_size}

-- ---- a key

digest_found : (print digest : List ℕ) → IsBytes print → digest_at print ≡ Some digest → IsFingerprint print digest
digest_found print digest fits e = fingerprint_found print digest fits (by_cases (fingerprint_at print) e)
  where
    by_cases : {E : Type 0} (r : Result (List ℕ) E) → result_ok r ≡ Some digest → r ≡ Ok digest
    by_cases (Ok x) e = let same : x ≡ digest = cc in cc
    by_cases (Err why) e = absurd cc

digest_again : (print digest : List ℕ) → IsFingerprint print digest → digest_at print ≡ Some digest
digest_again print digest is = rw (fingerprint_again print digest is) refl

key_joined : (text kind rest print behind : List ℕ) → text ≡ kind ++ (codes " " ++ rest) → rest ≡ print ++ behind
    → text ≡ (kind ++ (codes " " ++ print)) ++ behind
key_joined text kind rest print behind a b = rw (a, b) (simp append_assoc refl)

pub key_found : (text : List ℕ) (p : Name × List ℕ) → IsBytes text → key_at text ≡ Some p
    → (key : List ℕ) × NamesKey key p.0 × (text ≡ key ++ p.1)
unfolding key_at
key_found text p fits e =
    let a = bind_some (span_at Kind (codes " ") text) _ p e in
    let kind : List ℕ = a.0.0 in
    let rest : List ℕ = a.0.1 in
    let word = span_found Kind (codes " ") text a.0 a.1 in
    let b = other_some (nat_lt (length rest) 50) _ p a.2 in
    let c = bind_some (digest_at (take 50 rest)) _ p b.1 in
    let same : named kind (drop 50 rest) c.0 ≡ p = some_is (named kind (drop 50 rest) c.0) p c.2 in
    let whole : rest ≡ take 50 rest ++ drop 50 rest = sym (take-append-drop 50 rest) in
    let rest_fits = IsBytes-behind kind (codes " ") rest text word.1 fits in
    let print_fits : IsBytes (take 50 rest) =
    IsBytes-front (take 50 rest) (drop 50 rest) (subst IsBytes whole rest_fits) in
    let key : List ℕ = kind ++ (codes " " ++ take 50 rest) in
    let names : NamesKey key (record { kind = kind; sha256 = c.0 }) =
    record { is_kind = word.0; print = take 50 rest; printed = digest_found (take 50 rest) c.0 print_fits c.1; spelled = refl } in
    let spelled = key_joined text kind rest (take 50 rest) (drop 50 rest) word.1 whole in
    (key, subst (λ (q : Name × List ℕ). NamesKey key q.0) same names, spelled ∙ ap (λ (q : Name × List ℕ). key ++ q.1) same)

long_enough : (print rest : List ℕ) → length print ≡ 50 → nat_lt (length (print ++ rest)) 50 ≡ false
long_enough print rest size = le-ltb (length (print ++ rest)) 50 (omega (arith, length-append print rest))

pub key_again : (key rest : List ℕ) (name : Name) → NamesKey key name → key_at (key ++ rest) ≡ Some (name, rest)
unfolding key_at
key_again key rest name is =
    let size = print_size is.print name.sha256 is.printed in
    let regrouped : key ++ rest ≡ name.kind ++ (codes " " ++ (is.print ++ rest)) =
    ap (λ (xs : List ℕ). xs ++ rest) is.spelled ∙ append_assoc name.kind (codes " " ++ is.print) rest in
    let kind = span_again Kind name.kind (codes " ") (is.print ++ rest) is.is_kind refl in
    let printed : printed_at name.kind (is.print ++ rest) ≡ Some (name, rest) =
    rw (long_enough is.print rest size, take_at is.print rest 50 size, drop_at is.print rest 50 size, digest_again is.print name.sha256 is.printed) refl in
    ap key_at regrouped ∙ rw kind printed

key_passes : (key : List ℕ) (name : Name) → NamesKey key name → NoParenthesis key
key_passes key name is =
    subst NoParenthesis (sym is.spelled) (both_pass name.kind (codes " " ++ is.print) (word_passes Kind name.kind refl is.is_kind)
    (both_pass (codes " ") is.print (literal_passes (codes " ") refl) (print_passes is.print name.sha256 is.printed)))

-- ---- the end

end_found : (text : List ℕ) → is_end text ≡ true → IsEnd text
end_found [] e = ended
end_found (byte ∷ []) e = subst (λ (b : ℕ). IsEnd (b ∷ [])) (sym (eqb-true byte 13 e)) ended_by_return
end_found (byte ∷ next ∷ rest) e = absurd cc

end_again : (text : List ℕ) → IsEnd text → is_end text ≡ true
end_again text ended = refl
end_again text ended_by_return = refl

abbrev count_words : List ℕ
count_words = codes ", signature count = "

tail_found : (text : List ℕ) → ends_here text ≡ true → IsTail text
unfolding ends_here
tail_found text e = elim (option_cases (after count_words text)) [
  | inl none ↦ plain_tail text (end_found text (sym (ap (ends_counted text) none) ∙ e))
  | inr found ↦ elim (option_cases (span_at Digit [] found.0)) [
    | inl none ↦ absurd (let h = sym (ap (ends_counted text) found.1) ∙ e in let k = rw none at h in cc)
    | inr p ↦
        let digits = span_found Digit [] found.0 p.0 p.1 in
        let behind : is_end p.0.1 ≡ true = let h = sym (ap (ends_counted text) found.1) ∙ e in rw p.1 at h in
        let whole : text ≡ count_words ++ (p.0.0 ++ p.0.1) =
        after_found count_words text found.0 found.1 ∙ ap (λ (xs : List ℕ). count_words ++ xs) digits.1 in
        subst IsTail (sym whole) (counted_tail p.0.0 p.0.1 digits.0 (end_found p.0.1 behind))
  ]
]

no_digit_ends : (end : List ℕ) → IsEnd end → FailsFirst (passes Digit) end
no_digit_ends end ended = tt
no_digit_ends end ended_by_return = refl

no_count : (end : List ℕ) → IsEnd end → after count_words end ≡ None
unfolding after
no_count end ended = refl
no_count end ended_by_return = refl

tail_again : (text : List ℕ) → IsTail text → ends_here text ≡ true
unfolding ends_here
tail_again text (plain_tail end is) = ap (ends_counted end) (no_count end is) ∙ end_again end is
tail_again text (counted_tail digits end is ends) =
    let a = after_again count_words (digits ++ end) in
    let b = span_again Digit digits [] end is (no_digit_ends end ends) in
    ap (ends_counted (count_words ++ (digits ++ end))) a ∙ rw b (end_again end ends)

no_certificate : (text : List ℕ) → IsTail text → after (codes " ID ") text ≡ None
unfolding after
no_certificate text (plain_tail end ended) = refl
no_certificate text (plain_tail end ended_by_return) = refl
no_certificate text (counted_tail digits end is ends) = refl

end_passes : (end : List ℕ) → IsEnd end → NoParenthesis end
end_passes end ended = literal_passes [] refl
end_passes end ended_by_return = literal_passes (13 ∷ []) refl

tail_passes : (text : List ℕ) → IsTail text → NoParenthesis text
tail_passes text (plain_tail end is) = end_passes end is
tail_passes text (counted_tail digits end is ends) =
    both_pass count_words (digits ++ end) (literal_passes count_words refl) (both_pass digits end (word_passes Digit digits refl is) (end_passes end ends))

-- ---- a serial number

number_found : (digits : List ℕ) (n : ℕ) → IsWordOf Digit digits → number_of digits ≡ Some n → IsNumber digits n
unfolding number_of
number_found digits n is e =
    let met = met_some (nat_lt (digits_value 10 digits) (2 ^ 64)) (digits_value 10 digits) n e in
    record { are_digits = is; value = met.1; below = subst (λ (k : ℕ). k < 2 ^ 64) met.1 (ltb-true (digits_value 10 digits) (2 ^ 64) met.0) }

number_again : (digits : List ℕ) (n : ℕ) → IsNumber digits n → number_of digits ≡ Some n
unfolding number_of
number_again digits n is = rw (is.value, lt-ltb n (2 ^ 64) is.below) refl

serial_found : (text : List ℕ) (p : ℕ × List ℕ) → serial_at text ≡ Some p
    → (digits : List ℕ) × IsNumber digits p.0 × (text ≡ digits ++ (codes ") CA " ++ p.1))
unfolding serial_at
serial_found text p e =
    let a = bind_some (span_at Digit (codes ") CA ") text) _ p e in
    let word = span_found Digit (codes ") CA ") text a.0 a.1 in
    let b = bind_some (number_of a.0.0) _ p a.2 in
    let given : ℕ × List ℕ = (b.0, a.0.1) in
    let same : given ≡ p = some_is given p b.2 in
    (a.0.0, subst (λ (q : ℕ × List ℕ). IsNumber a.0.0 q.0) same (number_found a.0.0 b.0 word.0 b.1), word.1 ∙ ap (λ (q : ℕ × List ℕ). a.0.0 ++ (codes ") CA " ++ q.1)) same)

pub serial_again : (digits rest : List ℕ) (n : ℕ) → IsNumber digits n
    → serial_at (digits ++ (codes ") CA " ++ rest)) ≡ Some (n, rest)
unfolding serial_at
serial_again digits rest n is =
    rw (span_again Digit digits (codes ") CA ") rest is.are_digits refl, number_again digits n is) refl

-- ---- a certificate

regroup_group : (id digits authority rest : List ℕ)
    → (codes " ID " ++ (id ++ group_text digits authority)) ++ rest ≡ codes " ID " ++ (id ++ group_text digits (authority ++ rest))
regroup_group id digits authority rest = simp append_assoc refl

group_joined : (text id group digits rest authority behind : List ℕ)
    → text ≡ id ++ (codes " (serial " ++ group) → group ≡ digits ++ (codes ") CA " ++ rest)
    → rest ≡ authority ++ behind
    → codes " ID " ++ text ≡ (codes " ID " ++ (id ++ group_text digits authority)) ++ behind
group_joined text id group digits rest authority behind a b c = rw (a, b, c) (simp append_assoc refl)

signed_found : (text : List ℕ) (c : Signed) → IsBytes text → signed_at text ≡ Some c
    → (certificate tail : List ℕ) × IsCertificate certificate c × IsTail tail × (codes " ID " ++ text ≡ certificate ++ tail)
unfolding signed_at
signed_found text c fits e =
    let a = bind_some (group_at text) _ c e in
    let id : List ℕ = a.0.0 in
    let group = group_found text a.0 a.1 in
    let b = bind_some (serial_at a.0.1) _ c a.2 in
    let serial = serial_found a.0.1 b.0 b.1 in
    let k = bind_some (key_at b.0.1) _ c b.2 in
    let group_fits = IsBytes-behind id (codes " (serial ") a.0.1 text group fits in
    let key = key_found b.0.1 k.0 (IsBytes-behind serial.0 (codes ") CA ") b.0.1 a.0.1 serial.2 group_fits) k.1 in
    let said : Signed = signed id b.0.0 k.0.0 in
    let d = met_some (ends_here k.0.1) said c k.2 in
    let certificate : List ℕ = codes " ID " ++ (id ++ group_text serial.0 key.0) in
    let is : IsCertificate certificate said =
    record { digits = serial.0; is_number = serial.1; authority = key.0; names = key.1; spelled = refl {a = certificate} } in
    (certificate, k.0.1, subst (IsCertificate certificate) d.1 is, tail_found k.0.1 d.0, group_joined text id a.0.1 serial.0 b.0.1 key.0 k.0.1 group serial.2 key.2)

-- no parenthesis opens after the one before a serial number
pub group_passes : (digits authority tail : List ℕ) (serial : ℕ) (name : Name) → IsNumber digits serial
    → NamesKey authority name → IsTail tail
    → NoParenthesis (digits ++ (codes ") CA " ++ (authority ++ tail)))
group_passes digits authority tail serial name number names ends =
    both_pass digits (codes ") CA " ++ (authority ++ tail)) (word_passes Digit digits refl number.are_digits)
    (both_pass (codes ") CA ") (authority ++ tail) (literal_passes (codes ") CA ") refl) (both_pass authority tail (key_passes authority name names) (tail_passes tail ends)))

signed_again : (certificate tail : List ℕ) (c : Signed) → IsCertificate certificate c → IsTail tail
    → (text : List ℕ) × (certificate ++ tail ≡ codes " ID " ++ text) × (signed_at text ≡ Some c)
unfolding signed_at
signed_again certificate tail c is ends =
    let behind : List ℕ = is.digits ++ (codes ") CA " ++ (is.authority ++ tail)) in
    let none = group_passes is.digits is.authority tail c.serial c.authority is.is_number is.names ends in
    let group = group_again c.id behind none in
    let serial = serial_again is.digits (is.authority ++ tail) c.serial is.is_number in
    let key = key_again is.authority tail c.authority is.names in
    (c.id ++ (codes " (serial " ++ behind), ap (λ (xs : List ℕ). xs ++ tail) is.spelled ∙ regroup_group c.id is.digits is.authority tail, rw (group, serial, key, tail_again tail ends) refl)

pub certificate_found : (text : List ℕ) (c : Option Signed) → IsBytes text → certificate_at text ≡ Some c
    → (certificate tail : List ℕ) × IsCertified certificate c × IsTail tail × (text ≡ certificate ++ tail)
unfolding certificate_at
certificate_found text c fits e = elim (option_cases (after (codes " ID ") text)) [
  | inl none ↦
      let plain : Option Signed = None in
      let a = met_some (ends_here text) plain c (sym (ap (certificate_or_end text) none) ∙ e) in
      ([], text, subst (IsCertified []) a.1 refl, tail_found text a.0, refl)
  | inr found ↦
      let front = after_found (codes " ID ") text found.0 found.1 in
      let read = by_cases (signed_at found.0) (sym (ap (certificate_or_end text) found.1) ∙ e) in
      let a = signed_found found.0 read.0 (IsBytes-rest (codes " ID ") found.0 text front fits) read.1 in
      (a.0, a.1, subst (IsCertified a.0) read.2 a.2, a.3, front ∙ a.4)
]
  where
    by_cases : (o : Option Signed) → option_map (λ certificate. Some certificate) o ≡ Some c
        → (x : Signed) × (o ≡ Some x) × (Some x ≡ c)
    by_cases None e = absurd cc
    by_cases (Some x) e = (x, refl, some_is (Some x) c e)

pub certificate_again : (certificate tail : List ℕ) (c : Option Signed) → IsCertified certificate c → IsTail tail
    → certificate_at (certificate ++ tail) ≡ Some c
unfolding certificate_at
certificate_again certificate tail None is ends =
    let bare : certificate ++ tail ≡ tail = ap (λ (xs : List ℕ). xs ++ tail) is in
    ap certificate_at bare ∙ ap (certificate_or_end tail) (no_certificate tail ends) ∙ rw (tail_again tail ends) refl
certificate_again certificate tail (Some c) is ends =
    let a = signed_again certificate tail c is ends in
    ap certificate_at a.1 ∙ ap (certificate_or_end (codes " ID " ++ a.0)) (after_again (codes " ID ") a.0) ∙ rw a.2 refl
