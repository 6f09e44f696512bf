-- The numbers that no call answers.
use Rattle.std.proofs.Common.{◌||◌}
use Rattle.std.specs.Prelude.{◌==◌}
use Rattle.krl_c.proofs.Common.{◌∙◌, ◌≡◌, answered, Answers, AnswersBlob, AnswersBy, AnswersLine}
use Rattle.krl_c.proofs.Common.{AnswersOfLine, AnswersStored, ap, Bool, Entry, false, false≢true, inl}
use Rattle.krl_c.proofs.Common.{inr, IsRefusal, IsSubjectFault, line_number, line_ran_out, LineFault}
use Rattle.krl_c.proofs.Common.{List, list_number, list_ran_out, loaded, names, negsuc, no_blob, no_line}
use Rattle.krl_c.proofs.Common.{no_list, no_memory, not_loaded_for, other_names, plain_number}
use Rattle.krl_c.proofs.Common.{blob_number, BlobFault, Incomparable, IsRefusedBlob, names_number}
use Rattle.krl_c.proofs.Common.{pos, ran_out, refl, refusal_number, said, Says, spares, subject_number}
use Rattle.krl_c.proofs.Common.{SubjectFault, subst, sym, true, ℕ, ℤ}
use Rattle.krl_types.specs.Subject.{Subject}
use Rattle.krl_types.specs.declared.krl_fault.KrlFault.{KrlFault}
use Rattle.krl_types.specs.declared.krl_fault.KrlFault.TheVariants as lists
use Rattle.key_text.specs.declared.line_fault.LineFault.TheVariants as lines
use Rattle.plain_list.specs.declared.fault.PlainFault.{PlainFault}
use Rattle.plain_list.specs.declared.fault.PlainFault.TheVariants as plains
use Rattle.ssh_wire.specs.declared.fault.WireFault.TheVariants.{Short, Negative, NotShortest}
use Rattle.ssh_key.specs.declared.fault.KeyFault.{KeyFault}
use Rattle.ssh_key.specs.declared.fault.KeyFault.TheVariants as keys
use Rattle.ssh_cert.specs.SubjectReading.{no_certificate, no_key}
use Rattle.ssh_cert.specs.declared.fault.CertFault.{CertFault}
use Rattle.ssh_cert.specs.declared.fault.CertFault.TheVariants as certs
use Rattle.ssh_cert.specs.declared.subject_fault.SubjectFault.TheVariants as subjects
use Rattle.krl_c.specs.Answer.{of_key as of_key_line}
use Rattle.krl_c.specs.Any.{AnswersIf, AnswersPlain, no_plain, plain}
use Rattle.krl_c.specs.Laws.{IsAnswer, IsReady}
use Rattle.krl_c.specs.Number.{cert_number}
use Rattle.krl_c.specs.Stored.{Loads}
use Rattle.krl_c.specs.Why.{Explains, ExplainsBlob, explained}
use Rattle.krl_c.specs.Why.{no_blob as unexplained_blob}
use Rattle.krl_c.specs.Why.{ran_out as why_ran_out}
use Rattle.krl_c.specs.declared.asked.BlobFault.TheVariants as blobs
use Rattle.krl_openssh.specs.declared.authorities.Incomparable.TheVariants as incomparables
use Rattle.krl_c.specs.declared.refusal.Refusal.{Refusal}
use Rattle.krl_c.specs.declared.refusal.Refusal.TheVariants as refusals
use Rattle.krl_c.specs.declared.stored.Stored.{Stored}
use Rattle.krl_c.proofs.ListFaults.{NotRead, not_read}
use Rattle.krl_c.proofs.SubjectFaults.{OfCert, OfFields, of_cert}

-- ---- numbers

abbrev size_of : ℤ → ℕ
size_of (pos n) = n
size_of (negsuc n) = n

abbrev is_never : ℕ → Bool
is_never n = (n == 112) || ((n == 113) || ((n == 401) || ((n == 501) || (n == 506))))

never_is : (n other : ℕ) → is_never n ≡ false → is_never other ≡ true → negsuc n ≡ negsuc other → ⊥
never_is n other is never e = let same : n ≡ other = ap size_of e in false≢true (sym is ∙ ap is_never same ∙ never)

below : (n : ℕ) → is_never n ≡ false → IsAnswer (negsuc n)
below n is = (never_is n 112 is refl, (never_is n 113 is refl, (never_is n 401 is refl, (never_is n 501 is refl, (never_is n 506 is refl, tt)))))

not_below : (n : ℕ) → IsAnswer (pos n)
not_below n = ((λ e. absurd cc), ((λ e. absurd cc), ((λ e. absurd cc), ((λ e. absurd cc), ((λ e. absurd cc), tt)))))

of_list : (fault : KrlFault) → NotRead fault → IsAnswer (list_number fault)
of_list lists.Read is = absurd is
of_list _ is = below _ refl

of_names : (why : Incomparable) → IsAnswer (names_number why)
of_names incomparables.Authority = below 115 refl
of_names incomparables.KeyId = below 117 refl

of_refusal : (list : List ℕ) (refusal : Refusal) → IsRefusal ⊥ list refusal → IsAnswer (refusal_number refusal)
of_refusal list (refusals.Fault fault) (inl (is, why)) = subst (λ (f : KrlFault). IsAnswer (list_number f)) (sym is) (below 0 refl)
of_refusal list (refusals.Fault fault) (inr first) = of_list fault (not_read list fault first)
of_refusal list (refusals.Incomparable why) other = of_names why

of_plain : (fault : PlainFault) → IsAnswer (plain_number fault)
of_plain plains.NoMemory = below 0 refl
of_plain _ = below _ refl

of_line : (fault : LineFault) → IsAnswer (line_number fault)
of_line lines.NoMemory = below 0 refl
of_line _ = below _ refl

of_key : (fault : KeyFault) → IsAnswer (subject_number (subjects.Key fault))
of_key (keys.Wire Short) = below _ refl
of_key (keys.Wire Negative) = below _ refl
of_key (keys.Wire NotShortest) = below _ refl
of_key _ = below _ refl

of_certified : (fault : KeyFault) → OfFields fault → IsAnswer (cert_number (certs.Key fault))
of_certified keys.UnknownType is = absurd is
of_certified keys.Trailing is = absurd is
of_certified (keys.Wire Short) is = below _ refl
of_certified (keys.Wire Negative) is = below _ refl
of_certified (keys.Wire NotShortest) is = below _ refl
of_certified _ is = below _ refl

of_authority : (fault : KeyFault) → IsAnswer (cert_number (certs.Authority fault))
of_authority (keys.Wire Short) = below _ refl
of_authority (keys.Wire Negative) = below _ refl
of_authority (keys.Wire NotShortest) = below _ refl
of_authority _ = below _ refl

of_certificate : (fault : CertFault) → OfCert fault → IsAnswer (cert_number fault)
of_certificate certs.UnknownType is = absurd is
of_certificate (certs.Key fault) is = of_certified fault is
of_certificate (certs.Authority fault) is = of_authority fault
of_certificate _ is = below _ refl

of_subject : (blob : List ℕ) (fault : SubjectFault) → IsSubjectFault blob fault → IsAnswer (subject_number fault)
of_subject blob fault (no_key why other first is) = subst (λ (f : SubjectFault). IsAnswer (subject_number f)) (sym is) (of_key why)
of_subject blob fault (no_certificate why named first is) = subst (λ (f : SubjectFault). IsAnswer (subject_number f)) (sym is) (of_certificate why (of_cert blob why named first))

of_blob : (blob : List ℕ) (fault : BlobFault) → IsRefusedBlob blob fault → IsAnswer (blob_number fault)
of_blob blob (blobs.Subject fault) first = of_subject blob fault first
of_blob blob blobs.KeyId odd = below 409 refl

-- ---- answers

from : (number answer : ℤ) → answer ≡ number → IsAnswer number → IsAnswer answer
from number answer is right = subst IsAnswer (sym is) right

says : (entries : List Entry) (asked : Subject) (answer : ℤ) → Says entries asked answer → IsAnswer answer
says entries asked answer (names revoked is) = from (pos 1) answer is (not_below 1)
says entries asked answer (spares not is) = from (pos 0) answer is (not_below 0)

pub for_blob : (entries : List Entry) (blob : List ℕ) (answer : ℤ) → AnswersBlob entries blob answer → IsAnswer answer
for_blob entries blob answer (said asked subject is) = says entries asked answer is
for_blob entries blob answer (no_blob fault first is) = from (blob_number fault) answer is (of_blob blob fault first)
for_blob entries blob answer (ran_out asked is) = from no_memory answer is (below 0 refl)

pub for_line : (entries : List Entry) (text : List ℕ) (answer : ℤ) → AnswersLine entries text answer → IsAnswer answer
for_line entries text answer (of_key_line word blob comment line is) = for_blob entries blob answer is
for_line entries text answer (no_line fault first is) = from (line_number fault) answer is (of_line fault)
for_line entries text answer (line_ran_out words is) = from no_memory answer is (below 0 refl)

for_reasons : (entries : List Entry) (blob : List ℕ) (answer : ℤ) → ExplainsBlob entries blob answer → IsAnswer answer
for_reasons entries blob answer (explained asked bits subject has is) = from (pos bits) answer is (not_below bits)
for_reasons entries blob answer (unexplained_blob fault first is) = from (blob_number fault) answer is (of_blob blob fault first)
for_reasons entries blob answer (why_ran_out asked is) = from no_memory answer is (below 0 refl)

by_list : {IsAsked : Type 0} {Told : List Entry → ℤ → Type 0} (list : List ℕ) (answer : ℤ) → ((entries : List Entry) → Told entries answer → IsAnswer answer) → AnswersBy IsAsked Told list answer → IsAnswer answer
by_list list answer each (answered entries compared is) = each entries is
by_list list answer each (other_names why odd is) = from (names_number why) answer is (of_names why)
by_list list answer each (no_list fault first is) = from (list_number fault) answer is (of_list fault (not_read list fault first))
by_list list answer each (list_ran_out why is) = from no_memory answer is (below 0 refl)

pub of_check : (list blob : List ℕ) (answer : ℤ) → Answers list blob answer → IsAnswer answer
of_check list blob answer is = by_list list answer (λ entries. for_blob entries blob answer) is

pub of_check_line : (list text : List ℕ) (answer : ℤ) → AnswersOfLine list text answer → IsAnswer answer
of_check_line list text answer is = by_list list answer (λ entries. for_line entries text answer) is

pub of_why : (list blob : List ℕ) (answer : ℤ) → Explains list blob answer → IsAnswer answer
of_why list blob answer is = by_list list answer (λ entries. for_reasons entries blob answer) is

for_plain : (list blob : List ℕ) (answer : ℤ) → AnswersPlain list blob answer → IsAnswer answer
for_plain list blob answer (plain within read is) = for_blob _ blob answer is
for_plain list blob answer (no_plain fault has is) = from (plain_number fault) answer is (of_plain fault)

pub of_any : (is_krl : Bool) (list blob : List ℕ) (answer : ℤ) → AnswersIf is_krl list blob answer → IsAnswer answer
of_any true list blob answer is = of_check list blob answer is
of_any false list blob answer is = for_plain list blob answer is

pub of_load : (list : List ℕ) (old new : Stored) (answer : ℤ) → Loads list old new answer → IsAnswer answer
of_load list old new answer (loaded entries compared holds all is) = from (pos 0) answer is (not_below 0)
of_load list old new answer (not_loaded_for refusal refused is same) = from (refusal_number refusal) answer is (of_refusal list refusal refused)

pub of_ask : {Told : List Entry → ℤ → Type 0} (stored : Stored) (answer : ℤ) → ((entries : List Entry) → Told entries answer → IsAnswer answer) → IsReady stored → AnswersStored Told stored answer → IsAnswer answer
of_ask stored answer each (inl none) is = from (negsuc 1) answer (is.none none) (below 1 refl)
of_ask stored answer each (inr (entries, holds)) is = each entries (is.answer entries holds)

pub stays_ready : (list : List ℕ) (old new : Stored) (answer : ℤ) → IsReady old → Loads list old new answer → IsReady new
stays_ready list old new answer ready (loaded entries compared holds all is) = inr (entries, holds)
stays_ready list old new answer ready (not_loaded_for refusal refused is same) = subst IsReady (sym same) ready
