-- The reasons for a query, and its answer.
use Rattle.krl_c.proofs.Common.{◌%◌, ◌/◌, ◌<◌, ◌^◌, ◌↔◌, ◌∙◌, ◌≡◌, ◌⊎◌, answered, Answers, AnswersBlob}
use Rattle.krl_c.proofs.Common.{ap, arith, Entry, inl, inr, List, list_number, list_ran_out}
use Rattle.krl_c.proofs.Common.{names, negsuc, no_blob, no_list, no_memory, other_names, names_number, pos, ran_out}
use Rattle.krl_c.proofs.Common.{refl, said, Says, spares, blob_number, BlobFault, Incomparable, subject_number, SubjectFault, subst, suc, sym, zero, ℕ, ℤ}
use Rattle.std.specs.Int.{bit_at}
use Rattle.std.proofs.Math.Nat.{pow-succ'}
use Rattle.std.proofs.lemmas.Nat.Bits.{bit_at-suc, bit_at-zero, bit_at_lowest}
use Rattle.ssh_key.specs.declared.fault.KeyFault.{KeyFault}
use Rattle.ssh_cert.specs.declared.fault.CertFault.{CertFault}
use Rattle.ssh_cert.specs.declared.fault.CertFault.TheVariants as certs
use Rattle.ssh_cert.specs.declared.subject_fault.SubjectFault.TheVariants as subjects
use Rattle.krl_types.specs.Subject.{Subject}
use Rattle.krl_types.specs.declared.krl_fault.KrlFault.{KrlFault}
use Rattle.krl_types.specs.declared.krl_fault.KrlFault.TheVariants as lists
use Rattle.krl_entries.specs.Reasons.{IsReason}
use Rattle.krl_entries.specs.Revoked.{Revoked}
use Rattle.krl_entries.specs.declared.reasons.Reason.{Reason}
use Rattle.krl_entries.specs.declared.reasons.Reason.TheVariants as reasons
use Rattle.krl_c.specs.Laws.{answer_of}
use Rattle.krl_c.specs.Number.{fine}
use Rattle.krl_c.specs.declared.asked.BlobFault.TheVariants as blobs
use Rattle.krl_openssh.specs.declared.authorities.Incomparable.TheVariants as incomparables
use Rattle.krl_c.specs.Why.{Explains, ExplainsBlob, HasReasons, explained}
use Rattle.krl_c.specs.Why.{no_blob as unexplained_blob}
use Rattle.krl_c.specs.Why.{ran_out as why_ran_out}

-- ---- a bit that is set

record HasBit (bits places : ℕ) : Type 0 where
  place : ℕ
  within : place < places
  is_set : bit_at bits place ≡ 1

higher : (places bits : ℕ) → HasBit (bits / 2) places → HasBit bits (suc places)
higher places bits has = record { place = suc has.place; within = omega (arith, has.within); is_set = bit_at-suc bits has.place ∙ has.is_set }

by_lowest : (places bits lowest : ℕ) → bits % 2 ≡ lowest → (bits % 2 ≡ 0 → HasBit (bits / 2) places) → HasBit bits (suc places)
by_lowest places bits zero is others = higher places bits (others is)
by_lowest places bits (suc n) is others = record { place = 0; within = omega arith; is_set = bit_at_lowest bits ∙ omega (arith, is) }

-- a number above zero has one
some_bit : (places bits : ℕ) → 0 < bits → bits < 2 ^ places → HasBit bits places
some_bit zero bits some fits = absurd (omega (arith, some, fits))
some_bit (suc places) bits some fits =
    by_lowest places bits (bits % 2) refl (λ even. some_bit places (bits / 2) (omega (arith, some, even)) (omega (arith, fits, pow-succ' 2 places)))

-- The reason of a bit that is set.
reason_of : (entries : List Entry) (asked : Subject) (bits : ℕ) → HasReasons entries asked bits → (place : ℕ) → place < 10 → bit_at bits place ≡ 1 → (reason : Reason) × IsReason entries asked reason
reason_of entries asked bits has zero within set = (reasons.Key, (has.reasons_are reasons.Key).0 set)
reason_of entries asked bits has (suc zero) within set = (reasons.KeySha1, (has.reasons_are reasons.KeySha1).0 set)
reason_of entries asked bits has (suc (suc zero)) within set = (reasons.KeySha256, (has.reasons_are reasons.KeySha256).0 set)
reason_of entries asked bits has (suc (suc (suc zero))) within set = (reasons.Authority, (has.reasons_are reasons.Authority).0 set)
reason_of entries asked bits has (suc (suc (suc (suc zero)))) within set = (reasons.AuthoritySha1, (has.reasons_are reasons.AuthoritySha1).0 set)
reason_of entries asked bits has (suc (suc (suc (suc (suc zero))))) within set = (reasons.AuthoritySha256, (has.reasons_are reasons.AuthoritySha256).0 set)
reason_of entries asked bits has (suc (suc (suc (suc (suc (suc zero)))))) within set = (reasons.Serial, (has.reasons_are reasons.Serial).0 set)
reason_of entries asked bits has (suc (suc (suc (suc (suc (suc (suc zero))))))) within set = (reasons.SerialOfAll, (has.reasons_are reasons.SerialOfAll).0 set)
reason_of entries asked bits has (suc (suc (suc (suc (suc (suc (suc (suc zero)))))))) within set = (reasons.KeyId, (has.reasons_are reasons.KeyId).0 set)
reason_of entries asked bits has (suc (suc (suc (suc (suc (suc (suc (suc (suc zero))))))))) within set = (reasons.KeyIdOfAll, (has.reasons_are reasons.KeyIdOfAll).0 set)
reason_of entries asked bits has (suc (suc (suc (suc (suc (suc (suc (suc (suc (suc place)))))))))) within set = absurd (omega (arith, within))

no_bit : (place : ℕ) → bit_at 0 place ≡ 1 → ⊥
no_bit place set = omega (arith, bit_at-zero place, set)

-- ---- an answer

-- Something is revoked exactly if there is a reason.
abbrev pub ForAReason : Type 0
ForAReason = (entries : List Entry) (asked : Subject) → (Revoked entries asked ↔ ((reason : Reason) × IsReason entries asked reason))

says : ForAReason → (entries : List Entry) (asked : Subject) (bits : ℕ) → HasReasons entries asked bits → Says entries asked (answer_of (pos bits))
says for entries asked zero has = spares (λ revoked. let why = (for entries asked).0 revoked in no_bit _ ((has.reasons_are why.0).1 why.1)) refl
says for entries asked (suc n) has =
    let bit = some_bit 10 (suc n) (omega arith) has.within in
    names ((for entries asked).1 (reason_of entries asked (suc n) has bit.place bit.within bit.is_set)) refl

-- ---- numbers below zero are the same

list_same : (fault : KrlFault) → answer_of (list_number fault) ≡ list_number fault
list_same lists.NoMemory = refl
list_same _ = refl

key_same : (fault : KeyFault) → answer_of (subject_number (subjects.Key fault)) ≡ subject_number (subjects.Key fault)
key_same fault = refl

cert_same : (fault : CertFault) → answer_of (subject_number (subjects.Cert fault)) ≡ subject_number (subjects.Cert fault)
cert_same (certs.Key fault) = refl
cert_same _ = refl

subject_same : (fault : SubjectFault) → answer_of (subject_number fault) ≡ subject_number fault
subject_same (subjects.Key fault) = key_same fault
subject_same (subjects.Cert fault) = cert_same fault
subject_same subjects.NoMemory = refl

blob_same : (fault : BlobFault) → answer_of (blob_number fault) ≡ blob_number fault
blob_same (blobs.Subject fault) = subject_same fault
blob_same blobs.KeyId = refl

names_same : (why : Incomparable) → answer_of (names_number why) ≡ names_number why
names_same incomparables.Authority = refl
names_same incomparables.KeyId = refl

-- ---- the answer for the reasons

for_blob : ForAReason → (entries : List Entry) (blob : List ℕ) (number : ℤ) → ExplainsBlob entries blob number → AnswersBlob entries blob (answer_of number)
for_blob for entries blob number (explained asked bits subject has is) =
    said asked subject (subst (λ (n : ℤ). Says entries asked (answer_of n)) (sym is) (says for entries asked bits has))
for_blob for entries blob number (unexplained_blob fault first is) = no_blob fault first (ap answer_of is ∙ blob_same fault)
for_blob for entries blob number (why_ran_out asked is) = ran_out asked (ap answer_of is)

pub answers : ForAReason → (list blob : List ℕ) (number : ℤ) → Explains list blob number → Answers list blob (answer_of number)
answers for list blob number (answered entries compared is) = answered entries compared (for_blob for entries blob number is)
answers for list blob number (other_names why odd is) = other_names why odd (ap answer_of is ∙ names_same why)
answers for list blob number (no_list fault first is) = no_list fault first (ap answer_of is ∙ list_same fault)
answers for list blob number (list_ran_out why is) = list_ran_out why (ap answer_of is)

-- ---- one answer

memory_is : (number : ℤ) → answer_of number ≡ no_memory → number ≡ no_memory
memory_is (pos zero) is = absurd cc
memory_is (pos (suc n)) is = absurd cc
memory_is (negsuc n) is = is

pub same : (answer number : ℤ) → (answer ≡ answer_of number) ⊎ ((answer ≡ no_memory) ⊎ (answer_of number ≡ no_memory)) → (answer ≡ answer_of number) ⊎ ((answer ≡ no_memory) ⊎ (number ≡ no_memory))
same answer number (inl is) = inl is
same answer number (inr (inl none)) = inr (inl none)
same answer number (inr (inr none)) = inr (inr (memory_is number none))

fine_is : (number : ℤ) → answer_of number ≡ fine → number ≡ fine
fine_is (pos zero) is = refl
fine_is (pos (suc n)) is = absurd cc
fine_is (negsuc n) is = absurd cc

pub none : (answer number : ℤ) → (answer ≡ answer_of number) ⊎ ((answer ≡ no_memory) ⊎ (number ≡ no_memory)) → (answer ≡ fine ↔ number ≡ fine) ⊎ ((answer ≡ no_memory) ⊎ (number ≡ no_memory))
none answer number (inl is) = inl ((λ zero. fine_is number (sym is ∙ zero)), (λ zero. is ∙ ap answer_of zero))
none answer number (inr memory) = inr memory
