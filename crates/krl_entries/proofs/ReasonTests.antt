-- The tests find exactly the reasons why something is revoked.
use Rattle.krl_entries.proofs.Common.{[], ◌↔◌, ◌∙◌, ◌∷◌, ◌≡◌, any_reason, ap, bits_in, Bool, Entry}
use Rattle.krl_entries.proofs.Common.{every_reason, has_reason, held_reasons, holds_name, inl, inr}
use Rattle.krl_entries.proofs.Common.{is_revoked, IsReason, IsTrue, List, map, Means, Name}
use Rattle.krl_entries.proofs.Common.{name_asked, None, Option, passes, position_of, reasons_by}
use Rattle.krl_entries.proofs.Common.{reasons_of, refl, Revocations, revokes, Some, some_names}
use Rattle.krl_entries.proofs.Common.{SomeNames, subst, sym, ℕ}
use Rattle.std.specs.Cmp.{both_ways}
use Rattle.krl_types.specs.Subject.{CertNames, Subject}
use Rattle.krl_entries.specs.Revoked.{Revoked}
use Rattle.krl_entries.specs.declared.reasons.Reason.{Reason}
use Rattle.krl_entries.specs.declared.reasons.Reasons.{Reasons}
use Rattle.krl_entries.proofs.NameTests.{name_tested, passes_tested, some_tested}
use Rattle.krl_entries.proofs.ReasonBits.{no_bit, reason_bit, some_bit}
use Rattle.std.proofs.Math.Logic.Iff as Iff
use Rattle.krl_entries.specs.declared.reasons.Reason.TheVariants as reasons

-- ---- the test of a reason

-- the reasons by a test that finds exactly the names of the entries
pub reason_by : (names : Name → Bool) (entries : List Entry) → ((name : Name) → IsTrue (names name) ↔ SomeNames entries name) → (subject : Subject) (reason : Reason)
    → IsTrue (has_reason (reasons_by names subject) reason) ↔ IsReason entries subject reason
unfolding reasons_by
reason_by names entries tested subject reason =
    subst (λ (b : Bool). IsTrue b ↔ IsReason entries subject reason) (sym (reason_bit (λ reason. passes names (name_asked reason subject)) reason))
    (passes_tested names (SomeNames entries) tested (name_asked reason subject))

pub reasons_named : (entries : List Entry) (subject : Subject) (reason : Reason) → IsTrue (has_reason (reasons_of entries subject) reason) ↔ IsReason entries subject reason
reasons_named entries subject reason = reason_by (some_names entries) entries (some_tested entries) subject reason

pub reasons_meant : (r : Revocations) (entries : List Entry) → Means r entries → (subject : Subject) (reason : Reason) → IsTrue (has_reason (held_reasons r subject) reason) ↔ IsReason entries subject reason
reasons_meant r entries m subject reason = reason_by (holds_name r) entries (λ name. Iff.trans (name_tested r name) (m.names name)) subject reason

-- the answer gives exactly the reasons of the entries
pub reasons_answer : (r : Revocations) (entries : List Entry) → Means r entries → (subject : Subject) (answer : Reasons) → answer ≡ held_reasons r subject → (reason : Reason) → IsTrue (has_reason answer reason) ↔ IsReason entries subject reason
reasons_answer r entries m subject answer is reason = subst (λ (all : Reasons). IsTrue (has_reason all reason) ↔ IsReason entries subject reason) (sym is) (reasons_meant r entries m subject reason)

pub held_bits : (r : Revocations) (subject : Subject) (bits : ℕ) → bits ≡ bits_in (map (λ reason. passes (holds_name r) (name_asked reason subject)) every_reason)
    → (let all : Reasons = record { bits = bits } in all) ≡ held_reasons r subject
unfolding reasons_by
held_bits r subject bits is = ap (λ (n : ℕ). let all : Reasons = record { bits = n } in all) is

-- ---- equal reasons

map_same : {A B : Type 0} (f g : A → B) → ((x : A) → f x ≡ g x) → (xs : List A) → map f xs ≡ map g xs
map_same f g same [] = refl
map_same f g same (x ∷ xs) = rw (same x, map_same f g same xs) refl

-- two tests with the same reasons give equal ones
pub equal_reasons : (names others : Name → Bool) (subject : Subject) → ((reason : Reason) → IsTrue (has_reason (reasons_by names subject) reason) ↔ IsTrue (has_reason (reasons_by others subject) reason))
    → reasons_by names subject ≡ reasons_by others subject
unfolding reasons_by
equal_reasons names others subject both =
    ap (λ (flags : List Bool). let all : Reasons = record { bits = bits_in flags } in all) (map_same one other same every_reason)
  where
    one : Reason → Bool
    one reason = passes names (name_asked reason subject)

    other : Reason → Bool
    other reason = passes others (name_asked reason subject)

    same : (reason : Reason) → passes names (name_asked reason subject) ≡ passes others (name_asked reason subject)
    same reason =
        sym (reason_bit (λ reason. passes names (name_asked reason subject)) reason)
        ∙ both_ways (has_reason (reasons_by names subject) reason) (has_reason (reasons_by others subject) reason) (both reason).0 (both reason).1
        ∙ reason_bit (λ reason. passes others (name_asked reason subject)) reason

-- revocations give the reasons of the entries that they mean
pub meant_reasons : (r : Revocations) (entries : List Entry) → Means r entries → (subject : Subject) → held_reasons r subject ≡ reasons_of entries subject
meant_reasons r entries m subject =
    equal_reasons (holds_name r) (some_names entries) subject (λ reason. Iff.trans (reasons_meant r entries m subject reason) (Iff.symm (reasons_named entries subject reason)))

-- ---- some reason

-- there is a reason exactly if one is found
pub some_reason : (names : Name → Bool) (subject : Subject) → IsTrue (any_reason (reasons_by names subject)) ↔ ((reason : Reason) × IsTrue (has_reason (reasons_by names subject) reason))
unfolding reasons_by
some_reason names subject = (found, λ h. no_bit (reasons_by names subject).bits (position_of h.0) h.1)
  where
    found : IsTrue (any_reason (reasons_by names subject)) → (reason : Reason) × IsTrue (has_reason (reasons_by names subject) reason)
    found some =
        let one = some_bit (λ reason. passes names (name_asked reason subject)) every_reason some in
        (one.0, subst (λ (b : Bool). IsTrue b) (sym (reason_bit (λ reason. passes names (name_asked reason subject)) one.0)) one.1)

pub any_is_revoked : (entries : List Entry) (subject : Subject) → any_reason (reasons_of entries subject) ≡ is_revoked entries subject
unfolding is_revoked
any_is_revoked entries subject = refl

-- revocations revoke exactly what the entries that they mean revoke
pub meant_tested : (r : Revocations) (entries : List Entry) → Means r entries → (subject : Subject) → revokes r subject ≡ is_revoked entries subject
unfolding revokes is_revoked
meant_tested r entries m subject = ap any_reason (meant_reasons r entries m subject)

-- something is revoked exactly if there is a reason
pub reason_of_revoked : (entries : List Entry) (subject : Subject) → Revoked entries subject ↔ ((reason : Reason) × IsReason entries subject reason)
reason_of_revoked entries subject = by subject.cert
  where
    by : (cert : Option CertNames) → Revoked entries (record { plain = subject.plain; cert = cert }) ↔ ((reason : Reason) × IsReason entries (record { plain = subject.plain; cert = cert }) reason)
    by cert = (to cert, from cert)
      where
        to : (cert : Option CertNames) → Revoked entries (record { plain = subject.plain; cert = cert }) → ((reason : Reason) × IsReason entries (record { plain = subject.plain; cert = cert }) reason)
        to cert (inl (inl h)) = (reasons.Key, h)
        to cert (inl (inr (inl h))) = (reasons.KeySha1, h)
        to cert (inl (inr (inr h))) = (reasons.KeySha256, h)
        to None (inr h) = absurd h
        to (Some names) (inr (inl (inl h))) = (reasons.Authority, h)
        to (Some names) (inr (inl (inr (inl h)))) = (reasons.AuthoritySha1, h)
        to (Some names) (inr (inl (inr (inr h)))) = (reasons.AuthoritySha256, h)
        to (Some names) (inr (inr (inl (inl h)))) = (reasons.KeyId, h)
        to (Some names) (inr (inr (inl (inr h)))) = (reasons.KeyIdOfAll, h)
        to (Some names) (inr (inr (inr (inl h)))) = (reasons.Serial, h)
        to (Some names) (inr (inr (inr (inr h)))) = (reasons.SerialOfAll, h)

        from : (cert : Option CertNames) → ((reason : Reason) × IsReason entries (record { plain = subject.plain; cert = cert }) reason) → Revoked entries (record { plain = subject.plain; cert = cert })
        from cert (reasons.Key, h) = inl (inl h)
        from cert (reasons.KeySha1, h) = inl (inr (inl h))
        from cert (reasons.KeySha256, h) = inl (inr (inr h))
        from None (reasons.Authority, h) = absurd h
        from None (reasons.AuthoritySha1, h) = absurd h
        from None (reasons.AuthoritySha256, h) = absurd h
        from None (reasons.Serial, h) = absurd h
        from None (reasons.SerialOfAll, h) = absurd h
        from None (reasons.KeyId, h) = absurd h
        from None (reasons.KeyIdOfAll, h) = absurd h
        from (Some names) (reasons.Authority, h) = inr (inl (inl h))
        from (Some names) (reasons.AuthoritySha1, h) = inr (inl (inr (inl h)))
        from (Some names) (reasons.AuthoritySha256, h) = inr (inl (inr (inr h)))
        from (Some names) (reasons.Serial, h) = inr (inr (inr (inl h)))
        from (Some names) (reasons.SerialOfAll, h) = inr (inr (inr (inr h)))
        from (Some names) (reasons.KeyId, h) = inr (inr (inl (inl h)))
        from (Some names) (reasons.KeyIdOfAll, h) = inr (inr (inl (inr h)))
