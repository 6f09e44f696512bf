-- The findings give the reasons that the entries give for what is asked about.
use Rattle.krl_queries.proofs.Common.{◌↔◌, ◌∙◌, ◌≡◌, any_reason, ap, Asks, Bool, entries_in, Entry}
use Rattle.krl_queries.proofs.Common.{has_reason, held_reasons, IdOf, is_revoked, IsReason}
use Rattle.krl_queries.proofs.Common.{IsTrue, KeyOf, List, MeansInScope, Name, None, Option}
use Rattle.krl_queries.proofs.Common.{reasons_of, refl, Revocations, revokes, SerialOf, Sha1Of}
use Rattle.krl_queries.proofs.Common.{Sha256Of, Some, SomeNames, subst, sym}
use Rattle.krl_types.specs.Subject.{Subject}
use Rattle.krl_entries.specs.Reasons.{name_asked, OfName}
use Rattle.krl_entries.specs.Revoked.{Revoked}
use Rattle.krl_entries.specs.Tested.{holds_name, some_names}
use Rattle.krl_entries.specs.declared.reasons.Reason.{Reason}
use Rattle.krl_entries.specs.declared.reasons.Reasons.{Reasons}
use Rattle.krl_entries.proofs.OwnEntries.{means_itself}
use Rattle.krl_entries.proofs.ReasonTests.{equal_reasons, reasons_answer, reasons_named}
use Rattle.krl_entries.proofs.RevokedTests.{revoked_tested}
use Rattle.krl_queries.specs.Questions.{EachName, IsAsked}
use Rattle.krl_queries.proofs.QuestionAnswers.{NamesSameTopics, same_serials}
use Rattle.std.proofs.Math.Logic.Iff as Iff

-- entries that name the same topics name the same of what is asked about
same_name : (topics : Revocations) (kept entries : List Entry) → NamesSameTopics topics kept entries → (name : Name) → IsAsked topics name → SomeNames kept name ↔ SomeNames entries name
unfolding NamesSameTopics
same_name topics kept entries same (SerialOf a s) is = same_serials topics kept entries same a s is
same_name topics kept entries same (IdOf a text) is = same (IdOf a text) is
same_name topics kept entries same (KeyOf blob) is = same (KeyOf blob) is
same_name topics kept entries same (Sha1Of hash) is = same (Sha1Of hash) is
same_name topics kept entries same (Sha256Of hash) is = same (Sha256Of hash) is

-- and so they give the same reasons
same_reason : (topics : Revocations) (kept entries : List Entry) → NamesSameTopics topics kept entries → (subject : Subject) → Asks topics subject → (reason : Reason) → IsReason kept subject reason ↔ IsReason entries subject reason
same_reason topics kept entries same subject asks reason = by (name_asked reason subject) (asks.names reason)
  where
    by : (name : Option Name) → EachName (IsAsked topics) name → OfName (SomeNames kept) name ↔ OfName (SomeNames entries) name
    by None is = Iff.rfl
    by (Some name) is = same_name topics kept entries same name is

pub reasons_within : (topics found : Revocations) (subject : Subject) (answer : Reasons) → Asks topics subject → answer ≡ held_reasons found subject → (entries : List Entry) → MeansInScope (Some topics) found entries
    → (reason : Reason) → IsTrue (has_reason answer reason) ↔ IsReason entries subject reason
unfolding NamesSameTopics
reasons_within topics found subject answer asks is entries m reason =
    let kept = entries_in found in
    let itself = means_itself found m.orderly in
    let same : NamesSameTopics topics kept entries = λ name topic. Iff.trans (Iff.symm (itself.names name)) (m.names name topic) in
    Iff.trans (reasons_answer found kept itself subject answer is reason) (same_reason topics kept entries same subject asks reason)

-- the findings give the reasons that the entries give
pub found_reasons : (topics found : Revocations) (entries : List Entry) → MeansInScope (Some topics) found entries → (subject : Subject) → Asks topics subject → held_reasons found subject ≡ reasons_of entries subject
found_reasons topics found entries m subject asks =
    equal_reasons (holds_name found) (some_names entries) subject
    (λ reason. Iff.trans (reasons_within topics found subject (held_reasons found subject) asks refl entries m reason) (Iff.symm (reasons_named entries subject reason)))

-- the findings revoke what was asked about exactly if the entries do
pub found_tested : (topics found : Revocations) (entries : List Entry) → MeansInScope (Some topics) found entries → (subject : Subject) → Asks topics subject → revokes found subject ≡ is_revoked entries subject
unfolding revokes is_revoked
found_tested topics found entries m subject asks = ap any_reason (found_reasons topics found entries m subject asks)

-- the answer about the findings says what the entries revoke
pub answer_within : (topics found : Revocations) (subject : Subject) (answer : Bool) → Asks topics subject → answer ≡ revokes found subject → (entries : List Entry) → MeansInScope (Some topics) found entries → IsTrue answer ↔ Revoked entries subject
answer_within topics found subject answer asks is entries m =
    subst (λ (b : Bool). IsTrue b ↔ Revoked entries subject) (sym (is ∙ found_tested topics found entries m subject asks)) (revoked_tested entries subject)
