-- The test of whether something is revoked is true exactly for what entries revoke.
use Rattle.krl_entries.proofs.Common.{◌↔◌, ◌≡◌, any_reason, Bool, Entry, holds_name}
use Rattle.krl_entries.proofs.Common.{is_revoked, IsTrue, List, Means, Name, reasons_by}
use Rattle.krl_entries.proofs.Common.{Revocations, revokes, some_names, SomeNames, subst, sym}
use Rattle.krl_types.specs.Subject.{Subject}
use Rattle.krl_entries.specs.Revoked.{Revoked}
use Rattle.krl_entries.proofs.NameTests.{name_tested, some_tested}
use Rattle.krl_entries.proofs.ReasonTests.{reason_by, reason_of_revoked, some_reason}
use Rattle.std.proofs.Math.Logic.Iff as Iff

-- a test that finds exactly the names of the entries finds exactly what they revoke
revoked_by : (names : Name → Bool) (entries : List Entry) → ((name : Name) → IsTrue (names name) ↔ SomeNames entries name) → (subject : Subject) → IsTrue (any_reason (reasons_by names subject)) ↔ Revoked entries subject
revoked_by names entries tested subject =
    let found = some_reason names subject in
    let named = reason_of_revoked entries subject in
    let by = reason_by names entries tested subject in
    (λ any. let one = found.0 any in named.1 (one.0, (by one.0).0 one.1), λ is. let one = named.0 is in found.1 (one.0, (by one.0).1 one.1))

pub revoked_tested : (entries : List Entry) (subject : Subject) → IsTrue (is_revoked entries subject) ↔ Revoked entries subject
unfolding is_revoked
revoked_tested entries subject = revoked_by (some_names entries) entries (some_tested entries) subject

pub revokes_meant : (r : Revocations) (entries : List Entry) → Means r entries → (subject : Subject) → IsTrue (revokes r subject) ↔ Revoked entries subject
unfolding revokes
revokes_meant r entries m subject = revoked_by (holds_name r) entries (λ name. Iff.trans (name_tested r name) (m.names name)) subject

-- the answer of the test says what is revoked
pub answer_meant : (r : Revocations) (entries : List Entry) → Means r entries → (subject : Subject) (answer : Bool) → answer ≡ revokes r subject → IsTrue answer ↔ Revoked entries subject
answer_meant r entries m subject answer is = subst (λ (b : Bool). IsTrue b ↔ Revoked entries subject) (sym is) (revokes_meant r entries m subject)
