-- Entries that name more revoke more.
use Rattle.krl_entries.proofs.Common.{◌↔◌, Entry, List, Name, name_asked, NamesSame}
use Rattle.krl_entries.proofs.Common.{None, OfName, Option, Some, SomeNames}
use Rattle.krl_types.specs.Subject.{Subject}
use Rattle.krl_entries.specs.Revoked.{Revoked}
use Rattle.krl_entries.proofs.ReasonTests.{reason_of_revoked}

-- a name with a property has any other property that follows from it
of_name : (Has Also : Name → Type 0) → ((name : Name) → Has name → Also name) → (name : Option Name) → OfName Has name → OfName Also name
of_name Has Also then None none = absurd none
of_name Has Also then (Some name) has = then name has

pub revoked_by_more : (entries others : List Entry) → ((name : Name) → SomeNames others name → SomeNames entries name) → (subject : Subject) → Revoked others subject → Revoked entries subject
revoked_by_more entries others more subject revoked =
    let why = (reason_of_revoked others subject).0 revoked in
    (reason_of_revoked entries subject).1 (why.0, of_name (SomeNames others) (SomeNames entries) more (name_asked why.0 subject) why.1)

pub revoked_by_same : (entries others : List Entry) → NamesSame entries others → (subject : Subject) → Revoked entries subject ↔ Revoked others subject
revoked_by_same entries others same subject =
    (revoked_by_more others entries (λ name. (same name).0) subject, revoked_by_more entries others (λ name. (same name).1) subject)
