-- The plain key stays a topic when the names of the certificate are added.
use Rattle.krl_queries.proofs.Common.{AsksMore, Contains, HasCert, KeyEntry, KeyOf, on_ok_weaker}
use Rattle.krl_queries.proofs.Common.{refl, subst, sym}
use Rattle.krl_queries.proofs.AskedNames.{asks_by}
use Rattle.krl_queries.proofs.MoreQuestions.{asks_entry, now_held, on_ok_with}
use Rattle.krl_queries.proofs.questions.ask_names.Goals.{In_ok-add_key}
use Rattle.krl_queries.proofs.questions.ask_names.Given.{Over}
use Rattle.krl_queries.proofs.questions.ask_names.Goals as goal

key_held : (g : Over) (c : In_ok-add_key g) → Contains c.add_key.new.self.keys c.as_slice.result.now
key_held g c =
    let blob = c.as_slice.result.now in
    now_held c.args.topics.now c.add_key.new.self (KeyEntry blob) (KeyOf blob) refl c.add_key.ensures.orderly c.in_ok-add_key.ensures.means

key_more : (g : Over) (c : In_ok-add_key g) → AsksMore c.args.topics.now c.add_key.new.self
key_more g c = asks_entry c.args.topics.now c.add_key.new.self (KeyEntry c.as_slice.result.now) c.add_key.ensures.orderly c.in_ok-add_key.ensures.means

pub returns-in-None-clause-asked : goal.returns-in-None-clause-asked
returns-in-None-clause-asked g c =
    let key = rw c.as_slice.ensures at (key_held g (goal.at.returns-in-None-clause-asked g c).In_ok-add_key) in
    rw (← c.subject.view_is) (asks_by c.add_key.new.self c.subject.inside.plain c.subject.inside.cert key (subst (HasCert c.add_key.new.self) (sym c.in-None.is) tt))

pub returns-in-None-clause-more : goal.returns-in-None-clause-more
returns-in-None-clause-more g c = key_more g (goal.at.returns-in-None-clause-more g c).In_ok-add_key

pub returns-in-Some-clause-asked : goal.returns-in-Some-clause-asked
returns-in-Some-clause-asked g c =
    let key = rw c.as_slice.ensures at (key_held g (goal.at.returns-in-Some-clause-asked g c).In_ok-add_key) in
    rw (← c.subject.view_is) (on_ok_with c.ask_cert.result
    (λ more all. asks_by c.ask_cert.new.topics c.subject.inside.plain c.subject.inside.cert (more (KeyOf c.subject.inside.plain) key) (subst (HasCert c.ask_cert.new.topics) (sym c.in-Some.is) all))
    c.ask_cert.ensures.more c.ask_cert.ensures.asked)

pub returns-in-Some-clause-more : goal.returns-in-Some-clause-more
returns-in-Some-clause-more g c =
    let before = key_more g (goal.at.returns-in-Some-clause-more g c).In_ok-add_key in
    on_ok_weaker c.ask_cert.result (λ more name h. more name (before name h)) c.ask_cert.ensures.more
