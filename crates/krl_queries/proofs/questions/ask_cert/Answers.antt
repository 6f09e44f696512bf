-- Topics that are added first stay topics.
use Rattle.krl_queries.proofs.Common.{[], KeyEntry, KeyOf, on_ok_weaker, refl}
use Rattle.krl_queries.proofs.MoreQuestions.{asks_entry, now_held, on_ok_with, under_stays}
use Rattle.krl_queries.proofs.questions.ask_cert.Goals as goal

pub returns-clause-asked : goal.returns-clause-asked
returns-clause-asked g c =
    let cert = c.cert.inside in
    let two = c.ask_under.new.topics in
    let new = c.ask_under-2.new.topics in
    let held = now_held c.args.topics.now c.add_key.new.self (KeyEntry cert.authority.now) (KeyOf cert.authority.now) refl c.add_key.ensures.orderly c.in_ok-add_key.ensures.means in
    let key = c.in_ok-ask_under.ensures.more (KeyOf cert.authority.now) held in
    let all = rw (← c.cert.view_is) at c.in_ok-ask_under.ensures.asked in
    let own = rw (← c.cert.view_is) at c.ask_under-2.ensures.asked in
    rw (← c.cert.view_is) (on_ok_with c.ask_under-2.result
    (λ more under. (more (KeyOf cert.authority.now) key, (under_stays two new [] cert.key_id.now cert.serial more all, under)))
    c.ask_under-2.ensures.more own)

pub returns-clause-more : goal.returns-clause-more
returns-clause-more g c =
    let key = asks_entry c.args.topics.now c.add_key.new.self (KeyEntry c.cert.inside.authority.now) c.add_key.ensures.orderly c.in_ok-add_key.ensures.means in
    on_ok_weaker c.ask_under-2.result (λ more name h. more name (c.in_ok-ask_under.ensures.more name (key name h))) c.ask_under-2.ensures.more
