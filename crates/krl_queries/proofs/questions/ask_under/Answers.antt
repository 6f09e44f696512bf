-- The key ID becomes a topic, and then the serial number if there is one.
use Rattle.krl_queries.proofs.Common.{◌<◌, ◌≤◌, arith, AsksMore, HoldsId, IdEntry, IdOf, inl, inr}
use Rattle.krl_queries.proofs.Common.{on_ok_weaker, RangeEntry, refl, SerialOf, serials_in}
use Rattle.krl_queries.proofs.MoreQuestions.{asks_entry, now_held, serials_with_any}
use Rattle.krl_queries.proofs.MoreQuestions.{serials_with_id}
use Rattle.krl_queries.proofs.questions.ask_under.Goals.{In_ok-add_id}
use Rattle.krl_queries.proofs.questions.ask_under.Given.{Over}
use Rattle.krl_queries.proofs.questions.ask_under.Goals as goal

-- ---- the key ID

id_serials : (g : Over) (c : In_ok-add_id g) → serials_in c.add_id.new.self.sections ≤ serials_in c.args.topics.now.sections
id_serials g c =
    serials_with_id c.args.topics.now c.add_id.new.self c.args.authority.now c.cert.inside.key_id.now c.add_id.ensures.changes.orderly c.in_ok-add_id.ensures.means

id_held : (g : Over) (c : In_ok-add_id g) → HoldsId c.add_id.new.self.sections c.args.authority.now c.cert.inside.key_id.now
id_held g c =
    let a = c.args.authority.now in
    let id = c.cert.inside.key_id.now in
    now_held c.args.topics.now c.add_id.new.self (IdEntry a id) (IdOf a id) (refl, refl) c.add_id.ensures.changes.orderly c.in_ok-add_id.ensures.means

id_more : (g : Over) (c : In_ok-add_id g) → AsksMore c.args.topics.now c.add_id.new.self
id_more g c =
    asks_entry c.args.topics.now c.add_id.new.self (IdEntry c.args.authority.now c.cert.inside.key_id.now) c.add_id.ensures.changes.orderly c.in_ok-add_id.ensures.means

-- ---- no serial number

pub returns-then-cert-eq0-clause-asked : goal.returns-then-cert-eq0-clause-asked
returns-then-cert-eq0-clause-asked g c =
    rw (← c.cert.view_is) (id_held g (goal.at.returns-then-cert-eq0-clause-asked g c).In_ok-add_id, inl c.if-cert-eq0.true)

pub returns-then-cert-eq0-clause-more : goal.returns-then-cert-eq0-clause-more
returns-then-cert-eq0-clause-more g c = id_more g (goal.at.returns-then-cert-eq0-clause-more g c).In_ok-add_id

pub returns-then-cert-eq0-clause-serials : goal.returns-then-cert-eq0-clause-serials
returns-then-cert-eq0-clause-serials g c =
    let most = id_serials g (goal.at.returns-then-cert-eq0-clause-serials g c).In_ok-add_id in omega (arith, most)

-- ---- a serial number

pub returns-clause-asked : goal.returns-clause-asked
returns-clause-asked g c =
    let a = c.args.authority.now in
    let s = c.cert.inside.serial in
    let some : 0 < s = omega (arith, c.if-cert-eq0.false) in
    let one = c.add_id.new.self in
    let new = c.add_serials.new.self in
    let id = id_held g (goal.at.returns-clause-asked g c).In_ok-add_id in
    let orderly = c.add_serials.ensures.changes.orderly in
    rw (← c.cert.view_is) (on_ok_weaker c.add_serials.result
    (λ means. (
      asks_entry one new (RangeEntry a s s) orderly means (IdOf a c.cert.inside.key_id.now) id,
      inr (now_held one new (RangeEntry a s s) (SerialOf a s) (refl, (some, (omega arith, omega arith))) orderly means),
    )) c.add_serials.ensures.means)

pub returns-clause-more : goal.returns-clause-more
returns-clause-more g c =
    let s = c.cert.inside.serial in
    let id = id_more g (goal.at.returns-clause-more g c).In_ok-add_id in
    on_ok_weaker c.add_serials.result
    (λ means name h. asks_entry c.add_id.new.self c.add_serials.new.self (RangeEntry c.args.authority.now s s) c.add_serials.ensures.changes.orderly means name (id name h)) c.add_serials.ensures.means

pub returns-clause-serials : goal.returns-clause-serials
returns-clause-serials g c =
    let id = id_serials g (goal.at.returns-clause-serials g c).In_ok-add_id in
    let serial = serials_with_any c.add_serials.result c.add_id.new.self c.add_serials.new.self c.args.authority.now c.cert.inside.serial c.add_serials.ensures.changes.orderly c.add_serials.ensures.means c.add_serials.ensures.refused in
    omega (arith, id, serial)
