use Rattle.krl_entries.proofs.Common.{apart_of, HasPlace, section_of, subst}
use Rattle.krl_entries.proofs.SeparateSections.{takes_out_place}
use Rattle.krl_entries.proofs.Gathering.{apart_done, apart_place, apart_refused, whole_orderly}
use Rattle.krl_entries.proofs.gathered.Gathered.put.Goals as goal

pub invariant_of-self : goal.invariant_of-self
invariant_of-self g c =
    let one = c.in-Some.apart in
    let place = subst (λ a. HasPlace (apart_of g.S.Spans.spans a) c.self.inside.rest) c.in-Some.is c.self.invariant in
    apart_place c.args.addition c.add.result (section_of g.S.Spans.spans (one.name.items, one.section)) (section_of g.S.Spans.spans (one.name.items, c.add.new.self)) c.self.inside.rest c.requires.one place (c.add.ensures one.name.items)

pub returns-in-Some-clause-adds : goal.returns-in-Some-clause-adds
returns-in-Some-clause-adds g c =
    let one = c.in-Some.apart in
    let place = subst (λ a. HasPlace (apart_of g.S.Spans.spans a) c.self.inside.rest) c.in-Some.is c.self.invariant in
    let name = rw (← c.self.view_is, c.in-Some.is) at c.requires.at in
    rw (← c.self.view_is, c.in-Some.is) (apart_done c.args.addition c.args.authority.now c.add.result (section_of g.S.Spans.spans (one.name.items, one.section)) (section_of g.S.Spans.spans (one.name.items, c.add.new.self)) c.self.inside.rest place name (c.add.ensures one.name.items))

pub returns-in-Some-clause-refused : goal.returns-in-Some-clause-refused
returns-in-Some-clause-refused g c =
    let one = c.in-Some.apart in
    rw (← c.self.view_is, c.in-Some.is) (apart_refused c.args.addition c.add.result (section_of g.S.Spans.spans (one.name.items, one.section)) (section_of g.S.Spans.spans (one.name.items, c.add.new.self)) c.self.inside.rest (c.add.ensures one.name.items))

pub returns-in-Some-clause-orderly : goal.returns-in-Some-clause-orderly
returns-in-Some-clause-orderly g c =
    let one = c.in-Some.apart in
    let place = subst (λ a. HasPlace (apart_of g.S.Spans.spans a) c.self.inside.rest) c.in-Some.is c.self.invariant in
    rw (← c.self.view_is, c.in-Some.is) (whole_orderly (section_of g.S.Spans.spans (one.name.items, one.section)) c.self.inside.rest place c.in_order-rest.ensures.orderly)

pub invariant_of-self-2 : goal.invariant_of-self-2
invariant_of-self-2 g c =
    let old = c.self.inside.rest in
    let new = c.take.new.self in
    takes_out_place c.args.addition c.args.authority.now old.sections (apart_of g.S.Spans.spans c.in_ok-self-inside.field-0) new.sections new.keys new.sha1s new.sha256s c.requires.one c.take.ensures.orderly.listed c.in_ok-self-inside.ensures.ok
