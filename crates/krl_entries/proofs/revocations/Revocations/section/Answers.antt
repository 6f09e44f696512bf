use Rattle.krl_entries.proofs.Common.{refl, section_of}
use Rattle.krl_entries.proofs.SectionLookup.{is_under, none_under}
use Rattle.krl_entries.proofs.revocations.Revocations.section.Goals as goal

pub returns-in-None : goal.returns-in-None
returns-in-None g c = rw (← c.self.view_is) (none_under c.self.inside.sections c.args.authority.now c.in-None.ensures)

pub returns-in-Some : goal.returns-in-Some
returns-in-Some g c =
    let section = section_of g.S.Spans.spans (c.args.authority.now, c.in-Some.section.now) in
    rw (← c.self.view_is, c.new.ensures) (is_under c.self.inside.sections section c.args.authority.now refl c.in-Some.ensures)
