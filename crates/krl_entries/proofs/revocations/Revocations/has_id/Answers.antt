use Rattle.krl_entries.proofs.Common.{false≢true, refl, section_of}
use Rattle.krl_entries.proofs.SectionLookup.{no_id_under, id_under}
use Rattle.std.proofs.Math.Logic.Iff as Iff
use Rattle.krl_entries.proofs.revocations.Revocations.has_id.Goals as goal

pub returns-in-None : goal.returns-in-None
returns-in-None g c = rw (← c.self.view_is) (
  λ h. absurd (false≢true h),
  λ h. absurd (no_id_under c.self.inside.sections c.args.authority.now c.args.id.now c.in-None.ensures h),
)

pub returns-in-Some : goal.returns-in-Some
returns-in-Some g c =
    let section = section_of g.S.Spans.spans (c.args.authority.now, c.in-Some.section.now) in
    rw (← c.self.view_is) (Iff.trans c.has.ensures (Iff.symm (id_under c.self.inside.sections section c.args.authority.now c.args.id.now refl c.in-Some.ensures)))
