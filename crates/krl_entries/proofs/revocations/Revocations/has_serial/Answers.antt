use Rattle.krl_entries.proofs.Common.{false≢true, refl, section_of}
use Rattle.krl_entries.proofs.SectionLookup.{no_serial_under, serial_under}
use Rattle.std.proofs.Math.Logic.Iff as Iff
use Rattle.krl_entries.proofs.revocations.Revocations.has_serial.Goals as goal

pub returns-in-None : goal.returns-in-None
returns-in-None g c = rw (← c.self.view_is) (
  λ h. absurd (false≢true h),
  λ h. absurd (no_serial_under c.self.inside.sections c.args.authority.now c.args.serial c.in-None.ensures h),
)

pub returns-in-Some : goal.returns-in-Some
returns-in-Some g c =
    let section = section_of g.S.Spans.spans (c.args.authority.now, c.in-Some.section.now) in
    rw (← c.self.view_is) (Iff.trans c.has.ensures (Iff.symm (serial_under c.self.inside.sections section c.args.authority.now c.args.serial refl c.in-Some.ensures)))
