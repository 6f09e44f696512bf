-- The section's type byte and the string after it are read.
use Rattle.std.proofs.Common.{◌∙◌, ap, refl}
use Rattle.krl_format.specs.declared.place.Place.TheVariants as places
use Rattle.krl_format.specs.declared.section.Section.{Section as SectionKind}
use Rattle.krl_openssh.proofs.Spelled.{has_string, has_type, is_other, is_plain, judged_certificates, judged_never, judged_plain, judged_signature, next_is}
use Rattle.krl_openssh.proofs.authorities.section_is_fine.Goals as goal

pub returns-in_default-clause-judged : goal.returns-in_default-clause-judged
returns-in_default-clause-judged c = λ section first rest spells parts.
    absurd (has_type section first rest c.rest-bytes.result.now spells (c.rest-bytes.ensures ∙ parts) (λ field after next passes is. c.in_default.ensures.found field after next passes is refl))

pub returns-in_default-take_string-clause-judged : goal.returns-in_default-take_string-clause-judged
returns-in_default-take_string-clause-judged c = λ section first rest spells parts.
    let next = next_is section first rest c.rest-bytes.result.now c.new.result c.in-Some.size c.in-Some.next spells (c.rest-bytes.ensures ∙ parts) c.in-Some.ensures.within c.in-Some.ensures.passes c.new.ensures in
    absurd (has_string section first rest spells c.in-Some.next c.new.result next c.in_default-take_string.ensures.text)

pub returns-in-Certificates-clause-judged : goal.returns-in-Certificates-clause-judged
returns-in-Certificates-clause-judged c = λ section first rest spells parts.
    let next = next_is section first rest c.rest-bytes.result.now c.new.result c.in-Some.size c.in-Some.next spells (c.rest-bytes.ensures ∙ parts) c.in-Some.ensures.within c.in-Some.ensures.passes c.new.ensures in
    judged_certificates c.args.why section first rest c.new.result c.in-Some-take_string.content.now c.take_string.new.left c.content_is_fine.result c.in-Some.next spells next (c.in-SectionLength.is ∙ ap (λ (kind : SectionKind). places.SectionLength kind) c.in-Certificates.is) c.in-Some-take_string.ensures.text c.content_is_fine.ensures

pub returns-in-Field-clause-judged : goal.returns-in-Field-clause-judged
returns-in-Field-clause-judged c = λ section first rest spells parts.
    let next = next_is section first rest c.rest-bytes.result.now c.new.result c.in-Some.size c.in-Some.next spells (c.rest-bytes.ensures ∙ parts) c.in-Some.ensures.within c.in-Some.ensures.passes c.new.ensures in
    judged_signature c.args.why section first rest c.new.result c.in-Some-take_string.content.now c.take_string.new.left c.skips_string.new.left c.skips_string.result c.in-Some.next c.in-Field.field c.in-Field.room_before c.in-Field.room_after spells next c.in-Field.is c.in-Some-take_string.ensures.text c.skips_string.ensures.text

pub returns-in-Keys-clause-judged : goal.returns-in-Keys-clause-judged
returns-in-Keys-clause-judged c = λ section first rest spells parts.
    let next = next_is section first rest c.rest-bytes.result.now c.new.result c.in-Some.size c.in-Some.next spells (c.rest-bytes.ensures ∙ parts) c.in-Some.ensures.within c.in-Some.ensures.passes c.new.ensures in
    judged_plain c.args.why section first rest c.new.result c.in-Some-take_string.content.now c.take_string.new.left c.in-Some.next spells next (is_plain c.in-Some.next c.in-SectionLength.section c.in-SectionLength.is c.in-Keys.is) c.in-Some-take_string.ensures.text

pub returns-in-Content-clause-judged : goal.returns-in-Content-clause-judged
returns-in-Content-clause-judged c = λ section first rest spells parts.
    let next = next_is section first rest c.rest-bytes.result.now c.new.result c.in-Some.size c.in-Some.next spells (c.rest-bytes.ensures ∙ parts) c.in-Some.ensures.within c.in-Some.ensures.passes c.new.ensures in
    judged_never c.args.why section first rest c.new.result c.take_string.new.left c.in-Some.next spells next (is_other c.in-Some.next c.in-Content.is)
