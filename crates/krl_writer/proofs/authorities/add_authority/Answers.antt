use Rattle.krl_writer.specs.KrlText.{certificates_type, ids_type}
use Rattle.krl_writer.proofs.Common.{◌++◌, ◌<◌, ◌∙◌, ap, arith, authority_content}
use Rattle.krl_writer.proofs.Common.{err_from_is_err_and, length, length-append, length-begun}
use Rattle.krl_writer.proofs.Common.{limit, List, listed_text, refl, Refuses, Section, section_with}
use Rattle.krl_writer.proofs.Common.{string, subst, TooLong, ℕ}
use Rattle.krl_writer.proofs.Limits.{any_plan, authority_parts, refuses_front, refuses_more}
use Rattle.krl_writer.proofs.Limits.{refuses_string, string_put}
use Rattle.krl_writer.proofs.authorities.add_authority.Goals as goal

pub returns-in_err-add_string : goal.returns-in_err-add_string
returns-in_err-add_string g c =
    let p = err_from_is_err_and c.from_residual-in_err-add_string.result c.from_residual-in_err-add_string.ensures.1 in
    let listed : Section = section_with c.args.authority.now (g.S.Spans.spans c.args.spans.now) c.args.ids in
    let fault = c.in_err-add_string.field-0.0 in
    let begun = c.begin_string.new.out.items in
    rw (p.1, p.2) (λ plan least.
    let content : List ℕ = authority_content plan listed in
    refuses_string fault certificates_type c.args.out.now.items begun content c.in_ok-at.ensures.1 (refuses_front fault (begun ++ content) begun (string listed.authority) _ c.in_err-add_string.ensures refl))

pub returns-then-len-gt-LIMIT : goal.returns-then-len-gt-LIMIT
returns-then-len-gt-LIMIT g c plan least =
    let listed : Section = section_with c.args.authority.now (g.S.Spans.spans c.args.spans.now) c.args.ids in
    let written = c.in_ok-put_least_plan.ensures in
    let begun = c.begin_string.new.out.items in
    let put = c.put_least_plan.new.out.items in
    let left = authority_parts written.0 listed begun c.add_string.new.out.items c.put_string.new.out.items put c.in_ok-add_string.ensures.0 c.in_ok-put_string.ensures.appends written.1.1 in
    let long : limit < length put = omega arith in
    let whole = refuses_more TooLong put (begun ++ authority_content written.0 listed) long (omega (arith, ap length left, length-append put (listed_text ids_type listed.ids))) in
    any_plan TooLong written.0 plan listed c.args.out.now.items written.1.0 least (refuses_string TooLong certificates_type c.args.out.now.items begun (authority_content written.0 listed) c.in_ok-at.ensures.1 whole)

pub returns-in_err-add_listed : goal.returns-in_err-add_listed
returns-in_err-add_listed g c =
    let p = err_from_is_err_and c.from_residual-in_err-add_listed.result c.from_residual-in_err-add_listed.ensures.1 in
    let listed : Section = section_with c.args.authority.now (g.S.Spans.spans c.args.spans.now) c.args.ids in
    let fault = c.in_err-add_listed.field-0.0 in
    let written = c.in_ok-put_least_plan.ensures in
    let begun = c.begin_string.new.out.items in
    let left = authority_parts written.0 listed begun c.add_string.new.out.items c.put_string.new.out.items c.put_least_plan.new.out.items c.in_ok-add_string.ensures.0 c.in_ok-put_string.ensures.appends written.1.1 in
    rw (p.1, p.2) (λ plan least.
    any_plan fault written.0 plan listed c.args.out.now.items written.1.0 least
    (refuses_string fault certificates_type c.args.out.now.items begun (authority_content written.0 listed) c.in_ok-at.ensures.1 (subst (Refuses fault) left c.in_err-add_listed.ensures)))

pub end_string-requires-clause-within : goal.end_string-requires-clause-within
end_string-requires-clause-within g c =
    let listed : Section = section_with c.args.authority.now (g.S.Spans.spans c.args.spans.now) c.args.ids in
    let written = c.in_ok-put_least_plan.ensures in
    let begun = c.begin_string.new.out.items in
    let left = authority_parts written.0 listed begun c.add_string.new.out.items c.put_string.new.out.items c.put_least_plan.new.out.items c.in_ok-add_string.ensures.0 c.in_ok-put_string.ensures.appends written.1.1 in
    omega (arith, length-begun c.args.out.now.items begun (authority_content written.0 listed) c.add_listed.new.out.items 1 c.in_ok-at.ensures.1 (c.in_ok-add_listed.ensures.0 ∙ left), c.in_ok-at.ensures.0)

pub returns : goal.returns
returns g c =
    let listed : Section = section_with c.args.authority.now (g.S.Spans.spans c.args.spans.now) c.args.ids in
    let written = c.in_ok-put_least_plan.ensures in
    let begun = c.begin_string.new.out.items in
    let left = authority_parts written.0 listed begun c.add_string.new.out.items c.put_string.new.out.items c.put_least_plan.new.out.items c.in_ok-add_string.ensures.0 c.in_ok-put_string.ensures.appends written.1.1 in
    let done = string_put certificates_type _ c.args.out.now.items begun (authority_content written.0 listed) c.add_listed.new.out.items c.end_string.new.out.items c.in_ok-at.ensures.1 (c.in_ok-add_listed.ensures.0 ∙ left)
    c.in_ok-at.ensures.0 c.in_ok-add_listed.ensures.1 c.end_string.ensures in
    (written.0, (written.1.0, done))
