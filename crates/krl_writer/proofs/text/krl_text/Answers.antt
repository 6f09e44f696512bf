use Rattle.krl_writer.proofs.Common.{◌++◌, ◌<◌, ◌∙◌, ap, arith, authorities_text}
use Rattle.krl_writer.proofs.Common.{err_from_is_err_and, header_text, length, limit, List, Refuses}
use Rattle.krl_writer.proofs.Common.{sections_text, subst, sym, text_of, texts_text, ℕ}
use Rattle.krl_writer.proofs.Limits.{refuses_front}
use Rattle.krl_writer.proofs.ReadBack.{are_plans}
use Rattle.krl_writer.proofs.Sizes.{text_least}
use Rattle.krl_writer.proofs.WholeTexts.{after_authorities, after_header, any_plans, refuses_list}
use Rattle.krl_writer.proofs.text.krl_text.Goals as goal

pub returns-in_err-add_header : goal.returns-in_err-add_header
returns-in_err-add_header g c =
    let p = err_from_is_err_and c.from_residual.result c.from_residual.ensures.1 in
    let header = c.args.header.now in
    let r = c.args.revocations.now in
    let fault = c.in_err-add_header.field-0.0 in
    rw (p.1, p.2) (refuses_list fault header r (λ plans least.
    let left = ap (λ (t : List ℕ). t ++ text_of header plans r) c.new-out.ensures.items in
    refuses_front fault (text_of header plans r) c.new-out.result.items (header_text header) (sections_text plans r) c.in_err-add_header.ensures left))

pub returns-in_err-add_authorities : goal.returns-in_err-add_authorities
returns-in_err-add_authorities g c =
    let p = err_from_is_err_and c.from_residual-in_err-add_authorities.result c.from_residual-in_err-add_authorities.ensures.1 in
    let header = c.args.header.now in
    let r = c.args.revocations.now in
    let fault = c.in_err-add_authorities.field-0.0 in
    let refused = rw c.iter_authorities.ensures at c.in_err-add_authorities.ensures in
    rw (p.1, p.2) (refuses_list fault header r (λ plans least.
    let left = after_header header r plans c.new-out.result.items c.add_header.new.out.items c.new-out.ensures.items c.in_ok-add_header.ensures.0 in
    refuses_front fault (text_of header plans r) c.add_header.new.out.items (authorities_text plans r.sections) (texts_text r) (refused plans least) left))

pub returns-in_err-add_texts : goal.returns-in_err-add_texts
returns-in_err-add_texts g c =
    let p = err_from_is_err_and c.from_residual-in_err-add_texts.result c.from_residual-in_err-add_texts.ensures.1 in
    let under = rw c.iter_authorities.ensures at c.in_ok-add_authorities.ensures in
    let left = after_authorities c.args.header.now c.args.revocations.now under.0 c.new-out.result.items c.add_header.new.out.items c.add_authorities.new.out.items c.new-out.ensures.items c.in_ok-add_header.ensures.0 under.1.1.0 in
    let fault = c.in_err-add_texts.field-0.0 in
    rw (p.1, p.2) (refuses_list fault c.args.header.now c.args.revocations.now (any_plans fault c.args.header.now c.args.revocations.now under.0 under.1.0 (subst (Refuses fault) left c.in_err-add_texts.ensures)))

pub returns : goal.returns
returns g c =
    let under = rw c.iter_authorities.ensures at c.in_ok-add_authorities.ensures in
    let left = after_authorities c.args.header.now c.args.revocations.now under.0 c.new-out.result.items c.add_header.new.out.items c.add_authorities.new.out.items c.new-out.ensures.items c.in_ok-add_header.ensures.0 under.1.1.0 in
    (record { plans = under.0; least = under.1.0; text_is = c.in_ok-add_texts.ensures.0 ∙ left }, c.in_ok-add_texts.ensures.1)

pub returns-then-is_surely_too_long : goal.returns-then-is_surely_too_long
returns-then-is_surely_too_long g c = λ text is.
    let r = c.args.revocations.now in
    let over = rw c.in_order.ensures.same at (c.is_surely_too_long.ensures c.if-is_surely_too_long.true) in
    let least = text_least c.args.header.now is.plans r c.in_order.ensures.orderly (are_plans is.plans r.sections is.least) in
    subst (λ (t : List ℕ). limit < length t) (sym is.text_is) (omega (arith, least, over))
