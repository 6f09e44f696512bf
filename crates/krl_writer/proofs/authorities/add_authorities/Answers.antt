use Rattle.std.proofs.lemmas.Result.{err_from_is_err_and}
use Rattle.krl_writer.proofs.AuthoritySections.{Listing-end, Listing-more, Listing-refused}
use Rattle.krl_writer.proofs.AuthoritySections.{Listing-start}
use Rattle.krl_writer.proofs.authorities.add_authorities.Goals as goal

pub loop-one-init : goal.loop-one-init
loop-one-init g c = rw c.into_iter-one-iterator.ensures.into_iter_gives (Listing-start c.args.out.now.items c.args.authorities c.requires)

pub loop-one-preserved : goal.loop-one-preserved
loop-one-preserved g c =
    let added = rw (c.authority.ensures, c.spans.ensures, c.iter_ids.ensures) at c.in_ok-add_authority.ensures in
    Listing-more _ _ _ _ _ _ c.in-Some.one c.in-Some.ensures.steps c.loop-one.invariant added

pub returns-in_err-add_authority : goal.returns-in_err-add_authority
returns-in_err-add_authority g c =
    let p = err_from_is_err_and c.from_residual.result c.from_residual.ensures.1 in
    let refused = rw (c.authority.ensures, c.spans.ensures, c.iter_ids.ensures) at c.in_err-add_authority.ensures in
    rw (p.1, p.2) (Listing-refused c.in_err-add_authority.field-0.0 _ _ c.add_authority.new.out.items _ _ _ c.in-Some.one c.in-Some.ensures.steps c.loop-one.invariant refused)

pub returns : goal.returns
returns g c = Listing-end _ _ _ _ c.in-None.ensures.steps.0 c.loop-one.invariant
