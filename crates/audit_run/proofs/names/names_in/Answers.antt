-- The reader gave one more name, or it is at its end.
use Rattle.std.proofs.Common.{◌++◌, ◌∷◌, [], ◌∙◌, ap, refl, rules}
use Rattle.audit_run.specs.Names.{no_name}
use Rattle.audit_run.specs.Walk.{broken, too_many}
use Rattle.audit_run.specs.ZeroEnded.{Unread}
use Rattle.audit_run.proofs.Listing.{all_found, found_whole}
use Rattle.audit_run.proofs.ZeroEnded.{gives_last, gives_none, gives_then, shorter, too_many_came}
use Rattle.audit_run.proofs.names.names_in.Goals as goal

pub names-init : goal.names-init
names-init g c = record {
  found = ([], (gives_none _, record { count = 0; are_wanted = rw c.new.ensures.items no_name; skipped_is = refl }));
  kept = refl;
}

pub names-preserved : goal.names-preserved
names-preserved g c =
    let was = c.names.invariant.found in
    let next = rw c.in-Ok-2.is at c.in_ok-next.ensures in
    record {
      found = (
        was.0 ++ next.0 ∷ [],
        (
          gives_then _ _ _ was.0 (next.0 ∷ []) [] was.1.0 next.1.0,
          found_whole _ _ _ was.0 c.next.new.name next.0 _ next.1.1 (c.in_ok-take_name-in-Ok-2.ensures was.0 was.1.1),
        ),
      );
      kept = search rules;
    }

pub names-smaller : goal.names-smaller
names-smaller g c =
    let next = rw c.in-Ok-2.is at c.in_ok-next.ensures in
    shorter _ _ next.0 next.1.0

pub returns-in-Err-All-clause-names : goal.returns-in-Err-All-clause-names
returns-in-Err-All-clause-names g c =
    let was = c.names.invariant.found in
    let last = rw (c.in-Err-All.is, c.in-Err-All.field-0-is) at c.in_ok-next.ensures in
    let gives = gives_last _ _ _ was.0 last.0 was.1.0 last.1.0 in
    record {
      left = g.T.Names.Source.left c.in-Ok.names;
      lists = rw c.in-Ok.is at c.in_ok-entered.ensures.entered;
      listed = rw c.new-reader.ensures at (all_found _ _ _ c.new-reader.result c.next.new.self was.0 last.0 c.names.listing
          c.sort_names.new.names.items gives last.1.1.1 was.1.1 c.sort_names.ensures.same c.sort_names.ensures.ordered);
    }

pub returns-in-Err-More-clause-names : goal.returns-in-Err-More-clause-names
returns-in-Err-More-clause-names g c =
    let was = c.names.invariant.found in
    let last = rw (c.in-Err-More.is, c.in-Err-More.field-0-is) at c.in_ok-next.ensures in
    let gives = gives_last _ _ _ was.0 last.0 was.1.0 last.1.0 in
    let all = ap (λ (u : Unread). u.room) c.new-reader.ensures in
    too_many (g.T.Names.Source.left c.in-Ok.names) (rw c.in-Ok.is at c.in_ok-entered.ensures.entered)
    (rw c.new-reader.ensures at (too_many_came c.new-reader.result c.next.new.self was.0 last.0 gives last.1.1.1 all)) refl

pub why_broken-requires : goal.why_broken-requires
why_broken-requires g c =
    let last = rw (c.in-Err-Failed.is, c.in-Err-Failed.field-0-is) at c.in_ok-next.ensures in
    c.source.ensures ∙ last.1.1.1.0

pub returns-in-Err-Failed-clause-names : goal.returns-in-Err-Failed-clause-names
returns-in-Err-Failed-clause-names g c =
    broken (g.T.Names.Source.left c.in-Ok.names) (rw c.in-Ok.is at c.in_ok-entered.ensures.entered) c.why_broken.ensures
