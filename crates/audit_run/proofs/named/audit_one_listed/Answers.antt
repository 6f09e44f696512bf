-- The name is too long, no text, or that of what it leads to.
use Rattle.std.proofs.Common.{◌∙◌, ap, false, length, refl, subst, sym, List, ℕ}
use Rattle.std.proofs.lemmas.Bool.{ltb-false, ltb-true}
use Rattle.line_pieces.specs.Visible.{visible_bytes}
use Rattle.audit_lines.specs.declared.why.Refusal.TheVariants.{LongName}
use Rattle.audit_run.specs.Named.{IsOnList, before_name, long_name, no_text}
use Rattle.audit_run.specs.Visits.{Went, refused}
use Rattle.audit_run.proofs.Inputs.{goes_went, long_front}
use Rattle.audit_run.proofs.ZeroEnded.{long_full, whole_name}
use Rattle.audit_run.proofs.named.audit_one_listed.Goals as goal

pub front_of-requires : goal.front_of-requires
front_of-requires g c = ltb-true 4096 (length c.args.name.now) (sym c.is_too_long.ensures ∙ c.if-is_too_long.true)

pub returns-then-is_too_long : goal.returns-then-is_too_long
returns-then-is_too_long g c = λ full held.
    let longer = ltb-true 4096 (length c.args.name.now) (sym c.is_too_long.ensures ∙ c.if-is_too_long.true) in
    let long = long_full 4096 c.args.name.now full held longer in
    let front = c.front_of.ensures ∙ long_front c.args.name.now full held long in
    let shown = ap (λ (n : List ℕ). refused (visible_bytes false n) LongName) front in
    goes_went c.refuse_name.result _ _ _ _ (before_name refl refl) (λ whole v is. long_name long (is ∙ shown)) c.refuse_name.ensures

pub returns-in_default : goal.returns-in_default
returns-in_default g c = λ full held.
    let fits = ltb-false 4096 (length c.args.name.now) (sym c.is_too_long.ensures ∙ c.if-is_too_long.false) in
    let same = whole_name 4096 c.args.name.now full held fits in
    subst (λ (n : List ℕ). Went (λ whole. IsOnList (g.T.Tree.states c.args.tree.now) c.args.search whole n) c.refuse_name-in_default.result
    c.args.round.now c.refuse_name-in_default.new.round) same
    (goes_went c.refuse_name-in_default.result _ _ _ _ (before_name refl refl)
    (λ whole v is. no_text fits c.in_default.ensures.cases.0 is) c.refuse_name-in_default.ensures)

pub returns : goal.returns
returns g c = λ full held.
    let fits = ltb-false 4096 (length c.args.name.now) (sym c.is_too_long.ensures ∙ c.if-is_too_long.false) in
    let same = whole_name 4096 c.args.name.now full held fits in
    let text = c.in-Ok.ensures.cases.0 in
    subst (λ (n : List ℕ). Went (λ whole. IsOnList (g.T.Tree.states c.args.tree.now) c.args.search whole n) c.audit_text.result
    c.args.round.now c.audit_text.new.round) (text ∙ same) (c.audit_text.ensures (rw text fits))
