use Rattle.krl_writer.proofs.Common.{◌++◌, ◌∙◌, arith, err_from_is_err_and, length-begun, List}
use Rattle.krl_writer.proofs.Common.{refl, Refuses, string, strings, subst, ℕ}
use Rattle.krl_writer.proofs.Limits.{put_more, refuses_front, refuses_string, string_put}
use Rattle.krl_writer.proofs.strings.add_listed.Goals as goal

pub returns-in_err-add_string : goal.returns-in_err-add_string
returns-in_err-add_string c =
    let p = err_from_is_err_and c.from_residual-in_err-add_string.result c.from_residual-in_err-add_string.ensures.1 in
    let fault = c.in_err-add_string.field-0.0 in
    let begun = c.begin_string.new.out.items in
    let content : List ℕ = string c.in-Some.first.now ++ strings c.next.new.self in
    rw (p.1, p.2, c.in-Some.ensures.steps)
    (refuses_string fault c.args.type_byte c.args.out.now.items begun content c.in_ok-at.ensures.1
    (refuses_front fault (begun ++ content) begun (string c.in-Some.first.now) (strings c.next.new.self) c.in_err-add_string.ensures refl))

pub returns-in_err-add_strings : goal.returns-in_err-add_strings
returns-in_err-add_strings c =
    let p = err_from_is_err_and c.from_residual-in_err-add_strings.result c.from_residual-in_err-add_strings.ensures.1 in
    let fault = c.in_err-add_strings.field-0.0 in
    let begun = c.begin_string.new.out.items in
    let content : List ℕ = string c.in-Some.first.now ++ strings c.next.new.self in
    let left = put_more (begun ++ content) begun c.add_string.new.out.items (string c.in-Some.first.now) (strings c.next.new.self) c.in_ok-add_string.ensures.0 refl in
    rw (p.1, p.2, c.in-Some.ensures.steps)
    (refuses_string fault c.args.type_byte c.args.out.now.items begun content c.in_ok-at.ensures.1 (subst (Refuses fault) left c.in_err-add_strings.ensures))

pub end_string-requires-clause-within : goal.end_string-requires-clause-within
end_string-requires-clause-within c =
    let begun = c.begin_string.new.out.items in
    let content : List ℕ = string c.in-Some.first.now ++ strings c.next.new.self in
    let left = put_more (begun ++ content) begun c.add_string.new.out.items (string c.in-Some.first.now) (strings c.next.new.self) c.in_ok-add_string.ensures.0 refl in
    omega (arith, length-begun c.args.out.now.items begun content c.add_strings.new.out.items c.args.type_byte c.in_ok-at.ensures.1 (c.in_ok-add_strings.ensures.0 ∙ left), c.in_ok-at.ensures.0)

pub returns : goal.returns
returns c =
    let begun = c.begin_string.new.out.items in
    let content : List ℕ = string c.in-Some.first.now ++ strings c.next.new.self in
    let left = put_more (begun ++ content) begun c.add_string.new.out.items (string c.in-Some.first.now) (strings c.next.new.self) c.in_ok-add_string.ensures.0 refl in
    rw c.in-Some.ensures.steps
    (string_put c.args.type_byte _ c.args.out.now.items begun content c.add_strings.new.out.items c.end_string.new.out.items c.in_ok-at.ensures.1 (c.in_ok-add_strings.ensures.0 ∙ left)
    c.in_ok-at.ensures.0 c.in_ok-add_strings.ensures.1 c.end_string.ensures)
