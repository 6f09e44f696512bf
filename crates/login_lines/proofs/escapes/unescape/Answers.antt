use Rattle.std.proofs.Common.{◌≡◌, ◌<◌, ◌∷◌, ◌++◌, [], Some, None, length, sym, ◌∙◌, arith}
use Rattle.std.proofs.lemmas.Bool.{eqb-false, eqb-true}
use Rattle.login_lines.specs.Escapes.{byte_at}
use Rattle.login_lines.proofs.EscapeLaws.{all_read, none_more, only_more, spells_more}
use Rattle.login_lines.proofs.escapes.unescape.Goals as goal

pub loop-rest-preserved : goal.loop-rest-preserved
loop-rest-preserved c =
    let text = c.args.text.now in
    let rest = c.loop-rest.rest.now in
    let next = c.in-Some.next.now in
    let items = c.loop-rest.bytes.items in
    let read : byte_at rest ≡ Some (c.in-Some.byte, next) = sym c.in-Some.ensures.byte in
    let pushed : c.push.new.self.items ≡ items ++ (c.in-Some.byte ∷ []) = c.in_ok-push-in-Some.ensures.items in
    record {
      spells = spells_more text rest next items c.push.new.self.items c.in-Some.byte read pushed c.loop-rest.invariant.spells;
      only = only_more text rest next items c.push.new.self.items c.in-Some.byte read pushed c.loop-rest.invariant.only;
    }

pub returns-in-None-clause-none : goal.returns-in-None-clause-none
returns-in-None-clause-none c =
    let some : 0 < length c.loop-rest.rest.now =
    omega (arith, eqb-false (length c.loop-rest.rest.now) 0 (sym c.is_empty.ensures ∙ c.loop-rest-test.true)) in
    let read : byte_at c.loop-rest.rest.now ≡ None = sym c.in-None.ensures.byte in
    none_more c.args.text.now c.loop-rest.rest.now c.loop-rest.bytes.items some read c.loop-rest.invariant.only

pub returns-clause-found : goal.returns-clause-found
returns-clause-found c =
    let none : length c.loop-rest.rest.now ≡ 0 =
    eqb-true (length c.loop-rest.rest.now) 0 (sym c.is_empty.ensures ∙ c.loop-rest-test.false) in
    all_read c.args.text.now c.loop-rest.rest.now c.loop-rest.bytes.items none c.loop-rest.invariant.spells
