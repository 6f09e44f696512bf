use Rattle.std.proofs.Common.{◌≡◌, ◌<◌, length, rules, tests, arith}
use Rattle.std.proofs.lemmas.Bool.{lt-ltb}
use Rattle.std.proofs.lemmas.Grind.{common_steps}
use Rattle.std.proofs.lemmas.Iterator.{YieldsList-from_slice}
use Rattle.std.proofs.lemmas.Iterator.Search.{all_from_yields_List}
use Rattle.std.specs.List.{list_all}
use Rattle.sshd_files.specs.Users.{is_digit}
use Rattle.sshd_files.proofs.users.are_digits.Goals as goal

pub returns-then-not-is_empty : goal.returns-then-not-is_empty
returns-then-not-is_empty c =
    let all : c.all.result ≡ list_all is_digit c.args.text.now =
    all_from_yields_List is_digit _ _ c.all.result c.all.ensures.ran (YieldsList-from_slice c.args.text.now cc)
    (λ x b q k. search (rules, tests)) in
    let some : 0 < length c.args.text.now = grind (arith, common_steps) in
    rw (lt-ltb 0 (length c.args.text.now) some) all
