-- As many are no names as of those that the program has.
use Rattle.std.proofs.Common.{◌≡◌, ◌∙◌, ℕ, arith, false, filter, length, nat_lt, refl, true}
use Rattle.std.proofs.lemmas.Bool.{le-ltb, lt-ltb}
use Rattle.krl_arguments.specs.Task.{is_no_name}
use Rattle.krl_arguments.proofs.ReadNames.{same_count, texts}
use Rattle.krl_arguments.proofs.tasks.if_names.Goals as goal

pub returns-then-no_names_among-gt0 : goal.returns-then-no_names_among-gt0
returns-then-no_names_among-gt0 c =
    let names = c.args.audit.exclude.items in
    let n : ℕ = length (filter is_no_name (texts names)) in
    let same : c.no_names_among.result ≡ n = rw c.as_slice.ensures.value at c.no_names_among.ensures ∙ same_count is_no_name names in
    let some : nat_lt 0 n ≡ true = lt-ltb 0 n (omega (arith, same, c.if-no_names_among-gt0.true)) in
    rw some refl

pub returns : goal.returns
returns c =
    let names = c.args.audit.exclude.items in
    let n : ℕ = length (filter is_no_name (texts names)) in
    let same : c.no_names_among.result ≡ n = rw c.as_slice.ensures.value at c.no_names_among.ensures ∙ same_count is_no_name names in
    let none : nat_lt 0 n ≡ false = le-ltb 0 n (omega (arith, same, c.if-no_names_among-gt0.false)) in
    rw none c.if_sshd.ensures
