-- There is a reason exactly where a bit is set.
use Rattle.krl_c.proofs.ReasonAnswers.{answers, none, same}
use Rattle.krl_c.proofs.laws.reasons.reasons_where_revoked.Goals as goal

pub returns : goal.returns
returns c =
    let read = answers c.revoked_for_a_reason.ensures.reason in
    record {
      answers = read;
      same = λ list blob answer reasons fits bytes one other. same answer reasons (c.one_answer.ensures list blob answer _ fits bytes one (read list blob reasons other));
      none = λ list blob answer reasons fits bytes one other. none answer reasons (same answer reasons (c.one_answer.ensures list blob answer _ fits bytes one (read list blob reasons other)));
    }
