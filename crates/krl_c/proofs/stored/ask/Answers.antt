-- The stored list is queried.
use Rattle.krl_c.proofs.Common.{◌∙◌, false≢true, rules, SFits, sym, w32}
use Rattle.krl_c.proofs.AnswerMeaning.{same}
use Rattle.krl_c.proofs.stored.ask.Goals as goal

pub returns-then-stored : goal.returns-then-stored
returns-then-stored c =
    let fits : SFits w32 c.ask_loaded.result = search rules in
    record {
      answer = λ entries holds. rw (same c.ask_loaded.result fits) (c.ask_loaded.ensures entries holds.means);
      none = λ not. absurd (false≢true (sym not ∙ c.if-stored.true));
    }
