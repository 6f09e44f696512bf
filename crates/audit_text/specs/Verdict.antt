-- The facts about a key that are printed.
use Rattle.std.specs.Prelude.{option_map}
use Rattle.text_index.specs.Explaining.{explained_of}
use Rattle.audit_text.specs.Answer.{Answer}
use Rattle.audit_text.specs.declared.text.Verdict.{Verdict}

abbrev pub answer_of : Verdict → Answer
answer_of verdict = record {
  reasons = verdict.reasons;
  explained = option_map explained_of verdict.explanation.now;
}
