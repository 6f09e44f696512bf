-- The kind of a key.
use Rattle.std.proofs.Common.{◌≡◌, ℕ, Bool, true, List, Option, option_map, Result, Ok, Err, sym, ap, ◌∙◌}
use Rattle.krl_types.specs.Subject.{Subject}
use Rattle.krl_entries.specs.Reasons.{any_reason}
use Rattle.audit_text.specs.Answer.{Answer}
use Rattle.krl_entries.specs.declared.reasons.Reasons.{Reasons}
use Rattle.ssh_cert.specs.declared.subject_fault.SubjectFault.{SubjectFault}
use Rattle.krl_audit.specs.Audit.{IsMade, JudgesAs, answer_by, judged_reasons, key_kind, kind_of, outcome_line, says}
use Rattle.audit_text.specs.Place.{Place}
use Rattle.audit_text.specs.Said.{key_said}
use Rattle.text_index.specs.Explaining.{Explained, explained_by}
use Rattle.audit_lines.specs.Outcome.{Key, Outcome, found_as}
use Rattle.audit_text.specs.declared.line_kind.LineKind.{LineKind}
use Rattle.krl_audit.specs.declared.judge.Judge.{Judge}
use Rattle.krl_audit.specs.declared.judge.Shown.{Shown}
use Rattle.audit_lines.specs.declared.outcome.Found.{Found as KeyFound}

value_or : Subject → Result Subject SubjectFault → Subject
value_or other (Ok subject) = subject
value_or other (Err fault) = other

pub ok_same : (one other : Subject) (read : Result Subject SubjectFault) → read ≡ Ok one → read ≡ Ok other → one ≡ other
unfolding value_or
ok_same one other read first second = ap (value_or one) (sym first ∙ second)

abbrev pub answer_with : Reasons → Option Explained → Answer
answer_with all explained = record { reasons = all; explained = explained }

-- these reasons and what explains them are the answer for the key
pub answered : (judge : Judge) (answers : Subject → Answer) (judges : JudgesAs judge answers) (subject : Subject) (all : Reasons) (explained : Option Explained)
    → all ≡ judged_reasons judge subject → explained ≡ option_map (λ register. explained_by register subject all) judges.texts → answer_with all explained ≡ answers subject
answered judge answers judges subject all explained tested is =
    ap (answer_with all) is ∙ ap (answer_by judges.texts subject) tested ∙ judges.answers_are subject

pub key_made : (judge : Judge) (answers : Subject → Answer) (shown : Shown) (place : Place) (found : KeyFound) (asked subject : Subject) (all : Reasons) (given : Outcome) (any : Bool) (kind : LineKind) (said : Bool) (line : List ℕ)
    → JudgesAs judge answers → all ≡ judged_reasons judge subject → subject ≡ asked → given ≡ Key (found_as found asked)
    → any ≡ any_reason all → kind ≡ key_kind found.marker any → said ≡ says shown kind
    → (said ≡ true → (answer : Answer) × (answer ≡ answers subject) × (line ≡ key_said shown.format place (found_as found subject) answer))
    → IsMade answers shown place given kind said line
key_made judge answers shown place found asked subject all given any kind said line judges tested same given_is any_is kind_is said_is line_is =
    let all_is : all ≡ (answers asked).reasons =
    tested ∙ ap (λ (a : Answer). a.reasons) (judges.answers_are subject) ∙ ap (λ (s : Subject). (answers s).reasons) same in
    record {
      kind_is = kind_is ∙ ap (key_kind found.marker) (any_is ∙ ap any_reason all_is) ∙ sym (ap (kind_of answers) given_is);
      said_is = said_is;
      text_is = λ told.
          let made = line_is told in
          made.2 ∙ ap (λ (s : Subject). key_said shown.format place (found_as found s) made.0) same
          ∙ ap (λ (a : Answer). key_said shown.format place (found_as found asked) a) (made.1 ∙ ap answers same)
          ∙ sym (ap (outcome_line shown.format answers place) given_is);
    }
