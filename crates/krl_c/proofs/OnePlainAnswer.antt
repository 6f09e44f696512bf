-- A plain list has one answer, unless an allocation fails.
use Rattle.krl_c.proofs.Common.{[], ◌<◌, ◌∙◌, ◌∷◌, ◌≡◌, ◌≤◌, Answers, AnswersBlob, ap, arith}
use Rattle.krl_c.proofs.Common.{Bool, Entry, false, get_or, inl, inr, length, length-append, List}
use Rattle.krl_c.proofs.Common.{no_memory, plain_number, sym, true, ℕ, ℤ}
use Rattle.std.proofs.Math.Seq.{get_or-append_seam}
use Rattle.std.proofs.Common.{subst}
use Rattle.krl_format.specs.Front.{limit}
use Rattle.plain_list.specs.List.{AreRead, HasFault, IsFirstBadLine, lines_of}
use Rattle.keyed_lines.specs.declared.key_cause.KeyCause.{KeyCause}
use Rattle.plain_list.specs.declared.fault.PlainFault.{PlainFault}
use Rattle.krl_c.specs.Any.{AnswersIf, AnswersPlain, no_plain, plain}
use Rattle.krl_c.proofs.OneAnswer.{Once}
use Rattle.plain_list.specs.declared.fault.PlainFault.TheVariants as faults

-- A list of which each line is read has no line that is refused.
not_read : (lines : List (List ℕ)) (number : ℕ) (cause : KeyCause) → AreRead lines → IsFirstBadLine lines number cause → ⊥
not_read lines number cause read first =
    let n = length first.before in
    let within : n < length lines = omega (arith, ap length first.parts, length-append first.before (first.line ∷ first.after)) in
    let here : get_or lines n [] ≡ first.line = ap (λ (ls : List (List ℕ)). get_or ls n []) first.parts ∙ get_or-append_seam first.before first.line first.after [] in
    let is = rw (here, first.fault) at (read n [] within) in
    absurd cc

read_or_no_memory : (list : List ℕ) (fault : PlainFault) (number : ℤ) → length list ≤ limit → AreRead (lines_of list) → HasFault list fault → number ≡ plain_number fault → number ≡ no_memory
read_or_no_memory list faults.TooLong number within read has e = absurd (omega (arith, within, has))
read_or_no_memory list (faults.Line at cause) number within read has e = absurd (not_read (lines_of list) at cause read has.1)
read_or_no_memory list faults.NoMemory number within read has e = e

fault_once : (list : List ℕ) (fault also : PlainFault) (one other : ℤ) → HasFault list fault → HasFault list also → one ≡ plain_number fault → other ≡ plain_number also → Once one other
fault_once list faults.NoMemory also one other has too e f = inr (inl e)
fault_once list faults.TooLong faults.NoMemory one other has too e f = inr (inr f)
fault_once list (faults.Line at cause) faults.NoMemory one other has too e f = inr (inr f)
fault_once list faults.TooLong faults.TooLong one other has too e f = inl (e ∙ sym f)
fault_once list faults.TooLong (faults.Line at cause) one other has too e f = absurd (omega (arith, has, too.0))
fault_once list (faults.Line at cause) faults.TooLong one other has too e f = absurd (omega (arith, has.0, too))
fault_once list (faults.Line at cause) (faults.Line line why) one other has too e f = inl (e ∙ sym f)

plain_once : (list blob : List ℕ) → ((entries : List Entry) (one other : ℤ) → AnswersBlob entries blob one → AnswersBlob entries blob other → Once one other)
    → (one other : ℤ) → AnswersPlain list blob one → AnswersPlain list blob other → Once one other
plain_once list blob once one other (plain entries is says) (plain others also tells) = once others one other (subst (λ (es : List Entry). AnswersBlob es blob one) (is.entries_are ∙ sym also.entries_are) says) tells
plain_once list blob once one other (plain entries is says) (no_plain fault has f) = inr (inr (read_or_no_memory list fault other is.within is.are_read has f))
plain_once list blob once one other (no_plain fault has e) (plain entries is tells) = inr (inl (read_or_no_memory list fault one is.within is.are_read has e))
plain_once list blob once one other (no_plain fault has e) (no_plain also too f) = fault_once list fault also one other has too e f

pub any_once : (krl : Bool) (list blob : List ℕ) → ((one other : ℤ) → Answers list blob one → Answers list blob other → Once one other)
    → ((entries : List Entry) (one other : ℤ) → AnswersBlob entries blob one → AnswersBlob entries blob other → Once one other)
    → (one other : ℤ) → AnswersIf krl list blob one → AnswersIf krl list blob other → Once one other
any_once true list blob of_list of_blob one other says tells = of_list one other says tells
any_once false list blob of_list of_blob one other says tells = plain_once list blob of_blob one other says tells
