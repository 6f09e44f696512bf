-- A list that is made over the contents of the old one revokes what that revokes.
use Rattle.std.proofs.Common.{◌≡◌, ◌<◌, ◌^◌, ℕ, true, List, ◌++◌, Option, Some, Result, Ok, Err, refl}
use Rattle.std.proofs.Math.Logic.Iff as Iff
use Rattle.krl_core.specs.Reading.{IsResultOf}
use Rattle.krl_entries.proofs.RevokedTests.{revokes_meant}
use Rattle.krl_entries.specs.Revocations.{Means, Revocations}
use Rattle.krl_format.specs.Entries.{entries_of}
use Rattle.krl_format.specs.Krl.{SpelledSection, Spells}
use Rattle.krl_format.specs.declared.header.Header.{Header}
use Rattle.krl_format.proofs.OneSpelling.{spelled_once}
use Rattle.krl_types.specs.Entry.{Entry}
use Rattle.krl_types.specs.declared.krl_fault.KrlFault.{KrlFault}
use Rattle.krl_writer.proofs.ReadBack.{written_spelled}
use Rattle.text_run.specs.Base.{IsKrl, IsReadOver, Krl, base_in, takes_contents}
use Rattle.text_run.specs.Over.{MakesOver, RevokesSame, entries_asked, wanted_of}
use Rattle.text_run.specs.declared.base.Base.{Base}
use Rattle.text_run.specs.declared.inputs.Inputs.{Inputs}
use Rattle.text_run.specs.declared.inputs.Over.{Over}
use Rattle.text_run.specs.declared.inputs.Over.TheVariants.{Nothing, Version, Contents}

-- what was read of a list whose contents are taken over
taken_from : (over : Over) (given : Option ℕ) (text : List ℕ) (base : Base) → takes_contents over ≡ true → IsReadOver over given (Some (Some text)) (Ok base)
    → (krl : Krl) × IsKrl text krl × (base.revocations ≡ krl.contents)
taken_from Nothing given text base is over = absurd (cc is)
taken_from Version given text base is over = absurd (cc is)
taken_from Contents given text base is over = go over.read over.is_read over.outcome_is
  where
    go : (read : Result Krl KrlFault) → IsResultOf IsKrl (Some text) read over.failed over.left → Ok base ≡ base_in Contents read
        → (krl : Krl) × IsKrl text krl × (base.revocations ≡ krl.contents)
    go (Ok krl) read same = (krl, read.read text refl, cc same)
    go (Err fault) read same = absurd (cc same)

pub update_kept : (inputs : Inputs) (text bytes : List ℕ) (header : Header) (sections : List SpelledSection) (version : ℕ) (contents lost : Revocations)
    → takes_contents inputs.over ≡ true → version < 2 ^ 64 → inputs.date < 2 ^ 64 → Spells text header sections
    → MakesOver inputs (Some (Some text)) bytes version contents lost
    → (made : Header) × (entries : List Entry) × (entries_asked inputs ≡ Ok entries) × RevokesSame made bytes (entries_of sections ++ entries)
update_kept inputs text bytes header sections version contents lost is fits_version fits_date spelled over =
    let taken = taken_from inputs.over inputs.version text over.base is over.over in
    let list = taken.1.list in
    let one = (spelled_once text header taken.0.header sections list.sections spelled list.spelled).1 in
    let olds : Means over.base.revocations (entries_of sections) = rw (taken.2, one) list.holds.means in
    let means : Means contents (entries_of sections ++ over.makes.entries) = over.makes.adds.means (entries_of sections) olds in
    let made : Header = (wanted_of inputs over.base version).header in
    let w = written_spelled made contents bytes over.makes.written over.makes.within fits_version fits_date means.orderly in (
      made,
      over.makes.entries,
      over.makes.read,
      record {
        sections = w.sections;
        spelled = w.spelled;
        same = λ asked. Iff.trans (Iff.symm (revokes_meant contents (entries_of w.sections) w.means asked)) (revokes_meant contents (entries_of sections ++ over.makes.entries) means asked);
      },
    )
