-- A list is made over an old one, or not.
use Rattle.std.proofs.Common.{◌≡◌, ℕ, Bool, true, false, List, ◌++◌, Option, None, Some, Result, Ok, Err, inl, inr, refl, subst}
use Rattle.krl_core.specs.Reading.{IsList, IsReadAs, IsResultOf}
use Rattle.krl_entries.specs.Revocations.{Revocations}
use Rattle.krl_format.specs.Entries.{entries_of}
use Rattle.krl_format.specs.Front.{IsFirstKrlFault}
use Rattle.krl_format.specs.Krl.{SpelledSection, Spells}
use Rattle.krl_format.specs.declared.header.Header.{Header}
use Rattle.krl_format.proofs.OneSpelling.{spelled_once}
use Rattle.krl_types.specs.Entry.{Entry}
use Rattle.krl_types.specs.declared.krl_fault.KrlFault.{KrlFault}
use Rattle.krl_make.specs.Making.{IsOldList, Makes, NamesSame, base_of, files_entries, header_of, make_run_of, named_blob}
use Rattle.krl_make.specs.Over.{IsReadOver, IsUnread, Refuses, RunsOver}
use Rattle.krl_make.specs.declared.base.Base.{Base}
use Rattle.krl_make.specs.declared.run.Wanted.{Wanted}
use Rattle.krl_make.proofs.MadeLists.{base_refused, old_of, old_read}
use Rattle.list_making.specs.Target.{Old}
use Rattle.list_making.specs.Version.{version_of}
use Rattle.run_faults.specs.RunFault.{run_fault_of}
use Rattle.run_faults.specs.declared.cause.Cause.TheVariants as causes
use Rattle.std.specs.Option.{ok_or}
use Rattle.run_faults.specs.RunFault.{RunFault}

pub read_over : (update : Bool) (old : Old) (before : Option (List ℕ)) (outcome : Result Base KrlFault) (failed : Bool) (left : Option (List ℕ))
    → update ≡ true → old ≡ Some before → IsResultOf IsOldList before outcome failed left → IsReadOver update old outcome
read_over update old before outcome failed left is was read = rw (is, was) (failed, left, read)

pub base_read : (before : Option (List ℕ)) (base : Base) (header : Header) (contents : Revocations) (failed : Bool) (left : Option (List ℕ))
    → base ≡ base_of header contents → failed ≡ false → ((text : List ℕ) → before ≡ Some text → IsList text header contents)
    → ((text : List ℕ) → before ≡ Some text → IsFirstKrlFault text None) → IsResultOf IsOldList before (Ok base) failed left
base_read before base header contents failed left same works list none =
    rw same (record { failure = works; read = λ text has. old_read text header contents (list text has) (none text has) })

pub unread_refused : (wanted : Wanted) (old : Old) (stop : RunFault) → IsUnread wanted old stop → Refuses wanted old stop
unread_refused wanted old stop (inl lacks) = inl lacks
unread_refused wanted old stop (inr (fault, over, is)) =
    inr (record { outcome = Err fault; over = over; makes = rw is (inl (base_refused wanted.name.now wanted.authority.now wanted.version wanted.files.now wanted.date fault)) })

-- what an update makes of the result of reading the old list
kept_by : (wanted : Wanted) (text bytes : List ℕ) (header : Header) (sections : List SpelledSection) (failed : Bool) (left : Option (List ℕ)) (outcome : Result Base KrlFault)
    → Spells text header sections → IsReadAs IsOldList text outcome failed left
    → Makes (λ (made : List ℕ). made) wanted.name.now outcome wanted.authority.now wanted.version wanted.files.now
    (make_run_of wanted.name.now outcome wanted.authority.now wanted.version wanted.files.now wanted.date) (Ok bytes)
    → (made : Header) × (added : List Entry) × NamesSame made bytes (entries_of sections ++ added)
unfolding make_run_of
kept_by wanted text bytes header sections failed left (Err fault) spelled says (made, (is, names)) = absurd (cc)
kept_by wanted text bytes header sections failed left (Ok base) spelled old (made, (is, names)) =
    let same = (spelled_once text header old.header sections old.list.sections spelled old.list.spelled).1 in
    let olds : made.old ≡ base.revocations = old_of (ok_or (version_of 0 wanted.version base.version) (run_fault_of wanted.name.now causes.VersionFull)) (named_blob wanted.authority.now) (λ s. files_entries s wanted.files.now) (λ v. header_of v wanted.date base) base.revocations made is in
    (made.header, made.entries, names.names (entries_of sections) (rw (olds, same) old.list.holds.means))

pub update_keeps : (wanted : Wanted) (text bytes : List ℕ) (header : Header) (sections : List SpelledSection) → wanted.update ≡ true
    → Spells text header sections → RunsOver wanted (Some (Some text)) (Ok bytes)
    → (made : Header) × (added : List Entry) × NamesSame made bytes (entries_of sections ++ added)
update_keeps wanted text bytes header sections is spelled runs =
    let read = subst (λ u. IsReadOver u (Some (Some text)) runs.outcome) is runs.over in
    kept_by wanted text bytes header sections read.0 read.1 runs.outcome spelled (read.2.read text refl) runs.makes
