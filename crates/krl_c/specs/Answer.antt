-- The answer of a list for the blob of a key or of a certificate.
use Rattle.std.specs.Prelude.{◌≡◌, ◌⊎◌, ℕ, ℤ, List, Option, Some, None}
use Rattle.krl_types.specs.Subject.{Subject}
use Rattle.key_text.specs.KeyLine.{IsKeyLine}
use Rattle.key_text.specs.LineFaults.{HasSomeWords, IsFirstLineFault}
use Rattle.key_text.specs.declared.line_fault.LineFault.{LineFault}
use Rattle.ssh_cert.specs.SubjectReading.{HasSubject}
use Rattle.krl_types.specs.declared.krl_fault.KrlFault.{KrlFault}
use Rattle.krl_types.specs.Entry.{Entry}
use Rattle.krl_format.specs.Front.{IsFirstKrlFault}
use Rattle.krl_format.specs.Memory.{MayLackMemory}
use Rattle.krl_entries.specs.Revoked.{Revoked}
use Rattle.plain_list.specs.Any.{IsListOf}
use Rattle.krl_openssh.specs.Comparable.{IsIncomparable}
use Rattle.krl_openssh.specs.declared.authorities.Incomparable.{Incomparable}
use Rattle.krl_types.specs.declared.krl_fault.KrlFault.TheVariants.{NoMemory}
use Rattle.krl_c.specs.declared.refusal.Refusal.{Refusal}
use Rattle.krl_c.specs.declared.refusal.Refusal.TheVariants as refusals
use Rattle.krl_c.specs.declared.asked.BlobFault.{BlobFault}
use Rattle.krl_c.specs.Asked.{IsQuery, IsRefusedBlob}
use Rattle.krl_c.specs.Number.{blob_number, fine, revoked, no_memory, list_number, line_number}
use Rattle.krl_c.specs.Number.{names_number}

-- Each authority of the list is empty or a key in its one spelling, and no key ID has a zero byte,
-- so the names of a certificate can be compared with them.
pub record IsCompared (list : List ℕ) (entries : List Entry) : Type 0 where
  pub is : IsListOf list entries
  pub names : IsIncomparable is.sections None

-- Some authority or key ID of the list is not so.
pub record HasIncomparable (list : List ℕ) (why : Incomparable) : Type 0 where
  pub entries : List Entry
  pub is : IsListOf list entries
  pub names : IsIncomparable is.sections (Some why)

-- Why a list gives no answer: its first fault, such a name, or a failed allocation. Memory may be
-- needed for a query, if there is one, or for the list.
abbrev pub IsRefusal : (IsAsked : Type 0) → List ℕ → Refusal → Type 0
IsRefusal IsAsked list (refusals.Fault fault) =
    ((fault ≡ NoMemory) × (IsAsked ⊎ MayLackMemory list)) ⊎ IsFirstKrlFault list (Some fault)
IsRefusal IsAsked list (refusals.Incomparable why) = HasIncomparable list why

-- A list has at most one row of entries, and one first fault, and not both.
pub record HasOne (list : List ℕ) : Type 0 where
  pub entries : (these others : List Entry) → IsListOf list these → IsListOf list others
      → these ≡ others
  pub names : (these others : List Entry) (one : IsListOf list these)
      (other : IsListOf list others) (one_why other_why : Option Incomparable)
      → IsIncomparable one.sections one_why → IsIncomparable other.sections other_why
      → one_why ≡ other_why
  pub fault : (one other : KrlFault) → IsFirstKrlFault list (Some one)
      → IsFirstKrlFault list (Some other) → one ≡ other
  pub none : (these : List Entry) (fault : KrlFault) → IsListOf list these
      → IsFirstKrlFault list (Some fault) → ⊥

-- The query was answered: 1 exactly if the entries revoke the key of the query, otherwise 0.
pub data Says (entries : List Entry) (asked : Subject) (number : ℤ) : Type 0 where
  names : Revoked entries asked → number ≡ revoked → Says entries asked number
  spares : ¬ Revoked entries asked → number ≡ fine → Says entries asked number

-- The answer of entries for a blob.
pub data AnswersBlob (entries : List Entry) (blob : List ℕ) (number : ℤ) : Type 0 where
  said : (asked : Subject) → IsQuery blob asked → Says entries asked number
      → AnswersBlob entries blob number
  no_blob : (fault : BlobFault) → IsRefusedBlob blob fault → number ≡ blob_number fault
      → AnswersBlob entries blob number
  ran_out : HasSubject blob → number ≡ no_memory → AnswersBlob entries blob number

-- The answer of entries for the key of a line, in the format of an authorized keys file.
pub data AnswersLine (entries : List Entry) (text : List ℕ) (number : ℤ) : Type 0 where
  of_key : (word blob comment : List ℕ) → IsKeyLine text word blob comment
      → AnswersBlob entries blob number → AnswersLine entries text number
  no_line : (fault : LineFault) → IsFirstLineFault text fault → number ≡ line_number fault
      → AnswersLine entries text number
  line_ran_out : HasSomeWords text → number ≡ no_memory → AnswersLine entries text number

-- The answer of a list, by the answer of its entries. The answer of a refused list is its first
-- fault. A list that is read, but has an authority or a key ID that cannot be compared, has a
-- number of its own. An allocation fails only if memory may be needed for the query or the list.
pub data AnswersBy (IsAsked : Type 0) (Told : List Entry → ℤ → Type 0) (list : List ℕ) (number : ℤ)
    : Type 0 where
  answered : (entries : List Entry) → IsCompared list entries → Told entries number
      → AnswersBy IsAsked Told list number
  other_names : (why : Incomparable) → HasIncomparable list why → number ≡ names_number why
      → AnswersBy IsAsked Told list number
  no_list : (fault : KrlFault) → IsFirstKrlFault list (Some fault) → number ≡ list_number fault
      → AnswersBy IsAsked Told list number
  list_ran_out : IsAsked ⊎ MayLackMemory list → number ≡ no_memory
      → AnswersBy IsAsked Told list number

-- for a blob
abbrev pub Answers : (list blob : List ℕ) → ℤ → Type 0
Answers list blob = AnswersBy (HasSubject blob) (λ entries. AnswersBlob entries blob) list

-- for the key of a line
abbrev pub AnswersOfLine : (list text : List ℕ) → ℤ → Type 0
AnswersOfLine list text = AnswersBy (HasSomeWords text) (λ entries. AnswersLine entries text) list
