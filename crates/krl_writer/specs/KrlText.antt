-- The text of a written list, and the sections that it spells.
use Rattle.std.specs.Prelude.{◌≡◌, ℕ, ◌+◌, ◌*◌, List, [], ◌∷◌, ◌++◌, take, drop}
use Rattle.serial_set.specs.declared.span.Span.{Span}
use Rattle.ssh_wire.specs.Rows.{table_text}
use Rattle.ssh_wire.specs.Wire.{string, strings}
use Rattle.krl_format.specs.declared.header.Header.{Header}
use Rattle.krl_plan.specs.declared.group.Sort.{Sort}
use Rattle.krl_plan.specs.declared.group.Sort.TheVariants as sorts
use Rattle.krl_plan.specs.declared.group.Group.{Group}
use Rattle.krl_entries.specs.Revocations.{Revocations, Section}
use Rattle.krl_format.specs.Krl.{SpelledSection, Certificates, Keys, Sha1s, Sha256s, Subsection}
use Rattle.krl_format.specs.Field.{magic_number}
use Rattle.krl_format.specs.Section.{section_row, subsection_row}
use Rattle.krl_format.specs.declared.section.Section.TheVariants as section_kinds
use Rattle.krl_format.specs.declared.section.Subsection.TheVariants as subsection_kinds
use Rattle.krl_format.specs.Krl.{Serials, Range, Bitmap, Ids, header_fields}
use Rattle.krl_plan.specs.Plan.{IsLeastPlan, reach}
use Rattle.krl_plan.specs.Written.{bitmap_size, bits_of, first_of, plan_text, serials_of}

-- ---- type bytes

abbrev pub certificates_type : ℕ
certificates_type = (section_row section_kinds.Certificates).type_byte

abbrev pub keys_type : ℕ
keys_type = (section_row section_kinds.Keys).type_byte

abbrev pub sha1s_type : ℕ
sha1s_type = (section_row section_kinds.Sha1s).type_byte

abbrev pub sha256s_type : ℕ
sha256s_type = (section_row section_kinds.Sha256s).type_byte

abbrev pub ids_type : ℕ
ids_type = (subsection_row subsection_kinds.Ids).type_byte

-- ---- texts

-- a type byte and strings as one string, if there are any
abbrev pub listed_text : ℕ → List (List ℕ) → List ℕ
listed_text type_byte [] = []
listed_text type_byte (text ∷ texts) = type_byte ∷ string (strings (text ∷ texts))

-- the content of the section of a certificate authority
abbrev pub authority_content : List Group → Section → List ℕ
authority_content plan listed =
    string listed.authority
    ++ (string [] ++ (plan_text listed.spans plan ++ listed_text ids_type listed.ids))

-- the section of an authority
abbrev pub authority_text : List Group → Section → List ℕ
authority_text plan listed = certificates_type ∷ string (authority_content plan listed)

-- the sections of authorities, with a plan for each
abbrev pub authorities_text : List (List Group) → List Section → List ℕ
authorities_text [] listed = []
authorities_text (plan ∷ plans) [] = []
authorities_text (plan ∷ plans) (first ∷ listed) =
    authority_text plan first ++ authorities_text plans listed

-- the sections of keys and hashes
abbrev pub texts_text : Revocations → List ℕ
texts_text r =
    listed_text keys_type r.keys
    ++ (listed_text sha1s_type r.sha1s ++ listed_text sha256s_type r.sha256s)

-- all sections
abbrev pub sections_text : List (List Group) → Revocations → List ℕ
sections_text plans r = authorities_text plans r.sections ++ texts_text r

-- The values of the header's fields. The flags are 0, and the reserved string is empty.
abbrev pub header_values : Header → List (List ℕ)
header_values header =
    (magic_number ∷ []) ∷ (1 ∷ []) ∷ (header.version ∷ []) ∷ (header.date ∷ []) ∷ (0 ∷ []) ∷ []
    ∷ header.comment ∷ []

abbrev pub header_text : Header → List ℕ
header_text header = table_text header_fields (header_values header)

-- the list with a header and the stored revocations, with a plan for each authority
abbrev pub text_of : Header → List (List Group) → Revocations → List ℕ
text_of header plans r = header_text header ++ sections_text plans r

-- there is a plan of each authority's runs
abbrev pub EachPlan : (List Span → List Group → Type 0) → List (List Group) → List Section → Type 0
EachPlan Holds [] [] = Unit {0}
EachPlan Holds [] (first ∷ listed) = ⊥
EachPlan Holds (plan ∷ plans) [] = ⊥
EachPlan Holds (plan ∷ plans) (first ∷ listed) =
    Holds first.spans plan × EachPlan Holds plans listed

-- The text is the list that is written: the serials of each authority by the least plan of its
-- runs.
pub record IsKrlText (header : Header) (r : Revocations) (text : List ℕ) : Type 0 where
  pub plans : List (List Group)
  pub least : EachPlan IsLeastPlan plans r.sections
  pub text_is : text ≡ text_of header plans r

-- ---- sections

-- the subsection that names a group's runs
abbrev pub group_subsection : Sort → List Span → Subsection
group_subsection sorts.Serials runs = Serials (serials_of runs)
group_subsection sorts.Range runs = Range (first_of runs) (first_of runs + reach runs)
group_subsection sorts.Bitmap runs =
    Bitmap (first_of runs) (bits_of runs (first_of runs) (8 * bitmap_size runs))

abbrev pub plan_subsections : List Span → List Group → List Subsection
plan_subsections runs [] = []
plan_subsections runs (group ∷ groups) =
    group_subsection group.sort (take group.count runs)
    ∷ plan_subsections (drop group.count runs) groups

-- the item of texts, if there are any
abbrev pub listed_as : {X : Type 0} → (List (List ℕ) → X) → List (List ℕ) → List X
listed_as item [] = []
listed_as item (text ∷ texts) = item (text ∷ texts) ∷ []

abbrev pub authority_sections : List (List Group) → List Section → List SpelledSection
authority_sections [] listed = []
authority_sections (plan ∷ plans) [] = []
authority_sections (plan ∷ plans) (first ∷ listed) =
    Certificates first.authority (plan_subsections first.spans plan ++ listed_as Ids first.ids)
    ∷ authority_sections plans listed

-- the sections that the text spells
abbrev pub sections_of : List (List Group) → Revocations → List SpelledSection
sections_of plans r =
    authority_sections plans r.sections
    ++ (listed_as Keys r.keys ++ (listed_as Sha1s r.sha1s ++ listed_as Sha256s r.sha256s))
