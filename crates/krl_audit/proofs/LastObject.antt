-- The last object is nested two deep, and its numbers are counts.
use Rattle.std.proofs.Common.{ℕ, List, [], ◌∷◌, ◌++◌, Option, None, Some, codes, arith}
use Rattle.audit_text.specs.Objects.{label_fields}
use Rattle.cert_listing.specs.Time.{instant_text}
use Rattle.hex.specs.Hex.{encode_lower}
use Rattle.json_lines.specs.Field.{word_field}
use Rattle.json_lines.proofs.Shallow.{FieldsFit, Fits, deeper, digits_fit, fields_fit, number_fits, object_fits, text_fits, word_fits}
use Rattle.krl_audit.specs.Done.{AreCounts, count_fields, done_object, list_facts, list_field, stated_fields, version_fields}
use Rattle.krl_audit.specs.declared.counts.Counts.{Counts}
use Rattle.krl_audit.specs.declared.done.FileCounts.{FileCounts}
use Rattle.krl_audit.specs.declared.done.ListFacts.{ListFacts}
use Rattle.krl_format.specs.declared.header.Stated.{Stated}

version_fit : (stated : Stated) → FieldsFit 0 (version_fields stated)
version_fit stated = (digits_fit 0 (codes "version") stated.version, (text_fits 0 (codes "generated") (instant_text stated.generated), tt))

stated_fit : (stated : Option Stated) → FieldsFit 0 (stated_fields stated)
stated_fit None = tt
stated_fit (Some stated) = version_fit stated

facts_fit : (list : ListFacts) → FieldsFit 0 (list_facts list)
facts_fit list = (
  word_fits 0 (codes "file") list.name.now,
  fields_fit 0 (stated_fields list.stated) (word_field (codes "sha256") (encode_lower list.sha256) ∷ []) (stated_fit list.stated) (word_fits 0 (codes "sha256") (encode_lower list.sha256), tt),
)

list_field_fits : (list : ListFacts) → FieldsFit 2 (list_field list ∷ [])
list_field_fits list = (deeper 1 2 (list_field list).value (omega arith) (object_fits 0 (list_facts list) (facts_fit list)), tt)

counts_fit : (files : FileCounts) (counts : Counts) → AreCounts files counts → FieldsFit 2 (count_fields files counts)
counts_fit files counts are = (
  number_fits 2 (codes "files") files.audited are.audited,
  (
    number_fits 2 (codes "keys") counts.keys are.keys,
    (
      number_fits 2 (codes "revoked") counts.revoked are.revoked,
      (
        number_fits 2 (codes "unread") counts.unread are.unread,
        (
          number_fits 2 (codes "skipped") files.skipped are.skipped,
          (
            number_fits 2 (codes "excluded") files.excluded are.excluded,
            (
              number_fits 2 (codes "elsewhere") files.elsewhere are.elsewhere,
              (number_fits 2 (codes "same") files.same are.same, tt),
            ),
          ),
        ),
      ),
    ),
  ),
)

label_fit : (label : Option (List ℕ)) → FieldsFit 2 (label_fields label)
label_fit None = tt
label_fit (Some label) = (word_fits 2 (codes "label") label, tt)

pub done_object_fits : (label : Option (List ℕ)) (files : FileCounts) (counts : Counts) (list : ListFacts) → AreCounts files counts → Fits 3 (done_object label files counts list)
done_object_fits label files counts list are =
    object_fits 2 (label_fields label ++ (word_field (codes "status") (codes "done") ∷ (count_fields files counts ++ list_field list ∷ []))) (
    fields_fit 2 (label_fields label) (word_field (codes "status") (codes "done") ∷ (count_fields files counts ++ list_field list ∷ [])) (label_fit label) (
      word_fits 2 (codes "status") (codes "done"),
      fields_fit 2 (count_fields files counts) (list_field list ∷ []) (counts_fit files counts are) (list_field_fits list),
    )
    )
