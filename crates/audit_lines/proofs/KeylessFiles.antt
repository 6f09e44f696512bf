-- The files that are reported as a whole.
use Rattle.std.proofs.Common.{◌≡◌, ℕ, true, false, List, ◌∷◌, None, refl, sym, ap, ◌∙◌}
use Rattle.std.specs.List.{slice_split}
use Rattle.key_text.specs.Armour.{begins_container}
use Rattle.key_text.specs.Lines.{is_newline}
use Rattle.audit_lines.specs.Keyless.{keyless}
use Rattle.audit_lines.specs.Front.{fronts_of}
use Rattle.audit_lines.specs.Keyless.{keyless_lines}
use Rattle.audit_lines.specs.Outcome.{outcomes_of, plain_lines, read_all}
use Rattle.audit_lines.specs.declared.front.Fronts.{Fronts}

-- the outcomes of a file whose text has these lines
pub split_lines : (kind : Fronts) (text line : List ℕ) (after : List (List ℕ)) → slice_split is_newline text ≡ line ∷ after → plain_lines kind text ≡ outcomes_of kind line ∷ read_all kind after
unfolding plain_lines
split_lines kind text line after split = ap (read_all kind) split

-- a private key file is no such file
pub private_is_not : (name text : List ℕ) → begins_container text ≡ true → None ≡ keyless_lines name text
unfolding keyless_lines
private_is_not name text begins = rw begins refl

-- any other file, by its lines
pub plain_is : (name text line : List ℕ) (kind : Fronts) (after : List (List ℕ)) → begins_container text ≡ false → kind ≡ fronts_of name → slice_split is_newline text ≡ line ∷ after
    → keyless (outcomes_of kind line ∷ read_all kind after) ≡ keyless_lines name text
unfolding keyless_lines
plain_is name text line kind after begins kind_is split =
    let read : plain_lines (fronts_of name) text ≡ outcomes_of kind line ∷ read_all kind after = ap (λ (k : Fronts). plain_lines k text) (sym kind_is) ∙ split_lines kind text line after split in
    rw begins (ap keyless (sym read))
