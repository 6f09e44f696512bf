-- A file has room for its keys.
use Rattle.std.proofs.Common.{◌≡◌, ℕ, ◌+◌, ◌*◌, ◌≤◌, List, [], ◌∷◌, length, Result, Ok, Err, inl, inr, refl, arith}
use Rattle.std.specs.List.{concat, slice_split}
use Rattle.std.proofs.lemmas.Bool.{cases_Bool}
use Rattle.std.proofs.lemmas.List.{length-append}
use Rattle.std.proofs.lemmas.List.Sums.{sum_by-cons}
use Rattle.ssh_wire.specs.Wire.{IsBytes}
use Rattle.key_text.specs.ContainerReading.{Opened, private_at}
use Rattle.key_text.specs.KeyFile.{has_key}
use Rattle.key_text.specs.LineReading.{KeyLine, line_at}
use Rattle.key_text.specs.Lines.{is_newline}
use Rattle.key_text.specs.declared.line_fault.LineFault.{LineFault}
use Rattle.key_text.specs.declared.private_fault.PrivateFault.{PrivateFault}
use Rattle.key_text.proofs.ArmourLaws.{AllBytes, split_bytes}
use Rattle.key_text.proofs.LineLaws.{line_found}
use Rattle.key_text.proofs.PrivateLaws.{private_found}
use Rattle.key_text.proofs.Sizes.{container_room, line_room, split_room}
use Rattle.run_faults.specs.Keys.{key_in, key_of_container, key_of_line, keys_from}
use Rattle.run_faults.specs.Sizes.{key_room, keys_room}

line_key_room : (name : List ℕ) (number : ℕ) (line : List ℕ) (read : Result KeyLine LineFault) → IsBytes line → line_at line ≡ read
    → key_room (key_of_line name number read) ≤ 3 * length line
line_key_room name number line (Err fault) fits e = omega arith
line_key_room name number line (Ok content) fits e =
    line_room line content.word content.blob content.comment (line_found line content fits e)

lines_room : (name : List ℕ) (number : ℕ) (lines : List (List ℕ)) → AllBytes lines → keys_room (keys_from name number lines) ≤ 3 * length (concat lines)
unfolding key_in AllBytes
lines_room name number [] all = omega arith
lines_room name number (line ∷ lines) all =
    let later = lines_room name (number + 1) lines all.1 in
    elim (cases_Bool (has_key line)) [
      | inl has ↦ rw has (
          omega (
            arith,
            line_key_room name number line (line_at line) all.0 refl,
            later,
            length-append line (concat lines),
            sum_by-cons key_room (key_of_line name number (line_at line)) (keys_from name (number + 1) lines),
          )
          )
      | inr none ↦ rw none (omega (arith, later, length-append line (concat lines)))
    ]

-- All keys of the lines of a text together take at most its bytes.
pub text_lines_room : (name text : List ℕ) → IsBytes text → keys_room (keys_from name 1 (slice_split is_newline text)) ≤ 3 * length text
text_lines_room name text fits = omega (arith, lines_room name 1 (slice_split is_newline text) (split_bytes text fits), split_room text)

-- The key of a container also takes at most its bytes.
pub text_key_room : (name text : List ℕ) → IsBytes text → keys_room (key_of_container name (private_at text) ∷ []) ≤ 3 * length text
text_key_room name text fits = by (private_at text) refl
  where
    by : (read : Result Opened PrivateFault) → private_at text ≡ read → keys_room (key_of_container name read ∷ []) ≤ 3 * length text
    by (Err fault) e = omega arith
    by (Ok opened) e = omega (arith, container_room text opened.blob opened.comment (private_found text opened fits e))
