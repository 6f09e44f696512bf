-- Reading a line with a marker.
use Rattle.std.proofs.Common.{◌≡◌, ℕ, List, [], ◌++◌, Option, Some, Ok, refl, sym, ap, ◌∙◌}
use Rattle.std.specs.Prelude.{is_some, if◌then◌else◌}
use Rattle.std.specs.List.{AllPass}
use Rattle.std.proofs.lemmas.List.Sums.{AllPass-from_list_all}
use Rattle.key_text.specs.Blanks.{AreBlanks, BeginsWithNoBlank, before_ending, first_word, is_blank, trimmed}
use Rattle.key_text.specs.LineReading.{after_word, content, content_at, host_line_at, host_part}
use Rattle.key_text.specs.Marker.{IsMarkedLine, marked_line_at, marker_in, marker_of, marker_word, unmarked}
use Rattle.key_text.specs.declared.marker.Marker.{Marker}
use Rattle.key_text.specs.declared.marker.Marker.TheVariants as markers
use Rattle.key_text.proofs.HostLines.{host_line_again}
use Rattle.key_text.proofs.LineWords.{blanks_front, blanks_stop, fails_bare, not_blank, word_front}

marker_passes : (marker : Marker) → AllPass not_blank (marker_word marker)
marker_passes markers.Authority = AllPass-from_list_all not_blank (marker_word markers.Authority) refl
marker_passes markers.Revoked = AllPass-from_list_all not_blank (marker_word markers.Revoked) refl

marker_is : (marker : Marker) → marker_in (marker_word marker) ≡ Some marker
marker_is markers.Authority = refl
marker_is markers.Revoked = refl

-- blanks before a line do not count
blanks_skipped : (blanks part : List ℕ) → AreBlanks blanks → BeginsWithNoBlank part → host_line_at (blanks ++ part) ≡ host_line_at part
unfolding host_line_at trimmed
blanks_skipped blanks part are bare =
    ap (λ (text : List ℕ). content_at (host_part (before_ending text)))
    (blanks_front blanks part are.each (fails_bare part bare) ∙ sym (blanks_front [] part (AllPass-from_list_all is_blank [] refl) (fails_bare part bare)))

pub marked_is : (text : List ℕ) (marker : Marker) (word blob comment : List ℕ) → IsMarkedLine text marker word blob comment → marker_of text ≡ Some marker
unfolding marker_of
marked_is text marker word blob comment is =
    let front = word_front (marker_word marker) (is.blanks ++ is.part) (marker_passes marker) (blanks_stop is.blanks is.part is.are_blanks) in
    ap (λ (t : List ℕ). marker_in (first_word t)) is.spelled ∙ ap marker_in front.0 ∙ marker_is marker

pub marked_again : (text : List ℕ) (marker : Marker) (word blob comment : List ℕ) → IsMarkedLine text marker word blob comment → marked_line_at text ≡ Ok (content word blob comment)
unfolding unmarked
marked_again text marker word blob comment is =
    let front = word_front (marker_word marker) (is.blanks ++ is.part) (marker_passes marker) (blanks_stop is.blanks is.part is.are_blanks) in
    let rest : after_word (trimmed text) ≡ is.blanks ++ is.part = ap after_word is.spelled ∙ front.1 in
    ap (λ (found : Option Marker). host_line_at (if is_some found then after_word (trimmed text) else text)) (marked_is text marker word blob comment is)
    ∙ ap host_line_at rest ∙ blanks_skipped is.blanks is.part is.are_blanks is.bare ∙ host_line_again is.part word blob comment is.is_line
