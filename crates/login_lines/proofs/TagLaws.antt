-- Where the message of a line begins.
use Rattle.std.proofs.Common.{◌≡◌, ℕ, ◌+◌, ◌-◌, ◌<◌, ◌==◌, Bool, true, false, List, [], ◌∷◌, ◌++◌, length, take, codes}
use Rattle.std.proofs.Common.{Option, Some, refl, sym, ap, subst, ◌∙◌, arith, inl, inr}
use Rattle.std.specs.Option.{option_or}
use Rattle.std.proofs.lemmas.List.{append_assoc, append_cancel_right, length-append, take_at}
use Rattle.login_lines.specs.declared.opening.Opening.{Opening}
use Rattle.login_lines.specs.declared.words.Class.TheVariants.{Digit}
use Rattle.login_lines.specs.Messages.{after_tag, message_of, prefix_of, tag_here, tagged_at}
use Rattle.login_lines.specs.Openings.{BeginsWith, opening_at, opening_words}
use Rattle.login_lines.specs.Spelling.{EndsWord, HasFirstTag, HasTag, IsProgram, IsTag, sshd, sshd_session}
use Rattle.login_lines.specs.Words.{IsWordOf, after, span_at}
use Rattle.login_lines.proofs.OpeningLaws.{either_some, none_opens, opening_again}
use Rattle.login_lines.proofs.Parts.{after_found, bind_some, option_cases, some_is, span_again, span_found}

-- ---- a tag

regroup_tag : (program digits m : List ℕ)
    → (program ++ (digits ++ codes "]: ")) ++ m ≡ program ++ (digits ++ (codes "]: " ++ m))
regroup_tag program digits m = simp append_assoc refl

tag_found : (text m : List ℕ) → after_tag text ≡ Some m → (tag : List ℕ) × IsTag tag × (text ≡ tag ++ m)
unfolding after_tag
tag_found text m e =
    let a = bind_some (option_or (after (codes "sshd[") text) (after (codes "sshd-session[") text)) _ m e in
    let n = bind_some (span_at Digit (codes "]: ") a.0) _ m a.2 in
    let span = span_found Digit (codes "]: ") a.0 n.0 n.1 in
    let behind : a.0 ≡ n.0.0 ++ (codes "]: " ++ m) = span.1 ∙ ap (λ (xs : List ℕ). n.0.0 ++ (codes "]: " ++ xs)) (some_is n.0.1 m n.2) in
    elim (either_some (after (codes "sshd[") text) (after (codes "sshd-session[") text) a.0 a.1) [
      | inl old ↦ joined (codes "sshd[") n.0.0 a.0 sshd span.0 (after_found (codes "sshd[") text a.0 old) behind
      | inr new ↦ joined (codes "sshd-session[") n.0.0 a.0 sshd_session span.0 (after_found (codes "sshd-session[") text a.0 new) behind
    ]
  where
    joined : (program digits rest : List ℕ) → IsProgram program → IsWordOf Digit digits → text ≡ program ++ rest
        → rest ≡ digits ++ (codes "]: " ++ m)
        → (tag : List ℕ) × IsTag tag × (text ≡ tag ++ m)
    joined program digits rest is word a b = (
      program ++ (digits ++ codes "]: "),
      record { program = program; is_program = is; digits = digits; numbered = word; spelled = refl },
      a ∙ ap (λ (xs : List ℕ). program ++ xs) b ∙ sym (regroup_tag program digits m),
    )

program_read : (program rest : List ℕ) → IsProgram program
    → option_or (after (codes "sshd[") (program ++ rest)) (after (codes "sshd-session[") (program ++ rest)) ≡ Some rest
unfolding after
program_read program rest sshd = refl
program_read program rest sshd_session = refl

tag_again : (tag m : List ℕ) → IsTag tag → after_tag (tag ++ m) ≡ Some m
unfolding after_tag
tag_again tag m is =
    let behind : List ℕ = is.digits ++ (codes "]: " ++ m) in
    ap after_tag (ap (λ (xs : List ℕ). xs ++ m) is.spelled ∙ regroup_tag is.program is.digits m)
    ∙ rw (program_read is.program behind is.is_program, span_again Digit is.digits (codes "]: ") m is.numbered refl) refl

-- a tag at the front, if one may be there
here_found : (starts : Bool) (text m : List ℕ) → tag_here starts text ≡ Some m
    → (tag : List ℕ) × HasTag starts text [] tag m
here_found false text m e = absurd cc
here_found true text m e = let t = tag_found text m e in (t.0, record { is_tag = t.1; at_word = refl; spelled = t.2 })

later_tag : (starts : Bool) (byte : ℕ) (rest b t m : List ℕ) → HasTag (byte == 32) rest b t m
    → HasTag starts (byte ∷ rest) (byte ∷ b) t m
later_tag starts byte rest b t m has =
    record { is_tag = has.is_tag; at_word = has.at_word; spelled = ap (λ (xs : List ℕ). byte ∷ xs) has.spelled }

first_tag_read : (starts : Bool) (line before tag message : List ℕ) → HasFirstTag starts line before tag message
    → tagged_at starts line ≡ Some message
unfolding tagged_at
first_tag_read starts line [] tag message is = front starts line is.has.at_word is.has.spelled
  where
    some_here : (starts : Bool) (line : List ℕ) → 0 < length line → tag_here starts line ≡ Some message
        → tagged_at starts line ≡ Some message
    some_here starts [] some e = absurd (omega arith)
    some_here starts (byte ∷ rest) some e = ap (λ (o : Option (List ℕ)). option_or o (tagged_at (byte == 32) rest)) e

    long : 0 < length tag
    long = tag_long is.has.is_tag.program is.has.is_tag.digits is.has.is_tag.is_program is.has.is_tag.spelled
      where
        tag_long : (program digits : List ℕ) → IsProgram program
            → tag ≡ program ++ (digits ++ codes "]: ") → 0 < length tag
        tag_long program digits sshd e = omega (arith, ap length e)
        tag_long program digits sshd_session e = omega (arith, ap length e)

    front : (starts : Bool) (line : List ℕ) → starts ≡ true → line ≡ tag ++ message
        → tagged_at starts line ≡ Some message
    front starts line may e =
        let here : tag_here starts line ≡ Some message =
        rw may (ap after_tag e ∙ tag_again tag message is.has.is_tag) in
        some_here starts line (omega (arith, long, ap length e, length-append tag message)) here
first_tag_read starts [] (x ∷ before) tag message is = absurd (let h = is.has.spelled in cc)
first_tag_read starts (byte ∷ rest) (x ∷ before) tag message is = elim (option_cases (tag_here starts (byte ∷ rest))) [
  | inr found ↦ absurd (let here = here_found starts (byte ∷ rest) found.0 found.1 in omega (arith, is.first [] here.0 found.0 here.1))
  | inl none ↦
      let heads : byte ≡ x = let h = is.has.spelled in cc in
      let tails : rest ≡ before ++ (tag ++ message) = let h = is.has.spelled in cc in
      let at : EndsWord (byte == 32) before = subst (λ (k : ℕ). EndsWord (k == 32) before) (sym heads) is.has.at_word in
      let has : HasTag (byte == 32) rest before tag message =
      record { is_tag = is.has.is_tag; at_word = at; spelled = tails } in
      let first : HasFirstTag (byte == 32) rest before tag message =
      record { has = has; first = λ b t m other. omega (arith, is.first (byte ∷ b) t m (later_tag starts byte rest b t m other)) } in
      ap (λ (o : Option (List ℕ)). option_or o (tagged_at (byte == 32) rest)) none
      ∙ first_tag_read (byte == 32) rest before tag message first
]

-- what is read is behind a tag
tagged_found : (starts : Bool) (line m : List ℕ) → tagged_at starts line ≡ Some m
    → (before tag : List ℕ) × HasTag starts line before tag m
unfolding tagged_at
tagged_found starts [] m e = absurd cc
tagged_found starts (byte ∷ rest) m e = elim (option_cases (tag_here starts (byte ∷ rest))) [
  | inl none ↦
      let later = tagged_found (byte == 32) rest m (rw none at e) in
      (byte ∷ later.0, later.1, later_tag starts byte rest later.0 later.1 m later.2)
  | inr found ↦
      let here = here_found starts (byte ∷ rest) m (found.1 ∙ (rw found.1 at e)) in
      ([], here.0, here.1)
]

-- ---- the message

message_suffix : (line : List ℕ) → (front : List ℕ) × (line ≡ front ++ message_of line)
unfolding message_of
message_suffix line = elim (option_cases (opening_at line)) [
  | inr opens ↦ ([], sym (rw opens.1 refl))
  | inl other ↦ elim (option_cases (tagged_at true line)) [
    | inl none ↦ ([], sym (rw (other, none) refl))
    | inr found ↦
        let t = tagged_found true line found.0 found.1 in
        (t.0 ++ t.1, rw (other, found.1) (t.2.spelled ∙ sym (append_assoc t.0 t.1 found.0)))
  ]
]

-- a line is its prefix and its message
pub line_parts : (line : List ℕ) → line ≡ prefix_of line ++ message_of line
unfolding prefix_of
line_parts line =
    let a = message_suffix line in
    let size : length line ≡ length a.0 + length (message_of line) =
    ap length a.1 ∙ length-append a.0 (message_of line) in
    let same : take (length line - length (message_of line)) line ≡ a.0 =
    ap (take (length line - length (message_of line))) a.1
    ∙ take_at a.0 (message_of line) (length line - length (message_of line)) (omega (arith, size)) in
    a.1 ∙ ap (λ (xs : List ℕ). xs ++ message_of line) (sym same)

pub bare_message : (line : List ℕ) (opening : Opening) → BeginsWith line (opening_words opening)
    → message_of line ≡ line
unfolding message_of
bare_message line opening begins = rw (opening_again line opening begins) refl

pub untagged_message : (line : List ℕ) → ((before tag message : List ℕ) → ¬ HasTag true line before tag message)
    → message_of line ≡ line
unfolding message_of
untagged_message line none = elim (option_cases (opening_at line)) [
  | inr opens ↦ rw opens.1 refl
  | inl other ↦ elim (option_cases (tagged_at true line)) [
    | inl untagged ↦ rw (other, untagged) refl
    | inr found ↦ absurd (let t = tagged_found true line found.0 found.1 in none t.0 t.1 found.0 t.2)
  ]
]

tagged_message : (line message : List ℕ) → ((opening : Opening) → ¬ BeginsWith line (opening_words opening))
    → tagged_at true line ≡ Some message → message_of line ≡ message
unfolding message_of
tagged_message line message other tagged = rw (none_opens line other, tagged) refl

pub behind_first_tag : (line before tag message : List ℕ)
    → ((opening : Opening) → ¬ BeginsWith line (opening_words opening)) → HasFirstTag true line before tag message
    → (message_of line ≡ message) × (prefix_of line ≡ before ++ tag)
behind_first_tag line before tag message other is =
    let same = tagged_message line message other (first_tag_read true line before tag message is) in
    let parts : prefix_of line ++ message ≡ (before ++ tag) ++ message =
    sym (ap (λ (xs : List ℕ). prefix_of line ++ xs) same) ∙ sym (line_parts line) ∙ is.has.spelled
    ∙ sym (append_assoc before tag message) in
    (same, append_cancel_right (prefix_of line) (before ++ tag) message parts)
