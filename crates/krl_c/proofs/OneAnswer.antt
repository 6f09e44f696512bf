-- One call has one answer, unless an allocation fails.
use Rattle.krl_c.proofs.Common.{◌∙◌, ◌≡◌, ◌⊎◌, answered, AnswersBlob, AnswersBy, AnswersLine, ap}
use Rattle.krl_c.proofs.Common.{Entry, Err, HasOne, inl, inr, IsSubject, IsSubjectFault}
use Rattle.krl_c.proofs.Common.{line_number, line_ran_out, LineFault, List, list_number}
use Rattle.krl_c.proofs.Common.{list_ran_out, names, no_blob, no_line, no_list, no_memory, of_key}
use Rattle.krl_c.proofs.Common.{Ok, other_names, ran_out, Result, said, Says, spares}
use Rattle.krl_c.proofs.Common.{blob_number, BlobFault, false≢true, Incomparable, IsQuery, IsRefusedBlob, names_number, None, refl, Some, SubjectFault, subst, sym, ℕ, ℤ}
use Rattle.krl_types.specs.Subject.{Subject}
use Rattle.krl_c.specs.Asked.{has_odd_id}
use Rattle.krl_c.specs.declared.asked.BlobFault.TheVariants as blobs
use Rattle.key_text.specs.KeyLine.{IsKeyLine}
use Rattle.key_text.specs.LineFaults.{IsFirstLineFault}
use Rattle.key_text.specs.LineReading.{KeyLine, content}

-- the two are equal, or one of them is `no_memory`
abbrev pub Once : ℤ → ℤ → Type 0
Once one other = (one ≡ other) ⊎ ((one ≡ no_memory) ⊎ (other ≡ no_memory))

-- two numbers of one fault are equal
numbers_same : {F : Type 0} (number : F → ℤ) (one other : ℤ) (fault fault' : F) → fault ≡ fault' → one ≡ number fault → other ≡ number fault' → Once one other
numbers_same number one other fault fault' same e f = inl (e ∙ ap number same ∙ sym f)

said_once : (entries : List Entry) (asked : Subject) (one other : ℤ) → Says entries asked one → Says entries asked other → one ≡ other
said_once entries asked one other (names is e) (names also f) = e ∙ sym f
said_once entries asked one other (names is e) (spares not f) = absurd (not is)
said_once entries asked one other (spares not e) (names is f) = absurd (not is)
said_once entries asked one other (spares not e) (spares also f) = e ∙ sym f

-- ---- a blob, by a reading of it

-- the reading gives each subject and each fault of the blob
pub record ReadsBlob (blob : List ℕ) (read : Result Subject SubjectFault) : Type 0 where
  pub subject : (asked : Subject) → IsSubject blob asked → read ≡ Ok asked
  pub fault : (fault : SubjectFault) → IsSubjectFault blob fault → read ≡ Err fault

module _ (blob : List ℕ) (read : Result Subject SubjectFault) (reads : ReadsBlob blob read) where
  one_subject : (one other : Subject) → IsSubject blob one → IsSubject blob other → other ≡ one
  one_subject one other is also = let left = reads.subject one is in let right = reads.subject other also in cc

  not_refused : (asked : Subject) (fault : BlobFault) → IsQuery blob asked → IsRefusedBlob blob fault → ⊥
  not_refused asked (blobs.Subject fault) is first = let left = reads.subject asked is.subject in let right = reads.fault fault first in absurd cc
  not_refused asked blobs.KeyId is odd =
      false≢true (sym is.whole ∙ (ap (λ (s : Subject). has_odd_id s.cert) (one_subject odd.asked asked odd.subject is.subject) ∙ odd.odd))

  one_fault : (one other : BlobFault) → IsRefusedBlob blob one → IsRefusedBlob blob other → one ≡ other
  one_fault (blobs.Subject fault) (blobs.Subject other) is also =
      let left = reads.fault fault is in let right = reads.fault other also in let same : fault ≡ other = cc in ap (λ (f : SubjectFault). blobs.Subject f) same
  one_fault (blobs.Subject fault) blobs.KeyId is odd = let left = reads.fault fault is in let right = reads.subject odd.asked odd.subject in absurd cc
  one_fault blobs.KeyId (blobs.Subject fault) odd is = let left = reads.fault fault is in let right = reads.subject odd.asked odd.subject in absurd cc
  one_fault blobs.KeyId blobs.KeyId is also = refl

  pub blob_once : (entries : List Entry) (one other : ℤ) → AnswersBlob entries blob one → AnswersBlob entries blob other → Once one other
  blob_once entries one other (said a is says) (said b also tells) =
      inl (said_once entries a one other says (subst (λ (s : Subject). Says entries s other) (one_subject a b is.subject also.subject) tells))
  blob_once entries one other (said a is says) (no_blob fault first e) = absurd (not_refused a fault is first)
  blob_once entries one other (no_blob fault first e) (said a is says) = absurd (not_refused a fault is first)
  blob_once entries one other (no_blob fault first e) (no_blob fault' first' f) = numbers_same blob_number one other fault fault' (one_fault fault fault' first first') e f
  blob_once entries one other (ran_out asked e) tells = inr (inl e)
  blob_once entries one other says (ran_out asked f) = inr (inr f)

-- for a line, by a reading of it
pub line_once : (text : List ℕ) (read : Result KeyLine LineFault) → ((word blob comment : List ℕ) → IsKeyLine text word blob comment → read ≡ Ok (content word blob comment))
    → ((fault : LineFault) → IsFirstLineFault text fault → read ≡ Err fault)
    → (entries : List Entry)
    → ((word blob comment : List ℕ) → IsKeyLine text word blob comment → (one other : ℤ) → AnswersBlob entries blob one → AnswersBlob entries blob other → Once one other)
    → (one other : ℤ) → AnswersLine entries text one → AnswersLine entries text other → Once one other
line_once text read of_line of_fault entries once one other (of_key w b c is says) (of_key w' b' c' also tells) =
    let left = of_line w b c is in
    let right = of_line w' b' c' also in
    let both : content w' b' c' ≡ content w b c = cc in
    let same : b' ≡ b = ap (λ (line : KeyLine). line.blob) both in
    once w b c is one other says (subst (λ (blob : List ℕ). AnswersBlob entries blob other) same tells)
line_once text read of_line of_fault entries once one other (of_key w b c is says) (no_line fault first e) = let left = of_line w b c is in let right = of_fault fault first in absurd (cc)
line_once text read of_line of_fault entries once one other (no_line fault first e) (of_key w b c is says) = let left = of_line w b c is in let right = of_fault fault first in absurd (cc)
line_once text read of_line of_fault entries once one other (no_line fault first e) (no_line fault' first' f) =
    let left = of_fault fault first in
    let right = of_fault fault' first' in
    let same : fault ≡ fault' = cc in
    numbers_same line_number one other fault fault' same e f
line_once text read of_line of_fault entries once one other (line_ran_out words e) tells = inr (inl e)
line_once text read of_line of_fault entries once one other says (line_ran_out words f) = inr (inr f)

-- ---- for a list

none_is : (why : Incomparable) → None ≡ Some why → ⊥
none_is why e = cc

some_same : (one other : Incomparable) → Some one ≡ Some other → one ≡ other
some_same one other e = cc

pub list_once : {IsAsked : Type 0} {Told : List Entry → ℤ → Type 0} (list : List ℕ) → HasOne list → ((entries : List Entry) (one other : ℤ) → Told entries one → Told entries other → Once one other)
    → (one other : ℤ) → AnswersBy IsAsked Told list one → AnswersBy IsAsked Told list other → Once one other
list_once {Told = Told} list has once one other (answered these is says) (answered others also tells) =
    once these one other says (subst (λ (es : List Entry). Told es other) (sym (has.entries these others is.is also.is)) tells)
list_once list has once one other (answered these is says) (other_names why odd e) = absurd (none_is why (has.names these odd.entries is.is odd.is None (Some why) is.names odd.names))
list_once list has once one other (answered these is says) (no_list fault first e) = absurd (has.none these fault is.is first)
list_once list has once one other (other_names why odd e) (answered these is says) = absurd (none_is why (has.names these odd.entries is.is odd.is None (Some why) is.names odd.names))
list_once list has once one other (other_names why odd e) (other_names why' also f) =
    numbers_same names_number one other why why' (some_same why why' (has.names odd.entries also.entries odd.is also.is (Some why) (Some why') odd.names also.names)) e f
list_once list has once one other (other_names why odd e) (no_list fault first f) = absurd (has.none odd.entries fault odd.is first)
list_once list has once one other (no_list fault first e) (answered these is says) = absurd (has.none these fault is.is first)
list_once list has once one other (no_list fault first e) (other_names why odd f) = absurd (has.none odd.entries fault odd.is first)
list_once list has once one other (no_list fault first e) (no_list fault' first' f) = numbers_same list_number one other fault fault' (has.fault fault fault' first first') e f
list_once list has once one other (list_ran_out why e) tells = inr (inl e)
list_once list has once one other says (list_ran_out why f) = inr (inr f)
