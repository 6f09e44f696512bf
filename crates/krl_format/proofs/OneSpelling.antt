-- One header and one list of sections spell a text.
use Rattle.krl_format.proofs.Common.{[], ◌++◌, ◌+◌, ◌<◌, ◌^◌, ◌∙◌, ◌∷◌, ◌≡◌, AllByRecursion, ap}
use Rattle.krl_format.proofs.Common.{append-nil, append_assoc, append_cancel_left, arith}
use Rattle.krl_format.proofs.Common.{authority_fields, Bitmap, Certificates, Extension, Header}
use Rattle.krl_format.proofs.Common.{header_fields, header_of, Ids, Keys, KrlFault, table_more}
use Rattle.krl_format.proofs.Common.{BeginsWithTable, length, length-append, length-number, length-numbers}
use Rattle.krl_format.proofs.Common.{length-string, List, number, number_of-number}
use Rattle.krl_format.proofs.Common.{number_of, numbers_text, ok_is, Range, refl, Serials, Sha1s}
use Rattle.krl_format.proofs.Common.{Sha256s, Signature, signature_fields, slice_index_or}
use Rattle.krl_format.proofs.Common.{SpelledSection, Spells, SpellsBitmap, SpellsCertificates}
use Rattle.krl_format.proofs.Common.{SpellsContent, SpellsEach, SpellsSection, SpellsSubsection, Row}
use Rattle.krl_format.proofs.Common.{string, strings, Subsection, subsection_type, SubsectionContent}
use Rattle.krl_format.proofs.Common.{SubsectionExtension, subst, sym, ℕ}
use Rattle.ssh_wire.specs.Rows.{table_at}
use Rattle.ssh_wire.specs.declared.fault.WireFault.{WireFault}
use Rattle.ssh_wire.proofs.RowLaws.{table_again}
use Rattle.krl_format.proofs.Common.{section_row, signature_type}
use Rattle.krl_types.specs.declared.krl_fault.KrlFault.TheVariants as faults
use Rattle.krl_format.specs.declared.section.Section.TheVariants as section_kinds
use Rattle.krl_format.specs.Krl.{SpellsSignature}
use Rattle.krl_format.proofs.Fronts.{append_same}

-- ---- fields

same_number8 : (m n : ℕ) (x y : List ℕ) → m < 2 ^ 64 → n < 2 ^ 64 → number 8 m ++ x ≡ number 8 n ++ y → (m ≡ n) × (x ≡ y)
same_number8 m n x y fits fits' e =
    let s = append_same (number 8 m) (number 8 n) x y (length-number 8 m ∙ sym (length-number 8 n)) e in
    (sym (number_of-number 8 m fits) ∙ ap number_of s.0 ∙ number_of-number 8 n fits', s.1)

same_string : (s t x y : List ℕ) → length s < 2 ^ 32 → length t < 2 ^ 32 → string s ++ x ≡ string t ++ y → (s ≡ t) × (x ≡ y)
unfolding string
same_string s t x y fits fits' e =
    let whole : number 4 (length s) ++ (s ++ x) ≡ number 4 (length t) ++ (t ++ y) = sym (append_assoc (number 4 (length s)) s x) ∙ e ∙ append_assoc (number 4 (length t)) t y in
    let n = append_same (number 4 (length s)) (number 4 (length t)) (s ++ x) (t ++ y) (length-number 4 (length s) ∙ sym (length-number 4 (length t))) whole in
    let len : length s ≡ length t = sym (number_of-number 4 (length s) fits) ∙ ap number_of n.0 ∙ number_of-number 4 (length t) fits' in
    append_same s t x y len n.1

same_last : (s t : List ℕ) → length s < 2 ^ 32 → length t < 2 ^ 32 → string s ≡ string t → s ≡ t
same_last s t fits fits' e = (same_string s t [] [] fits fits' (append-nil (string s) ∙ e ∙ sym (append-nil (string t)))).0

length-strings : (text : List ℕ) (texts : List (List ℕ)) → length (strings (text ∷ texts)) ≡ 4 + length text + length (strings texts)
length-strings text texts = omega (arith, length-append (string text) (strings texts), length-string text)

same_strings : (texts others : List (List ℕ)) → length (strings texts) < 2 ^ 32 → strings texts ≡ strings others → texts ≡ others
same_strings [] [] fits e = refl
same_strings [] (other ∷ others) fits e = absurd (omega (arith, ap length e, length-strings other others))
same_strings (text ∷ texts) [] fits e = absurd (omega (arith, ap length e, length-strings text texts))
same_strings (text ∷ texts) (other ∷ others) fits e =
    let one = length-strings text texts in
    let two = length-strings other others in
    let s = same_string text other (strings texts) (strings others) (omega arith) (omega (arith, ap length e)) e in
    let more = same_strings texts others (omega arith) s.1 in
    ap (λ (x : List ℕ). x ∷ texts) s.0 ∙ ap (λ (x : List (List ℕ)). other ∷ x) more

same_numbers : (xs ys : List ℕ) → AllByRecursion (λ n. n < 2 ^ 64) xs → AllByRecursion (λ n. n < 2 ^ 64) ys → numbers_text xs ≡ numbers_text ys → xs ≡ ys
same_numbers [] [] a b e = refl
same_numbers [] (y ∷ ys) a b e = absurd (omega (arith, ap length e, length-numbers (y ∷ ys)))
same_numbers (x ∷ xs) [] a b e = absurd (omega (arith, ap length e, length-numbers (x ∷ xs)))
same_numbers (x ∷ xs) (y ∷ ys) a b e =
    let s = same_number8 x y (numbers_text xs) (numbers_text ys) a.0 b.0 e in
    ap (λ (n : ℕ). n ∷ xs) s.0 ∙ ap (λ (ns : List ℕ). y ∷ ns) (same_numbers xs ys a.1 b.1 s.1)

-- ---- items, one after the other

-- two items that are spelled at the front of a text are the same
abbrev OneAtFront : {X : Type 0} → (List ℕ → X → Type 0) → Type 0
OneAtFront {X} Spelling = (x y : X) (text other rest rest' : List ℕ) → Spelling text x → Spelling other y → text ++ rest ≡ other ++ rest' → (x ≡ y) × (rest ≡ rest')

abbrev HasBytes : {X : Type 0} → (List ℕ → X → Type 0) → Type 0
HasBytes {X} Spelling = (x : X) (text : List ℕ) → Spelling text x → 0 < length text

no_item : {X : Type 0} (Spelling : List ℕ → X → Type 0) → HasBytes Spelling → (x : X) (text first rest : List ℕ) → Spelling first x → text ≡ first ++ rest → text ≡ [] → ⊥
no_item Spelling some x text first rest h parts none =
    omega (arith, some x first h, ap length parts, ap length none, length-append first rest)

same_each : {X : Type 0} (Spelling : List ℕ → X → Type 0) → OneAtFront Spelling → HasBytes Spelling → (text other : List ℕ) (xs ys : List X) → text ≡ other → SpellsEach Spelling text xs → SpellsEach Spelling other ys → xs ≡ ys
same_each Spelling one some text other [] [] e h k = refl
same_each Spelling one some text other [] (y ∷ ys) e h k = absurd (no_item Spelling some y other k.0 k.1.0 k.1.1.1 k.1.1.0 (sym e ∙ h))
same_each Spelling one some text other (x ∷ xs) [] e h k = absurd (no_item Spelling some x text h.0 h.1.0 h.1.1.1 h.1.1.0 (e ∙ k))
same_each {X} Spelling one some text other (x ∷ xs) (y ∷ ys) e h k =
    let s = one x y h.0 k.0 h.1.0 k.1.0 h.1.1.1 k.1.1.1 (sym h.1.1.0 ∙ e ∙ k.1.1.0) in
    let more = same_each Spelling one some h.1.0 k.1.0 xs ys s.1 h.1.1.2 k.1.1.2 in
    ap (λ (z : X). z ∷ xs) s.0 ∙ ap (λ (zs : List X). y ∷ zs) more

head_is : (m n : ℕ) (xs ys : List ℕ) → m ∷ xs ≡ n ∷ ys → m ≡ n
head_is m n xs ys e = cc

-- a type byte and a string
content_front : {m n : ℕ} {Content Other : List ℕ → Type 0} {text other : List ℕ} (rest rest' : List ℕ) (h : SpellsContent m Content text) (k : SpellsContent n Other other) → text ++ rest ≡ other ++ rest'
    → (m ≡ n) × (h.content ≡ k.content) × (rest ≡ rest')
content_front {m} {n} rest rest' h k same =
    let whole : m ∷ (string h.content ++ rest) ≡ n ∷ (string k.content ++ rest') = sym (ap (λ (t : List ℕ). t ++ rest) h.spelled) ∙ same ∙ ap (λ (t : List ℕ). t ++ rest') k.spelled in
    let s = append_same (m ∷ []) (n ∷ []) (string h.content ++ rest) (string k.content ++ rest') refl whole in
    let t = same_string h.content k.content rest rest' h.fits k.fits s.1 in
    (head_is m n (string h.content ++ rest) (string k.content ++ rest') whole, t.0, t.1)

-- ---- subsections

bitmap_fits : (content bytes : List ℕ) (offset : ℕ) → content ≡ number 8 offset ++ string bytes → length content < 2 ^ 32 → length bytes < 2 ^ 32
bitmap_fits content bytes offset e fits = omega (arith, ap length e, length-append (number 8 offset) (string bytes), length-string bytes)

same_bitmap : (content : List ℕ) (offset value offset' value' : ℕ) → length content < 2 ^ 32 → SpellsBitmap content offset value → SpellsBitmap content offset' value' → Bitmap offset value ≡ Bitmap offset' value'
same_bitmap content offset value offset' value' fits h k =
    let s = same_number8 offset offset' (string h.bytes) (string k.bytes) h.offset_fits k.offset_fits (sym h.spelled ∙ k.spelled) in
    let bytes = same_last h.bytes k.bytes (bitmap_fits content h.bytes offset h.spelled fits) (bitmap_fits content k.bytes offset' k.spelled fits) s.1 in
    let values : value ≡ value' = h.value_is ∙ ap number_of bytes ∙ sym k.value_is in
    ap (λ (n : ℕ). Bitmap n value) s.0 ∙ ap (λ (n : ℕ). Bitmap offset' n) values

same_content : (x y : Subsection) (content : List ℕ) → length content < 2 ^ 32 → subsection_type x ≡ subsection_type y → SubsectionContent content x → SubsectionContent content y → x ≡ y
same_content (Serials numbers) (Serials others) content fits e h k = ap Serials (same_numbers numbers others h.1 k.1 (sym h.0 ∙ k.0))
same_content (Range min max) (Range min' max') content fits e h k =
    let below : min < 2 ^ 64 = omega (arith, h.1, h.2) in
    let below' : min' < 2 ^ 64 = omega (arith, k.1, k.2) in
    let s = same_number8 min min' (number 8 max) (number 8 max') below below' (sym h.0 ∙ k.0) in
    ap (λ (n : ℕ). Range n max) s.0 ∙ ap (λ (n : ℕ). Range min' n) (sym (number_of-number 8 max h.2) ∙ ap number_of s.1 ∙ number_of-number 8 max' k.2)
same_content (Bitmap offset value) (Bitmap offset' value') content fits e h k = same_bitmap content offset value offset' value' fits h k
same_content (Ids texts) (Ids others) content fits e h k = ap Ids (same_strings texts others (omega (arith, ap length h)) (sym h ∙ k))
same_content SubsectionExtension SubsectionExtension content fits e h k = refl
same_content x y content fits e h k = absurd (omega (arith, e))

one_subsection : OneAtFront SpellsSubsection
one_subsection x y text other rest rest' h k e =
    let t = content_front rest rest' h k e in
    (same_content x y h.content h.fits t.0 h.content_is (subst (λ (c : List ℕ). SubsectionContent c y) (sym t.1) k.content_is), t.2)

some_subsection : HasBytes SpellsSubsection
some_subsection x text h = omega (arith, ap length h.spelled)

-- ---- sections

-- the values of a table, and the bytes after it
one_row : (rows : List (Row KrlFault)) (bytes : List ℕ) (values others : List (List ℕ)) (rest rest' : List ℕ) → BeginsWithTable rows [] bytes values rest → BeginsWithTable rows [] bytes others rest' → (values ≡ others) × (rest ≡ rest')
one_row rows bytes values others rest rest' h k =
    let unread = λ (why : WireFault). faults.Length in
    let same : (values, rest) ≡ (others, rest') =
    ok_is (values, rest) (others, rest') (table_at unread rows [] bytes) (table_again unread rows [] bytes values rest h) (table_again unread rows [] bytes others rest' k) in
    (ap (λ (p : List (List ℕ) × List ℕ). p.0) same, ap (λ (p : List (List ℕ) × List ℕ). p.1) same)

same_certificates : (content authority authority' : List ℕ) (subs subs' : List Subsection) → SpellsCertificates content authority subs → SpellsCertificates content authority' subs'
    → Certificates authority subs ≡ Certificates authority' subs'
same_certificates content authority authority' subs subs' h k =
    let row = one_row authority_fields content h.values k.values h.body k.body h.fields k.fields in
    let same : authority ≡ authority' = sym h.authority_is ∙ ap (λ (values : List (List ℕ)). slice_index_or values 0 []) row.0 ∙ k.authority_is in
    let more = same_each SpellsSubsection one_subsection some_subsection h.body k.body subs subs' row.1 h.subsections_are k.subsections_are in
    ap (λ (a : List ℕ). Certificates a subs) same ∙ ap (λ (xs : List Subsection). Certificates authority' xs) more

abbrev pub section_type : SpelledSection → ℕ
section_type (Certificates authority subs) = (section_row section_kinds.Certificates).type_byte
section_type (Keys blobs) = (section_row section_kinds.Keys).type_byte
section_type (Sha1s hashes) = (section_row section_kinds.Sha1s).type_byte
section_type (Sha256s hashes) = (section_row section_kinds.Sha256s).type_byte
section_type Signature = signature_type
section_type Extension = (section_row section_kinds.Extension).type_byte

-- the text begins with the type byte of the section
section_head : (x : SpelledSection) (text : List ℕ) → SpellsSection text x → (more : List ℕ) × (text ≡ section_type x ∷ more)
section_head Signature text h = (h.0, h.1)
section_head x text h = (string h.content, h.spelled)

same_type : (x y : SpelledSection) (text other rest rest' : List ℕ) → SpellsSection text x → SpellsSection other y → text ++ rest ≡ other ++ rest' → section_type x ≡ section_type y
same_type x y text other rest rest' h k e =
    let p = section_head x text h in
    let q = section_head y other k in
    head_is (section_type x) (section_type y) (p.0 ++ rest) (q.0 ++ rest') (sym (ap (λ (t : List ℕ). t ++ rest) p.1) ∙ e ∙ ap (λ (t : List ℕ). t ++ rest') q.1)

signature_front : {text other : List ℕ} (rest rest' : List ℕ) → SpellsSignature text → SpellsSignature other → text ++ rest ≡ other ++ rest' → rest ≡ rest'
signature_front rest rest' (first, spelled, (values, h)) (first', spelled', (values', k)) same =
    let whole : signature_type ∷ (first ++ rest) ≡ signature_type ∷ (first' ++ rest') = sym (ap (λ (t : List ℕ). t ++ rest) spelled) ∙ same ∙ ap (λ (t : List ℕ). t ++ rest') spelled' in
    let e = append_cancel_left (signature_type ∷ []) (first ++ rest) (first' ++ rest') whole in
    (one_row signature_fields (first ++ rest) values values' rest rest' (table_more signature_fields [] first values [] rest h)
    (subst (λ (b : List ℕ). BeginsWithTable signature_fields [] b values' rest') (sym e) (table_more signature_fields [] first' values' [] rest' k))).1

one_section : OneAtFront SpellsSection
one_section (Certificates authority subs) (Certificates authority' subs') text other rest rest' h k e =
    let s = content_front rest rest' h k e in
    (same_certificates h.content authority authority' subs subs' h.content_is (subst (λ (c : List ℕ). SpellsCertificates c authority' subs') (sym s.1) k.content_is), s.2)
one_section (Keys blobs) (Keys others) text other rest rest' h k e =
    let s = content_front rest rest' h k e in
    (ap Keys (same_strings blobs others (omega (arith, h.fits, ap length h.content_is)) (sym h.content_is ∙ s.1 ∙ k.content_is)), s.2)
one_section (Sha1s hashes) (Sha1s others) text other rest rest' h k e =
    let s = content_front rest rest' h k e in
    (ap Sha1s (same_strings hashes others (omega (arith, h.fits, ap length h.content_is.0)) (sym h.content_is.0 ∙ s.1 ∙ k.content_is.0)), s.2)
one_section Signature Signature text other rest rest' h k e = (refl, signature_front rest rest' h k e)
one_section (Sha256s hashes) (Sha256s others) text other rest rest' h k e =
    let s = content_front rest rest' h k e in
    (ap Sha256s (same_strings hashes others (omega (arith, h.fits, ap length h.content_is.0)) (sym h.content_is.0 ∙ s.1 ∙ k.content_is.0)), s.2)
one_section Extension Extension text other rest rest' h k e =
    let s = content_front rest rest' h k e in
    (refl, s.2)
one_section x y text other rest rest' h k e = absurd (omega (arith, same_type x y text other rest rest' h k e))

some_section : HasBytes SpellsSection
some_section x text h = omega (arith, ap length (section_head x text h).1)

-- ---- lists

pub spelled_once : (text : List ℕ) (header header' : Header) (sections sections' : List SpelledSection) → Spells text header sections → Spells text header' sections' → (header ≡ header') × (sections ≡ sections')
spelled_once text header header' sections sections' h k =
    let row = one_row header_fields text h.values k.values h.body k.body h.fields k.fields in
    (sym h.header_is ∙ ap header_of row.0 ∙ k.header_is, same_each SpellsSection one_section some_section h.body k.body sections sections' row.1 h.sections_are k.sections_are)
