-- Revocations that mean the same entries are equal.
use Rattle.krl_entries.proofs.Common.{[], ⊎_elim, ◌↔◌, ◌∙◌, ◌∷◌, ◌≡◌, All, All-tail, AllAbove, ap}
use Rattle.krl_entries.proofs.Common.{arith, bytes_cmp, Contains, Covers, Entry, Equal, exact_bytes}
use Rattle.krl_entries.proofs.Common.{Greater, HoldsName, IdOf, inl, inr, IsOrderlySection, KeyOf, Less}
use Rattle.krl_entries.proofs.Common.{List, Means, Name, nat_list_cmp_total, Ordering}
use Rattle.krl_entries.proofs.Common.{ordering_reverse, refl, Revocations, revocations_of, Rises}
use Rattle.krl_entries.proofs.Common.{RisesBy, Section, section_with, SerialOf, Sha1Of, Sha256Of}
use Rattle.krl_entries.proofs.Common.{SomeSection, Span, subst, sym, ℕ}
use Rattle.serial_set.proofs.LeastLists.{runs_unique}
use Rattle.krl_entries.proofs.SomeSections.{HeldIn, no_section}
use Rattle.krl_entries.proofs.RisingLists.{AllAbove-earlier, before_trans, less_apart}
use Rattle.krl_types.proofs.Elements.{contains_cases, contains_here, contains_later}
use Rattle.krl_types.proofs.Elements.{contains_none}
use Rattle.krl_entries.proofs.Elements.{some_serial, some_text, some_weaker}
use Rattle.std.proofs.Math.Logic.Iff as Iff

-- ---- the order of two byte strings

-- one of two byte strings comes first, or they are equal
data Placed (a b : List ℕ) : Type 0 where
  first : bytes_cmp a b ≡ Less → Placed a b
  same : a ≡ b → Placed a b
  second : bytes_cmp b a ≡ Less → Placed a b

placed_by : (a b : List ℕ) (o : Ordering) → bytes_cmp a b ≡ o → Placed a b
placed_by a b Less e = first e
placed_by a b Equal e = same (exact_bytes a b e)
placed_by a b Greater e = second (nat_list_cmp_total.antisymm b a ∙ ap ordering_reverse e)

placed : (a b : List ℕ) → Placed a b
placed a b = placed_by a b (bytes_cmp a b) refl

pub not_before_itself : (a : List ℕ) → bytes_cmp a a ≡ Less → ⊥
not_before_itself a less = less_apart a a less refl

-- ---- byte strings in order

above_member : (a text : List ℕ) (texts : List (List ℕ)) → AllAbove (λ bytes. bytes) a texts → Contains texts text → bytes_cmp a text ≡ Less
above_member a text [] above m = absurd (contains_none text m)
above_member a text (x ∷ xs) above m =
    ⊎_elim (λ here. subst (λ (t : List ℕ). bytes_cmp a t ≡ Less) here above.0) (above_member a text xs above.1) (contains_cases x text xs m)

-- the first text of the one list is not before the first of the other
not_first : (x y : List ℕ) (xs ys : List (List ℕ)) → Rises (y ∷ ys) → Contains (y ∷ ys) x → bytes_cmp x y ≡ Less → ⊥
not_first x y xs ys rise m less =
    elim (contains_cases y x ys m) [
      | inl here ↦ not_before_itself x (subst (λ (t : List ℕ). bytes_cmp x t ≡ Less) here less)
      | inr later ↦ not_before_itself x (before_trans x y x less (above_member y x ys rise.0 later))
    ]

rest_to : (x y text : List ℕ) (xs ys : List (List ℕ)) → x ≡ y → AllAbove (λ bytes. bytes) x xs → (Contains (x ∷ xs) text → Contains (y ∷ ys) text) → Contains xs text → Contains ys text
rest_to x y text xs ys e above to m =
    elim (contains_cases y text ys (to (contains_later x text xs m))) [
      | inl here ↦ absurd (not_before_itself x (subst (λ (t : List ℕ). bytes_cmp x t ≡ Less) (sym (e ∙ here)) (above_member x text xs above m)))
      | inr later ↦ later
    ]

pub same_texts : (xs ys : List (List ℕ)) → Rises xs → Rises ys → ((text : List ℕ) → Contains xs text ↔ Contains ys text) → xs ≡ ys
same_texts [] [] r t both = refl
same_texts [] (y ∷ ys) r t both = absurd (contains_none y ((both y).1 (contains_here y ys)))
same_texts (x ∷ xs) [] r t both = absurd (contains_none x ((both x).0 (contains_here x xs)))
same_texts (x ∷ xs) (y ∷ ys) r t both =
    elim (placed x y) [
      | first less ↦ absurd (not_first x y xs ys t ((both x).0 (contains_here x xs)) less)
      | same e ↦
          let rest = same_texts xs ys r.1 t.1 (λ text. (rest_to x y text xs ys e r.0 (both text).0, rest_to y x text ys xs (sym e) t.0 (both text).1)) in
          ap (λ (z : List ℕ). z ∷ xs) e ∙ ap (λ (zs : List (List ℕ)). y ∷ zs) rest
      | second less ↦ absurd (not_first y x ys xs r ((both y).1 (contains_here y ys)) less)
    ]

-- ---- sections in order

abbrev pub section_authority : Section → List ℕ
section_authority section = section.authority

-- an authority comes before that of any later section
pub above_named : (a b : List ℕ) (xs : List Section) → AllAbove section_authority a xs → SomeSection (λ section. section.authority ≡ b) xs → bytes_cmp a b ≡ Less
above_named a b [] above h = absurd h
above_named a b (x ∷ xs) above h =
    ⊎_elim (λ here. subst (λ (t : List ℕ). bytes_cmp a t ≡ Less) here above.0) (above_named a b xs above.1) h

-- the same for an authority under which something is held
pub above_held : (P : Section → Type 0) (a b : List ℕ) (xs : List Section) → AllAbove section_authority a xs → SomeSection (λ section. (section.authority ≡ b) × P section) xs → bytes_cmp a b ≡ Less
above_held P a b xs above h = above_named a b xs above (some_weaker (λ section both. both.0) xs h)

-- everything under the authority of the first section is held in it
pub held_first : (P : Section → Type 0) (a : List ℕ) (x : Section) (xs : List Section) → x.authority ≡ a → AllAbove section_authority x.authority xs → SomeSection (λ section. (section.authority ≡ a) × P section) (x ∷ xs) ↔ P x
held_first P a x xs e above = (
  λ h. elim h [
    | inl here ↦ here.1
    | inr later ↦ absurd (not_before_itself x.authority (subst (λ (t : List ℕ). bytes_cmp x.authority t ≡ Less) (sym e) (above_held P x.authority a xs above later)))
  ],
  λ h. inl (e, h),
)

-- everything under a later authority is held in a later section
held_later : (P : Section → Type 0) (x y : Section) (xs ys : List Section) (a : List ℕ) → x.authority ≡ y.authority → AllAbove section_authority x.authority xs
    → (SomeSection (λ section. (section.authority ≡ a) × P section) (x ∷ xs) → SomeSection (λ section. (section.authority ≡ a) × P section) (y ∷ ys))
    → SomeSection (λ section. (section.authority ≡ a) × P section) xs → SomeSection (λ section. (section.authority ≡ a) × P section) ys
held_later P x y xs ys a e above to h =
    elim (to (inr h)) [
      | inl here ↦ absurd (not_before_itself x.authority (subst (λ (t : List ℕ). bytes_cmp x.authority t ≡ Less) (sym (e ∙ here.0)) (above_held P x.authority a xs above h)))
      | inr later ↦ later
    ]

-- the sections of two lists hold the same under each authority
abbrev Alike : List Section → List Section → Type 0
Alike xs ys = (name : Name) → SomeSection (HeldIn name) xs ↔ SomeSection (HeldIn name) ys

-- a listed section holds something, so its authority has a section in the other list
some_held : (x : Section) (xs ys : List Section) → IsOrderlySection x → Alike (x ∷ xs) ys → SomeSection (λ section. section.authority ≡ x.authority) ys
some_held x xs ys is alike =
    elim is.some [
      | inl spans ↦ let s = some_serial x.spans spans is.runs in some_weaker (λ section both. both.0) ys ((alike (SerialOf x.authority s.0)).0 (inl (refl, s.1)))
      | inr ids ↦ let t = some_text x.ids ids in some_weaker (λ section both. both.0) ys ((alike (IdOf x.authority t.0)).0 (inl (refl, t.1)))
    ]

-- no listed section comes before all sections of a list that holds the same
not_listed : (x y : Section) (xs ys : List Section) → IsOrderlySection x → RisesBy section_authority (y ∷ ys) → Alike (x ∷ xs) (y ∷ ys) → bytes_cmp x.authority y.authority ≡ Less → ⊥
not_listed x y xs ys is rise alike less =
    let above : AllAbove section_authority x.authority (y ∷ ys) = (less, AllAbove-earlier section_authority x.authority y.authority ys less rise.0) in
    not_before_itself x.authority (above_named x.authority x.authority (y ∷ ys) above (some_held x xs (y ∷ ys) is alike))

alike_later : (x y : Section) (xs ys : List Section) → x.authority ≡ y.authority → RisesBy section_authority (x ∷ xs) → RisesBy section_authority (y ∷ ys) → Alike (x ∷ xs) (y ∷ ys) → Alike xs ys
alike_later x y xs ys e r t alike (SerialOf a s) =
    let P : Section → Type 0 = λ section. Covers section.spans s in
    (held_later P x y xs ys a e r.0 (alike (SerialOf a s)).0, held_later P y x ys xs a (sym e) t.0 (alike (SerialOf a s)).1)
alike_later x y xs ys e r t alike (IdOf a text) =
    let P : Section → Type 0 = λ section. Contains section.ids text in
    (held_later P x y xs ys a e r.0 (alike (IdOf a text)).0, held_later P y x ys xs a (sym e) t.0 (alike (IdOf a text)).1)
alike_later x y xs ys e r t alike name = (λ h. absurd (no_section xs h), λ h. absurd (no_section ys h))

same_section : (x y : Section) → x.authority ≡ y.authority → x.spans ≡ y.spans → x.ids ≡ y.ids → x ≡ y
same_section x y a s i = ap (λ (z : List ℕ). section_with z x.spans x.ids) a ∙ ap (λ (z : List Span). section_with y.authority z x.ids) s ∙ ap (λ (z : List (List ℕ)). section_with y.authority y.spans z) i

same_sections : (xs ys : List Section) → RisesBy section_authority xs → RisesBy section_authority ys → All IsOrderlySection xs → All IsOrderlySection ys → Alike xs ys → xs ≡ ys
same_sections [] [] r t p q alike = refl
same_sections [] (y ∷ ys) r t p q alike = absurd (some_held y ys [] (q 0 y (omega arith)) (λ name. Iff.symm (alike name)))
same_sections (x ∷ xs) [] r t p q alike = absurd (some_held x xs [] (p 0 x (omega arith)) alike)
same_sections (x ∷ xs) (y ∷ ys) r t p q alike =
    let is : IsOrderlySection x = p 0 x (omega arith) in
    let is' : IsOrderlySection y = q 0 y (omega arith) in
    elim (placed x.authority y.authority) [
      | first less ↦ absurd (not_listed x y xs ys is t alike less)
      | same e ↦
          let serial = λ (s : ℕ). Iff.trans (Iff.symm (held_first (λ section. Covers section.spans s) y.authority x xs e r.0))
          (Iff.trans (alike (SerialOf y.authority s)) (held_first (λ section. Covers section.spans s) y.authority y ys refl t.0)) in
          let id = λ (text : List ℕ). Iff.trans (Iff.symm (held_first (λ section. Contains section.ids text) y.authority x xs e r.0))
          (Iff.trans (alike (IdOf y.authority text)) (held_first (λ section. Contains section.ids text) y.authority y ys refl t.0)) in
          let spans = runs_unique x.spans y.spans is.runs is'.runs serial in
          let ids = same_texts x.ids y.ids is.ids_rise is'.ids_rise id in
          let rest = same_sections xs ys r.1 t.1 (All-tail IsOrderlySection x xs p) (All-tail IsOrderlySection y ys q) (alike_later x y xs ys e r t alike) in
          ap (λ (z : Section). z ∷ xs) (same_section x y e spans ids) ∙ ap (λ (zs : List Section). y ∷ zs) rest
      | second less ↦ absurd (not_listed y x ys xs is' r (λ name. Iff.symm (alike name)) less)
    ]

-- ---- everything that is held

pub one_meaning : (r other : Revocations) (entries : List Entry) → Means r entries → Means other entries → r ≡ other
one_meaning r other entries m n =
    let o = m.orderly in
    let p = n.orderly in
    let sections = same_sections r.sections other.sections o.authorities_rise p.authorities_rise o.listed p.listed alike in
    let keys = same_texts r.keys other.keys o.keys_rise p.keys_rise (λ t. held (KeyOf t)) in
    let sha1s = same_texts r.sha1s other.sha1s o.sha1s_rise p.sha1s_rise (λ t. held (Sha1Of t)) in
    let sha256s = same_texts r.sha256s other.sha256s o.sha256s_rise p.sha256s_rise (λ t. held (Sha256Of t)) in
    ap (λ (z : List Section). revocations_of z r.keys r.sha1s r.sha256s) sections ∙ ap (λ (z : List (List ℕ)). revocations_of other.sections z r.sha1s r.sha256s) keys
    ∙ ap (λ (z : List (List ℕ)). revocations_of other.sections other.keys z r.sha256s) sha1s ∙ ap (λ (z : List (List ℕ)). revocations_of other.sections other.keys other.sha1s z) sha256s
  where
    held : (name : Name) → HoldsName r name ↔ HoldsName other name
    held name = Iff.trans (m.names name) (Iff.symm (n.names name))

    alike : Alike r.sections other.sections
    alike (SerialOf a s) = held (SerialOf a s)
    alike (IdOf a text) = held (IdOf a text)
    alike name = (λ h. absurd (no_section r.sections h), λ h. absurd (no_section other.sections h))
