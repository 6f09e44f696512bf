-- Lists of entries that name the same.
use Rattle.krl_types.proofs.Common.{[], ⊎_elim, ◌++◌, ◌<◌, ◌↔◌, ◌∷◌, ◌≡◌, ◌≤◌, ◌⊎◌}
use Rattle.krl_types.proofs.Common.{AllByRecursion, append_assoc, arith, BitmapEntry, Contains}
use Rattle.krl_types.proofs.Common.{Entry, EntryNames, inl, inr, List, map, Name, NamesSame}
use Rattle.krl_types.proofs.Common.{RangeEntry, SerialOf, SerialsEntry, SomeNames, subst, sym, ℕ}
use Rattle.krl_types.proofs.Equivalences.{contains_cons, contains_one, iff_both, iff_none, iff_or}
use Rattle.krl_types.proofs.Equivalences.{iff_swap}
use Rattle.krl_types.proofs.Elements.{contains_none, some_left, some_right, some_cases}
use Rattle.std.proofs.Math.Logic.Iff as Iff

-- ---- joined lists

pub some_append : (xs ys : List Entry) (name : Name) → SomeNames (xs ++ ys) name ↔ (SomeNames xs name ⊎ SomeNames ys name)
some_append xs ys name =
    (some_cases xs ys name, λ h. elim h [ inl k ↦ some_left xs ys name k | inr k ↦ some_right xs ys name k ])

-- entries that do not name it, before or after
pub some_first : (xs ys : List Entry) (name : Name) → (SomeNames ys name → ⊥) → SomeNames xs name ↔ SomeNames (xs ++ ys) name
some_first xs ys name none = Iff.trans (iff_none none) (Iff.symm (some_append xs ys name))

pub some_last : (xs ys : List Entry) (name : Name) → (SomeNames xs name → ⊥) → SomeNames ys name ↔ SomeNames (xs ++ ys) name
some_last xs ys name none = Iff.trans (iff_none none) (Iff.trans iff_swap (Iff.symm (some_append xs ys name)))

-- one entry more
pub one_more : (entries : List Entry) (entry : Entry) (name : Name) → SomeNames (entries ++ entry ∷ []) name ↔ (SomeNames entries name ⊎ EntryNames entry name)
one_more entries entry name = Iff.trans (some_append entries (entry ∷ []) name) (iff_or Iff.rfl (Iff.symm (iff_none (λ h. h))))

pub same_refl : (xs : List Entry) → NamesSame xs xs
same_refl xs name = Iff.rfl

pub same_is : (xs ys : List Entry) → xs ≡ ys → NamesSame xs ys
same_is xs ys e = subst (NamesSame xs) e (same_refl xs)

pub same_then : (xs ys zs : List Entry) → NamesSame xs ys → NamesSame ys zs → NamesSame xs zs
same_then xs ys zs h k name = Iff.trans (h name) (k name)

pub same_append : (xs ys xs' ys' : List Entry) → NamesSame xs xs' → NamesSame ys ys' → NamesSame (xs ++ ys) (xs' ++ ys')
same_append xs ys xs' ys' h k name =
    Iff.trans (some_append xs ys name) (Iff.trans (iff_or (h name) (k name)) (Iff.symm (some_append xs' ys' name)))

pub same_swap : (xs ys : List Entry) → NamesSame (xs ++ ys) (ys ++ xs)
same_swap xs ys name = Iff.trans (some_append xs ys name) (Iff.trans iff_swap (Iff.symm (some_append ys xs name)))

-- more entries before the last ones
pub same_between : (xs ys zs others : List Entry) → NamesSame (xs ++ ys) others → NamesSame ((xs ++ zs) ++ ys) (others ++ zs)
same_between xs ys zs others h =
    let one = same_is ((xs ++ zs) ++ ys) (xs ++ (zs ++ ys)) (append_assoc xs zs ys) in
    let two = same_append xs (zs ++ ys) xs (ys ++ zs) (same_refl xs) (same_swap zs ys) in
    let three = same_is (xs ++ (ys ++ zs)) ((xs ++ ys) ++ zs) (sym (append_assoc xs ys zs)) in
    let four = same_append (xs ++ ys) zs others zs h (same_refl zs) in
    same_then ((xs ++ zs) ++ ys) (xs ++ (zs ++ ys)) (others ++ zs) one
    (same_then (xs ++ (zs ++ ys)) (xs ++ (ys ++ zs)) (others ++ zs) two
    (same_then (xs ++ (ys ++ zs)) ((xs ++ ys) ++ zs) (others ++ zs) three four))

-- ---- entries of serials alone

abbrev pub IsSerials : Entry → Type 0
IsSerials (SerialsEntry a numbers) = Unit {0}
IsSerials (RangeEntry a min max) = Unit {0}
IsSerials (BitmapEntry a offset number) = Unit {0}
IsSerials _ = ⊥

abbrev pub AreSerials : List Entry → Type 0
AreSerials entries = AllByRecursion IsSerials entries

abbrev pub IsSerial : Name → Type 0
IsSerial (SerialOf a s) = Unit {0}
IsSerial _ = ⊥

serials_name : (entry : Entry) (name : Name) → IsSerials entry → EntryNames entry name → IsSerial name
serials_name entry (SerialOf a s) is h = tt
serials_name (SerialsEntry b numbers) name is h = h
serials_name (RangeEntry b min max) name is h = h
serials_name (BitmapEntry b offset number) name is h = h
serials_name entry name is h = absurd is

pub serials_only : (xs : List Entry) (name : Name) → AreSerials xs → SomeNames xs name → IsSerial name
serials_only [] name are h = absurd h
serials_only (x ∷ xs) name are h =
    elim h [ inl here ↦ serials_name x name are.0 here | inr later ↦ serials_only xs name are.1 later ]

pub same_serials : (xs ys : List Entry) → AreSerials xs → AreSerials ys → ((a : List ℕ) (s : ℕ) → SomeNames xs (SerialOf a s) ↔ SomeNames ys (SerialOf a s)) → NamesSame xs ys
same_serials xs ys h k serials (SerialOf a s) = serials a s
same_serials xs ys h k serials name = (λ n. absurd (serials_only xs name h n), λ n. absurd (serials_only ys name k n))

-- ---- one entry for another

-- one of the entries made from some values names it exactly if the value is among them
pub mapped_name : {X : Type 0} (f : X → Entry) (name : Name) (P : Type 0) (x : X) → ((y : X) → EntryNames (f y) name ↔ (P × (y ≡ x))) → (xs : List X) → SomeNames (map f xs) name ↔ (P × Contains xs x)
mapped_name f name P x each [] = (λ h. absurd h, λ h. absurd (contains_none x h.1))
mapped_name f name P x each (y ∷ xs) =
    let here : (P × ((y ≡ x) ⊎ Contains xs x)) ↔ (P × Contains (y ∷ xs) x) = Iff.and Iff.rfl (Iff.symm (contains_cons y xs x)) in
    Iff.trans (iff_or (each y) (mapped_name f name P x each xs)) (Iff.trans iff_both here)

-- an entry of serials that names the same as another, and one that names none
pub same_one : (x y : Entry) → IsSerials x → IsSerials y → ((a : List ℕ) (s : ℕ) → EntryNames x (SerialOf a s) ↔ EntryNames y (SerialOf a s)) → NamesSame (x ∷ []) (y ∷ [])
same_one x y h k each = same_serials (x ∷ []) (y ∷ []) (h, tt) (k, tt) (λ a s. iff_or (each a s) Iff.rfl)

pub same_nothing : (x : Entry) → IsSerials x → ((a : List ℕ) (s : ℕ) → EntryNames x (SerialOf a s) → ⊥) → NamesSame [] (x ∷ [])
same_nothing x h none = same_serials [] (x ∷ []) tt (h, tt) (λ a s. (λ n. absurd n, ⊎_elim (none a s) (λ no. no)))

-- a range of one serial
pub same_serial : (a : List ℕ) (n : ℕ) → NamesSame (RangeEntry a n n ∷ []) (SerialsEntry a (n ∷ []) ∷ [])
same_serial a n = same_one (RangeEntry a n n) (SerialsEntry a (n ∷ [])) tt tt (λ b s. (
  λ k. (k.0, (k.1.0, (contains_one n s).1 (let e : n ≡ s = omega (arith, k.1.1.0, k.1.1.1) in e))),
  λ k. let same = (contains_one n s).0 k.1.1 in (k.0, (k.1.0, (omega (arith, same), omega (arith, same)))),
))

-- the serial 0 names none
pub same_zero : (a : List ℕ) → NamesSame [] (SerialsEntry a (0 ∷ []) ∷ [])
same_zero a = same_nothing (SerialsEntry a (0 ∷ [])) tt (λ b s k. let same = (contains_one 0 s).0 k.1.1 in omega (arith, same, k.1.0))

-- a range to 0 names none
pub same_none : (a : List ℕ) (min : ℕ) → NamesSame [] (RangeEntry a min 0 ∷ [])
same_none a min = same_nothing (RangeEntry a min 0) tt (λ b s k. omega (arith, k.1.0, k.1.1.1))

-- a range from 0 is one from 1
pub same_from_one : (a : List ℕ) (min low max : ℕ) → (s : (s : ℕ) → 0 < s → (low ≤ s) ↔ (min ≤ s)) → NamesSame (RangeEntry a low max ∷ []) (RangeEntry a min max ∷ [])
same_from_one a min low max from = same_one (RangeEntry a low max) (RangeEntry a min max) tt tt (λ b s. (
  λ k. (k.0, (k.1.0, ((from s k.1.0).0 k.1.1.0, k.1.1.1))),
  λ k. (k.0, (k.1.0, ((from s k.1.0).1 k.1.1.0, k.1.1.1))),
))
