-- Revocations mean their own entries.
use Rattle.krl_entries.proofs.Common.{[], ⊎_elim, ◌++◌, ◌↔◌, ◌∷◌, ◌≡◌, All, All-head, All-tail}
use Rattle.krl_entries.proofs.Common.{AreSerials, Contains, entries_in, Entry, EntryNames, flat_map}
use Rattle.krl_entries.proofs.Common.{HoldsName, IdEntry, IdOf, IsOrderlySection, IsOrderly, KeyEntry}
use Rattle.krl_entries.proofs.Common.{KeyOf, List, map, Means, Name, RangeEntry, Revocations}
use Rattle.krl_entries.proofs.Common.{run_entries, Section, section_entries, SerialOf, Sha1Entry}
use Rattle.krl_entries.proofs.Common.{Sha1Of, Sha256Entry, Sha256Of, SomeNames, SomeSection, ℕ}
use Rattle.krl_entries.proofs.Runs.{run_entries-name}
use Rattle.krl_types.proofs.Equivalences.{contains_cons, iff_or}
use Rattle.krl_entries.proofs.Entries.{runs_name_none}
use Rattle.krl_types.proofs.SameNames.{mapped_name, some_append, some_first, some_last}
use Rattle.krl_entries.proofs.SomeSections.{HeldIn, no_section}
use Rattle.krl_types.proofs.Elements.{contains_none, some_cases}
use Rattle.std.proofs.Math.Logic.Iff as Iff

-- ---- texts of one kind

-- entries that each name one text
texts_named : (f : List ℕ → Entry) (name : Name) (text : List ℕ) → ((t : List ℕ) → EntryNames (f t) name ↔ (t ≡ text)) → (texts : List (List ℕ)) → Contains texts text ↔ SomeNames (map f texts) name
texts_named f name text each [] = (λ h. absurd (contains_none text h), λ h. absurd h)
texts_named f name text each (t ∷ texts) = Iff.trans (contains_cons t texts text) (iff_or (Iff.symm (each t)) (texts_named f name text each texts))

-- entries of another kind do not name it
texts_none : (f : List ℕ → Entry) (name : Name) → ((t : List ℕ) → EntryNames (f t) name → ⊥) → (texts : List (List ℕ)) → SomeNames (map f texts) name → ⊥
texts_none f name none [] h = h
texts_none f name none (t ∷ texts) h = ⊎_elim (none t) (texts_none f name none texts) h

none_joined : (xs ys : List Entry) (name : Name) → (SomeNames xs name → ⊥) → (SomeNames ys name → ⊥) → SomeNames (xs ++ ys) name → ⊥
none_joined xs ys name left right h = ⊎_elim left right (some_cases xs ys name h)

-- ---- sections

module _ (section : Section) (serials : AreSerials section.spans) where
  abbrev runs : List Entry
  runs = run_entries section.authority section.spans

  abbrev ids : List Entry
  ids = map (IdEntry section.authority) section.ids

  no_run : (name : Name) → ((lo hi : ℕ) → EntryNames (RangeEntry section.authority lo hi) name → ⊥) → SomeNames runs name → ⊥
  no_run name none = runs_name_none section.authority section.spans name none

  no_id : (name : Name) → ((t : List ℕ) → EntryNames (IdEntry section.authority t) name → ⊥) → SomeNames ids name → ⊥
  no_id name none = texts_none (IdEntry section.authority) name none section.ids

  section_named : (name : Name) → HeldIn name section ↔ SomeNames (section_entries section) name
  section_named (SerialOf a s) =
      let named = run_entries-name section.authority section.spans a s in
      Iff.trans (λ h. named.1 ((h.0, (serials s h.1).0), h.1), λ h. let k = named.0 h in (k.0.0, k.1)) (some_first runs ids (SerialOf a s) (no_id (SerialOf a s) (λ t no. no)))
  section_named (IdOf a text) =
      Iff.trans (Iff.symm (mapped_name (IdEntry section.authority) (IdOf a text) (section.authority ≡ a) text (λ t. Iff.rfl) section.ids)) (some_last runs ids (IdOf a text) (no_run (IdOf a text) (λ lo hi no. no)))
  section_named name = (λ no. absurd no, none_joined runs ids name (no_run name (λ lo hi no. no)) (no_id name (λ t no. no)))

sections_named : (sections : List Section) → All IsOrderlySection sections → (name : Name) → SomeSection (HeldIn name) sections ↔ SomeNames (flat_map section_entries sections) name
sections_named [] listed name = Iff.rfl
sections_named (x ∷ xs) listed name =
    let is : IsOrderlySection x = All-head IsOrderlySection x xs listed in
    Iff.trans (iff_or (section_named x is.serials name) (sections_named xs (All-tail IsOrderlySection x xs listed) name)) (Iff.symm (some_append (section_entries x) (flat_map section_entries xs) name))

-- ---- everything that is held

module _ (r : Revocations) (o : IsOrderly r) where
  abbrev sections : List Entry
  sections = flat_map section_entries r.sections

  abbrev keys : List Entry
  keys = map KeyEntry r.keys

  abbrev sha1s : List Entry
  sha1s = map Sha1Entry r.sha1s

  abbrev sha256s : List Entry
  sha256s = map Sha256Entry r.sha256s

  abbrev NoText : (List ℕ → Entry) → Name → Type 0
  NoText f name = (t : List ℕ) → EntryNames (f t) name → ⊥

  no_hash : (name : Name) → NoText Sha1Entry name → NoText Sha256Entry name → SomeNames (sha1s ++ sha256s) name → ⊥
  no_hash name n m = none_joined sha1s sha256s name (texts_none Sha1Entry name n r.sha1s) (texts_none Sha256Entry name m r.sha256s)

  of_section : (name : Name) → NoText KeyEntry name → NoText Sha1Entry name → NoText Sha256Entry name → SomeSection (HeldIn name) r.sections ↔ SomeNames (entries_in r) name
  of_section name k n m =
      Iff.trans (sections_named r.sections o.listed name)
      (some_first sections (keys ++ (sha1s ++ sha256s)) name (none_joined keys (sha1s ++ sha256s) name (texts_none KeyEntry name k r.keys) (no_hash name n m)))

  of_text : (name : Name) → (SomeSection (HeldIn name) r.sections → ⊥) → SomeNames (keys ++ (sha1s ++ sha256s)) name ↔ SomeNames (entries_in r) name
  of_text name none = some_last sections (keys ++ (sha1s ++ sha256s)) name (λ h. none ((sections_named r.sections o.listed name).1 h))

  of_hash : (name : Name) → (SomeSection (HeldIn name) r.sections → ⊥) → NoText KeyEntry name → SomeNames (sha1s ++ sha256s) name ↔ SomeNames (entries_in r) name
  of_hash name none k = Iff.trans (some_last keys (sha1s ++ sha256s) name (texts_none KeyEntry name k r.keys)) (of_text name none)

  named : (name : Name) → HoldsName r name ↔ SomeNames (entries_in r) name
  named (SerialOf a s) = of_section (SerialOf a s) (λ t no. no) (λ t no. no) (λ t no. no)
  named (IdOf a text) = of_section (IdOf a text) (λ t no. no) (λ t no. no) (λ t no. no)
  named (KeyOf blob) =
      Iff.trans (texts_named KeyEntry (KeyOf blob) blob (λ t. Iff.rfl) r.keys)
      (Iff.trans (some_first keys (sha1s ++ sha256s) (KeyOf blob) (no_hash (KeyOf blob) (λ t no. no) (λ t no. no))) (of_text (KeyOf blob) (no_section r.sections)))
  named (Sha1Of hash) =
      Iff.trans (texts_named Sha1Entry (Sha1Of hash) hash (λ t. Iff.rfl) r.sha1s)
      (Iff.trans (some_first sha1s sha256s (Sha1Of hash) (texts_none Sha256Entry (Sha1Of hash) (λ t no. no) r.sha256s)) (of_hash (Sha1Of hash) (no_section r.sections) (λ t no. no)))
  named (Sha256Of hash) =
      Iff.trans (texts_named Sha256Entry (Sha256Of hash) hash (λ t. Iff.rfl) r.sha256s)
      (Iff.trans (some_last sha1s sha256s (Sha256Of hash) (texts_none Sha1Entry (Sha256Of hash) (λ t no. no) r.sha1s)) (of_hash (Sha256Of hash) (no_section r.sections) (λ t no. no)))

  pub means_itself : Means r (entries_in r)
  means_itself = record { orderly = o; names = named }
