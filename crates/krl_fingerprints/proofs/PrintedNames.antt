-- A list by fingerprints names the fingerprints of what the list names.
use Rattle.std.proofs.Common.{◌≡◌, ℕ, ◌↔◌, ◌⊎◌, List, [], ◌∷◌, Option, Some, None, ap, inl, inr, refl, subst, ⊎_elim}
use Rattle.std.specs.List.{cons_option}
use Rattle.std.proofs.Math.Logic.Iff as Iff
use Rattle.sha2.specs.Sha256.{sha256}
use Rattle.krl_types.specs.Entry.{BitmapEntry, Entry, IdEntry, KeyEntry, RangeEntry, SerialsEntry, Sha1Entry, Sha256Entry}
use Rattle.krl_types.specs.Naming.{EntryNames, IdOf, KeyOf, Name, NamesSame, SerialOf, Sha1Of, Sha256Of, SomeNames}
use Rattle.krl_types.proofs.Equivalences.{iff_none, iff_or, iff_swap}
use Rattle.krl_fingerprints.specs.Printed.{PrintsTo, authority_print, name_print, printed, printed_entry}

-- ---- one entry

-- an entry, if there is one, has a name, if there is one
abbrev BothName : Option Entry → Option Name → Type 0
BothName None None = Unit {0}
BothName None (Some name) = ⊥
BothName (Some entry) None = ⊥
BothName (Some entry) (Some name) = EntryNames entry name

name_is_printed : (entry : Entry) (name : Name) → EntryNames entry name → BothName (printed_entry entry) (name_print name)
name_is_printed (SerialsEntry b numbers) (SerialOf a s) h = (ap authority_print h.0, h.1)
name_is_printed (RangeEntry b min max) (SerialOf a s) h = (ap authority_print h.0, h.1)
name_is_printed (BitmapEntry b offset number) (SerialOf a s) h = (ap authority_print h.0, h.1)
name_is_printed (IdEntry b id) (IdOf a text) h = (ap authority_print h.0, h.1)
name_is_printed (KeyEntry key) (KeyOf blob) h = ap sha256 h
name_is_printed (Sha1Entry key) (Sha1Of hash) h = tt
name_is_printed (Sha256Entry key) (Sha256Of hash) h = ap sha256 h
name_is_printed _ _ h = absurd h

name_was_printed : (entry : Entry) (name : Name) → BothName (printed_entry entry) (Some name) → PrintsTo (EntryNames entry) name
name_was_printed (SerialsEntry b numbers) (SerialOf a s) h = record { source = SerialOf b s; named = (refl, h.1); printed = ap (λ (x : List ℕ). Some (SerialOf x s)) h.0 }
name_was_printed (RangeEntry b min max) (SerialOf a s) h = record { source = SerialOf b s; named = (refl, h.1); printed = ap (λ (x : List ℕ). Some (SerialOf x s)) h.0 }
name_was_printed (BitmapEntry b offset number) (SerialOf a s) h = record { source = SerialOf b s; named = (refl, h.1); printed = ap (λ (x : List ℕ). Some (SerialOf x s)) h.0 }
name_was_printed (IdEntry b id) (IdOf a text) h = record { source = IdOf b text; named = (refl, h.1); printed = ap (λ (x : List ℕ). Some (IdOf x text)) h.0 }
name_was_printed (KeyEntry key) (KeyOf blob) h = record { source = KeyOf key; named = refl; printed = ap (λ (x : List ℕ). Some (KeyOf x)) h }
name_was_printed (Sha256Entry key) (Sha256Of hash) h = record { source = Sha256Of key; named = refl; printed = ap (λ (x : List ℕ). Some (Sha256Of x)) h }
name_was_printed _ _ h = absurd h

one_named : (entry : Entry) (name : Name) → BothName (printed_entry entry) (Some name) ↔ PrintsTo (EntryNames entry) name
one_named entry name = (name_was_printed entry name, λ p. subst (BothName (printed_entry entry)) p.printed (name_is_printed entry p.source p.named))

-- ---- a list

some_more : (first : Option Entry) (entries : List Entry) (name : Name) → SomeNames (cons_option first entries) name ↔ (BothName first (Some name) ⊎ SomeNames entries name)
some_more None entries name = Iff.trans (iff_none (λ none. none)) iff_swap
some_more (Some entry) entries name = Iff.rfl

either : (A B : Name → Type 0) (name : Name) → (PrintsTo A name ⊎ PrintsTo B name) ↔ PrintsTo (λ source. A source ⊎ B source) name
either A B name = (
  ⊎_elim (λ a. record { source = a.source; named = inl a.named; printed = a.printed }) (λ b. record { source = b.source; named = inr b.named; printed = b.printed }),
  λ p. elim p.named [
    | inl a ↦ inl (record { source = p.source; named = a; printed = p.printed })
    | inr b ↦ inr (record { source = p.source; named = b; printed = p.printed })
  ],
)

pub some_named : (entries : List Entry) (name : Name) → SomeNames (printed entries) name ↔ PrintsTo (SomeNames entries) name
some_named [] name = (λ no. absurd no, λ p. p.named)
some_named (entry ∷ entries) name =
    Iff.trans (some_more (printed_entry entry) (printed entries) name)
    (Iff.trans (iff_or (one_named entry name) (some_named entries name)) (either (EntryNames entry) (SomeNames entries) name))

pub same_printed : (entries others : List Entry) → NamesSame entries others → NamesSame (printed entries) (printed others)
same_printed entries others same name =
    Iff.trans (some_named entries name) (Iff.trans (swapped entries others same name, swapped others entries (λ n. Iff.symm (same n)) name) (Iff.symm (some_named others name)))
  where
    swapped : (xs ys : List Entry) → NamesSame xs ys → (name : Name) → PrintsTo (SomeNames xs) name → PrintsTo (SomeNames ys) name
    swapped xs ys same name p = record { source = p.source; named = (same p.source).0 p.named; printed = p.printed }
