-- The text of what is held is read as the entries of what is held.
use Rattle.std.proofs.Common.{◌≡◌, ℕ, ◌+◌, List, [], ◌∷◌, ◌++◌, length, map, All, Option, Some, None, refl, sym, subst, ap, ◌∙◌, append_assoc, append-nil, arith, inl, inr}
use Rattle.std.specs.List.{concat, flat_map}
use Rattle.std.proofs.lemmas.List.{map-append}
use Rattle.std.proofs.lemmas.List.Concat.{flat_map-append}
use Rattle.std.proofs.lemmas.List.Elements.{All-cons, All-head, All-nil, All-tail}
use Rattle.serial_set.specs.Span.{AreSerials, RunsFrom}
use Rattle.serial_set.specs.declared.span.Span.{Span}
use Rattle.ssh_wire.specs.Wire.{IsBytes}
use Rattle.krl_entries.specs.Canonical.{entries_in, section_entries}
use Rattle.krl_entries.specs.Changes.{run_entries}
use Rattle.krl_entries.specs.Revocations.{IsOrderlySection, Means, Revocations, Section, nothing}
use Rattle.krl_entries.proofs.OneMeaning.{one_meaning}
use Rattle.krl_entries.proofs.OwnEntries.{means_itself}
use Rattle.krl_entries.proofs.SameMeaning.{nothing_meant}
use Rattle.run_faults.specs.declared.spec_cause.SpecCause.TheVariants as specs
use Rattle.text_entries.specs.Reading.{StopsAt}
use Rattle.text_entries.specs.TextCause.{no_memory}
use Rattle.text_entries.specs.declared.text_cause.TextCause.{TextCause}
use Rattle.text_entries.specs.declared.text_cause.TextCause.TheVariants as causes
use Rattle.text_entries.specs.declared.text_fault.TextFault.{TextFault}
use Rattle.krl_types.specs.Entry.{Entry}
use Rattle.krl_types.specs.Item.{item_entry}
use Rattle.krl_types.specs.declared.item_kind.ItemKind.{ItemKind}
use Rattle.krl_types.specs.declared.item_kind.ItemKind.TheVariants as kinds
use Rattle.krl_types.specs.Naming.{NamesSame}
use Rattle.std.proofs.Math.Logic.Iff as Iff
use Rattle.krl_entries.specs.Facts.{Fact as Held, ItemFact, SerialsFact, facts_of, section_facts}
use Rattle.list_text.specs.Facts.{Fact, HeldFact}
use Rattle.list_text.specs.Text.{fact_line, text_of}
use Rattle.text_entries.specs.AuthorityNames.{NameOfKey}
use Rattle.text_entries.specs.Says.{Names, first_standing, standing_after}
use Rattle.text_entries.specs.Lines.{beginning, lines_of, lines_with}
use Rattle.text_entries.specs.declared.standing.Standing.{Standing}
use Rattle.text_laws.specs.FactLines.{AreSerials as AreSpanSerials, CanDeclare, FitsUnder, HasNoZero, IsUnder, authority_says, fact_says}
use Rattle.text_laws.specs.Names.{AreNames}
use Rattle.text_laws.specs.ReadBack.{CanBeShown, IsReadAs, IsReadInto, IsStored, Shown, StopsWith, entries_of_lists, facts_about, text_of_lists}
use Rattle.text_laws.proofs.FactLines.{AllFit, all_entries, entries_of, facts_read}
use Rattle.text_laws.proofs.KnownNames.{AreKnown, free_name, named_itself, still_known}

-- ---- the entries of facts

-- the entries that facts about stored entries name
abbrev held_entries : List Held → List Entry
held_entries facts = all_entries (map HeldFact facts)

entries-append : (xs ys : List Held) → held_entries (xs ++ ys) ≡ held_entries xs ++ held_entries ys
entries-append xs ys = ap all_entries (map-append HeldFact xs ys) ∙ flat_map-append entries_of (map HeldFact xs) (map HeldFact ys)

spans_entries : (authority : List ℕ) (spans : List Span)
    → held_entries (map (SerialsFact authority) spans) ≡ run_entries authority spans
spans_entries authority [] = refl
spans_entries authority (span ∷ spans) = rw (spans_entries authority spans) refl

items_entries : (kind : ItemKind) (authority : List ℕ) (texts : List (List ℕ))
    → held_entries (map (ItemFact kind authority) texts) ≡ map (item_entry kind authority) texts
items_entries kind authority [] = refl
items_entries kind authority (text ∷ texts) = rw (items_entries kind authority texts) refl

section_named : (section : Section) → held_entries (section_facts section) ≡ section_entries section
unfolding section_facts
section_named section =
    let spans : List Held = map (SerialsFact section.authority) section.spans in
    let ids : List Held = map (ItemFact kinds.Id section.authority) section.ids in
    entries-append spans ids
    ∙ rw (spans_entries section.authority section.spans, items_entries kinds.Id section.authority section.ids) refl

sections_named : (sections : List Section)
    → held_entries (flat_map section_facts sections) ≡ flat_map section_entries sections
sections_named [] = refl
sections_named (section ∷ sections) =
    entries-append (section_facts section) (flat_map section_facts sections) ∙ rw (section_named section, sections_named sections) refl

held_named : (r : Revocations) → held_entries (facts_of r) ≡ entries_in r
unfolding facts_of
held_named r =
    let keys : List Held = map (ItemFact kinds.Key []) r.keys in
    let sha1s : List Held = map (ItemFact kinds.Sha1 []) r.sha1s in
    let sha256s : List Held = map (ItemFact kinds.Sha256 []) r.sha256s in
    entries-append (flat_map section_facts r.sections) (keys ++ (sha1s ++ sha256s))
    ∙ rw (
      sections_named r.sections,
      entries-append keys (sha1s ++ sha256s),
      entries-append sha1s sha256s,
      items_entries kinds.Key [] r.keys,
      items_entries kinds.Sha1 [] r.sha1s,
      items_entries kinds.Sha256 [] r.sha256s,
    ) refl

lists_named : (lists : List Shown) → all_entries (flat_map facts_about lists) ≡ entries_of_lists lists
lists_named [] = refl
lists_named (list ∷ lists) =
    flat_map-append entries_of (map HeldFact (facts_of list.contents)) (flat_map facts_about lists) ∙ rw (held_named list.contents, lists_named lists) refl

-- ---- each fact fits

-- facts about stored entries in two parts, followed by others
held_parts : (xs ys : List Held) (more : List Fact) → map HeldFact (xs ++ ys) ++ more ≡ map HeldFact xs ++ (map HeldFact ys ++ more)
held_parts xs ys more = ap (λ (facts : List Fact). facts ++ more) (map-append HeldFact xs ys) ∙ append_assoc (map HeldFact xs) (map HeldFact ys) more

-- The line of an authority fits, those of its entries can follow it, and each name is still that of its key.
record BeginsSection (names : NameOfKey) (standing : Standing) (named : Option (List ℕ)) (authority : List ℕ) : Type 0 where
  can : CanDeclare standing.names named authority
  under : IsUnder (standing_after (authority_says named authority) standing) named authority
  knows : AreKnown names (standing_after (authority_says named authority) standing).names

abbrev HasBytes : Section → Type 0
HasBytes section = IsBytes section.authority

abbrev HasIds : Section → Type 0
HasIds section = All IsBytes section.ids

abbrev HasWholeIds : Section → Type 0
HasWholeIds section = All HasNoZero section.ids

abbrev Is20 : List ℕ → Type 0
Is20 hash = length hash ≡ 20

abbrev Is32 : List ℕ → Type 0
Is32 hash = length hash ≡ 32

-- If reading a text without a fault stops, an allocation failed.
only_memory : (today : ℕ) (text : List ℕ) (number : ℕ) (cause : TextCause) (old new : Revocations) → (lines_of today text).fault ≡ None
    → StopsAt (first_standing today) text number cause old new → cause ≡ no_memory
only_memory today text number (causes.Spec specs.NoMemory) old new faultless stops = refl
only_memory today text number cause old new faultless stops = absurd (let is = stops.0 in cc)

module _ (names : NameOfKey) (are : AreNames names) where
  section_begins : (standing : Standing) (named : Option (List ℕ)) (authority : List ℕ) → names authority ≡ named → AreKnown names standing.names → BeginsSection names standing named authority
  section_begins standing None authority is knows = record { can = tt; under = refl; knows = knows }
  section_begins standing (Some name) authority is knows =
      let can = are.each authority name is in
      record {
        can = (can, free_name names standing.names name authority are knows is);
        under = (can.named, named_itself standing.names name authority);
        knows = still_known names standing.names name authority knows is;
      }

  spans_fit : (standing : Standing) (authority : List ℕ) (least : ℕ) (spans : List Span) (more : List Fact) → IsUnder standing (names authority) authority → RunsFrom least spans
      → AreSerials spans
      → AllFit names standing more → AllFit names standing (map HeldFact (map (SerialsFact authority) spans) ++ more)
  spans_fit standing authority least [] more under runs serials fit = fit
  spans_fit standing authority least (span ∷ spans) more under runs serials fit =
      let first = serials span.lo (inl (omega arith, runs.1)) in
      let last = serials span.hi (inl (runs.1, omega arith)) in
      let order : AreSpanSerials span = record { some = first.0; rises = runs.1; fits = last.1 } in
      ((under, order), spans_fit standing authority (span.hi + 2) spans more under runs.2 (λ s covers. serials s (inr covers)) fit)

  ids_fit : (standing : Standing) (authority : List ℕ) (ids : List (List ℕ)) (more : List Fact) → IsUnder standing (names authority) authority → All IsBytes ids → All HasNoZero ids
      → AllFit names standing more → AllFit names standing (map HeldFact (map (ItemFact kinds.Id authority) ids) ++ more)
  ids_fit standing authority [] more under bytes whole fit = fit
  ids_fit standing authority (id ∷ ids) more under bytes whole fit =
      ((under, All-head IsBytes id ids bytes, All-head HasNoZero id ids whole), ids_fit standing authority ids more under (All-tail IsBytes id ids bytes) (All-tail HasNoZero id ids whole) fit)

  -- facts that fit under any authority
  abbrev FitAnywhere : List Fact → Type 0
  FitAnywhere facts = (standing : Standing) → AreKnown names standing.names → AllFit names standing facts

  -- keys or hashes that fit by two properties
  items_fit : (kind : ItemKind) (P Q : List ℕ → Type 0) (texts : List (List ℕ)) (more : List Fact)
      → ((text : List ℕ) → fact_says names (HeldFact (ItemFact kind [] text)) ≡ Names (item_entry kind [] text))
      → ((standing : Standing) (text : List ℕ) → P text → Q text → FitsUnder standing names (HeldFact (ItemFact kind [] text))) → All P texts → All Q texts
      → FitAnywhere more → FitAnywhere (map HeldFact (map (ItemFact kind []) texts) ++ more)
  items_fit kind P Q [] more says fits first second fit = fit
  items_fit kind P Q (text ∷ texts) more says fits first second fit = λ standing knows. (
    fits standing text (All-head P text texts first) (All-head Q text texts second),
    rw (says text) (items_fit kind P Q texts more says fits (All-tail P text texts first) (All-tail Q text texts second) fit (record standing { current = None }) knows),
  )

  section_fits : (section : Section) (more : List Fact) → IsOrderlySection section → HasBytes section → HasIds section → HasWholeIds section
      → FitAnywhere more → FitAnywhere (map HeldFact (section_facts section) ++ more)
  unfolding section_facts
  section_fits section more listed authority ids whole fit standing knows =
      let head = section_begins standing (names section.authority) section.authority refl knows in
      let after : Standing = standing_after (authority_says (names section.authority) section.authority) standing in
      let spans : List Held = map (SerialsFact section.authority) section.spans in
      let texts : List Held = map (ItemFact kinds.Id section.authority) section.ids in
      let later : AllFit names after (map HeldFact spans ++ (map HeldFact texts ++ more)) =
      spans_fit after section.authority 0 section.spans (map HeldFact texts ++ more) head.under listed.runs listed.serials
      (ids_fit after section.authority section.ids more head.under ids whole (fit after head.knows)) in
      ((authority, head.can), subst (AllFit names after) (sym (held_parts spans texts more)) later)

  sections_fit : (sections : List Section) (more : List Fact) → All IsOrderlySection sections → All HasBytes sections
      → All HasIds sections → All HasWholeIds sections
      → FitAnywhere more → FitAnywhere (map HeldFact (flat_map section_facts sections) ++ more)
  sections_fit [] more listed authorities ids whole fit = fit
  sections_fit (section ∷ sections) more listed authorities ids whole fit =
      let later = sections_fit sections more (All-tail IsOrderlySection section sections listed) (All-tail HasBytes section sections authorities) (All-tail HasIds section sections ids) (All-tail HasWholeIds section sections whole) fit in
      subst FitAnywhere (sym (held_parts (section_facts section) (flat_map section_facts sections) more))
      (section_fits section (map HeldFact (flat_map section_facts sections) ++ more) (All-head IsOrderlySection section sections listed)
      (All-head HasBytes section sections authorities) (All-head HasIds section sections ids) (All-head HasWholeIds section sections whole) later)

  -- the facts that are held, followed by others
  held_fit_before : (r : Revocations) (more : List Fact) → IsStored r → FitAnywhere more
      → FitAnywhere (map HeldFact (facts_of r) ++ more)
  unfolding facts_of
  held_fit_before r more stored fit =
      let sections : List Held = flat_map section_facts r.sections in
      let keys : List Held = map (ItemFact kinds.Key []) r.keys in
      let sha1s : List Held = map (ItemFact kinds.Sha1 []) r.sha1s in
      let sha256s : List Held = map (ItemFact kinds.Sha256 []) r.sha256s in
      let hashes : map HeldFact (sha1s ++ sha256s) ++ more ≡ map HeldFact sha1s ++ (map HeldFact sha256s ++ more) = held_parts sha1s sha256s more in
      let others : map HeldFact (keys ++ (sha1s ++ sha256s)) ++ more ≡ map HeldFact keys ++ (map HeldFact sha1s ++ (map HeldFact sha256s ++ more)) =
      held_parts keys (sha1s ++ sha256s) more ∙ ap (λ (facts : List Fact). map HeldFact keys ++ facts) hashes in
      let parts = held_parts sections (keys ++ (sha1s ++ sha256s)) more ∙ ap (λ (facts : List Fact). map HeldFact sections ++ facts) others in
      subst FitAnywhere (sym parts)
      (sections_fit r.sections (map HeldFact keys ++ (map HeldFact sha1s ++ (map HeldFact sha256s ++ more))) stored.orderly.listed stored.authorities stored.ids stored.whole_ids
      (items_fit kinds.Key IsBytes IsBytes r.keys (map HeldFact sha1s ++ (map HeldFact sha256s ++ more)) (λ text. refl) (λ standing text bytes also. bytes) stored.keys stored.keys
      (items_fit kinds.Sha1 IsBytes Is20 r.sha1s (map HeldFact sha256s ++ more) (λ text. refl) (λ standing text bytes size. (bytes, size)) stored.sha1s stored.orderly.sha1_size
      (items_fit kinds.Sha256 IsBytes Is32 r.sha256s more (λ text. refl) (λ standing text bytes size. (bytes, size)) stored.sha256s stored.orderly.sha256_size fit))))

  -- The text of facts that fit anywhere has their entries, on each day.
  facts_read_back : (facts : List Fact) → FitAnywhere facts → IsReadAs (concat (map (fact_line names) facts)) (all_entries facts)
  unfolding lines_with
  facts_read_back facts fit today =
      let first : Standing = beginning (first_standing today) in
      let read = facts_read 1 first names facts (fit first (λ name key none. absurd cc)) in
      (read.faultless, read.are)

  -- ---- what is held

  pub read_back : (r : Revocations) → IsStored r → IsReadAs (text_of names r) (entries_in r)
  read_back r stored today =
      let none : FitAnywhere [] = λ standing knows. tt in
      let fit = subst FitAnywhere (append-nil (map HeldFact (facts_of r))) (held_fit_before r [] stored none) in
      let read = facts_read_back (map HeldFact (facts_of r)) fit today in
      (read.0, read.1 ∙ held_named r)

  pub means_back : (r : Revocations) (today : ℕ) → IsStored r → Means r (lines_of today (text_of names r)).entries
  means_back r today stored = subst (Means r) (sym (read_back r stored today).1) (means_itself r stored.orderly)

  pub same_back : (r held : Revocations) → IsStored r → IsReadInto (text_of names r) nothing held → held ≡ r
  same_back r held stored (today, after, read) = sym (one_meaning r held (lines_of today (text_of names r)).entries (means_back r today stored) (read.2 [] nothing_meant))

  pub stops_for_memory : (r old new : Revocations) (fault : TextFault) → IsStored r
      → StopsWith (text_of names r) fault old new → fault.cause ≡ no_memory
  stops_for_memory r old new fault stored (today, after, stops) = only_memory today (text_of names r) fault.line fault.cause old new (read_back r stored today).0 stops

  -- ---- lists that are shown

  lists_fit : (lists : List Shown) → All CanBeShown lists → FitAnywhere (flat_map facts_about lists)
  lists_fit [] shown standing knows = tt
  lists_fit (list ∷ lists) shown standing knows =
      let is = All-head CanBeShown list lists shown in
      (is.numbers, held_fit_before list.contents (flat_map facts_about lists) is.stored (lists_fit lists (All-tail CanBeShown list lists shown)) standing knows)

  pub lists_read_back : (lists : List Shown) → All CanBeShown lists → IsReadAs (text_of_lists names lists) (entries_of_lists lists)
  lists_read_back lists shown today =
      let read = facts_read_back (flat_map facts_about lists) (lists_fit lists shown) today in
      (read.0, read.1 ∙ lists_named lists)

  -- One list: its entries and those of its text name the same.
  pub list_named_back : (list : Shown) (entries : List Entry) (today : ℕ) → CanBeShown list → Means list.contents entries
      → ((lines_of today (text_of_lists names (list ∷ []))).fault ≡ None) × NamesSame entries (lines_of today (text_of_lists names (list ∷ []))).entries
  list_named_back list entries today shown means =
      let read = lists_read_back (list ∷ []) (All-cons CanBeShown list [] shown (All-nil CanBeShown)) today in
      let same : (lines_of today (text_of_lists names (list ∷ []))).entries ≡ entries_in list.contents = read.1 ∙ append-nil (entries_in list.contents) in
      (read.0, subst (NamesSame entries) (sym same) (λ name. Iff.trans (Iff.symm (means.names name)) ((means_itself list.contents shown.stored.orderly).names name)))
