-- How an addition changes revocations.
use Rattle.std.specs.Prelude.{◌≡◌, ℕ, ◌+◌, ◌<◌, ◌≤◌, ◌⊎◌, List, [], ◌∷◌, ◌++◌, length, All}
use Rattle.std.specs.Prelude.{Contains}
use Rattle.serial_set.specs.declared.span.Span.{Span}
use Rattle.serial_set.specs.BitRuns.{IsInterval}
use Rattle.serial_set.specs.Near.{AddsSpans, AreNear}
use Rattle.serial_set.specs.Span.{AreSerials}
use Rattle.krl_types.specs.Item.{item_entry}
use Rattle.krl_types.specs.declared.item_kind.ItemKind.TheVariants as kinds
use Rattle.krl_entries.specs.declared.addition.Addition.{Addition}
use Rattle.krl_entries.specs.declared.addition.Addition.TheVariants.{Serials, Item}
use Rattle.krl_entries.specs.Revocations.{IsNamed, IsOrderly, Means, Revocations, Section}
use Rattle.krl_entries.specs.Revocations.{section_with, stored}
use Rattle.krl_types.specs.Entry.{Entry, RangeEntry}
use Rattle.krl_entries.specs.Inserting.{Inserts}

-- the list already contains the bytes and stays the same, or the bytes are inserted
abbrev pub Puts : (old : List (List ℕ)) (text : List ℕ) (new : List (List ℕ)) → Type 0
Puts old text new = ((new ≡ old) × Contains old text) ⊎ Inserts (λ bytes. bytes) old text new

-- a section takes the serials of some spans
pub record TakesSerials (more : List Span) (from to : Section) : Type 0 where
  pub same : to ≡ record from { spans = to.spans }
  pub runs : AddsSpans from.spans more to.spans
  pub serials : AreSerials to.spans
  pub as_many_more : length to.spans ≤ length from.spans + length more

-- a section takes a key ID
pub record TakesId (text : List ℕ) (from to : Section) : Type 0 where
  pub same : to ≡ record from { ids = to.ids }
  pub put : Puts from.ids text to.ids

-- a section takes an addition
abbrev pub TakesAddition : Addition → Section → Section → Type 0
TakesAddition (Serials near) from to = TakesSerials near.now from to
TakesAddition (Item kind text) from to = TakesId text.now from to

-- one change of a section can make the addition: it is a key ID, or at least one span, and the
-- spans lie near each other
abbrev pub IsOneChange : Addition → Type 0
IsOneChange (Serials near) =
    (0 < length near.now) × (All IsInterval near.now × AreNear near.now)
IsOneChange (Item kind text) = kind ≡ kinds.Id

-- an empty section
abbrev pub empty_section : List ℕ → Section
empty_section authority = section_with authority [] []

-- one section of the authority changes, and the others stay the same
pub record ChangesOne (Change : Section → Section → Type 0) (authority : List ℕ)
    (old new : List Section) : Type 0 where
  pub front : List Section
  pub back : List Section
  pub from : Section
  pub to : Section
  pub before : old ≡ front ++ from ∷ back
  pub after : new ≡ front ++ to ∷ back
  pub under : from.authority ≡ authority
  pub changed : Change from to

-- a section that holds only the addition is inserted
pub record Starts (addition : Addition) (authority : List ℕ) (old new : List Section)
    : Type 0 where
  pub section : Section
  pub takes : TakesAddition addition (empty_section authority) section
  pub put : Inserts (λ section. section.authority) old section new

-- the addition goes to the section that the authority has, or to a new one
abbrev pub AddsTo : Addition → List ℕ → (old new : List Section) → Type 0
AddsTo addition authority old new =
    ChangesOne (TakesAddition addition) authority old new ⊎ Starts addition authority old new

-- the serials of some spans, as entries
abbrev pub run_entries : List ℕ → List Span → List Entry
run_entries authority [] = []
run_entries authority (run ∷ runs) =
    RangeEntry authority run.lo run.hi ∷ run_entries authority runs

-- the entries of an addition under an authority
abbrev pub added_entries : List ℕ → Addition → List Entry
added_entries authority (Serials near) = run_entries authority near.now
added_entries authority (Item kind item) = item_entry kind authority item.now ∷ []

-- how many bytes an addition has, without its authority
abbrev pub bytes_in : Addition → ℕ
bytes_in (Serials near) = 0
bytes_in (Item kind item) = length item.now

-- An addition of spans makes at most as many spans more, and an item makes none.
abbrev pub HoldsMore : Addition → (old new : ℕ) → Type 0
HoldsMore (Serials near) old new = new ≤ old + length near.now
HoldsMore (Item kind item) old new = new ≡ old

-- If the old revocations mean some entries, the new ones mean them and these entries.
abbrev pub MeansMore : (old new : Revocations) (more : List Entry) → Type 0
MeansMore old new more = (entries : List Entry) → Means old entries → Means new (entries ++ more)

-- An addition of this number of bytes revokes certificates of an authority. Each authority that was
-- named stays named. The bytes of the authority count once, and keys and hashes do not change.
pub record ChangesUnder (authority : List ℕ) (bytes : ℕ) (old new : Revocations) : Type 0 where
  pub orderly : IsOrderly old
  pub grows : stored new ≤ stored old + length authority + bytes
  pub known : IsNamed old authority → stored new ≤ stored old + bytes
  pub stays : (other : List ℕ) → IsNamed old other → IsNamed new other
  pub keys : new.keys ≡ old.keys
