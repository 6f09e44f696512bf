-- The subjects of the lines of the text of a list, by their form (krl(1), THE TEXT OF A LIST).
use Rattle.std.specs.Prelude.{ℕ, Bool, true, false, ◌&&◌, not, if◌then◌else◌, nat_eq, List, []}
use Rattle.std.specs.Prelude.{◌∷◌, codes, Option, Some, None}
use Rattle.std.specs.List.{before_first, ends_with}
use Rattle.text_entries.specs.Mark.{Mark, given_behind, mark_in}
use Rattle.text_entries.specs.Misspelt.{Misspelt, is_word_end, meant, misspelt}
use Rattle.text_entries.specs.Values.{begins_with_key}
use Rattle.text_entries.specs.Word.{Order, order_in}
use Rattle.text_entries.specs.declared.named.Named.{Named}
use Rattle.text_entries.specs.declared.named.Named.TheVariants.{Nothing, Authority, Key}
use Rattle.text_entries.specs.declared.named.Named.TheVariants.{Certificate}
use Rattle.text_entries.specs.declared.word.Word.{Word}
use Rattle.text_entries.specs.declared.word.Word.TheVariants as words

abbrev pub word_named_by : Word → Named
word_named_by words.Authority = Authority
word_named_by words.AuthorityBlob = Authority
word_named_by words.Serial = Certificate
word_named_by words.Id = Certificate
word_named_by words.IdHex = Certificate
word_named_by word = Key

abbrev pub mark_names : (given : Option (List ℕ)) → Named
mark_names None = Certificate
mark_names (Some given) = Authority

-- Content without a word begins with the type of a plain key, or with that of a certificate.
abbrev pub is_plain_key : List ℕ → Bool
is_plain_key content =
    begins_with_key content
    && not (ends_with nat_eq (before_first is_word_end content) (codes "-cert-v01@openssh.com"))

abbrev pub bare_names : List ℕ → Named
bare_names [] = Nothing
bare_names (byte ∷ bytes) = if is_plain_key (byte ∷ bytes) then Key else Certificate

abbrev pub content_names : (content : List ℕ) → Option Mark → Named
content_names content None = bare_names content
content_names content (Some mark) = mark_names (given_behind mark.rest)

abbrev pub order_names : (content : List ℕ) → Option Order → Named
order_names content None = content_names content (mark_in content)
order_names content (Some order) = word_named_by order.word

-- What content names. That it begins as no line does is a fault of an entry of a certificate.
abbrev pub named_in : (content : List ℕ) → Named
named_in content = order_names content (order_in content)

abbrev pub is_entry : Named → Bool
is_entry Nothing = false
is_entry Authority = false
is_entry Key = true
is_entry Certificate = true

-- Only what names certificates has a last day.
abbrev pub can_end : Named → Bool
can_end Certificate = true
can_end named = false

-- ---- a misspelt word behind the name of an authority

abbrev pub if_certified : (name : List ℕ) → Option Word → Option Misspelt
if_certified name None = None
if_certified name (Some word) =
    if can_end (word_named_by word) then Some (misspelt name word) else None

-- Only a word for certificates can be meant there.
abbrev pub misspelt_behind : (behind : List ℕ) → Option Misspelt
misspelt_behind behind =
    if_certified (before_first is_word_end behind) (meant (before_first is_word_end behind))
