-- The sections of a written list are spelled, one after another.
use Rattle.krl_writer.specs.KrlText.{ids_type, keys_type, sha1s_type, sha256s_type}
use Rattle.krl_writer.proofs.Common.{[], ◌++◌, ◌+◌, ◌<◌, ◌^◌, ◌∷◌, ◌≡◌, ◌≤◌, All, All-tail}
use Rattle.krl_writer.proofs.Common.{arith, authorities_text}
use Rattle.krl_writer.proofs.Common.{authority_content, authority_sections, authority_text}
use Rattle.krl_writer.proofs.Common.{Certificates, EachPlan, Group, Header, header_text, Ids}
use Rattle.krl_writer.proofs.Common.{IsOrderlySection, IsOrderly, IsPlan, Keys, length, length-append}
use Rattle.krl_writer.proofs.Common.{length-string, limit, List, listed_as}
use Rattle.krl_writer.proofs.Common.{listed_text, plan_subsections}
use Rattle.krl_writer.proofs.Common.{plan_text, recursion_from_All, refl, Revocations, Section, sections_of}
use Rattle.krl_writer.proofs.Common.{sections_text, Sha1s, Sha256s, SignaturesLast, SpelledSection}
use Rattle.krl_writer.proofs.Common.{Spells, SpellsEach, SpellsHashes, SpellsSection}
use Rattle.krl_writer.proofs.Common.{SpellsSubsection, string, strings, text_of, ℕ}
use Rattle.krl_format.specs.Krl.{header_fields}
use Rattle.krl_writer.specs.KrlText.{header_values}
use Rattle.ssh_wire.specs.Rows.{table_text}
use Rattle.ssh_wire.proofs.RowLaws.{table_more, length-table, table_text_begins}
use Rattle.krl_writer.proofs.Spelling.{each_append, listed_spelled, plan_spelled}

-- ---- an authority

pub length-authority : (plan : List Group) (listed : Section) →
    length (authority_content plan listed) ≡ 8 + length listed.authority + length (plan_text listed.spans plan) + length (listed_text ids_type listed.ids)
length-authority plan listed =
    let subsections : List ℕ = plan_text listed.spans plan ++ listed_text ids_type listed.ids in
    omega (
      arith,
      length-append (string listed.authority) (string [] ++ subsections),
      length-append (string []) subsections,
      length-append (plan_text listed.spans plan) (listed_text ids_type listed.ids),
      length-string listed.authority,
      length-string [],
    )

authority_spelled : (plan : List Group) (listed : Section) → IsOrderlySection listed → IsPlan listed.spans plan → length (authority_text plan listed) < 2 ^ 32
    → SpellsSection (authority_text plan listed) (Certificates listed.authority (plan_subsections listed.spans plan ++ listed_as Ids listed.ids))
authority_spelled plan listed is p lt =
    let content : List ℕ = authority_content plan listed in
    let len = length-string content in
    let parts = length-authority plan listed in
    record {
      content = content;
      spelled = refl;
      fits = omega arith;
      content_is = record {
        values = listed.authority ∷ [] ∷ [];
        body = plan_text listed.spans plan ++ listed_text ids_type listed.ids;
        fields = (listed.authority, _, record { is_part = omega arith; spelled = refl }, refl, ([], _, record { is_part = omega arith; spelled = refl }, refl, (refl, refl)));
        authority_is = refl;
        subsections_are = each_append SpellsSubsection (plan_text listed.spans plan) (listed_text ids_type listed.ids) (plan_subsections listed.spans plan) (listed_as Ids listed.ids)
            (plan_spelled listed.spans plan is.runs is.serials p)
            (listed_spelled SpellsSubsection ids_type Ids listed.ids (λ fits. record { content = strings listed.ids; spelled = refl; fits = fits; content_is = refl }) (omega arith));
      };
    }

pub authorities_spelled : (plans : List (List Group)) (listed : List Section) → All IsOrderlySection listed → EachPlan IsPlan plans listed → length (authorities_text plans listed) < 2 ^ 32
    → SpellsEach SpellsSection (authorities_text plans listed) (authority_sections plans listed)
authorities_spelled [] [] all each lt = refl
authorities_spelled [] (first ∷ listed) all each lt = absurd each
authorities_spelled (plan ∷ plans) [] all each lt = absurd each
authorities_spelled (plan ∷ plans) (first ∷ listed) all each lt =
    let len = length-append (authority_text plan first) (authorities_text plans listed) in (
      authority_text plan first,
      (
        authorities_text plans listed,
        (
          refl,
          authority_spelled plan first (all 0 first (omega arith)) each.0 (omega arith),
          authorities_spelled plans listed (All-tail IsOrderlySection first listed all) each.1 (omega arith),
        ),
      ),
    )

-- ---- keys and hashes

hashes_are : (size : ℕ) (hashes : List (List ℕ)) → All (λ hash. length hash ≡ size) hashes → SpellsHashes size (strings hashes) hashes
hashes_are size hashes all = (refl, recursion_from_All (λ (hash : List ℕ). length hash ≡ size) hashes all)

-- ---- no signature

sha256s_unsigned : (hashes : List (List ℕ)) → SignaturesLast (listed_as Sha256s hashes)
sha256s_unsigned [] = tt
sha256s_unsigned (hash ∷ hashes) = tt

sha1s_unsigned : (hashes : List (List ℕ)) (rest : List SpelledSection) → SignaturesLast rest → SignaturesLast (listed_as Sha1s hashes ++ rest)
sha1s_unsigned [] rest h = h
sha1s_unsigned (hash ∷ hashes) rest h = h

keys_unsigned : (blobs : List (List ℕ)) (rest : List SpelledSection) → SignaturesLast rest → SignaturesLast (listed_as Keys blobs ++ rest)
keys_unsigned [] rest h = h
keys_unsigned (blob ∷ blobs) rest h = h

rest_unsigned : (r : Revocations) → SignaturesLast (listed_as Keys r.keys ++ (listed_as Sha1s r.sha1s ++ listed_as Sha256s r.sha256s))
rest_unsigned r = keys_unsigned r.keys _ (sha1s_unsigned r.sha1s _ (sha256s_unsigned r.sha256s))

unsigned : (plans : List (List Group)) (listed : List Section) (rest : List SpelledSection) → SignaturesLast rest → SignaturesLast (authority_sections plans listed ++ rest)
unsigned [] listed rest h = h
unsigned (plan ∷ plans) [] rest h = h
unsigned (plan ∷ plans) (first ∷ listed) rest h = unsigned plans listed rest h

-- ---- the whole text

pub length-header : (header : Header) → length (header_text header) ≡ 44 + length header.comment
length-header header = omega (arith, length-table header_fields (header_values header))

pub text_spelled : (header : Header) (plans : List (List Group)) (r : Revocations) → header.version < 2 ^ 64 → header.date < 2 ^ 64 → IsOrderly r
    → EachPlan IsPlan plans r.sections → length (text_of header plans r) ≤ limit → Spells (text_of header plans r) header (sections_of plans r)
text_spelled header plans r version date orderly each short =
    let head : List ℕ = header_text header in
    let values = header_values header in
    let fields : List ℕ = table_text header_fields values in
    let body : List ℕ = sections_text plans r in
    let hashes : List ℕ = listed_text sha1s_type r.sha1s ++ listed_text sha256s_type r.sha256s in
    let whole = length-append head body in
    let parts = length-append (authorities_text plans r.sections) (listed_text keys_type r.keys ++ hashes) in
    let keys = length-append (listed_text keys_type r.keys) hashes in
    let both = length-append (listed_text sha1s_type r.sha1s) (listed_text sha256s_type r.sha256s) in
    let comment = length-header header in
    record {
      values = values;
      body = body;
      fields = table_more header_fields [] fields values [] body
          (table_text_begins header_fields [] values (search (arith, version, date, comment, short)));
      header_is = refl;
      sections_are =
          each_append SpellsSection (authorities_text plans r.sections) (listed_text keys_type r.keys ++ hashes) (authority_sections plans r.sections) (listed_as Keys r.keys ++ (listed_as Sha1s r.sha1s ++ listed_as Sha256s r.sha256s))
          (authorities_spelled plans r.sections orderly.listed each (omega arith))
          (each_append SpellsSection (listed_text keys_type r.keys) hashes (listed_as Keys r.keys) (listed_as Sha1s r.sha1s ++ listed_as Sha256s r.sha256s)
          (listed_spelled SpellsSection keys_type Keys r.keys (λ fits. record { content = strings r.keys; spelled = refl; fits = fits; content_is = refl }) (omega arith))
          (each_append SpellsSection (listed_text sha1s_type r.sha1s) (listed_text sha256s_type r.sha256s) (listed_as Sha1s r.sha1s) (listed_as Sha256s r.sha256s)
          (listed_spelled SpellsSection sha1s_type Sha1s r.sha1s (λ fits. record { content = strings r.sha1s; spelled = refl; fits = fits; content_is = hashes_are 20 r.sha1s orderly.sha1_size }) (omega arith))
          (listed_spelled SpellsSection sha256s_type Sha256s r.sha256s (λ fits. record { content = strings r.sha256s; spelled = refl; fits = fits; content_is = hashes_are 32 r.sha256s orderly.sha256_size }) (omega arith))));
      signatures_last = unsigned plans r.sections _ (rest_unsigned r);
    }
