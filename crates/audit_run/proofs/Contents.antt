-- The bytes that come of a reader.
use Rattle.std.proofs.Common.{◌≡◌, ℕ, ◌+◌, ◌≤◌, Bool, List, [], ◌++◌, length, take, Option, Some, None, IfSome}
use Rattle.std.proofs.Common.{Result, Ok, Err, refl, sym, ap, subst, ◌∙◌, append-nil, arith}
use Rattle.std.proofs.KnownBytes.{Consumes-nil}
use Rattle.std.proofs.lemmas.List.{length-append, take-append-le}
use Rattle.std.specs.Io.KnownBytes.{Consumes, IsAtEnd}
use Rattle.key_text.specs.Armour.{begins_container}
use Rattle.audit_lines.specs.declared.why.Refusal.{Refusal}
use Rattle.audit_lines.specs.declared.why.Refusal.TheVariants as refusals
use Rattle.audit_run.specs.Reading.{ComesBehind, IsBegun, IsContent, all_read, front_of, read_as, too_long}

-- ---- bytes behind those that came before

-- all that was read into an empty buffer
pub comes_first : (old new : Option (List ℕ)) (before after : List ℕ) → before ≡ [] → ComesBehind old new before after
    → Consumes old new after
comes_first old new before after empty came =
    came.completed old (subst (λ (text : List ℕ). Consumes old old text) (sym empty) (Consumes-nil old))

-- ---- all of it, or why not

pub content_all : (Fails : Refusal → Type 0) (all left : Option (List ℕ)) (text : List ℕ) → length text ≤ 16777216
    → Consumes all left text → IsAtEnd left → IsContent Fails all (Ok text)
content_all Fails None left text fits comes end = all_read text refl fits tt
content_all Fails (Some all) None text fits comes end = absurd comes
content_all Fails (Some all) (Some left) text fits comes end =
    all_read text refl fits (sym (comes ∙ ap (λ (rest : List ℕ). text ++ rest) end ∙ append-nil text))

pub content_long : (Fails : Refusal → Type 0) (all left : Option (List ℕ)) (text : List ℕ) (content : Result (List ℕ) Refusal)
    → content ≡ Err refusals.TooLong → 16777217 ≤ length text → Consumes all left text → IsContent Fails all content
content_long Fails None left text content is long comes = too_long is tt
content_long Fails (Some all) None text content is long comes = absurd comes
content_long Fails (Some all) (Some left) text content is long comes =
    let size : length all ≡ length text + length left = ap (λ (bytes : List ℕ). length bytes) comes ∙ length-append text left in
    too_long is (omega (arith, size, long))

-- ---- the first bytes

pub begun_more : (old new : Option (List ℕ)) (text : List ℕ) → 64 ≤ length text → Consumes old new text → IsBegun old new text
begun_more None new text long comes = record { comes = comes; same = tt }
begun_more (Some all) None text long comes = absurd comes
begun_more (Some all) (Some left) text long comes = record {
  comes = comes;
  same = ap (λ (bytes : List ℕ). take 64 bytes) comes ∙ take-append-le 64 text left long;
}

pub begun_all : (old new : Option (List ℕ)) (text : List ℕ) → IsAtEnd new → Consumes old new text → IsBegun old new text
begun_all None new text end comes = record { comes = comes; same = tt }
begun_all (Some all) None text end comes = absurd comes
begun_all (Some all) (Some left) text end comes = record {
  comes = comes;
  same = ap (λ (bytes : List ℕ). take 64 bytes) (comes ∙ ap (λ (rest : List ℕ). text ++ rest) end ∙ append-nil text);
}

pub comes_empty : (left : Option (List ℕ)) (text : List ℕ) → text ≡ [] → Consumes left left text
comes_empty left text empty = subst (λ (t : List ℕ). Consumes left left t) (sym empty) (Consumes-nil left)

pub front_begins : (bytes : Option (List ℕ)) (text : List ℕ) (value : Bool) → begins_container (front_of text) ≡ value
    → IfSome bytes (λ all. front_of all ≡ front_of text) → IfSome bytes (λ all. begins_container (front_of all) ≡ value)
front_begins None text value begins same = tt
front_begins (Some all) text value begins same = ap (λ (front : List ℕ). begins_container front) same ∙ begins

-- ---- what was read into a buffer

pub content_read : (Fails : Refusal → Type 0) (left : Option (List ℕ)) (read : Result (Unit {0}) Refusal) (text slice : List ℕ)
    (content : Result (List ℕ) Refusal) → content ≡ read_as read slice → slice ≡ text → IsContent Fails left (read_as read text)
    → IsContent Fails left content
content_read Fails left read text slice content is same came =
    subst (λ (c : Result (List ℕ) Refusal). IsContent Fails left c)
    (sym (is ∙ ap (λ (t : List ℕ). read_as read t) same)) came
