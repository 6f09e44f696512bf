-- A sequence of fields that leads to the end of a list spells the subsections of a section of
-- certificates, and has their entries.
use Rattle.krl_format.proofs.Common.{[], ◌*◌, ◌++◌, ◌+◌, ◌-◌, ◌<◌, ◌↔◌, ◌∙◌, ◌∷◌, ◌≡◌, ◌≤◌, ap}
use Rattle.krl_format.proofs.Common.{append_assoc, AreSerials, arith, base_of, bit_at-zero}
use Rattle.krl_format.proofs.Common.{BitmapEntry, contains_one, Entry, EntryNames, false, flat_map}
use Rattle.krl_format.proofs.Common.{Header, inl, inr, IsBytes, length, length-append, length-string}
use Rattle.krl_format.proofs.Common.{List, map, mapped_name, NamesSame, next_bits, number-number_of}
use Rattle.krl_format.proofs.Common.{number_of, passes_end, refl, same_append, same_is, same_refl}
use Rattle.krl_format.proofs.Common.{same_serials, same_then, SerialOf, SerialsEntry}
use Rattle.krl_format.proofs.Common.{SpellsSubsection, string, Subsection, subsection_entries}
use Rattle.krl_format.proofs.Common.{subsection_type, SubsectionContent, subst, suc, sym, zero, ℕ}
use Rattle.krl_format.proofs.RestSpellings.{FromSubsections, FromPart, FromBits, Completes}
use Rattle.krl_format.proofs.Bitmaps.{low_more, low_none, bit_of-byte, same_no_bits, same_bits}
use Rattle.krl_format.proofs.SpelledSections.{string_parts, subsections_from}
use Rattle.krl_format.proofs.PassingBits.{not_past_at}

-- ---- subsections

pub subsections_more : (K : Type 0) (a : List ℕ) (type_byte left : ℕ) (bytes : List ℕ) (more : List Entry) → FromPart K a type_byte (left - 1) bytes more → 1 ≤ left
    → FromSubsections K a left (type_byte ∷ bytes) more
subsections_more K a type_byte left bytes more h room =
    let k = h.then_is in
    let text : List ℕ = type_byte ∷ string h.content in
    let spelled : SpellsSubsection text h.subsection = record {
      content = h.content;
      spelled = ap (λ (n : ℕ). n ∷ string h.content) (sym h.type_is);
      fits = h.fits;
      content_is = h.content_is;
    } in
    record {
      subsections = h.subsection ∷ k.subsections;
      body = text ++ k.body;
      rest = k.rest;
      others = k.others;
      parts = ap (λ (x : List ℕ). type_byte ∷ x) (h.parts ∙ ap (λ (x : List ℕ). string h.content ++ x) k.parts) ∙ sym (append_assoc text k.body k.rest);
      size_is = omega (arith, length-append text k.body, length-string h.content, k.size_is, h.room, room);
      spelled = (text, (k.body, (refl, spelled, k.spelled)));
      named =
          let S = subsection_entries a h.subsection in
          let M = flat_map (subsection_entries a) k.subsections in
          same_then more (S ++ h.others) ((S ++ M) ++ k.others) h.named
          (same_then (S ++ h.others) (S ++ (M ++ k.others)) ((S ++ M) ++ k.others) (same_append S h.others S (M ++ k.others) (same_refl S) k.named)
          (same_is (S ++ (M ++ k.others)) ((S ++ M) ++ k.others) (sym (append_assoc S M k.others))));
      then_is = k.then_is;
    }

-- the content of a subsection after its length
pub part_front : {K : Type 0} {a : List ℕ} {type_byte left : ℕ} {rest : List ℕ} {more others : List Entry} (sub : Subsection) (field tail content : List ℕ) → IsBytes field → length field ≡ 4 → 4 ≤ left
    → number_of field ≤ left - 4 → subsection_type sub ≡ type_byte → tail ≡ content ++ rest → length content ≡ number_of field → SubsectionContent content sub → NamesSame more (subsection_entries a sub ++ others)
    → FromSubsections K a (left - 4 - number_of field) rest others → FromPart K a type_byte left (field ++ tail) more
part_front {K} {a} {left = left} {rest = rest} {others = others} sub field tail content fits size room enough type_is parts len content_is named k =
    let n = number-number_of 4 field size fits in
    record {
      subsection = sub;
      content = content;
      rest = rest;
      others = others;
      type_is = type_is;
      parts = string_parts field tail content rest fits size len parts;
      fits = omega (arith, n.1, len);
      room = omega (arith, len, room, enough);
      content_is = content_is;
      named = named;
      then_is = subst (λ (m : ℕ). FromSubsections K a (left - 4 - m) rest others) (sym len) k;
    }

-- ---- serials

pub serials_same : (a : List ℕ) (numbers : List ℕ) → NamesSame (map (λ n. SerialsEntry a (n ∷ [])) numbers) (SerialsEntry a numbers ∷ [])
serials_same a numbers = same_serials (map (λ n. SerialsEntry a (n ∷ [])) numbers) (SerialsEntry a numbers ∷ []) (all_serials numbers) (tt, tt) (λ b s.
    let each : (n : ℕ) → EntryNames (SerialsEntry a (n ∷ [])) (SerialOf b s) ↔ (((a ≡ b) × (0 < s)) × (n ≡ s)) = λ n.
    (λ k. ((k.0, k.1.0), (contains_one n s).0 k.1.1), λ k. (k.0.0, (k.0.1, (contains_one n s).1 k.1))) in
    let all = mapped_name (λ n. SerialsEntry a (n ∷ [])) (SerialOf b s) ((a ≡ b) × (0 < s)) s each numbers in (
      λ h. let k = all.0 h in inl (k.0.0, (k.0.1, k.1)),
      λ h. elim h [ inl k ↦ all.1 ((k.0, k.1.0), k.1.1) | inr none ↦ absurd none ],
    ))
  where
    all_serials : (ns : List ℕ) → AreSerials (map (λ n. SerialsEntry a (n ∷ [])) ns)
    all_serials [] = tt
    all_serials (n ∷ ns) = (tt, all_serials ns)

-- ---- bitmaps

pub bits_from : (left : ℕ) {offset size after : ℕ} {last h : Header} {a bytes : List ℕ} {more : List Entry} → Completes last h a (next_bits offset size left after) bytes more
    → FromBits (last ≡ h) a offset size left after bytes more
unfolding number_of
bits_from zero {offset} {after = after} {a = a} {bytes} {more} k = record {
  bits = [];
  rest = bytes;
  others = more;
  parts = refl;
  size_is = refl;
  low = low_none;
  positive = λ e. tt;
  within = λ bit set. absurd (omega (arith, bit_at-zero bit, set));
  named = same_append [] more (BitmapEntry a offset (number_of []) ∷ []) more (same_no_bits a offset) (same_refl more);
  then_is = subsections_from after k;
}
bits_from (suc left) k = k (omega arith)

pub bits_more : (K : Type 0) (a : List ℕ) (offset size left after byte : ℕ) (tail : List ℕ) (more : List Entry) → byte < 256 → 0 < left → (left ≡ size → byte < 128)
    → passes_end (base_of offset left) byte ≡ false → FromBits K a offset size (left - 1) after tail more
    → FromBits K a offset size left after (byte ∷ tail) (BitmapEntry a (base_of offset left) byte ∷ more)
bits_more K a offset size left after byte tail more lt pos sign passes h =
    let base : base_of offset left ≡ offset + 8 * length h.bits = omega (arith, h.size_is) in
    let B = BitmapEntry a offset (number_of h.bits) ∷ [] in
    let E = BitmapEntry a (base_of offset left) byte ∷ [] in
    let W = BitmapEntry a offset (number_of (byte ∷ h.bits)) ∷ [] in
    let both : NamesSame (E ++ B) W = subst (λ (n : ℕ). NamesSame (BitmapEntry a n byte ∷ B) W) (sym base) (same_bits a offset byte h.bits lt h.low) in
    record {
      bits = byte ∷ h.bits;
      rest = h.rest;
      others = h.others;
      parts = ap (λ (x : List ℕ). byte ∷ x) h.parts;
      size_is = omega (arith, h.size_is, pos);
      low = low_more byte h.bits lt h.low;
      positive = sign;
      within = λ bit set. elim (bit_of-byte byte h.bits bit h.low set) [
        | inl w ↦ let past = not_past_at (base_of offset left) byte lt passes (bit - 8 * length h.bits) w.1 in omega (arith, past, base, w.0)
        | inr w ↦ h.within bit w
      ];
      named = same_then (E ++ more) (E ++ (B ++ h.others)) (W ++ h.others) (same_append E more E (B ++ h.others) (same_refl E) h.named)
          (same_append (E ++ B) h.others W h.others both (same_refl h.others));
      then_is = h.then_is;
    }
