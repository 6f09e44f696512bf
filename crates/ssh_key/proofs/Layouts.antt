-- The tables of public fields spell the bytes that are written out.
use Rattle.std.proofs.Common.{◌≡◌, ℕ, ◌+◌, ◌<◌, ◌≤◌, Bool, true, false, cond, eqb, List, [], ◌∷◌, ◌++◌, length, Some, None, refl, sym, ap, subst, ◌∙◌, arith}
use Rattle.std.specs.Prelude.{◌==◌, ◌&&◌, ◌||◌, codes, slice_index}
use Rattle.std.specs.Str.{bytes_eq}
use Rattle.std.proofs.lemmas.Bool.{and_parts, eq-eqb, eqb-true, ne_eqb}
use Rattle.std.proofs.lemmas.List.{length-append}
use Rattle.std.proofs.lemmas.Slice.Eq.{bytes_eq-Decides}
use Rattle.ssh_wire.specs.Rows.{IsPart, BeginsWithTable, Magnitude, fault_unless, table_text}
use Rattle.ssh_wire.specs.Wire.{IsMagnitude, complement, mpint, string}
use Rattle.ssh_wire.proofs.RowLaws.{ArePassed, length-table, table_text_begins}
use Rattle.ssh_wire.proofs.Steps.{above_zero}
use Rattle.ssh_key.specs.declared.fault.KeyFault.{KeyFault}
use Rattle.ssh_key.specs.declared.fault.KeyFault.TheVariants as faults
use Rattle.ssh_key.specs.declared.kind.Kind.{Kind}
use Rattle.ssh_key.specs.declared.kind.Kind.TheVariants.{Rsa, Dsa, Ecdsa256, Ecdsa384, Ecdsa521, Ed25519, EcdsaSk, Ed25519Sk}
use Rattle.ssh_key.specs.Key.{IsKey, IsPositive, PublicKey}
use Rattle.ssh_key.specs.Kind.{begins_with_4, bits_of, curve_field, fields_of, has_zero, point_field, type_name}
use Rattle.ssh_key.specs.Layout.{IsApplication, IsEcdsaText, IsKeyText, IsPoint, IsPublicText}

-- ---- judgements, and what they say

unless_true : (fault : KeyFault) (b : Bool) → fault_unless fault b ≡ None → b ≡ true
unless_true fault true e = refl
unless_true fault false e = absurd cc

unless_passes : (fault : KeyFault) (b : Bool) → b ≡ true → fault_unless fault b ≡ None
unless_passes fault b e = rw e refl

positive_is : (m : List ℕ) → IsMagnitude m → cond (eqb (length m) 0) (Some faults.Number) None ≡ None → IsPositive m
positive_is [] is passed = absurd cc
positive_is (byte ∷ bytes) is passed = is

positive_passes : (m : List ℕ) → IsPositive m → IsMagnitude m × (cond (eqb (length m) 0) (Some faults.Number) None ≡ None)
positive_passes [] is = absurd is
positive_passes (byte ∷ bytes) is = (is, rw (ne_eqb (length (byte ∷ bytes)) 0 (λ e. omega (arith, e))) refl)

curve_is : (curve value : List ℕ) → fault_unless faults.Curve (bytes_eq value curve) ≡ None → value ≡ curve
curve_is curve value passed = (bytes_eq-Decides value curve).0 (unless_true faults.Curve _ passed)

curve_passes : (curve : List ℕ) → fault_unless faults.Curve (bytes_eq curve curve) ≡ None
curve_passes curve = unless_passes faults.Curve _ ((bytes_eq-Decides curve curve).1 refl)

first_is : (value : List ℕ) → begins_with_4 value ≡ true → slice_index value 0 ≡ 4
first_is [] e = absurd cc
first_is (byte ∷ bytes) e = eqb-true byte 4 e

point_is : (size : ℕ) (value : List ℕ) → fault_unless faults.Point (length value == size && begins_with_4 value) ≡ None → IsPoint value size
point_is size value passed =
    let both = and_parts (length value == size) (begins_with_4 value) (unless_true faults.Point _ passed) in
    (eqb-true (length value) size both.0, first_is value both.1)

point_begins : (value : List ℕ) → 0 < length value → slice_index value 0 ≡ 4 → begins_with_4 value ≡ true
point_begins [] some first = absurd (omega (arith, some))
point_begins (byte ∷ bytes) some first = eq-eqb byte 4 first

point_passes : (size : ℕ) (value : List ℕ) → 0 < size → IsPoint value size → fault_unless faults.Point (length value == size && begins_with_4 value) ≡ None
point_passes size value some is =
    let same : (length value == size) ≡ true = eq-eqb (length value) size is.0 in
    let begins : begins_with_4 value ≡ true = point_begins value (omega (arith, some, is.0)) is.1 in
    rw (same, begins) refl

sized_is : (size : ℕ) (value : List ℕ) → fault_unless faults.Length (length value == size) ≡ None → length value ≡ size
sized_is size value passed = eqb-true (length value) size (unless_true faults.Length _ passed)

sized_passes : (size : ℕ) (value : List ℕ) → length value ≡ size → fault_unless faults.Length (length value == size) ≡ None
sized_passes size value is = unless_passes faults.Length _ (eq-eqb (length value) size is)

no_zero : (b : Bool) → cond b (Some faults.Length) None ≡ None → b ≡ false
no_zero true e = absurd cc
no_zero false e = refl

neither : (a b : Bool) → (a || b) ≡ false → (a ≡ false) × (b ≡ false)
neither true b e = absurd cc
neither false b e = (refl, e)

application_is : (value : List ℕ) → has_zero value ≡ false → IsApplication value
application_is [] e = tt
application_is (byte ∷ bytes) e = let w = neither (eqb byte 0) (has_zero bytes) e in (above_zero byte w.0, application_is bytes w.1)

application_has_none : (value : List ℕ) → IsApplication value → has_zero value ≡ false
application_has_none [] is = refl
application_has_none (byte ∷ bytes) is = rw (ne_eqb byte 0 (λ e. omega (arith, is.0, e)), application_has_none bytes is.1) refl

application_passes : (value : List ℕ) → IsApplication value → cond (has_zero value) (Some faults.Length) None ≡ None
application_passes value is = rw (application_has_none value is) refl

-- ---- what a table spells

ecdsa_spelled : (curve : List ℕ) (size : ℕ) (bytes : List ℕ) (values : List (List ℕ)) → BeginsWithTable (curve_field curve ∷ point_field size ∷ []) [] bytes values [] → IsEcdsaText curve size bytes
ecdsa_spelled curve size bytes values (name, a, is_name, named, (point, b, is_point, passed, (all, end))) = record {
  point = point;
  spelled = is_name.spelled ∙ ap (λ (c : List ℕ). string c ++ a) (curve_is curve name named) ∙ ap (λ (t : List ℕ). string curve ++ t) (is_point.spelled ∙ ap (λ (t : List ℕ). string point ++ t) end);
  point_is = point_is size point passed;
}

pub public_spelled : (kind : Kind) (bytes : List ℕ) (values : List (List ℕ)) (bits : ℕ) → BeginsWithTable (fields_of kind) [] bytes values [] → bits ≡ bits_of kind values → IsPublicText kind bytes bits
public_spelled Rsa bytes values bits (e, a, is_e, e_passed, (n, b, is_n, n_passed, (all, end))) same = record {
  e = e;
  n = n;
  spelled = is_e.spelled ∙ ap (λ (t : List ℕ). mpint e ++ t) (is_n.spelled ∙ ap (λ (t : List ℕ). mpint n ++ t) end);
  e_is = positive_is e is_e.is_part.0 e_passed;
  n_is = positive_is n is_n.is_part.0 n_passed;
  bits_are = same ∙ ap (bits_of Rsa) (sym all);
}
public_spelled Dsa bytes values bits (p, a, is_p, p_passed, (q, b, is_q, q_passed, (g, c, is_g, g_passed, (y, d, is_y, y_passed, (all, end))))) same = record {
  p = p;
  q = q;
  g = g;
  y = y;
  spelled =
      is_p.spelled
      ∙ ap (λ (t : List ℕ). mpint p ++ t) (is_q.spelled
      ∙ ap (λ (t : List ℕ). mpint q ++ t) (is_g.spelled ∙ ap (λ (t : List ℕ). mpint g ++ t) (is_y.spelled ∙ ap (λ (t : List ℕ). mpint y ++ t) end)));
  p_is = positive_is p is_p.is_part.0 p_passed;
  q_is = positive_is q is_q.is_part.0 q_passed;
  g_is = positive_is g is_g.is_part.0 g_passed;
  y_is = positive_is y is_y.is_part.0 y_passed;
  bits_are = same ∙ ap (bits_of Dsa) (sym all);
}
public_spelled Ecdsa256 bytes values bits begins same = (ecdsa_spelled (codes "nistp256") 65 bytes values begins, same)
public_spelled Ecdsa384 bytes values bits begins same = (ecdsa_spelled (codes "nistp384") 97 bytes values begins, same)
public_spelled Ecdsa521 bytes values bits begins same = (ecdsa_spelled (codes "nistp521") 133 bytes values begins, same)
public_spelled Ed25519 bytes values bits (key, a, is_key, sized, (all, end)) same =
    (record { key = key; spelled = is_key.spelled ∙ ap (λ (t : List ℕ). string key ++ t) end; size_is = sized_is 32 key sized }, same)
public_spelled EcdsaSk bytes values bits (name, a, is_name, named, (point, b, is_point, passed, (application, c, is_application, none, (all, end)))) same = (
  record {
    point = point;
    application = application;
    spelled =
        is_name.spelled
        ∙ ap (λ (c : List ℕ). string c ++ a) (curve_is (codes "nistp256") name named)
        ∙ ap (λ (t : List ℕ). string (codes "nistp256") ++ t) (is_point.spelled ∙ ap (λ (t : List ℕ). string point ++ t) (is_application.spelled ∙ ap (λ (t : List ℕ). string application ++ t) end));
    point_is = point_is 65 point passed;
    application_is = application_is application (no_zero (has_zero application) none);
  },
  same,
)
public_spelled Ed25519Sk bytes values bits (key, a, is_key, sized, (application, b, is_application, none, (all, end))) same = (
  record {
    key = key;
    application = application;
    spelled = is_key.spelled ∙ ap (λ (t : List ℕ). string key ++ t) (is_application.spelled ∙ ap (λ (t : List ℕ). string application ++ t) end);
    size_is = sized_is 32 key sized;
    application_is = application_is application (no_zero (has_zero application) none);
  },
  same,
)

-- ---- and what is written out is spelled by the table

-- values of a kind, and their sizes
record Written (kind : Kind) (bytes : List ℕ) (bits : ℕ) : Type 0 where
  values : List (List ℕ)
  spelled : bytes ≡ table_text (fields_of kind) values
  bits_are : bits ≡ bits_of kind values
  passed : length bytes ≤ 65536 → ArePassed (fields_of kind) [] values

positive_part : (m : List ℕ) → IsPositive m → length (complement m) ≤ 65536 → IsPart Magnitude m
positive_part m is short = ((positive_passes m is).0, omega (arith, short))

written : (kind : Kind) (bytes : List ℕ) (bits : ℕ) → IsPublicText kind bytes bits → Written kind bytes bits
written Rsa bytes bits is =
    let values : List (List ℕ) = is.e ∷ is.n ∷ [] in
    record {
      values = values;
      spelled = is.spelled;
      bits_are = is.bits_are;
      passed = λ short.
          let sizes = length-table (fields_of Rsa) values in
          let all = ap length is.spelled in (
            positive_part is.e is.e_is (omega (arith, sizes, all, short)),
            (positive_passes is.e is.e_is).1,
            (positive_part is.n is.n_is (omega (arith, sizes, all, short)), (positive_passes is.n is.n_is).1, refl),
          );
    }
written Dsa bytes bits is =
    let values : List (List ℕ) = is.p ∷ is.q ∷ is.g ∷ is.y ∷ [] in
    record {
      values = values;
      spelled = is.spelled;
      bits_are = is.bits_are;
      passed = λ short.
          let sizes = length-table (fields_of Dsa) values in
          let all = ap length is.spelled in (
            positive_part is.p is.p_is (omega (arith, sizes, all, short)),
            (positive_passes is.p is.p_is).1,
            (
              positive_part is.q is.q_is (omega (arith, sizes, all, short)),
              (positive_passes is.q is.q_is).1,
              (
                positive_part is.g is.g_is (omega (arith, sizes, all, short)),
                (positive_passes is.g is.g_is).1,
                (positive_part is.y is.y_is (omega (arith, sizes, all, short)), (positive_passes is.y is.y_is).1, refl),
              ),
            ),
          );
    }
written Ecdsa256 bytes bits (is, same) = record {
  values = codes "nistp256" ∷ is.point ∷ [];
  spelled = is.spelled;
  bits_are = same;
  passed = λ short. (omega arith, curve_passes (codes "nistp256"), (omega (arith, is.point_is.0), point_passes 65 is.point (omega arith) is.point_is, refl));
}
written Ecdsa384 bytes bits (is, same) = record {
  values = codes "nistp384" ∷ is.point ∷ [];
  spelled = is.spelled;
  bits_are = same;
  passed = λ short. (omega arith, curve_passes (codes "nistp384"), (omega (arith, is.point_is.0), point_passes 97 is.point (omega arith) is.point_is, refl));
}
written Ecdsa521 bytes bits (is, same) = record {
  values = codes "nistp521" ∷ is.point ∷ [];
  spelled = is.spelled;
  bits_are = same;
  passed = λ short. (omega arith, curve_passes (codes "nistp521"), (omega (arith, is.point_is.0), point_passes 133 is.point (omega arith) is.point_is, refl));
}
written Ed25519 bytes bits (is, same) = record {
  values = is.key ∷ [];
  spelled = is.spelled;
  bits_are = same;
  passed = λ short. (omega (arith, is.size_is), sized_passes 32 is.key is.size_is, refl);
}
written EcdsaSk bytes bits (is, same) =
    let values : List (List ℕ) = codes "nistp256" ∷ is.point ∷ is.application ∷ [] in
    record {
      values = values;
      spelled = is.spelled;
      bits_are = same;
      passed = λ short. (
        omega arith,
        curve_passes (codes "nistp256"),
        (
          omega (arith, is.point_is.0),
          point_passes 65 is.point (omega arith) is.point_is,
          (omega (arith, length-table (fields_of EcdsaSk) values, ap length is.spelled, short), application_passes is.application is.application_is, refl),
        ),
      );
    }
written Ed25519Sk bytes bits (is, same) =
    let values : List (List ℕ) = is.key ∷ is.application ∷ [] in
    record {
      values = values;
      spelled = is.spelled;
      bits_are = same;
      passed = λ short. (
        omega (arith, is.size_is),
        sized_passes 32 is.key is.size_is,
        (omega (arith, length-table (fields_of Ed25519Sk) values, ap length is.spelled, short), application_passes is.application is.application_is, refl),
      );
    }

-- ---- a whole blob

pub key_spelled : (blob : List ℕ) (key : PublicKey) → IsKey blob key → IsKeyText blob key
key_spelled blob key is = record {
  public = public_spelled key.kind key.fields is.values key.bits is.fields is.bits;
  spelled = is.spelled;
  short = is.short;
}

pub key_spells : (blob : List ℕ) (key : PublicKey) → IsKeyText blob key → IsKey blob key
key_spells blob key is =
    let w = written key.kind key.fields key.bits is.public in
    let short : length key.fields ≤ 65536 = omega (arith, is.short, ap length is.spelled, length-append (string (type_name key.kind)) key.fields) in
    record {
      values = w.values;
      fields = subst (λ (t : List ℕ). BeginsWithTable (fields_of key.kind) [] t w.values []) (sym w.spelled) (table_text_begins (fields_of key.kind) [] w.values (w.passed short));
      bits = w.bits_are;
      spelled = is.spelled;
      short = is.short;
    }
