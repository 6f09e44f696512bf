-- Spans that are added one after the other.
use Rattle.span_vec.proofs.Common.{◌+◌, ◌<◌, AddsSpan, get_or, inl, inr, length, List, Span, take, ℕ}
use Rattle.serial_set.specs.Near.{AddsSpans}
use Rattle.span_sets.proofs.NearSpans.{covers_more}

pub adds_next : (old mid new spans : List Span) (i : ℕ) (d : Span) → i < length spans → AddsSpans old (take i spans) mid → AddsSpan mid (get_or spans i d).lo (get_or spans i d).hi new → AddsSpans old (take (i + 1) spans) new
adds_next old mid new spans i d h before adds = (
  adds.0,
  λ s.
      let more = covers_more spans i d s h in (
        λ n. elim ((adds.1 s).0 n) [
          | inl was ↦ elim ((before.1 s).0 was) [ inl x ↦ inl x | inr y ↦ inr (more.1 (inl y)) ]
          | inr here ↦ inr (more.1 (inr here))
        ],
        λ n. (adds.1 s).1 (elim n [
          | inl x ↦ inl ((before.1 s).1 (inl x))
          | inr y ↦ elim (more.0 y) [ inl z ↦ inl ((before.1 s).1 (inr z)) | inr here ↦ inr here ]
        ]),
      ),
)
