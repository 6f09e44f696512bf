-- The default span, used for positions outside a list.
use Rattle.serial_set.specs.declared.span.Span.{Span}

abbrev pub zero_span : Span
zero_span = record { lo = 0; hi = 0 }
