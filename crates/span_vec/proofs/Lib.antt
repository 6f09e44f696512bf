mod AddedInTurn
mod Common
mod MergedSpans
mod SpanLookup
