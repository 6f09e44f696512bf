-- The names that most proofs of this crate cite, passed on from one place. Declares nothing.
pub use Rattle.std.specs.List.{AllByRecursion}
pub use Rattle.krl_types.specs.Entry.{BitmapEntry, Entry, RangeEntry, SerialsEntry}
pub use Rattle.std.proofs.Common.{Contains, List, [], append_assoc, arith, inl, inr}
pub use Rattle.std.proofs.Common.{map, refl, subst, suc, sym, zero, ℕ}
pub use Rattle.std.proofs.Common.{⊎_elim, ◌++◌, ◌<◌, ◌↔◌, ◌∷◌, ◌≡◌, ◌≤◌}
pub use Rattle.std.proofs.Common.{◌⊎◌}
pub use Rattle.std.proofs.lemmas.List.Elements.{Contains-append_cases, Contains-append_left, Contains-append_right}
pub use Rattle.krl_types.specs.Naming.{EntryNames, Name, NamesSame, SerialOf, SomeNames}
pub use Rattle.std.proofs.Math.Logic.{⊎_map, ⊎_swap}
