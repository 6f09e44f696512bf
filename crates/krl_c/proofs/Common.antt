-- The names that most proofs of this crate cite, passed on from one place. Declares nothing.
pub use Rattle.std.proofs.Common.{[], ◌%◌, ◌++◌, ◌/◌, ◌<ℤ◌, ◌<◌, ◌^◌, ◌↔◌, ◌∙◌, ◌∷◌, ◌≡◌, ◌≤◌, ◌⊎◌}
pub use Rattle.std.proofs.Common.{ap, arith, Bool, Err, false, get_or, inl, inr, IsTrue, length}
pub use Rattle.std.proofs.Common.{length-append, List, nat_eq, negsuc, None, of_z, Ok, Option, pos}
pub use Rattle.std.proofs.Common.{refl, Result, rules, SFits, Some, subst, suc, sym, T, to_z, true}
pub use Rattle.std.proofs.Common.{unsigned_abs, w32, zero, ℕ, ℤ}
pub use Rattle.key_text.specs.declared.line_fault.LineFault.{LineFault}
pub use Rattle.krl_c.specs.Answer.{answered, Answers, AnswersBlob, AnswersBy, AnswersLine}
pub use Rattle.krl_c.specs.Answer.{AnswersOfLine, HasIncomparable, HasOne, IsCompared}
pub use Rattle.plain_list.specs.Any.{IsListOf}
pub use Rattle.krl_c.specs.Answer.{IsRefusal, line_ran_out, list_ran_out, names, no_blob, no_line}
pub use Rattle.krl_c.specs.Answer.{no_list, of_key, other_names, ran_out, said, Says, spares}
pub use Rattle.krl_c.specs.Asked.{IsQuery, IsRefusedBlob, IsReportedRefusal}
pub use Rattle.krl_c.specs.declared.asked.BlobFault.{BlobFault}
pub use Rattle.krl_openssh.specs.Comparable.{IsIncomparable}
pub use Rattle.krl_openssh.specs.declared.authorities.Incomparable.{Incomparable}
pub use Rattle.krl_c.specs.Number.{blob_number, names_number}
pub use Rattle.krl_c.specs.Number.{line_number, list_number, no_memory, plain_number}
pub use Rattle.krl_c.specs.Number.{refusal_number, subject_number}
pub use Rattle.krl_c.specs.Stored.{AnswersStored, loaded, not_loaded_for, unloaded}
pub use Rattle.krl_format.specs.Entries.{entries_of}
pub use Rattle.krl_types.specs.Entry.{Entry}
pub use Rattle.ssh_cert.specs.SubjectReading.{IsReportedFault, IsSubject, IsSubjectFault}
pub use Rattle.ssh_cert.specs.SubjectReading.{subject_of}
pub use Rattle.ssh_cert.specs.declared.subject_fault.SubjectFault.{SubjectFault}
pub use Rattle.std.proofs.alloc.Calls.{Goes-blank}
pub use Rattle.std.proofs.lemmas.Bool.{false≢true}
pub use Rattle.std.proofs.lemmas.Int.{ints, to_z-of_z, to_z_pos}
pub use Rattle.std.proofs.raw_atomic.Walks.{proved_at}
pub use base.Fml.{fat, flft, froom, ftrue}
pub use base.Fraction.{full_share}
pub use base.Logic.{ent, fst∗, id⊢, never}
pub use borrow.Struct.Leaves.{Lone-is}
pub use contract.Monad.{fact}
pub use contract.Running.{tables}
pub use denote.Builtin.{i32, SliceRefOf, u8}
pub use denote.Exit.{Exit, hidden, leaves, unchanged, under, yes}
pub use denote.Laws.{Is, shows, Typed}
pub use denote.Memory.{cell_at, lone, part_at, shared_of}
pub use denote.RawPtr.{block_of, block_ptr, count_of, in_a_block, in_block, lies_at, null_ptr, Ptr}
pub use denote.RawPtr.{RawPtr, rawptr_Tells, rawptr_vals, room_at}
pub use denote.Signature.{plain}
pub use denote.Steps.{closes, heard, nothing, only, opens, peeks}
pub use denote.Triple.Call.{calls_at}
pub use denote.Triple.Clauses.{Lasts, lasts}
pub use denote.Triple.Spec.{triple_of}
pub use denote.Triple.Table.{framed}
pub use denote.Triple.Walked.{ends_at, Goes-dropped, Goes-ref, says, stay_dropped, stay_ref, Stays}
pub use denote.Triple.Walked.{walk_of}
pub use mir.Syntax.{named, Ty}
pub use mir.Val.{has_ty, Val, vptr, vunit, WT}
pub use prog.Wp.{WpFn}
pub use types.ByLocal.{alloc_all, env, free_all, get, lands_as, look_at, pass_all, sets, sets_last}
pub use types.ByLocal.{through}
pub use types.Kit.{ !, ‵, ◌$◌, ◌∵◌, ◌⊛◌, at_ret, await, done, feq_i, fjoin, fjoin3, frame, fsplit}
pub use types.Kit.{fsplit3, group, join, keep, later, move, pick, prop, qed, raw, regoal, rewrite}
pub use types.Kit.{some, split, Sq, suffices, use1, use2}
pub use types.Run.{addr, and_then, assigns, assigns_last, blocks, enter, exec, first, fld, init}
pub use types.Run.{load, look, no_more, of_opd, returns, stop, store, unit_lit}
