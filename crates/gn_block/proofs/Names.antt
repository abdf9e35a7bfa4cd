-- The names that the walks of this crate share.
pub use Rattle.std.proofs.Common.{◌≡◌, ◌≢◌, ℕ, ◌+◌, ◌-◌, ◌%◌, ◌^◌, ◌<◌, ◌≤◌, ◌&&◌, T, true, List, [], ◌∷◌, ◌++◌, sym, refl, ap, ◌∙◌, subst, lit<, w64, arith}
pub use seplogic.Ra.Ura.{Ura}
pub use mir.Syntax.{a_type, named, ty_ptr, ty_struct, tcons, tnil, dcons, dnil}
pub use mir.Val.{Val, vunit, vint, vptr, vstruct, vcons, vnil, of_list, has_ty, WT}
pub use mir.MapTy.{inst_fn}
pub use base.Fraction.{full_share}
pub use base.Logic.{SProp, ent, sep, emp, id⊢, via, guard_i, all_e, never, never_e, fst∗}
pub use base.Fml.{Lft, GName, Share, Fml, ftrue, ffalse, fsep, fex, feq, flft, fhide, finv}
pub use prog.Wp.{WpFn}
pub use types.Logic.{Logic, sem}
pub use types.Kit.{‵, raw, ◌⊛◌, some, given, later, mean, at_ret, ◌$◌, ◌∵◌, !, qed, by, move, keep, drop, split, split3, join, fsplit, fsplit3, fjoin, fjoin3, fpick, fpack, pick, learn, suffices, use0, use1, use2, use3, group, await, rewrite, feq_i, feq_l, flt_i}
pub use types.Run.{stop, fld, hop, addr, lit, of_opd, bin, no_more, and_then, first, blocks, branches, skips, exec, Calls-last, returns, returns_within, enter}
pub use types.ByLocal.{alloc_all, pass_all, free_all, look_at, get, get_in, through, sets, sets_last, lands_last, lands_as, is, env}
pub use types.Part.{agg, sub, whole as entire, look_in}
pub use types.Match.{live}
pub use contract.Running.{tables}
pub use contract.Monad.{fact, fact_i, fact_use}
pub use contract.BorrowLft.{◌⊑◌}
pub use denote.Exit.{yes, no}
pub use denote.RattleType.{RattleType, Valss, owns}
pub use denote.Signature.{types_at, type_at, plain}
pub use denote.Laws.{Is, Lawful, Typed, shows}
pub use denote.RawPtr.{Ptr, InBlock, block_ptr, null_ptr, ptr_val, block_of, count_of, at_block}
pub use denote.Steps.{nothing, only, peeks, heard, looks, shuts}
pub use denote.Opens.{Opens, unhide}
pub use denote.Memory.{lone, part_of, part_at, cell_at, hidden_shr, shared_of}
pub use denote.Param.{param, layout, layouts, bounded}
pub use denote.Param.Laws.{Laws, param_laws}
pub use denote.Builtin.{RefOf, RawPtr, u64}
pub use denote.Ref.{shr_vals, shr_Tells}
pub use denote.Plain.{uint_vals, uint_Tells}
pub use denote.SharingLaws.{contraction}
pub use denote.Triple.Entry.{alive}
pub use denote.Triple.Walked.{Stays, stay_dropped, walk_of, Goes-dropped}
pub use Rattle.core.proofs.atomic.Steps.{tail}
pub use Rattle.atomic_table.proofs.Walks.{proved, proved_at, leaves}
pub use Rattle.atomic_table.proofs.Calls.{fm, seq_cst, found, finds, adds, subs, loads}
pub use Rattle.core.specs.Sync.RawAtomic.{word}
pub use Rattle.counted_slot.specs.Counting.{offset}
pub use Rattle.gn_block.specs.Parts.{IsPart}
pub use Rattle.gn_block.specs.Sharing.{Round, held, all_of_it, after_add, after_go, after_look}
pub use Rattle.gn_block.specs.Blocks.{lent, common, seen, handle, handle_owns, handle_shares}
pub use Rattle.gn_block.specs.Whole.{whole}
