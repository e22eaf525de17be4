-- What most proofs use of the libraries and of this crate, passed on so that a file brings it in by one line.
pub use Prim.Native.Nat.{◌%◌, ◌*◌, ◌+◌, ◌-◌, ◌/◌, ◌<◌, ◌^◌, ◌≤◌, max, min, suc, zero, ℕ}
pub use mathlib.Core.Path.{◌∙◌, ◌≡◌, ap, refl, subst, sym, transport⁻¹}
pub use mathlib.Core.Bool.{Bool, cond, false, false≢true, not, true, true≢false}
pub use mathlib.Core.List.{List, ◌++◌, map}
pub use mathlib.Core.Logic.{◌≢◌, ◌⊎◌, inl, inr, ⊎_elim}
pub use native.Mathlib.Omega.{arith}
pub use native.Mathlib.Nat.{add-mul, add-mul-div_right, add-mul-mod_self_right, add-suc, add-zero, div-add-mod', div-eq_of_lt, div-le_self, div-lt_iff_lt-mul, div-mul-le_self, div_self, eq-or-lt_of_le, eq-zero-or-pos, le_antisymm, le-div_iff_mul-le, le_of_mul-le-mul_right, lt-div-mul-add, min-le_left, mod-eq_of_lt, mod-lt, mod_self, mul-add-mod_self_right, mul_assoc, mul-div_cancel, mul-le-mul, mul-le-mul_right, mul-lt-mul_of_pos_right, mul-mod_left, one-mul, pow-le-pow_right, pow-suc, zero-div, zero-mod, zero-mul}
pub use native.Mathlib.Numerals.{add-one}
pub use lib.ListN.{get_or-eq_default as List·getD-eq-default, drop, drop_of_length-le, get_or, get_or-replicate, length, length-drop, length-replicate, length-set, replicate, set, take}
pub use lib.IntN.{+ℤ_comm, -ℤ_one, ◌+ℤ◌, ◌-ℤ◌, nat_abs, negsuc, pos, sub_ℕ, ℤ}
pub use lib.Dec.{T, eqb, leb, leb→le, lit<, ltb, ltb→lt}
pub use lib.Seq.{ext_get_or, get_or-drop, get_or-take, length-take-le}
pub use lib.Signed.{lt_z, mag, non_neg}
pub use mir.Syntax.{w64}
pub use mir.Val.{Fits, SFits, hbits, of_z, to_z}
pub use mir.Facts.{to_z-of_z, to_z_pos}
pub use borrow.Author.Rules.{length_unmapped, rules, scaled_Fits, set_long, sfits_of}
pub use borrow.Author.Tests.{eq-eqb, eqb-true, le-leb, le-ltb, leb-false, leb-true, lt-leb, lt-ltb, ltb-true, ne_eqb, not-false, not-true}
unfoldable pub use Rattle.laws.specs.Checks.{also, check, either, granted, within}
unfoldable pub use Rattle.laws.specs.Search.{all, least_false, total}
pub use Rattle.laws.specs.Search.{IsFirst}
unfoldable pub use Rattle.laws.specs.Parts.{greatest, front, store}
unfoldable pub use Rattle.laws.specs.Lists.{nth, tabulate}
pub use Rattle.laws.proofs.Booleans.{Passes, check_here, check_past, check_step, also_false, also_first, also_inv, also_no, also_true, also_yes, check_inv, check_no, check_passes, check_yes, check_zero, cond_no, cond_yes, either_else, either_inv, either_left, either_no, either_right, either_yes, ends_here, eq_or_ne, granted_no, granted_yes, iff, lt_or_le, not_both, tests, unflag_false, unflag_true, within_high, within_inv, within_low, within_yes}
pub use Rattle.laws.proofs.Searching.{Passed, all_below, all_fails, all_reaches, ends_first, ends_holds, ends_last, first_false, first_found, first_one, least_false_same, not_false_true, not_true_false, all_at, all_intro, all_same, least_false_breaks, least_false_is, least_false_keeps, least_false_le, passed_end, passed_fails, passed_holds, passed_more, passed_none, passed_stop}
pub use Rattle.laws.proofs.Quotients.{next_in, next_over, run_below, run_div, run_mod, runs_below, times_more}
pub use Rattle.laws.proofs.Stores.{front_at, front_past, length_store, length_tabulate, store_at, store_end, store_more, store_none, store_other, store_same, storing, tabulate_add, tabulate_at, tabulate_is, tabulate_same}
pub use Rattle.laws.proofs.Sums.{Highest, greatest_above, greatest_least, greatest_one, greatest_same, highest_end, highest_more, highest_none, total_more, total_most, total_part, total_same}
pub use Rattle.laws.proofs.Runs.{front_part, prefix, store_run, tail_back, tail_lent, take_front, upto}
pub use Rattle.laws.proofs.Turns.{InTurn, turn_later, turn_lowest, turn_within}
pub use Rattle.laws.proofs.Signs.{minus_negative, natural_fits, natural_sign, not_negative}
pub use Rattle.laws.proofs.Orders.{max_is, min_is}
