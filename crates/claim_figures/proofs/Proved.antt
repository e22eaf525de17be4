-- Each row of both tables holds: both sides compute to the same value. Assumes nothing.
use Rattle.laws.proofs.Prelude.{refl, also, either, within, check, granted, least_false, all, greatest, total, tabulate, store}
use Rattle.view.specs.Limits.{width_allowed, etype_entries_allowed, filetype_entries_allowed, entry_displacement_allowed, extent_allowed, displacement_allowed, offset_allowed, pointer_allowed, file_allowed}
use Rattle.view.specs.Types.{whole, entries, width_at, displacement_at, extent_of, paper}
use Rattle.view.specs.Parts.{default_view, entry_matches, group_matches, origin_allowed, group_built, deciding_group, limits_entry, order_entry, of_both, differing_entry, below_entry, hole_names, hole_entry, ends_before, clear_of, entry_clear, clear, overlap_entry, named_by, record_of, entry_start, offset_in, index_in, hits, hit_entry, owner_of, end_from, end_of_file, ordered, holes_fit}
use Rattle.view.specs.Rules.{native_name, is_native, paired, entry_allowed, entries_allowed, type_ordered, whole_groups, instances, origin, hole, hole_allowed, view_holes_fit}
use Rattle.view.specs.Acceptance.{view_refusal, set_refusal, accepted}
use Rattle.view.specs.Modes.{mode_allowed, allows_reading, allows_writing}
use Rattle.view.specs.Places.{place, packed_before, data_size, entry_of, data_at, byte_of}
use Rattle.view.specs.Owners.{owner_numbers}
use Rattle.move_read.specs.Moves.{file_byte}
use Rattle.move_read.specs.Parts.{in_file, moved, read_into, write_end, new_size, written}
use Rattle.handle.specs.Ranges.{target_allowed, access_allowed}
use Rattle.handle.specs.Handles.{handle_valid, file_valid, with_size}
use Rattle.file.specs.Parts.{fresh_handle, with_view, open_answer, set_view_answer, byte_offset_answer, reverse_answer, end_answer, seek_answer, read_count, at_pointer, read_at_answer, write_at_answer, written_file}
use Rattle.file.specs.Handles.{mode_got, with_pointer}
use Rattle.call_checks.specs.Refusals.{open_refusal, set_view_refusal, byte_offset_refusal, reverse_refusal, end_refusal, seek_target, seek_refusal, access_refusal, read_refusal, write_refusal}
use Rattle.claim_figures.specs.Table.{Figures}
use Rattle.claim_figures.specs.LongFiles.{LongFiles}

proved : Figures × LongFiles
unfolding also either within check granted least_false all greatest total tabulate store width_allowed etype_entries_allowed filetype_entries_allowed entry_displacement_allowed extent_allowed displacement_allowed offset_allowed pointer_allowed file_allowed whole entries width_at displacement_at extent_of paper default_view native_name is_native paired entry_allowed entries_allowed ordered type_ordered instances whole_groups origin entry_matches group_matches origin_allowed group_built deciding_group limits_entry order_entry of_both differing_entry below_entry hole holes_fit hole_allowed view_holes_fit hole_names hole_entry ends_before clear_of entry_clear clear overlap_entry named_by mode_allowed allows_reading allows_writing view_refusal set_refusal accepted record_of place packed_before data_size entry_of data_at byte_of entry_start offset_in index_in hits hit_entry owner_of owner_numbers end_from end_of_file file_byte in_file moved read_into write_end new_size written fresh_handle mode_got handle_valid file_valid with_pointer with_view with_size open_refusal set_view_refusal byte_offset_refusal reverse_refusal end_refusal seek_target target_allowed seek_refusal access_allowed access_refusal read_refusal write_refusal open_answer set_view_answer byte_offset_answer reverse_answer end_answer seek_answer read_count at_pointer read_at_answer write_at_answer written_file
proved = (
  record {
    p1_set = refl;
    p1_place = refl;
    p1_word = refl;
    p2_end = refl;
    p3_read = refl;
    p4_set = refl;
    p5_set = refl;
    p6_set = refl;
    p6_places = refl;
    p6_end = refl;
    p7_set = refl;
    p7_places = refl;
    p7_end = refl;
    p8_set = refl;
    p8_owners = refl;
    p9_set = refl;
    p9_size = refl;
    p9_bytes = refl;
    p10_pointer = refl;
    p10_seek = refl;
    p11_read = refl;
    p12_set = refl;
    p12_places = refl;
    p12_size = refl;
  },
  record {
    longest = refl;
    too_long = refl;
    too_long_empty = refl;
    size_past_length = refl;
    far_end = refl;
    far_seek = refl;
    far_write = refl;
    last_read = refl;
    last_write = refl;
  },
)

pub figures : Figures
figures = proved.0

pub long_files : LongFiles
long_files = proved.1
