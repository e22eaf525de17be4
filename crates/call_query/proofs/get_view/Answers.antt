-- `get_view` refuses, or hands lists that have room to the function that fills them. Assumes nothing.
use Rattle.view.specs.Parts.{refusal_in, refusal_number}
use Rattle.call_query.proofs.Getting.{got_entries, got_instances, got_handle, got_short, got_ready, got_filled}
use Rattle.call_query.proofs.get_view.Goals as goal

pub returns-then-not-handle_valid : goal.returns-then-not-handle_valid
unfolding refusal_in refusal_number
returns-then-not-handle_valid c = search got_handle

pub lists_long-long-requires : goal.lists_long-long-requires
lists_long-long-requires c = (search got_entries, search got_instances)

pub returns-then-not-long : goal.returns-then-not-long
unfolding refusal_in refusal_number
returns-then-not-long c = search got_short

pub fill_lists-requires : goal.fill_lists-requires
fill_lists-requires c = search got_ready

pub returns : goal.returns
unfolding refusal_in refusal_number
returns c = search got_filled
