-- `set_view` decodes each list into the front of an array and lends this front. Assumes nothing.
use Rattle.tagged_fields.proofs.Bytes.{bytes_rest}
use Rattle.set_record.proofs.Setting.{set_view_is}
use Rattle.set_record.proofs.set_view.Goals as goal

pub returns : goal.returns
returns c =
    set_view_is _ _ c.list_lengths.ensures _ _ _ _ _ _ _ (bytes_rest _ _ _ c.bytes_after-rest.ensures) c.numbers_into.ensures c.signed_into.ensures c.numbers_into-2.ensures c.signed_into-2.ensures c.set_lists.ensures
