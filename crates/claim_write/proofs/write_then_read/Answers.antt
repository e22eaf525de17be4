-- `write_then_read` cites the law about a write that was made and the read after it. Assumes nothing.
use Rattle.claim_write.proofs.Calling.{read_after_law}
use Rattle.claim_write.proofs.write_then_read.Goals as goal

pub returns : goal.returns
returns c =
    read_after_law _ _ _ _ _ _ _ _ c.write-written.ensures _ c.read_at-read.ensures c.offset.ensures
