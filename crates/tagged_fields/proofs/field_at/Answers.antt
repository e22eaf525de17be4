-- `field_at` follows the definition along what stands from the place on. Assumes nothing.
use Rattle.laws.proofs.Prelude.{◌∙◌}
use Rattle.tagged_fields.proofs.Bytes.{rest_is, rest_end, rest_header, rest_cut, rest_whole}
use Rattle.tagged_fields.proofs.field_at.Goals as goal

pub returns-then-rest-length : goal.returns-then-rest-length
returns-then-rest-length c = rest_cut _ _ _ (rest_is _ _ _ c.min.ensures) c.in-len3-up.len_at_least _ (c.from-length.ensures ∙ c.from_le_bytes.ensures) c.if-rest-length.true

pub returns-in-empty : goal.returns-in-empty
returns-in-empty c = rest_end _ _ _ (rest_is _ _ _ c.min.ensures) c.in-empty.len_below

pub returns-in_default : goal.returns-in_default
returns-in_default c = rest_header _ _ _ (rest_is _ _ _ c.min.ensures) c.in_default.len_at_least c.in_default.len_below

pub returns-else-rest-length : goal.returns-else-rest-length
returns-else-rest-length c = rest_whole _ _ _ (rest_is _ _ _ c.min.ensures) c.in-len3-up.len_at_least _ (c.from-length.ensures ∙ c.from_le_bytes.ensures) c.if-rest-length.false
