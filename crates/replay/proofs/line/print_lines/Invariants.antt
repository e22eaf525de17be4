-- Each line takes at most 105 bytes of the text.
use Rattle.std.proofs.Common.{◌*◌, ◌≤◌}
use Rattle.arrayvec.specs.ArrayString.{array_string_len}
use Rattle.replay.proofs.line.print_lines.Given as goal

abbrev pub invariant-loop-line : goal.invariant-loop-line
invariant-loop-line g l = array_string_len l.text ≤ 105 * l.line-index
