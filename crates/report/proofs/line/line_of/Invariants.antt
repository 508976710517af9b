use Rattle.std.proofs.Common.{◌≡◌, ◌+◌, ◌*◌, ◌≤◌, ◌++◌, drop}
use Rattle.arrayvec.specs.ArrayVec.{array_vec_len}
use Rattle.report.specs.Lines.{rest_text}
use Rattle.report.proofs.line.line_of.Given as goal

-- with the numbers that are left the text is whole, and each number so far took at most 20 digits and
-- a space
abbrev pub invariant-loop-number : goal.invariant-loop-number
invariant-loop-number l =
    (l.line.items ++ rest_text (drop l.number-index l.rest) ≡ l.initial.line.items ++ rest_text l.rest) × (array_vec_len l.line ≤ array_vec_len l.initial.line + 21 * l.number-index)
