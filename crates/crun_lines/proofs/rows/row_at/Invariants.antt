use Rattle.crun_lines.proofs.Common.{◌≡◌, length, take, bytes_at}
use Rattle.crun_lines.proofs.rows.row_at.Given as goal

abbrev pub invariant-loop-i : goal.invariant-loop-i
invariant-loop-i l = record { size : length l.bytes ≡ 16; read : take l.i l.bytes ≡ bytes_at l.memory.bytes l.at l.i }
