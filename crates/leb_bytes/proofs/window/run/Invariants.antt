use Rattle.leb_bytes.proofs.Common.{◌≡◌, ◌≤◌, length, take, seven_bit_sum, GoOn}
use Rattle.leb_bytes.proofs.window.run.Given as goal

abbrev pub invariant-loop-i : goal.invariant-loop-i
invariant-loop-i l = record {
  so_far : l.sum ≡ seven_bit_sum (take l.i l.window);
  go_on : GoOn (take l.i l.window);
  within : l.i ≤ length l.window;
}
