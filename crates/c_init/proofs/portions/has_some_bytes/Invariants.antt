use Rattle.c_init.proofs.Common.{◌≡◌, drop, list_any, has_bytes}
use Rattle.c_init.proofs.portions.has_some_bytes.Given as goal

-- what is left decides
abbrev pub invariant-loop-segment : goal.invariant-loop-segment
invariant-loop-segment l = list_any has_bytes (drop l.segment-index l.segments) ≡ list_any has_bytes l.segments
