use Rattle.std.proofs.Common.{◌≡◌, take}
use Rattle.c_trim.proofs.copies.copy_locals.Given as goal

abbrev pub invariant-loop-ty : goal.invariant-loop-ty
invariant-loop-ty l = l.copies ≡ take l.ty-index l.locals
