use Rattle.c_helpers.proofs.Common.{◌≡◌, drop, made_by, staged}
use Rattle.c_helpers.proofs.builder.Builder.place_staged.Given as goal

-- what the sizes to come make from here is what all sizes make
abbrev pub invariant-loop-size : goal.invariant-loop-size
invariant-loop-size l =
    staged l.ty (drop l.size-index l.sizes) (made_by l.self) l.pieces
    ≡ staged l.ty l.sizes (made_by l.fn.self) l.pieces
