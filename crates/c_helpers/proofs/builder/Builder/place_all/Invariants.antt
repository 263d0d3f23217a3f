use Rattle.c_helpers.proofs.Common.{◌≡◌, drop, all_placed, made_by}
use Rattle.c_helpers.proofs.builder.Builder.place_all.Given as goal

-- what the pieces to come make from here is what all pieces make
abbrev pub invariant-loop-piece : goal.invariant-loop-piece
invariant-loop-piece l =
    all_placed l.setting.ty l.setting.size (made_by l.self) (drop l.piece-index l.pieces)
    ≡ all_placed l.setting.ty l.setting.size (made_by l.fn.self) l.pieces
