-- Code has the types that it has with every place 0.
use Rattle.w2c_gen.proofs.Common.{[], ◌∷◌, None, Option, Block, Code, If, Kind, Loop, Otherwise, else_code, end_code, no_else, then_code}
use Rattle.w2c_gen.proofs.Common.{bare_code, bare_kind, bare_otherwise, Context, Labels, ElseHasType, HasType, KindHasType, Stack, values}
use Rattle.w2c_base.specs.declared.value.ValType.{ValType}

mutual
  pub typed_again : (c : Context) (labels : Labels) (code : Code) (old new : Stack) → HasType c labels (bare_code code) old new
      → HasType c labels code old new
  typed_again c labels end_code old new h = h
  typed_again c labels (then_code place kind code) old new h =
      (h.0, kind_typed_again c labels kind old h.0 h.1, typed_again c labels code h.0 new h.2)

  kind_typed_again : (c : Context) (labels : Labels) (kind : Kind) (old new : Stack) → KindHasType c labels (bare_kind kind) old new
      → KindHasType c labels kind old new
  kind_typed_again c labels (Block t code end_place) old new h = (typed_again c (t ∷ labels) code [] (values t) h.0, h.1)
  kind_typed_again c labels (Loop t code end_place) old new h = (typed_again c (None ∷ labels) code [] (values t) h.0, h.1)
  kind_typed_again c labels (If t code otherwise end_place) old new h =
      (typed_again c (t ∷ labels) code [] (values t) h.0, else_typed_again c (t ∷ labels) otherwise t h.1, h.2)
  kind_typed_again c labels kind old new h = h

  else_typed_again : (c : Context) (labels : Labels) (otherwise : Otherwise) (t : Option ValType)
      → ElseHasType c labels (bare_otherwise otherwise) t → ElseHasType c labels otherwise t
  else_typed_again c labels no_else t h = h
  else_typed_again c labels (else_code place code) t h = typed_again c labels code [] (values t) h
