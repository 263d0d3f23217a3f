use Rattle.wasm_writing.proofs.Common.{subst, w64, to_z-of_z, SpellsSigned, IsShortest}
use Rattle.wasm_writing.proofs.Pieces.{signed_field, puts_piece}
use Rattle.wasm_writing.proofs.draft.Draft.signed64.Goals as goal

pub returns : goal.returns
returns c =
    puts_piece _ _ _ _
    (signed_field 64 c.args.n _ (subst (IsShortest (SpellsSigned 64) _) (to_z-of_z w64 c.args.n c.ranges.n)
    c.write_s64-length.ensures.shortest))
    c.take.ensures.bytes c.take.ensures.taken
