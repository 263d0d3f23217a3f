use Rattle.wasm_writing.proofs.Pieces.{number_field, puts_piece}
use Rattle.wasm_writing.proofs.draft.Draft.number.Goals as goal

pub returns : goal.returns
returns c = puts_piece _ _ _ _ (number_field c.args.n _ c.write_u32-length.ensures.shortest) c.take.ensures.bytes c.take.ensures.taken
