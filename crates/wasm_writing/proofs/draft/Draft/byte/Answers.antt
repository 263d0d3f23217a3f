use Rattle.wasm_writing.proofs.Pieces.{byte_field, puts_piece}
use Rattle.wasm_writing.proofs.draft.Draft.byte.Goals as goal

pub returns : goal.returns
returns c = puts_piece _ _ _ _ (byte_field c.args.b) c.take.ensures.bytes c.take.ensures.taken
