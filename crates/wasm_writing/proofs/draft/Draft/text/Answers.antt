use Rattle.wasm_writing.proofs.Pieces.{text_field, puts_piece}
use Rattle.wasm_writing.proofs.draft.Draft.text.Goals as goal

pub returns : goal.returns
returns c = puts_piece _ _ _ _ (text_field c.args.bytes.now) c.take.ensures.bytes c.take.ensures.taken
