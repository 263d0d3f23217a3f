use Rattle.wasm_writing.proofs.Common.{ℕ, List, length, subst, here, number, text, expression, Puts}
use Rattle.wasm_writing.proofs.Lists.{puts_both}
use Rattle.wasm_writing.proofs.Codes.{puts_here}
use Rattle.wasm_writing.proofs.entries.SegmentEntryEntry.put.Goals as goal

pub returns : goal.returns
returns c =
    let s = c.args.self.now in
    let counted = subst (λ n. Puts (number n) c.expression.new.draft c.count.new.draft) c.len.ensures c.count.ensures in
    let bytes = subst (λ (t : List ℕ). Puts (text t) c.count.new.draft c.text.new.self) c.as_slice.ensures c.text.ensures in
    puts_here s.place
    (λ rest. number s.memory (here s.offset_place (expression s.offset (number (length s.bytes) (text s.bytes rest))))) _ _
    (puts_both (number s.memory) (λ rest. here s.offset_place
    (expression s.offset (number (length s.bytes) (text s.bytes rest)))) _ _ _ c.number.ensures
    (puts_here s.offset_place (λ rest. expression s.offset (number (length s.bytes) (text s.bytes rest))) _ _
    (puts_both (expression s.offset) (λ rest. number (length s.bytes) (text s.bytes rest)) _ _ _ c.expression.ensures
    (puts_both (number (length s.bytes)) (text s.bytes) _ _ _ counted bytes))))
