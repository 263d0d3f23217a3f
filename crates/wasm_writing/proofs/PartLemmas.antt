-- Sections, where they have entries.
use Rattle.wasm_writing.proofs.Common.{◌≡◌, true, false, cond, sym, ap, Module, Fields, byte, finished, window, Part, content, id_of}
use Rattle.wasm_writing.proofs.Common.{is_empty, Puts, PutsSize, Draft, Counted}
use Rattle.wasm_writing.specs.ShortFile.{filled}
use Rattle.wasm_writing.proofs.Lists.{puts_both, puts_same}
use Rattle.wasm_writing.proofs.Windows.{puts_window}

pub filled-empty : (t : Module) (part : Part) (rest : Fields) → is_empty part t ≡ true → filled t part rest ≡ rest
unfolding filled
filled-empty t part rest e = ap (λ b. cond b rest (byte (id_of part) (window (content part t finished) rest))) e

pub filled-full : (t : Module) (part : Part) (rest : Fields) → is_empty part t ≡ false
    → filled t part rest ≡ byte (id_of part) (window (content part t finished) rest)
unfolding filled
filled-full t part rest e = ap (λ b. cond b rest (byte (id_of part) (window (content part t finished) rest))) e

pub puts_empty : (t : Module) (part : Part) (draft : Draft) → is_empty part t ≡ true → Puts (filled t part) draft draft
puts_empty t part draft e =
    puts_same (λ rest. rest) (filled t part) draft draft (λ rest. sym (filled-empty t part rest e))
    ((λ file rest h. h), (λ written room rest h. h), (λ s. s))

pub puts_full : (t : Module) (part : Part) (counted a b c d : Draft) → is_empty part t ≡ false → Puts (content part t) (Counted 0) counted
    → Puts (byte (id_of part)) a b → PutsSize counted b c → Puts (content part t) c d → Puts (filled t part) a d
puts_full t part counted a b c d e inside first size last =
    puts_same (λ rest. byte (id_of part) (window (content part t finished) rest)) (filled t part) a d
    (λ rest. sym (filled-full t part rest e))
    (puts_both (byte (id_of part)) (window (content part t finished)) a b d first
    (puts_window (content part t) counted b c d inside size last))
