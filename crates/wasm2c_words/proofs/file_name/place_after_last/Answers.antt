use Rattle.std.proofs.Common.{arith}
use Rattle.wasm2c_words.proofs.ModuleName.{place_is}
use Rattle.wasm2c_words.proofs.file_name.place_after_last.Goals as goal

pub returns-else-bytes-place : goal.returns-else-bytes-place
returns-else-bytes-place c =
    place_is c.args.bytes.now c.args.wanted c.loop-place.place c.loop-place.invariant.within c.loop-place.invariant.none_behind
    (λ some. grind arith)

pub returns-after-loop-place : goal.returns-after-loop-place
returns-after-loop-place c =
    place_is c.args.bytes.now c.args.wanted c.loop-place.place c.loop-place.invariant.within c.loop-place.invariant.none_behind
    (λ some. absurd (omega arith))
