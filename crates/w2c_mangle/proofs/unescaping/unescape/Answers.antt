use Rattle.std.proofs.Common.{◌<◌, sym, ◌∙◌, length, rules}
use Rattle.w2c_mangle.proofs.EscapedNames.{escaped-no_rest}
use Rattle.w2c_mangle.proofs.unescaping.unescape.Goals as goal

pub returns-in_default-clause-not_escaped : goal.returns-in_default-clause-not_escaped
returns-in_default-clause-not_escaped c =
    let more : 0 < length c.loop-rest.rest.now = search rules in
    λ _ name small e.
    escaped-no_rest c.loop-rest.name name c.loop-rest.rest.now more c.in_default.ensures.none small
    (e ∙ sym c.loop-rest.invariant.so_far)
