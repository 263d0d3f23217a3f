use Rattle.wasm2c_words.proofs.Common.{◌<◌, length, sym, ap, ◌∙◌, rules, module_name_of}
use Rattle.wasm2c_words.proofs.Mapped.{first_again, first_apart}
use Rattle.wasm2c_words.proofs.names.are_distinct.Goals as goal

pub returns-then-is_among : goal.returns-then-is_among
returns-then-is_among c =
    let some : 0 < length c.loop-rest.rest.now = search rules in
    first_again c.loop-rest.rest.now _ _ c.module_name.result.now some (search rules)
    (c.module_name.ensures ∙ ap module_name_of c.as_bytes.ensures.value)
    (sym c.is_among.ensures ∙ c.if-is_among.true) ∙ c.loop-rest.invariant.same

pub loop-rest-preserved : goal.loop-rest-preserved
loop-rest-preserved c =
    let some : 0 < length c.loop-rest.rest.now = search rules in
    record {
      same = first_apart c.loop-rest.rest.now _ _ c.module_name.result.now some (search rules)
          (c.module_name.ensures ∙ ap module_name_of c.as_bytes.ensures.value)
          (sym c.is_among.ensures ∙ c.if-is_among.false) ∙ c.loop-rest.invariant.same;
    }
