use Rattle.std.proofs.Common.{◌∙◌, sym}
use Rattle.wasm2c_words.proofs.Mapped.{modules_have_names}
use Rattle.wasm2c_words.proofs.names.are_module_names.Goals as goal

pub returns : goal.returns
returns c = c.are_of_modules.ensures ∙ sym (modules_have_names c.args.files.now)
