use Rattle.wasm_spelling.proofs.ByteLists.{slice_bytes}
use Rattle.w2c_sim.proofs.Accepting.{module_is_accepted, module_of}
use Rattle.w2c_sim.proofs.translation.translation.Goals as goal

pub print_texts-printed-requires : goal.print_texts-printed-requires
print_texts-printed-requires c = module_is_accepted c.args.bytes.now c.args.name.now c.in_ok-module.module
    (module_of c.args.bytes.now c.args.name.now c.in_ok-module.module c.in_ok-module.ensures.found
    (slice_bytes c.args.bytes.now c.type_inv.bytes) c.requires.named c.requires.short (slice_bytes c.args.name.now c.type_inv.name))

pub returns-clause-texts : goal.returns-clause-texts
returns-clause-texts c = (
  c.in_ok-module.module,
  module_of c.args.bytes.now c.args.name.now c.in_ok-module.module c.in_ok-module.ensures.found
      (slice_bytes c.args.bytes.now c.type_inv.bytes) c.requires.named c.requires.short (slice_bytes c.args.name.now c.type_inv.name),
  c.in_ok-texts.ensures,
)
