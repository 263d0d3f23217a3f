use Rattle.w2c_gen.proofs.Common.{sym, subst, AreBytes, IsFormed, SpellsAside, IsShortFile}
use Rattle.w2c_gen.proofs.Formed.{generated_formed}
use Rattle.w2c_gen.proofs.Files.{generated_accepted}
use Rattle.w2c_gen.proofs.file.generate.Goals as goal

pub write_module-requires : goal.write_module-requires
write_module-requires c = subst IsFormed (sym c.in_ok-module.ensures) (generated_formed c.args.n c.requires.few)

pub returns-clause-accepted : goal.returns-clause-accepted
returns-clause-accepted c =
    generated_accepted c.args.n c.in_ok-bytes.bytes c.requires.some
    (subst (λ t. SpellsAside t c.in_ok-bytes.bytes) c.in_ok-module.ensures c.in_ok-bytes.ensures.spells)

pub returns-clause-file : goal.returns-clause-file
returns-clause-file c = (
  subst AreBytes c.as_slice.ensures c.are_bytes.ensures,
  subst (λ t. IsShortFile t c.in_ok-bytes.bytes) c.in_ok-module.ensures c.in_ok-bytes.ensures.short,
)
