use Rattle.c_init.proofs.Common.{ap, ◌∙◌, stmt_of, NamedModule, pointer_set, module_of}
use Rattle.c_symbols.specs.Named.{pair_of}
use Rattle.c_symbols.specs.Reached.{usable_as}
use Rattle.c_symbols.proofs.Made.{usable_here}
use Rattle.c_init.proofs.Numberings.{pushed}
use Rattle.c_init.proofs.Takes.{pointer_is_set}
use Rattle.c_init.proofs.source.Source.put_pointer.Goals as goal

pub returns : goal.returns
returns c =
    let object = c.args.object.now in
    let import = c.args.import.now in
    let own = pair_of c.args.symbol.now in
    let m = module_of c.args.self.now in
    pushed stmt_of c.args.stmts.now c.push.new.self _ _ c.in_ok-push.ensures.ok
    (c.in_ok-set_pointer.ensures
    ∙ ap (λ s. pointer_set s object)
    (c.in_ok-name.ensures ∙ ap (λ (n : NamedModule). usable_as n own) c.symbols.ensures ∙ usable_here m own import c.requires)
    ∙ pointer_is_set m import object)
