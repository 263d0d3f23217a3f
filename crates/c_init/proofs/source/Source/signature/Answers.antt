use Rattle.c_init.proofs.Common.{ap, ◌∙◌, named_of, module_of}
use Rattle.c_symbols.specs.Spaces as index_spaces
use Rattle.c_init.proofs.Countable.{few_params_at}
use Rattle.c_init.proofs.source.Source.signature.Goals as goal

pub sig_number-requires : goal.sig_number-requires
sig_number-requires c =
    let source = c.args.self.now in
    few_params_at (module_of source) (index_spaces.named_of source.spaces) (named_of c.indexes.result.now) c.args.func c.in-Some.ty.now
    source.spaces_are (ap named_of c.indexes.ensures ∙ c.symbols.ensures) source.spaces.few_params c.in-Some.ensures
