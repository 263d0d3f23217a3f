use Rattle.wasm_set.proofs.Common.{◌≡◌, true, false, List, sym, ap, ◌∙◌, subst, false≢true, IsLinked, module_named, module_takes, set_of}
use Rattle.wasm_set.proofs.Common.{SetModule}
use Rattle.wasm_set.proofs.Calls.{taken_fits, fits_is_taken}
use Rattle.wasm_set.proofs.module_set.ModuleSet.fits.Goals as goal

pub returns-clause-fits : goal.returns-clause-fits
returns-clause-fits c = λ e.
    let seen = c.as_slice.ensures.value ∙ c.self.view_is in
    taken_fits c.args.self.now (subst (λ (ms : List SetModule). IsLinked (set_of ms)) c.self.view_is c.self.invariant.0)
    (record { module_name = c.args.module_name.now; export_name = c.args.export_name.now; args = c.args.args.now })
    (ap (λ (ms : List SetModule). module_takes (module_named ms c.args.module_name.now) c.args.export_name.now c.args.args.now) (sym seen)
    ∙ sym c.takes.ensures.types ∙ e) (c.takes.ensures.numbers e)

pub returns-clause-misfits : goal.returns-clause-misfits
returns-clause-misfits c = λ e fits.
    let seen = c.as_slice.ensures.value ∙ c.self.view_is in
    let takes = fits_is_taken c.args.self.now (subst (λ (ms : List SetModule). IsLinked (set_of ms)) c.self.view_is c.self.invariant.0)
    (record { module_name = c.args.module_name.now; export_name = c.args.export_name.now; args = c.args.args.now }) fits in
    let wrong : false ≡ true = sym e ∙ c.takes.ensures.types
    ∙ ap (λ (ms : List SetModule). module_takes (module_named ms c.args.module_name.now) c.args.export_name.now c.args.args.now) seen
    ∙ takes in
    false≢true wrong
