use Rattle.host_replay.proofs.Common.{◌≡◌, true, List, map, slice_get, Some, sym, refl, ap, ◌∙◌, subst, list_all, function_of, Asked}
use Rattle.host_replay.proofs.Common.{modules_of, calls_of, fits_own}
use Rattle.host_replay.proofs.Replays.{calls_fit, module_at}
use Rattle.host_replay.proofs.replay.ReplayHost.new.Goals as goal

pub invariant_of-result : goal.invariant_of-result
invariant_of-result c =
    let hosts = modules_of c.args.file.now.modules.items in
    let functions : c.in_ok-functions.functions.items ≡ c.index-module.result.now.functions.items = c.in_ok-functions.ensures
    ∙ c.as_slice.ensures.value in
    let at : slice_get hosts c.args.k
    ≡ Some (record { name = c.index-module.result.now.name; functions = map function_of c.in_ok-functions.functions.items }) =
    module_at c.args.file.now.modules.items c.args.k c.index-module.result.now c.requires c.index-module.ensures
    ∙ (λ i. Some (record { name = c.index-module.result.now.name; functions = map function_of (sym functions i) })) in
    let entries : c.in_ok-entries.entries.items ≡ calls_of c.args.k c.args.file.now.entries.items = c.in_ok-entries.ensures
    ∙ ap (calls_of c.args.k) c.as_slice-2.ensures.value in
    record {
      fitting = subst (λ (es : List Asked). list_all (fits_own c.in_ok-functions.functions.items) es ≡ true) (sym entries)
          (calls_fit hosts c.args.k c.index-module.result.now.name c.in_ok-functions.functions.items at
          c.args.file.now.entries.items c.args.file.now.fitting);
    }

pub returns : goal.returns
returns c =
    let name = c.in_ok-name.ensures in
    let functions : c.in_ok-functions.functions.items ≡ c.index-module.result.now.functions.items = c.in_ok-functions.ensures
    ∙ c.as_slice.ensures.value in
    record {
      module_is = module_at c.args.file.now.modules.items c.args.k c.index-module.result.now c.requires c.index-module.ensures
          ∙ (λ i. Some (record { name = sym name i; functions = map function_of (sym functions i) }));
      calls_are = c.in_ok-entries.ensures ∙ ap (calls_of c.args.k) c.as_slice-2.ensures.value;
      unused = refl;
    }
