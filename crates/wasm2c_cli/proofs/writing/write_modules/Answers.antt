use Rattle.wasm2c_cli.proofs.Common.{sym, refl, ◌∙◌, arith, rules, length-map, HasName, seen_target}
use Rattle.std.proofs.lemmas.Option.{slice_get_read}
use Rattle.w2c_base.proofs.OfEach.{all_at}
use Rattle.w2c_base.proofs.Places.{mapped_at}
use Rattle.wasm2c_cli.proofs.ModuleFiles.{ends_all, named_more, one_more, one_more_put, stops_all}
use Rattle.wasm2c_cli.proofs.writing.write_modules.Goals as goal

pub write_module-requires : goal.write_module-requires
write_module-requires g c =
    all_at HasName _ c.loop-k.k _ c.requires.named
    (mapped_at seen_target c.args.targets.now c.loop-k.k c.index-targets-k.result (omega arith) c.index-targets-k.is)

pub returns-in-Err-clause-stop : goal.returns-in-Err-clause-stop
returns-in-Err-clause-stop g c =
    let at = mapped_at seen_target c.args.targets.now c.loop-k.k c.index-targets-k.result (omega arith) c.index-targets-k.is in
    let at' = slice_get_read c.args.modules.now _ c.loop-k.k c.index-modules-k.result refl (omega (arith, c.requires.many))
    c.index-modules-k.is in
    let many = c.requires.many ∙ sym (length-map c.args.targets.now seen_target) in
    stops_all _ _ c.loop-k.k _ _ at at' many _ _ _ c.loop-k.invariant.whole _ _ _ _ c.in-Err.stop c.loop-k.invariant.later
    c.in-Err.ensures.stop

pub loop-k-preserved : goal.loop-k-preserved
loop-k-preserved g c =
    let at = mapped_at seen_target c.args.targets.now c.loop-k.k c.index-targets-k.result (omega arith) c.index-targets-k.is in
    let at' = slice_get_read c.args.modules.now _ c.loop-k.k c.index-modules-k.result refl (omega (arith, c.requires.many))
    c.index-modules-k.is in
    let many = c.requires.many ∙ sym (length-map c.args.targets.now seen_target) in
    record {
      whole = one_more _ _ c.loop-k.k _ _ at at' many _ _ _ c.loop-k.invariant.whole (search rules);
      names = named_more _ c.loop-k.k _ at c.loop-k.invariant.names (search rules);
      reads = search rules;
      later = omega (arith, c.loop-k.invariant.later, c.in-Ok.ensures.later);
      kept = search rules;
      put = one_more_put _ _ c.loop-k.k _ _ at at' many _ _ _ c.loop-k.invariant.put c.in-Ok.ensures.passed;
    }

pub returns-in-Err-clause-tried : goal.returns-in-Err-clause-tried
returns-in-Err-clause-tried g c =
    let at = mapped_at seen_target c.args.targets.now c.loop-k.k c.index-targets-k.result (omega arith) c.index-targets-k.is in
    let at' = slice_get_read c.args.modules.now _ c.loop-k.k c.index-modules-k.result refl (omega (arith, c.requires.many))
    c.index-modules-k.is in
    let many = c.requires.many ∙ sym (length-map c.args.targets.now seen_target) in
    ends_all _ _ c.loop-k.k _ _ at at' many _ _ _ c.loop-k.invariant.put c.in-Err.stop c.in-Err.ensures.tried
