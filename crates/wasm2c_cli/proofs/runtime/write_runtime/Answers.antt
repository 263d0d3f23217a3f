use Rattle.wasm2c_cli.proofs.Common.{◌≡◌, ◌++◌, ◌∙◌, codes, runtime_under}
use Rattle.wasm2c_cli.proofs.LineStops.{all_kept, runtime_finished, runtime_stopped}
use Rattle.wasm2c_cli.proofs.PassingLines.{runtime_passed, runtime_tried}
use Rattle.wasm2c_cli.proofs.runtime.write_runtime.Goals as goal

pub returns-clause-done : goal.returns-clause-done
returns-clause-done g c =
    let header : c.as_str.result.now ≡ c.args.dir.now ++ codes "/w2c_rt.h" = c.as_str.ensures.value ∙ c.in_ok-header.ensures in
    let source : c.as_str-2.result.now ≡ c.args.dir.now ++ codes "/w2c_rt.c" = c.as_str-2.ensures.value ∙ c.in_ok-source.ensures in
    runtime_finished _ _ _ _ c.write_texts.result (λ i. runtime_under (header i) (source i)) c.write_texts.ensures.done
    c.write_texts.ensures.whole

pub returns-clause-current : goal.returns-clause-current
returns-clause-current g c = all_kept _ _ _ _ _ _ _ _ c.write_texts.result c.write_texts.ensures.stop

pub returns-clause-stop : goal.returns-clause-stop
returns-clause-stop g c =
    let header : c.as_str.result.now ≡ c.args.dir.now ++ codes "/w2c_rt.h" = c.as_str.ensures.value ∙ c.in_ok-header.ensures in
    let source : c.as_str-2.result.now ≡ c.args.dir.now ++ codes "/w2c_rt.c" = c.as_str-2.ensures.value ∙ c.in_ok-source.ensures in
    runtime_stopped _ _ _ _ _ _ _ _ _ c.write_texts.result (λ i. runtime_under (header i) (source i)) c.write_texts.ensures.stop

pub returns-clause-passed : goal.returns-clause-passed
returns-clause-passed g c =
    let header : c.as_str.result.now ≡ c.args.dir.now ++ codes "/w2c_rt.h" = c.as_str.ensures.value ∙ c.in_ok-header.ensures in
    let source : c.as_str-2.result.now ≡ c.args.dir.now ++ codes "/w2c_rt.c" = c.as_str-2.ensures.value ∙ c.in_ok-source.ensures in
    runtime_passed _ _ _ _ (λ i. runtime_under (header i) (source i)) c.write_texts.result c.write_texts.ensures.passed

pub returns-clause-tried : goal.returns-clause-tried
returns-clause-tried g c =
    let header : c.as_str.result.now ≡ c.args.dir.now ++ codes "/w2c_rt.h" = c.as_str.ensures.value ∙ c.in_ok-header.ensures in
    let source : c.as_str-2.result.now ≡ c.args.dir.now ++ codes "/w2c_rt.c" = c.as_str-2.ensures.value ∙ c.in_ok-source.ensures in
    runtime_tried _ _ _ _ (λ i. runtime_under (header i) (source i)) c.write_texts.result c.write_texts.ensures.tried
