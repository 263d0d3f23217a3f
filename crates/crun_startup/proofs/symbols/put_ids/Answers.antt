use Rattle.crun_startup.proofs.Common.{◌≡◌, ◌+◌, [], ◌∷◌, ◌++◌, map, sym, ap, ◌∙◌, append_assoc, arith, map-append, range_with_len}
use Rattle.c_objects.specs.declared.held.FuncId.TheVariants as func
use Rattle.crun_startup.proofs.Collected.{range_push}
use Rattle.crun_startup.proofs.symbols.put_ids.Goals as goal

pub loop-function-preserved : goal.loop-function-preserved
loop-function-preserved c =
    let n = c.loop-function.function in
    let its = func.Host c.args.host in
    let zero : 0 + n ≡ n = omega arith in
    c.in_ok-push.ensures.items ∙ ap (λ l. l ++ its n ∷ []) c.loop-function.invariant
    ∙ append_assoc c.args.ids.now.items (map its (range_with_len 0 n)) (its n ∷ [])
    ∙ ap (λ l. c.args.ids.now.items ++ l) (sym (map-append its (range_with_len 0 n) (n ∷ []))
    ∙ ap (map its) (sym (range_push 0 n ∙ ap (λ m. range_with_len 0 n ++ m ∷ []) zero)))
