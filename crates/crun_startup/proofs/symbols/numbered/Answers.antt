use Rattle.crun_startup.proofs.Common.{map, slice_get, Some, sym, ap, ◌∙◌, take_all, length-map, slice_get-get_or, seen_at, if_found, named}
use Rattle.crun_startup.proofs.Common.{enters_all, enters_next, number_in, func_in, name_in}
use Rattle.c_machine.proofs.Variables.{named-zip}
use Rattle.crun_startup.proofs.Collected.{taken_next}
use Rattle.crun_startup.proofs.SymbolsFound.{zipped}
use Rattle.crun_startup.proofs.symbols.numbered.Goals as goal

pub loop-i-preserved : goal.loop-i-preserved
loop-i-preserved c =
    let seen = c.args.seen.now in
    let i = c.loop-i.i in
    let at = slice_get-get_or seen i _ c.loop-i-test.true in (
      enters_next _ _ i _ (map Some (map name_in seen)) (seen_at Some (map name_in seen) i _ (seen_at name_in seen i _ at))
          c.in_ok-enter.ensures c.loop-i.invariant.0,
      taken_next func_in seen i _ _ _ at c.in_ok-push.ensures.items c.loop-i.invariant.1,
    )

pub returns : goal.returns
returns c q =
    let seen = c.args.seen.now in
    let i = c.loop-i.i in
    let finds = enters_all c.loop-i.numbers i (map Some (map name_in seen)) (rw length-map (rw length-map c.loop-i-test.false))
    c.loop-i.invariant.0 q in
    let funcs = c.loop-i.invariant.1 ∙ take_all i (map func_in seen) (rw length-map c.loop-i-test.false) in
    ap (λ o. if_found o (λ j. slice_get c.loop-i.funcs.items j)) finds
    ∙ ap (λ fs. if_found (number_in q (map name_in seen)) (λ j. slice_get fs j)) funcs
    ∙ sym (named-zip q (map name_in seen) (map func_in seen)) ∙ ap (named q) (sym (zipped seen))
