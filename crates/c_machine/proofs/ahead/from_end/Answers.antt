use Rattle.c_machine.proofs.Common.{◌-◌, [], ◌∷◌, map, sym, arith, length-map, mapped_at, stmt_of}
use Rattle.c_machine.proofs.Labels.{ahead_first, ahead_label, ahead_other}
use Rattle.c_machine.proofs.ahead.from_end.Goals as goal
use Rattle.c_machine.proofs.ahead.from_end.Goals.{then-not-is_label, else-not-is_label}

pub loop-i-init : goal.loop-i-init
loop-i-init c =
    rw (c.in_ok-push.ensures.items, c.in_ok-places.ensures.items)
    (rw (length-map c.args.stmts.now stmt_of) at (ahead_first (map stmt_of c.args.stmts.now)))

pub loop-i-preserved : goal.loop-i-preserved
loop-i-preserved c =
    let at =
    mapped_at stmt_of c.args.stmts.now (c.loop-i.i - 1) c.index-stmts-i.result
    (omega (arith, c.loop-i-test.true, c.loop-i.invariant.within, length-map c.args.stmts.now stmt_of)) c.index-stmts-i.is in
    rw c.in_ok-push-2.ensures.items (elim c.if-not-is_label.branch [
      | then-not-is_label w ↦ rw w.next-is (ahead_other (map stmt_of c.args.stmts.now) c.loop-i.i c.loop-i.next
          c.loop-i.places.items _ c.loop-i-test.true at (sym w.if-not-is_label.ensures) c.loop-i.invariant)
      | else-not-is_label w ↦ rw w.next-is (ahead_label (map stmt_of c.args.stmts.now) c.loop-i.i c.loop-i.next
          c.loop-i.places.items _ c.loop-i-test.true at (sym w.if-not-is_label.ensures) c.loop-i.invariant)
    ])

pub returns : goal.returns
returns c j within = c.loop-i.invariant.behind j (omega (arith, c.loop-i-test.false)) within
