use Rattle.leb_bytes.proofs.Common.{◌≡◌, suc, ◌+◌, ◌<◌, ◌≤◌, length, get_or, take, subst, arith, length-take-le, take-length, All-more}
use Rattle.leb_bytes.proofs.Common.{IsNumberRun, GoOn}
use Rattle.leb_bytes.proofs.Runs.{IsNumberRun-from_go_on}
use Rattle.leb_bytes.proofs.Shifts.{sum-more, top_bit}
use Rattle.leb_bytes.proofs.window.run.Goals as goal

pub returns-then-i-window : goal.returns-then-i-window
returns-then-i-window c =
    let w = c.args.window.now in
    let e : c.loop-i.i ≡ length w = c.if-i-window.true in
    let all : GoOn (take (length w) w) = subst (λ i. GoOn (take i w)) e c.loop-i.invariant.go_on in
    (omega (arith, e), subst GoOn (take-length w) all)

pub returns-then-byte-eq0 : goal.returns-then-byte-eq0
returns-then-byte-eq0 c =
    let w = c.args.window.now in let i = c.loop-i.i in let b = get_or w i 0 in
    let byte : b < 256 = omega (arith, c.type_inv.window i) in
    let lt : i < length w = omega (arith, c.loop-i.invariant.within) in
    let last : b < 128 = omega (arith, top_bit b byte, c.if-byte-eq0.true) in
    let e : suc i ≡ i + 1 = omega arith in
    let r : IsNumberRun (take (suc i) w) = IsNumberRun-from_go_on i w c.loop-i.invariant.go_on lt last in (
      omega (arith, lt),
      record {
        run = subst (λ n. IsNumberRun (take n w)) e r;
        short = omega (arith, length-take-le (i + 1) w (omega (arith, lt)));
        value = sum-more w i c.loop-i.sum c.from.result lt (omega arith) c.loop-i.invariant.so_far c.from.ensures;
      },
    )

pub loop-i-preserved : goal.loop-i-preserved
loop-i-preserved c =
    let w = c.args.window.now in let i = c.loop-i.i in let b = get_or w i 0 in
    let byte : b < 256 = omega (arith, c.type_inv.window i) in
    let lt : i < length w = omega (arith, c.loop-i.invariant.within) in
    let top : 128 ≤ b = omega (arith, top_bit b byte, c.if-byte-eq0.false) in
    record {
      so_far = sum-more w i c.loop-i.sum c.from.result lt (omega arith) c.loop-i.invariant.so_far c.from.ensures;
      go_on = All-more (λ b. 128 ≤ b) w i 0 lt c.loop-i.invariant.go_on top;
      within = omega (arith, lt);
    }
