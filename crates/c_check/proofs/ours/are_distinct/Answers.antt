use Rattle.c_check.proofs.Common.{◌≡◌, ◌+◌, ◌-◌, ◌≤◌, map, length, is_some, bytes_eq, sym, ap, ◌∙◌, arith, drop_all, length-map, list_any}
use Rattle.c_check.proofs.Common.{named, are_distinct, Variable}
use Rattle.c_rules.proofs.Distinct.{distinct_more, distinct_stops, knows_before}
use Rattle.c_check.proofs.ours.are_distinct.Goals as goal

pub loop-i-init : goal.loop-i-init
loop-i-init c =
    let names = map (λ (v : Variable). v.name.now) c.args.own.now in
    let k : length names ≡ length c.args.own.now = simp length-map in
    let none = drop_all (length c.args.own.now) names (omega arith) in
    (omega arith, ap are_distinct none, λ q. ap (λ t. is_some (named q t)) c.new-behind.ensures ∙ sym (ap (list_any (bytes_eq q)) none))

pub loop-i-preserved : goal.loop-i-preserved
loop-i-preserved c =
    let names = map (λ (v : Variable). v.name.now) c.args.own.now in
    let next : c.loop-i.i ≡ (c.loop-i.i - 1) + 1 = omega arith in
    let n = c.name_at-name.result.now in
    let less : c.loop-i.i - 1 ≤ length c.args.own.now = omega arith in (
      less,
      distinct_more names c.loop-i.i (c.loop-i.i - 1) n c.name_at-name.ensures next
          (c.if-has.ensures ∙ c.loop-i.invariant.2 n) c.loop-i.invariant.1,
      knows_before names c.loop-i.i (c.loop-i.i - 1) n c.name_at-name.ensures next c.loop-i.behind c.enter.new.self tt c.in_ok-enter.ensures
          c.loop-i.invariant.2,
    )

pub returns-then-has : goal.returns-then-has
returns-then-has c =
    let names = map (λ (v : Variable). v.name.now) c.args.own.now in
    let next : c.loop-i.i ≡ (c.loop-i.i - 1) + 1 = omega arith in
    let n = c.name_at-name.result.now in
    distinct_stops names c.loop-i.i (c.loop-i.i - 1) n c.name_at-name.ensures next (c.if-has.ensures ∙ c.loop-i.invariant.2 n)
