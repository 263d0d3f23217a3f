use Rattle.c_check.proofs.Common.{◌≡◌, ◌+◌, ◌-◌, ◌≤◌, map, length, ◌==◌, nat_cmp, sym, ap, ◌∙◌, arith, drop_all, length-map, is_at}
use Rattle.c_check.proofs.Common.{list_any, are_distinct_numbers, case_value}
use Rattle.c_check.proofs.DistinctNumbers.{distinct_more, distinct_stops, knows_before}
use Rattle.c_check.proofs.cases.are_distinct_numbers.Goals as goal

pub loop-i-init : goal.loop-i-init
loop-i-init c =
    let numbers = map case_value c.args.cases.now in
    let k : length numbers ≡ length c.args.cases.now = simp length-map in
    let none = drop_all (length c.args.cases.now) numbers (omega arith) in (
      omega arith,
      ap are_distinct_numbers none,
      λ m. ap (list_any (is_at (nat_cmp m))) c.new-behind.ensures.empty
          ∙ sym (ap (list_any (λ k. k == m)) none),
    )

pub loop-i-preserved : goal.loop-i-preserved
loop-i-preserved c =
    let numbers = map case_value c.args.cases.now in
    let next : c.loop-i.i ≡ (c.loop-i.i - 1) + 1 = omega arith in
    let less : c.loop-i.i - 1 ≤ length c.args.cases.now = omega arith in
    let n = c.value_at-number.result in (
      less,
      distinct_more numbers c.loop-i.i
          (c.loop-i.i - 1) n c.value_at-number.ensures next c.loop-i.behind c.loop-i.invariant.2 c.if-contains.ensures c.loop-i.invariant.1,
      knows_before numbers c.loop-i.i
          (c.loop-i.i - 1) n c.value_at-number.ensures next c.loop-i.behind c.loop-i.invariant.2 c.insert.new.self
          c.in_ok-insert.ensures.updates.0,
    )

pub returns-then-contains : goal.returns-then-contains
returns-then-contains c =
    let numbers = map case_value c.args.cases.now in
    let next : c.loop-i.i ≡ (c.loop-i.i - 1) + 1 = omega arith in
    distinct_stops numbers c.loop-i.i
    (c.loop-i.i - 1) c.value_at-number.result c.value_at-number.ensures next c.loop-i.behind c.loop-i.invariant.2 c.if-contains.ensures
