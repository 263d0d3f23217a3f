use Rattle.c_read.proofs.Common.{◌≡◌, true, false, [], ◌∷◌, ◌++◌, arith, rules, err_from_is_err_and, next_kind, is_case, one_case}
use Rattle.c_read.specs.Statements.{cases}
use Rattle.c_read.proofs.Loops.{left_more, left_ends, left_fails, left_whole}
use Rattle.c_read.proofs.statement.cases.Goals as goal

pub more-init : goal.more-init
unfolding cases
more-init c =
    let e : c.new-cases.result ≡ [] = search rules in
    (omega arith, left_whole is_case one_case c.args.cursor.now c.new-cases.result e)

pub returns-in_err-case-clause-reads : goal.returns-in_err-case-clause-reads
returns-in_err-case-clause-reads c =
    let p = err_from_is_err_and c.from_residual.result c.from_residual.ensures.1 in
    let on : is_case (next_kind c.more.cursor) ≡ true = search rules in
    rw (p.1, p.2) (λ other. left_fails is_case one_case c.more.cases c.more.cursor c.in_err-case.field-0.0 (cases c.args.cursor.now) on
    (c.in_err-case.ensures.reads other) c.more.invariant.1)

pub more-preserved : goal.more-preserved
more-preserved c =
    let on : is_case (next_kind c.more.cursor) ≡ true = search rules in
    let e : c.push.new.self ≡ c.more.cases ++ c.in_ok-case.case ∷ [] = c.in_ok-push.ensures.ok in (
      omega arith,
      rw e (left_more is_case one_case c.more.cases c.more.cursor c.one_case.new.cursor c.in_ok-case.case
          (cases c.args.cursor.now) on c.in_ok-case.ensures.reads c.in_ok-case.ensures.shorter c.more.invariant.1),
    )

pub returns-clause-reads : goal.returns-clause-reads
returns-clause-reads c =
    let off : is_case (next_kind c.more.cursor) ≡ false = search rules in
    left_ends is_case one_case c.more.cases c.more.cursor (cases c.args.cursor.now) off c.more.invariant.1
