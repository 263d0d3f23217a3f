use Rattle.c_read.proofs.Common.{◌≡◌, true, false, [], ◌∷◌, ◌++◌, arith, rules, err_from_is_err_and, begins_type, next_kind, declaration}
use Rattle.c_read.specs.Items.{declarations}
use Rattle.c_read.proofs.Loops.{left_more, left_ends, left_fails, left_whole}
use Rattle.c_read.proofs.function.declarations.Goals as goal

pub more-init : goal.more-init
unfolding declarations
more-init c =
    let e : c.new-locals.result ≡ [] = search rules in
    (omega arith, left_whole begins_type declaration c.args.cursor.now c.new-locals.result e)

pub returns-in_err-local-clause-reads : goal.returns-in_err-local-clause-reads
returns-in_err-local-clause-reads c =
    let p = err_from_is_err_and c.from_residual.result c.from_residual.ensures.1 in
    let on : begins_type (next_kind c.more.cursor) ≡ true = search rules in
    rw (p.1, p.2) (λ other. left_fails begins_type declaration c.more.locals c.more.cursor c.in_err-local.field-0.0
    (declarations c.args.cursor.now) on (c.in_err-local.ensures.reads other) c.more.invariant.1)

pub more-preserved : goal.more-preserved
more-preserved c =
    let on : begins_type (next_kind c.more.cursor) ≡ true = search rules in
    let e : c.push.new.self ≡ c.more.locals ++ c.in_ok-local.local ∷ [] = c.in_ok-push.ensures.ok in (
      omega arith,
      rw e (left_more begins_type declaration c.more.locals c.more.cursor c.declaration.new.cursor c.in_ok-local.local
          (declarations c.args.cursor.now) on c.in_ok-local.ensures.reads c.in_ok-local.ensures.shorter c.more.invariant.1),
    )

pub returns-clause-reads : goal.returns-clause-reads
returns-clause-reads c =
    let off : begins_type (next_kind c.more.cursor) ≡ false = search rules in
    left_ends begins_type declaration c.more.locals c.more.cursor (declarations c.args.cursor.now) off c.more.invariant.1
