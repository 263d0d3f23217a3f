use Rattle.c_read.proofs.Common.{◌≡◌, true, false, [], ◌∷◌, ◌++◌, map, ap, ◌∙◌, arith, rules, map_push, err_from_is_err_and, arg_of}
use Rattle.c_read.proofs.Common.{next_kind, is_comma}
use Rattle.c_read.specs.Arguments.{next_argument, more_arguments}
use Rattle.c_read.proofs.Loops.{left_more, left_ends, left_fails, left_behind}
use Rattle.c_read.proofs.argument.more_arguments.Goals as goal

pub more-init : goal.more-init
unfolding more_arguments
more-init c =
    let e : map arg_of c.push.new.self ≡ (arg_of c.args.first) ∷ [] = search rules in
    (omega arith, left_behind (next_argument c.args.room) (arg_of c.args.first) c.args.cursor.now (map arg_of c.push.new.self) e)

pub returns-in_err-arg-clause-reads : goal.returns-in_err-arg-clause-reads
returns-in_err-arg-clause-reads c =
    let p = err_from_is_err_and c.from_residual-in_err-arg.result c.from_residual-in_err-arg.ensures.1 in
    let on : is_comma (next_kind c.more.cursor) ≡ true = search rules in
    rw (p.1, p.2) (λ other. left_fails is_comma (next_argument c.args.room) (map arg_of c.more.args) c.more.cursor c.in_err-arg.field-0.0
    (more_arguments c.args.room (arg_of c.args.first) c.args.cursor.now) on (c.in_err-arg.ensures.reads other) c.more.invariant.1)

pub more-preserved : goal.more-preserved
more-preserved c =
    let on : is_comma (next_kind c.more.cursor) ≡ true = search rules in
    let e : map arg_of c.push-in-more.new.self ≡ map arg_of c.more.args ++ arg_of c.in_ok-arg.arg ∷ [] =
    ap (map arg_of) (c.in_ok-push-2.ensures.ok) ∙ map_push arg_of c.more.args c.in_ok-arg.arg in (
      omega arith,
      rw e (left_more is_comma (next_argument c.args.room) (map arg_of c.more.args) c.more.cursor c.next_argument.new.cursor
          (arg_of c.in_ok-arg.arg) (more_arguments c.args.room (arg_of c.args.first) c.args.cursor.now) on c.in_ok-arg.ensures.reads
          c.in_ok-arg.ensures.shorter c.more.invariant.1),
    )

pub returns-clause-reads : goal.returns-clause-reads
returns-clause-reads c =
    let off : is_comma (next_kind c.more.cursor) ≡ false = search rules in
    left_ends is_comma (next_argument c.args.room) (map arg_of c.more.args) c.more.cursor
    (more_arguments c.args.room (arg_of c.args.first) c.args.cursor.now) off c.more.invariant.1
