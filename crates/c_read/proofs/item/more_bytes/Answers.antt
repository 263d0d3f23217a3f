use Rattle.c_read.proofs.Common.{◌≡◌, true, false, [], ◌∷◌, ◌++◌, arith, rules, err_from_is_err_and, next_kind, next_byte, is_comma}
use Rattle.c_read.specs.Items.{more_bytes}
use Rattle.c_read.proofs.Loops.{left_more, left_ends, left_fails, left_behind}
use Rattle.c_read.proofs.item.more_bytes.Goals as goal

pub more-init : goal.more-init
unfolding more_bytes
more-init c =
    let e : c.push.new.self ≡ c.args.first ∷ [] = search rules in
    (omega arith, left_behind next_byte c.args.first c.args.cursor.now c.push.new.self e)

pub returns-in_err-byte-clause-reads : goal.returns-in_err-byte-clause-reads
returns-in_err-byte-clause-reads c =
    let p = err_from_is_err_and c.from_residual-in_err-byte.result c.from_residual-in_err-byte.ensures.1 in
    let on : is_comma (next_kind c.more.cursor) ≡ true = search rules in
    rw (p.1, p.2) (λ other. left_fails is_comma next_byte c.more.bytes c.more.cursor c.in_err-byte.field-0.0
    (more_bytes c.args.first c.args.cursor.now) on (c.in_err-byte.ensures.reads other) c.more.invariant.1)

pub more-preserved : goal.more-preserved
more-preserved c =
    let on : is_comma (next_kind c.more.cursor) ≡ true = search rules in
    let e : c.push-in-more.new.self ≡ c.more.bytes ++ c.in_ok-byte.byte ∷ [] = c.in_ok-push-2.ensures.ok in (
      omega arith,
      rw e (left_more is_comma next_byte c.more.bytes c.more.cursor c.next_byte.new.cursor c.in_ok-byte.byte
          (more_bytes c.args.first c.args.cursor.now) on c.in_ok-byte.ensures.reads c.in_ok-byte.ensures.shorter c.more.invariant.1),
    )

pub returns-clause-reads : goal.returns-clause-reads
returns-clause-reads c =
    let off : is_comma (next_kind c.more.cursor) ≡ false = search rules in
    left_ends is_comma next_byte c.more.bytes c.more.cursor (more_bytes c.args.first c.args.cursor.now) off c.more.invariant.1
