use Rattle.c_types.proofs.Common.{◌≡◌, ◌<◌, true, false, length, sym, ap, ◌∙◌, arith, arg_suits, arg_of, scope_of}
use Rattle.c_types.proofs.Suits.{suit_never, suit_end, suit_more, suit_stops}
use Rattle.c_types.proofs.agreement.args_suit.Goals as goal

pub returns-then-types-args : goal.returns-then-types-args
returns-then-types-args g c =
    suit_never (scope_of c.args.s.now) g.T.Typed.its_type arg_of c.args.types.now c.args.args.now c.if-types-args.true

pub loop-i-preserved : goal.loop-i-preserved
loop-i-preserved g c =
    let s = scope_of c.args.s.now in
    let a = c.index-args-i.result in
    let within : c.loop-i.i < length c.args.types.now = omega arith in
    let suits : arg_suits s (g.T.Typed.its_type c.index-types-i.result) (arg_of a) ≡ true =
    ap (λ t. arg_suits s t (arg_of a)) (sym c.ctype.ensures) ∙ sym c.arg_suits.ensures ∙ c.if-not-arg_suits.false in
    suit_more s g.T.Typed.its_type arg_of c.args.types.now c.args.args.now c.loop-i.i c.index-types-i.result a within c.index-types-i.is
    c.loop-i-test.true c.index-args-i.is _ suits c.loop-i.invariant

pub returns-then-not-arg_suits : goal.returns-then-not-arg_suits
returns-then-not-arg_suits g c =
    let s = scope_of c.args.s.now in
    let a = c.index-args-i.result in
    let within : c.loop-i.i < length c.args.types.now = omega arith in
    let fails : arg_suits s (g.T.Typed.its_type c.index-types-i.result) (arg_of a) ≡ false =
    ap (λ t. arg_suits s t (arg_of a)) (sym c.ctype.ensures) ∙ sym c.arg_suits.ensures ∙ c.if-not-arg_suits.true in
    suit_stops s g.T.Typed.its_type arg_of c.args.types.now c.args.args.now c.loop-i.i c.index-types-i.result a within c.index-types-i.is
    c.loop-i-test.true c.index-args-i.is _ fails c.loop-i.invariant

pub returns : goal.returns
returns g c =
    suit_end (scope_of c.args.s.now) g.T.Typed.its_type arg_of c.args.types.now c.args.args.now
    c.loop-i.i _ c.if-types-args.false c.loop-i-test.false c.loop-i.invariant
