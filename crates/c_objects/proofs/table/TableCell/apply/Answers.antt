use Rattle.c_objects.proofs.Common.{sym, ap, ◌∙◌, table_of, effect_of}
use Rattle.c_objects.proofs.Kept.{table_kept}
use Rattle.c_objects.proofs.table.TableCell.apply.Goals as goal

pub returns-in_ok-make-in-New-clause-effect : goal.returns-in_ok-make-in-New-clause-effect
returns-in_ok-make-in-New-clause-effect c names m a e = rw c.in-New.is (c.in_ok-make-in-New.ensures.effect names m a e)

pub returns-in-Len-clause-effect : goal.returns-in-Len-clause-effect
returns-in-Len-clause-effect c names m a e =
    rw c.in-Len.is (c.length.ensures names m a e
    ∙ ap (λ n. effect_of names n c.length.result) (sym (table_kept m a (table_of names c.args.self.now) e)))

pub returns-in-Max-clause-effect : goal.returns-in-Max-clause-effect
returns-in-Max-clause-effect c names m a e =
    rw c.in-Max.is (c.maximum.ensures names m a e
    ∙ ap (λ n. effect_of names n c.maximum.result) (sym (table_kept m a (table_of names c.args.self.now) e)))

pub returns-in-Signature-clause-effect : goal.returns-in-Signature-clause-effect
returns-in-Signature-clause-effect c names m a e =
    rw c.in-Signature.is (c.signature.ensures names m a e ∙ ap (λ n. effect_of names n c.signature.result) (sym (table_kept m a
    (table_of names c.args.self.now) e)))

pub returns-in-Function-clause-effect : goal.returns-in-Function-clause-effect
returns-in-Function-clause-effect c names m a e =
    rw c.in-Function.is (c.function.ensures names m a e ∙ ap (λ n. effect_of names n c.function.result) (sym (table_kept m a
    (table_of names c.args.self.now) e)))

pub returns-in-Set-clause-effect : goal.returns-in-Set-clause-effect
returns-in-Set-clause-effect c names m a e = rw c.in-Set.is (c.set.ensures.effect names m a e)
