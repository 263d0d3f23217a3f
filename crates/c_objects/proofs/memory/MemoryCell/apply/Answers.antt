use Rattle.c_objects.proofs.Common.{sym, ap, ◌∙◌, memory_of, effect_of}
use Rattle.c_objects.proofs.Kept.{memory_kept}
use Rattle.c_objects.proofs.memory.MemoryCell.apply.Goals as goal

pub returns-in-Len-clause-effect : goal.returns-in-Len-clause-effect
returns-in-Len-clause-effect c names m a e =
    rw c.in-Len.is (c.length.ensures names m a e
    ∙ ap (λ n. effect_of names n c.length.result) (sym (memory_kept m a (memory_of c.args.self.now) e)))

pub returns-in-Max-clause-effect : goal.returns-in-Max-clause-effect
returns-in-Max-clause-effect c names m a e =
    rw c.in-Max.is (c.maximum.ensures names m a e
    ∙ ap (λ n. effect_of names n c.maximum.result) (sym (memory_kept m a (memory_of c.args.self.now) e)))

pub returns-in-Get-clause-effect : goal.returns-in-Get-clause-effect
returns-in-Get-clause-effect c names m a e =
    rw c.in-Get.is (c.get.ensures names m a e
    ∙ ap (λ n. effect_of names n c.get.result) (sym (memory_kept m a (memory_of c.args.self.now) e)))
