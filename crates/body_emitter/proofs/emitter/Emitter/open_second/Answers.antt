use Rattle.body_emitter.proofs.Insides.{inside_then_same}
use Rattle.body_emitter.proofs.emitter.Emitter.open_second.Goals as goal

pub returns-clause-inside : goal.returns-clause-inside
returns-clause-inside c = λ outer h.
    inside_then_same outer c.jump_over.new.self.operands c.put_label.new.self.operands
    (inside_then_same outer c.restore.new.self.operands c.jump_over.new.self.operands
    (c.restore.ensures.inside outer h) c.in_ok-jump_over.ensures.kept)
    c.in_ok-put_label.ensures.kept
