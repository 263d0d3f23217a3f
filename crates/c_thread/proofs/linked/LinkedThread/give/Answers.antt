use Rattle.c_thread.proofs.Common.{option_map, ap, ◌∙◌, give, value_of, below_in, machine_in}
use Rattle.c_thread.proofs.Returns.{below-push}
use Rattle.c_thread.proofs.linked.LinkedThread.give.Goals as goal

pub returns : goal.returns
returns c = record {
  step = λ names p trail are stored.
      let t = c.args.self.now in
      ap (λ l. give (machine_in names trail t) (option_map (value_of names) c.args.value) (below_in names p l)) c.in-Some.ensures.items
      ∙ ap (give (machine_in names trail t) (option_map (value_of names) c.args.value))
      (below-push names p c.pop.new.self.items c.in-Some.frame)
      ∙ c.receive.ensures.step names p trail are stored;
  stored = c.receive.ensures.stored;
}
