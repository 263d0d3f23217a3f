use Rattle.c_thread.proofs.Common.{true, false, option_map, ◌∙◌, value_of, below_in, machine_in}
use Rattle.c_thread.proofs.Returns.{gives_back}
use Rattle.c_thread.proofs.linked.LinkedThread.give_back.Goals as goal

pub returns-then-not-is_returned : goal.returns-then-not-is_returned
returns-then-not-is_returned c = record {
  step = λ names p trail r is are stored.
      let t = c.args.self.now in
      gives_back (machine_in names trail t) r c.args.ty (option_map (value_of names) c.args.value) (below_in names p t.below.items) false is
      (c.is_returned.ensures names ∙ c.if-not-is_returned.true);
  stored = λ names s. s;
}

pub returns : goal.returns
returns c = record {
  step = λ names p trail r is are stored.
      let t = c.args.self.now in
      gives_back (machine_in names trail t) r c.args.ty (option_map (value_of names) c.args.value) (below_in names p t.below.items) true is
      (c.is_returned.ensures names ∙ c.if-not-is_returned.false)
      ∙ c.give.ensures.step names p trail are stored;
  stored = c.give.ensures.stored;
}
