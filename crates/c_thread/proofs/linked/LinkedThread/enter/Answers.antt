use Rattle.c_thread.proofs.Common.{[], ◌∷◌, ◌++◌, map, sym, ap, ◌∙◌, begin, next, value_of, begun_in, below_in, machine_in, running_in}
use Rattle.c_thread.proofs.Common.{waiting_in}
use Rattle.c_thread.proofs.Returns.{below-push}
use Rattle.c_thread.proofs.linked.LinkedThread.enter.Goals as goal

pub returns-in_ok-push-in-Some : goal.returns-in_ok-push-in-Some
returns-in_ok-push-in-Some c = record {
  step = λ names p trail are.
      let t = c.args.self.now in
      let m = machine_in names trail t in
      let below = waiting_in names p t.top ∷ below_in names p t.below.items in
      ap (λ d. begin d c.args.unit m (map (value_of names) c.args.values.items) below) (are.definitions c.args.unit c.args.item)
      ∙ c.in_ok-frame.ensures names p m below are ∙ ap (λ f. begun_in names p m f below) c.in-Some.is
      ∙ ap (next m (running_in names p c.in-Some.frame)) (sym (below-push names p t.below.items t.top))
      ∙ ap (λ frames. next m (running_in names p c.in-Some.frame) (below_in names p frames))
      (ap (λ old. t.below.items ++ old ∷ []) (sym c.replace.ensures.value) ∙ sym c.in_ok-push-in-Some.ensures.items)
      ∙ ap (λ f. next m (running_in names p f) (below_in names p c.push.new.self.items)) (sym c.replace.ensures.after);
  stored = λ names s. s;
}

pub returns-in-None : goal.returns-in-None
returns-in-None c = record {
  step = λ names p trail are.
      let t = c.args.self.now in
      let m = machine_in names trail t in
      let below = waiting_in names p t.top ∷ below_in names p t.below.items in
      ap (λ d. begin d c.args.unit m (map (value_of names) c.args.values.items) below) (are.definitions c.args.unit c.args.item)
      ∙ c.in_ok-frame.ensures names p m below are ∙ ap (λ f. begun_in names p m f below) c.in-None.is;
  stored = λ names s. s;
}
