use Rattle.c_thread.proofs.Common.{◌≡◌, ◌∷◌, sym, ap, ◌∙◌, subst, Stuck, Trapped, Undefined, Stops, take_effect, machine_of, Keeps}
use Rattle.c_thread.proofs.Common.{effect_of, below_in, machine_in, place_in, waiting_in}
use Rattle.c_thread.proofs.linked.LinkedThread.call_primitive.Goals as goal

pub returns-in-Gives : goal.returns-in-Gives
returns-in-Gives c = record {
  step = λ names p trail are stored.
      let t = c.args.self.now in
      let m = machine_in names trail t in
      let after = machine_of names t.depth trail c.apply.new.self.units.items in
      let below = waiting_in names p t.top ∷ below_in names p t.below.items in
      ap (λ e. take_effect e (place_in t.top) m below) (c.in_ok-value.ensures.effect names t.depth trail stored)
      ∙ ap (λ d. take_effect (effect_of names after d) (place_in t.top) m below) c.in-Gives.is
      ∙ c.receive.ensures.step names p trail are (c.in_ok-value.ensures.stored names stored);
  stored = λ names s. c.receive.ensures.stored names (c.in_ok-value.ensures.stored names s);
}

pub returns-in-Trapped : goal.returns-in-Trapped
returns-in-Trapped c = record {
  step = λ names p trail are stored.
      let t = c.args.self.now in
      let m = machine_in names trail t in
      let after = machine_of names t.depth trail c.apply.new.self.units.items in
      let below = waiting_in names p t.top ∷ below_in names p t.below.items in
      let kept : after ≡ m = subst (λ d. Keeps d m after) c.in-Trapped.is (c.in_ok-value.ensures.kept names t.depth trail stored) in
      ap (λ e. take_effect e (place_in t.top) m below) (c.in_ok-value.ensures.effect names t.depth trail stored)
      ∙ ap (λ d. take_effect (effect_of names after d) (place_in t.top) m below) c.in-Trapped.is
      ∙ ap (λ x. Stops x (Trapped c.in-Trapped.kind)) (sym kept);
  stored = c.in_ok-value.ensures.stored;
}

pub returns-in-Undefined : goal.returns-in-Undefined
returns-in-Undefined c = record {
  step = λ names p trail are stored.
      let t = c.args.self.now in
      let m = machine_in names trail t in
      let after = machine_of names t.depth trail c.apply.new.self.units.items in
      let below = waiting_in names p t.top ∷ below_in names p t.below.items in
      let kept : after ≡ m = subst (λ d. Keeps d m after) c.in-Undefined.is (c.in_ok-value.ensures.kept names t.depth trail stored) in
      ap (λ e. take_effect e (place_in t.top) m below) (c.in_ok-value.ensures.effect names t.depth trail stored)
      ∙ ap (λ d. take_effect (effect_of names after d) (place_in t.top) m below) c.in-Undefined.is
      ∙ ap (λ x. Stops x (Undefined c.in-Undefined.kind (place_in t.top))) (sym kept);
  stored = c.in_ok-value.ensures.stored;
}

pub returns-in-NoEffect : goal.returns-in-NoEffect
returns-in-NoEffect c = record {
  step = λ names p trail are stored.
      let t = c.args.self.now in
      let m = machine_in names trail t in
      let after = machine_of names t.depth trail c.apply.new.self.units.items in
      let below = waiting_in names p t.top ∷ below_in names p t.below.items in
      let kept : after ≡ m = subst (λ d. Keeps d m after) c.in-NoEffect.is (c.in_ok-value.ensures.kept names t.depth trail stored) in
      ap (λ e. take_effect e (place_in t.top) m below) (c.in_ok-value.ensures.effect names t.depth trail stored)
      ∙ ap (λ d. take_effect (effect_of names after d) (place_in t.top) m below) c.in-NoEffect.is
      ∙ ap (λ x. Stops x (Stuck)) (sym kept);
  stored = c.in_ok-value.ensures.stored;
}
