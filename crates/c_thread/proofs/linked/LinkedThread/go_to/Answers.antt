use Rattle.c_thread.proofs.Common.{◌≡◌, ◌+◌, map, drop, Some, None, Option, option_map, sym, ap, ◌∙◌, arith, length-map, stmt_of, Stuck}
use Rattle.c_thread.proofs.Common.{Stops, at_rest, next, after_label-drop, entry_within, label_in, label_name, stmts_at, below_in, items_at}
use Rattle.c_thread.proofs.Common.{machine_in, running_in}
use Rattle.c_thread.proofs.linked.LinkedThread.go_to.Goals as goal

pub overflow_add-self : goal.overflow_add-self
overflow_add-self c =
    let within = entry_within 0 c.args.name.now (map label_name (map stmt_of c.args.function.stmts.now)) c.in-Some.place
    (sym (c.requires.labels c.args.name.now) ∙ sym c.in-Some.ensures) in
    let count = length-map (map stmt_of c.args.function.stmts.now) label_name ∙ length-map c.args.function.stmts.now stmt_of in
    omega (arith, within, count, c.requires.count)

pub returns-in-Some : goal.returns-in-Some
returns-in-Some c = record {
  step = λ names p trail same.
      let at : label_in c.args.name.now (stmts_at (items_at p c.args.self.now.top.unit) c.args.self.now.top.item)
      ≡ Some c.in-Some.place = ap (label_in c.args.name.now) same ∙ sym (c.requires.labels c.args.name.now)
      ∙ sym c.in-Some.ensures in
      let m = machine_in names trail c.args.self.now in
      let r = running_in names p c.args.self.now.top in
      let below = below_in names p c.args.self.now.below.items in
      ap (λ (o : Option _). elim o [ None ↦ Stops m Stuck | Some rest ↦ next m (at_rest r rest) below ])
      (after_label-drop c.args.name.now (stmts_at (items_at p c.args.self.now.top.unit) c.args.self.now.top.item)
      ∙ ap (option_map (λ i. drop (i + 1) (stmts_at (items_at p c.args.self.now.top.unit) c.args.self.now.top.item))) at);
  stored = λ names s. s;
}

pub returns-in-None : goal.returns-in-None
returns-in-None c = record {
  step = λ names p trail same.
      let at : label_in c.args.name.now (stmts_at (items_at p c.args.self.now.top.unit) c.args.self.now.top.item) ≡ None =
      ap (label_in c.args.name.now) same ∙ sym (c.requires.labels c.args.name.now) ∙ sym c.in-None.ensures in
      let m = machine_in names trail c.args.self.now in
      let r = running_in names p c.args.self.now.top in
      let below = below_in names p c.args.self.now.below.items in
      ap (λ (o : Option _). elim o [ None ↦ Stops m Stuck | Some rest ↦ next m (at_rest r rest) below ])
      (after_label-drop c.args.name.now (stmts_at (items_at p c.args.self.now.top.unit) c.args.self.now.top.item)
      ∙ ap (option_map (λ i. drop (i + 1) (stmts_at (items_at p c.args.self.now.top.unit) c.args.self.now.top.item))) at);
  stored = λ names s. s;
}
