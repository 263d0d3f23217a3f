use Rattle.crun.proofs.Common.{slice_get, option_map, option_copied, sym, ap, ◌∙◌, if_found, table_of, naming_in, units_at}
use Rattle.crun.proofs.ObjectsSeen.{table_found}
use Rattle.crun.proofs.engine.Engine.table.Goals as goal

pub returns-in_err-number : goal.returns-in_err-number
returns-in_err-number g c =
    ap (λ o. option_map (table_of (naming_in c.args.self.now)) (option_copied o)) c.from_residual-in_err-number.ensures
    ∙ sym (table_found (naming_in c.args.self.now) (units_at c.args.self.now) c.args.unit c.in_ok-tables.tables.now
    c.in_ok-tables.objects.now
    c.in_ok-tables.ensures c.args.name.now
    ∙ ap (λ n. option_map (table_of (naming_in c.args.self.now)) (if_found n (λ i. slice_get c.in_ok-tables.objects.now.tables.items i)))
    (sym c.in_err-number.ensures))

pub returns : goal.returns
returns g c =
    ap (option_map (table_of (naming_in c.args.self.now))) c.at.ensures
    ∙ sym (table_found (naming_in c.args.self.now) (units_at c.args.self.now) c.args.unit c.in_ok-tables.tables.now
    c.in_ok-tables.objects.now
    c.in_ok-tables.ensures c.args.name.now
    ∙ ap (λ n. option_map (table_of (naming_in c.args.self.now)) (if_found n (λ i. slice_get c.in_ok-tables.objects.now.tables.items i)))
    (sym c.in_ok-number.ensures)
    ∙ ap (λ xs. option_map (table_of (naming_in c.args.self.now)) (slice_get xs c.in_ok-number.number)) (sym c.as_slice.ensures.value))
