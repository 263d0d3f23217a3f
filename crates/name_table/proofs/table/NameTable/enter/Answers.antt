use Rattle.std.proofs.Common.{◌≡◌, bytes_eq, if◌then◌else◌, Some, None, sym, ap, ◌∙◌}
use Rattle.std.specs.Option.{option_or}
use Rattle.w2c_base.specs.Lookup.{named}
use Rattle.indexmap.proofs.CallerLemmas.{insert_entry-new}
use Rattle.w2c_base.proofs.Options.{none_is}
use Rattle.name_table.proofs.NameTables.{view, found, named-push, nothing_new}
use Rattle.name_table.proofs.table.NameTable.enter.Goals as goal

pub returns : goal.returns
returns g c q =
    let entries = c.self.inside.entries.entries in
    let items : c.in_ok-from_slice.field-0.items ≡ c.args.name.now = c.in_ok-from_slice.ensures.items in
    let absent : named c.args.name.now c.args.self.now ≡ None = none_is (named c.args.name.now c.args.self.now) (sym c.if-has.ensures) in
    let none = ap (λ n. named n (view (λ k. k.items) entries)) items ∙ ap (named c.args.name.now) c.self.view_is ∙ absent in
    let absent = found (λ k. k.items) c.in_ok-from_slice.field-0.items entries ∙ none in
    let new = c.in_ok-insert.ensures.entries
    ∙ insert_entry-new (λ a b. bytes_eq a.items b.items) c.self.inside.entries c.in_ok-from_slice.field-0 c.args.of absent in
    ap (λ es. named q (view (λ k. k.items) es)) new
    ∙ named-push (λ k. k.items) q entries c.in_ok-from_slice.field-0 c.args.of
    ∙ ap (λ n. option_or (named q (view (λ k. k.items) entries)) (if bytes_eq n q then Some c.args.of else None)) items
    ∙ ap (λ t. option_or (named q t) (if bytes_eq c.args.name.now q then Some c.args.of else None)) c.self.view_is

pub returns-then-has : goal.returns-then-has
returns-then-has g c q = nothing_new c.args.name.now q c.args.of c.args.self.now (sym c.if-has.ensures)
