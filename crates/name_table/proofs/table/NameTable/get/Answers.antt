use Rattle.std.proofs.Common.{ap, ◌∙◌}
use Rattle.w2c_base.specs.Lookup.{named}
use Rattle.name_table.proofs.NameTables.{found}
use Rattle.name_table.proofs.table.NameTable.get.Goals as goal

pub returns : goal.returns
returns g c =
    c.get.ensures.value ∙ found (λ k. k.items) c.args.name.now c.self.inside.entries.entries ∙ ap (named c.args.name.now) c.self.view_is
