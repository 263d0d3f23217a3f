use Rattle.crun_startup.proofs.Common.{if◌then◌else◌, Some, None, sym, ap, ◌∙◌, item_of, no_table, table_of, table_value}
use Rattle.crun_startup.proofs.Collected.{put_some}
use Rattle.crun_startup.proofs.objects.put_table.Goals as goal

pub returns-in_ok-push : goal.returns-in_ok-push
returns-in_ok-push c names =
    put_some table_value (table_of names) (item_of c.args.item.now) c.not_made.result c.args.tables.now.items _ c.in_ok-push.ensures.items
    (ap Some (c.not_made.ensures names) ∙ sym (ap (λ b. if b then Some no_table else None) (sym c.is_of.ensures ∙ c.if-is_of.true)))
