use Rattle.c_tree.proofs.Common.{◌≡◌, sym, ap, ◌∙◌, list_all, item_formed, item_of, unit_of}
use Rattle.c_tree.proofs.Tested.{list_all_map}
use Rattle.c_tree.proofs.TestsTell.{unit_tells, unit_passes}
use Rattle.c_tree.proofs.WellFormedUnits.{formed, well_formed}
use Rattle.c_tree.proofs.unit.Unit.formed.Goals as goal

pub returns : goal.returns
returns c =
    let test : c.all_formed.result ≡ list_all (item_formed 100) (unit_of c.args.self.now) =
    c.all_formed.ensures ∙ ap (list_all (λ i. item_formed 100 (item_of i))) (c.as_slice.ensures ∙ c.self.view_is)
    ∙ sym (list_all_map (item_formed 100) item_of c.args.self.now) in (
      λ is. formed (unit_of c.args.self.now) (unit_tells (unit_of c.args.self.now) (sym test ∙ is)),
      λ is. test
          ∙ unit_passes (unit_of c.args.self.now) (well_formed (unit_of c.args.self.now) is),
    )
