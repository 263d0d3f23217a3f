-- No statement changes which objects there are, and in which order.
use Rattle.c_renaming.proofs.Common.{◌≡◌, ℕ, List, [], ◌∷◌, map, refl, ap, Event, Init, Reply, Program, SymbolCall, fresh, objects_of}
use Rattle.c_renaming.proofs.Common.{c_run, c_start, entries_of, Objects, declared_names, names_of}
use Rattle.c_tree.specs.Tree as tree
use Rattle.c_meaning.proofs.StepsKeep.{KeptByObjects, OfMachine, ShownAlike, names_of_entries, units_kept, entry_keeps, after_keeps}

alike : ShownAlike names_of
alike = record {
  var = λ o x old v there same i. record {
    vars = names_of_entries x v o.vars i;
    memories = map (λ e. e.0) o.memories;
    tables = map (λ e. e.0) o.tables;
  };
  memory = λ o x new i. record {
    vars = map (λ e. e.0) o.vars;
    memories = names_of_entries x new o.memories i;
    tables = map (λ e. e.0) o.tables;
  };
  table = λ o x new i. record {
    vars = map (λ e. e.0) o.vars;
    memories = map (λ e. e.0) o.memories;
    tables = names_of_entries x new o.tables i;
  };
}

-- these are the names of the objects
abbrev AreNames : Program → List Event → List Objects → Type 0
AreNames p events units = map names_of units ≡ declared_names p

pub names_stay : (p : Program) (calls : List SymbolCall) (m : ℕ) (replies : List Reply)
    → map names_of (c_run p calls m replies).units ≡ declared_names p
names_stay p calls m replies =
    let kept : KeptByObjects (OfMachine (AreNames p)) = units_kept names_of alike (declared_names p) in
    after_keeps p (AreNames p) kept (λ m a reply replies is has. has) (λ m value has. has) m (c_start p calls replies)
    (entry_keeps p (AreNames p) kept (λ m a reply replies is has. has) (λ m value has. has) (fresh p replies) (Init 0)
    (entries_of p calls) (mapped p.units))
  where
    mapped : (units : List (List tree.Item)) → map names_of (map objects_of units) ≡ map (λ items. names_of (objects_of items)) units
    mapped [] = refl
    mapped (items ∷ units) = ap (λ l. names_of (objects_of items) ∷ l) (mapped units)
