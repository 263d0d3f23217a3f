use Rattle.host_replay.proofs.Common.{◌≡◌, ◌++◌, take, flat_map, AllByRecursion, modules_of, entry_text, module_text, HasNames, HasNumbers}
use Rattle.host_replay.proofs.file.JournalFile.text.Given as goal

abbrev pub invariant-loop-module : goal.invariant-loop-module
invariant-loop-module l = record {
  text : l.text ≡ flat_map module_text (modules_of (take l.module-index l.self.modules.items));
  names : AllByRecursion HasNames (modules_of (take l.module-index l.self.modules.items));
}

abbrev pub invariant-loop-entry : goal.invariant-loop-entry
invariant-loop-entry l = record {
  names : AllByRecursion HasNames (modules_of l.self.modules.items);
  text : l.text ≡ flat_map module_text (modules_of l.self.modules.items)
      ++ flat_map (entry_text (modules_of l.self.modules.items)) (take l.entry-index l.self.entries.items);
  numbers : AllByRecursion HasNumbers (take l.entry-index l.self.entries.items);
}
