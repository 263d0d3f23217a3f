use Rattle.std.proofs.Common.{drop}
use Rattle.body_check.specs.Seen.{AreSpacesOf}
use Rattle.wasm_set.proofs.Entering.{Enters}
use Rattle.wasm_set.proofs.offers.offers_of.Given as goal

abbrev pub invariant-loop-export : goal.invariant-loop-export
invariant-loop-export l = record {
  spaces : AreSpacesOf l.spaces l.m;
  entered : Enters l.m l.table (drop l.export-index l.m.exports);
}
