use Rattle.wasm_valid.proofs.Common.{◌≡◌, ℕ, List, [], take, drop, bytes_eq, list_any, entered, duplicate_exports}
use Rattle.wasm_valid.proofs.rows.enter_duplicate_exports.Given as goal

-- the names so far are those of the exports so far
abbrev pub invariant-loop-export : goal.invariant-loop-export
invariant-loop-export l = record {
  names : (name : List ℕ) → list_any (λ key. bytes_eq key.now name) l.names.keys
      ≡ list_any (λ other. bytes_eq other.name name) (take l.export-index l.exports);
  found : entered l.first.found (duplicate_exports (take l.export-index l.exports) (drop l.export-index l.exports))
      ≡ entered l.initial.first.found (duplicate_exports [] l.exports);
}
