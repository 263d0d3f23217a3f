use Rattle.crun_startup.proofs.Common.{◌≡◌, ℕ, ◌≤◌, [], ◌++◌, map, flat_map, sym, ap, ◌∙◌, append-nil, arith, numbered_at, seen_at}
use Rattle.crun_startup.proofs.Common.{numbered, unit_of, entry_of, unit_entries}
use Rattle.crun_startup.proofs.Collected.{flats, gathered_next, numbered_end}
use Rattle.crun_startup.proofs.symbols.of_units.Goals as goal

pub loop-unit-preserved : goal.loop-unit-preserved
loop-unit-preserved c =
    let units = map unit_of c.args.linked.now.0 in
    let items = unit_of c.unit.result.now in
    let u = c.loop-unit.unit in
    gathered_next (flat_map unit_entries) (flats unit_entries) (numbered units) [] _ _ u (u, items)
    (numbered_at units u items (seen_at unit_of c.args.linked.now.0 u _ c.unit.ensures))
    (c.in_ok-put_unit.ensures ∙ ap (λ l. map entry_of c.loop-unit.seen.items ++ l)
    (ap (λ xs. unit_entries (u, unit_of xs)) (c.as_slice.ensures ∙ c.unit-in-loop-unit.ensures.unit) ∙ sym (append-nil _)))
    c.loop-unit.invariant

pub returns : goal.returns
returns c =
    numbered_end (flat_map unit_entries) (flats unit_entries) unit_of c.args.linked.now.0 [] (map entry_of c.loop-unit.seen.items)
    c.loop-unit.unit (past (sym c.unit_count-unit-end.ensures.count) c.loop-unit-test.false) c.loop-unit.invariant
  where
    past : {m n k : ℕ} → m ≡ n → n ≤ k → m ≤ k
    past same le = omega (arith, same, le)
