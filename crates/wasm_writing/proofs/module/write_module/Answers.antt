use Rattle.wasm_writing.proofs.Common.{ℕ, List, [], subst, Puts, short_fields, Draft, Written}
use Rattle.wasm_writing.proofs.Whole.{short_file_spells, written_is_least, written_is_short, written_is_small}
use Rattle.wasm_writing.proofs.module.write_module.Goals as goal

abbrev written : (c : goal.In-Written) → Puts (short_fields c.args.m.now) (Written []) (Written c.in-Written.bytes)
written c =
    let first = subst (λ (l : List ℕ). Puts (short_fields c.args.m.now) (Written l) c.put.new.draft) c.new.ensures c.put.ensures in
    subst (λ (d : Draft). Puts (short_fields c.args.m.now) (Written []) d) c.in-Written.is first

pub returns-in-Written-clause-spells : goal.returns-in-Written-clause-spells
returns-in-Written-clause-spells c =
    let m = c.args.m.now in
    let bytes = c.in-Written.bytes in
    short_file_spells m bytes (written_is_short m bytes (written c)) (written_is_small m bytes (written c))

pub returns-in-Written-clause-short : goal.returns-in-Written-clause-short
returns-in-Written-clause-short c = written_is_short c.args.m.now c.in-Written.bytes (written c)

pub returns-in-Written-clause-least : goal.returns-in-Written-clause-least
returns-in-Written-clause-least c = λ other s. written_is_least c.args.m.now c.in-Written.bytes other (written c) s
