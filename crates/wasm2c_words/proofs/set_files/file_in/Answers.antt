use Rattle.wasm2c_words.proofs.Common.{◌≡◌, ℕ, ◌<◌, List, All, sym, subst, arith, rules, All-from_get_or, escaped}
use Rattle.wasm2c_words.proofs.SetFiles.{escaped_ascii}
use Rattle.wasm2c_words.proofs.set_files.file_in.Goals as goal

pub put_ascii-requires : goal.put_ascii-requires
put_ascii-requires c =
    let name = c.args.module_name.now in
    let small : All (λ (b : ℕ). b < 256) name =
    All-from_get_or (λ (b : ℕ). b < 256) name 0 (λ i within. omega (arith, c.type_inv.module_name i)) in
    let is : c.as_slice.result.now ≡ escaped name = search rules in
    subst (λ (text : List ℕ). All (λ (b : ℕ). b < 128) text) (sym is) (escaped_ascii name small)
