use Rattle.std.proofs.Common.{rules, ◌≡◌, ◌++◌, [], ◌∷◌, length, string_bytes, string_len}
use Rattle.wasm2c_words.proofs.HeaderName.{header_name_is}
use Rattle.wasm2c_words.proofs.names.header_name.Goals as goal

pub returns : goal.returns
returns c =
    let out = c.args.output.now in
    let old = string_bytes c.in_ok-name.name in
    let same : old ≡ out = search rules in
    let len : string_len c.in_ok-name.name ≡ length old = search rules in
    let is : string_bytes c.push.new.self ≡ string_bytes c.pop.new.self ++ 104 ∷ [] = search rules in
    header_name_is out old (string_bytes c.pop.new.self) (string_bytes c.push.new.self)
    (string_len c.in_ok-name.name) c.requires same len c.pop.ensures.ascii_bytes is
