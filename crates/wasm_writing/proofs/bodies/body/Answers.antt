use Rattle.wasm_writing.specs.Bodies.{body_content}
use Rattle.wasm_writing.proofs.Windows.{puts_window}
use Rattle.wasm_writing.proofs.bodies.body.Goals as goal

pub returns-clause-puts : goal.returns-clause-puts
returns-clause-puts c =
    puts_window (body_content c.args.before c.args.body.now) c.body_content.new.draft _ _ _ c.body_content.ensures.puts c.size.ensures
    c.body_content-2.ensures.puts
