use Rattle.std.proofs.Common.{sym, ap, List, ℕ, ◌≡◌, ◌++◌, ◌∙◌, ◌-◌, length, take, drop, append_assoc, take-append-drop, length-drop}
use Rattle.std.proofs.Math.Seq.{take-length}
use Rattle.w2c_io.proofs.Passing.{appends_more}
use Rattle.w2c_io.proofs.writing.write_piece.Goals as goal

-- a slice from a place on, as it is cut
cut_from : (k : ℕ) (xs : List ℕ) → xs ≡ take k xs ++ take (length xs - k) (drop k xs)
cut_from k xs =
    sym (take-append-drop k xs)
    ∙ ap (λ (l : List ℕ). take k xs ++ l) (sym (ap (λ (n : ℕ). take n (drop k xs)) (sym (length-drop k xs)) ∙ take-length (drop k xs)))

pub loop-rest-preserved : goal.loop-rest-preserved
loop-rest-preserved g c =
    let held = c.loop-rest.invariant in
    let rest = c.loop-rest.rest.now in
    let contents = g.W.Write.contents in (
      held.0 ++ take c.in-Ok.count rest,
      held.1 ∙ ap (λ (l : List ℕ). held.0 ++ l) (cut_from c.in-Ok.count rest) ∙ sym (append_assoc held.0 (take c.in-Ok.count rest) _),
      appends_more (contents c.args.out.now) (contents c.loop-rest.out) (contents c.write.new.self) held.0 (take c.in-Ok.count rest) held.2
          c.in-Ok.ensures.bytes,
    )
