-- What the reader returns, seen as what is read of the bytes.
use Rattle.std.specs.Prelude.{◌≡◌, ◌≢◌, Result, Ok, Err}
use Rattle.wasm_spelling.specs.declared.fault.ReadFault.{ReadFault}
use Rattle.wasm_spelling.specs.declared.fault.ReadFault.TheVariants.{Malformed, Float, Limit, Memory}
use Rattle.wasm_spelling.specs.At as spelling
use Rattle.wasm_spelling.specs.Steps.{◌>>=◌}
use Rattle.wasm_binary.specs.declared.rest.Counts.{Counts}
use Rattle.wasm_binary.specs.declared.rest.Rest.{Rest}

abbrev pub counts_of : Counts → spelling.Counts
counts_of c = record {
  last_rank = c.last_rank;
  functions = c.functions;
  code_read = c.code_read;
  data_count = c.data_count;
  data_read = c.data_read;
  locals = c.locals;
  all_locals = c.all_locals;
}

-- where the reader stands
abbrev pub at : Rest → spelling.At
at r = record { place = r.place; left = r.left.now; counts = counts_of r.counts }

abbrev pub Fails : {Y : Type 0} → ReadFault → Result Y ReadFault → Type 0
Fails Memory read = Unit {0}
Fails (Malformed place cause) read = read ≡ Err (Malformed place cause)
Fails (Float place) read = read ≡ Err (Float place)
Fails (Limit place which) read = read ≡ Err (Limit place which)

-- what a function returned, seen by view, is what reading gives, unless memory was wanting
abbrev pub Gives : {X Y : Type 0} → (X → Y) → Result X ReadFault → Result Y ReadFault → Type 0
Gives view (Ok x) read = read ≡ Ok (view x)
Gives view (Err fault) read = Fails fault read

-- a value and the place behind it
abbrev pub seen : {X : Type 0} → X × Rest → X × spelling.At
seen x = (x.0, at x.1)

-- what was read, without the place behind it
abbrev pub value_in : {X : Type 0} → Result (X × spelling.At) ReadFault → Result X ReadFault
value_in read = read >>= λ x. Ok x.0

-- a value, with the place behind what was read
abbrev pub kept : {X Y : Type 0} → Y → Result (X × spelling.At) ReadFault → Result (Y × spelling.At) ReadFault
kept value read = read >>= λ x. Ok (value, x.1)

-- this is the result, unless memory was wanting
abbrev pub UnlessMemory : {A : Type 0} → Result A ReadFault → Result A ReadFault → Type 0
UnlessMemory result expected = result ≢ Err Memory → result ≡ expected
