-- Where reading stands: a place in the file, the bytes from there to the end of the innermost window, and what
-- the limits and the order of sections speak of.
use Rattle.std.specs.Prelude.{ℕ, Bool, List, Option}

pub record Counts : Type 0 where
  -- the rank of the last section that is no custom section
  pub last_rank : ℕ
  -- entries of the function section
  pub functions : ℕ
  pub code_read : Bool
  -- what the data count section says, and whether the data section was read
  pub data_count : Option ℕ
  pub data_read : Bool
  -- locals declared in this body so far, and in all bodies so far
  pub locals : ℕ
  pub all_locals : ℕ

pub record At : Type 0 where
  pub place : ℕ
  pub left : List ℕ
  pub counts : Counts
