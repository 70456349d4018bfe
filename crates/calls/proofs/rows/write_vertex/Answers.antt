-- `rows::write_vertex` meets its contract.
use mathlib.Core.Path.{◌≡◌, sym, ap, ◌∙◌}
use mathlib.Core.List.{List}
use Prim.Native.Nat.{ℕ}
use native.Mathlib.Omega.{arith}
use lib.ListN.{length}
use Rattle.words.specs.Tables.{wrote}
use Rattle.calls.specs.Calls.{is_call_row}
use Rattle.calls.specs.Parts.{plain}
use Rattle.calls.specs.VertexRows.{call_rows, part_row, vertex_rows}
use Rattle.calls.proofs.RowBytes.{row_length, call_length, call_rows_are, plain_row}
use Rattle.calls.proofs.rows.write_vertex.Goals as goal
use Rattle.calls.proofs.rows.write_vertex.Goals.{Else-call, Then-call}

-- what vertex v becomes, where it is a call
call : (c : Then-call) → vertex_rows c.args.routine.now.bytes c.args.v ≡ call_rows c.args.routine.now.bytes c.args.v
call c =
    call_rows_are c.args.routine.now.bytes c.args.v (ap (λ (file : List ℕ). is_call_row file c.args.v) (sym c.bytes.ensures) ∙ sym c.is_call-call.ensures ∙ c.if-call.true)

-- and where it is none
other : (c : Else-call) → vertex_rows c.args.routine.now.bytes c.args.v ≡ part_row c.args.routine.now.bytes (plain c.args.v)
other c =
    plain_row c.args.routine.now.bytes c.args.v (ap (λ (file : List ℕ). is_call_row file c.args.v) (sym c.bytes.ensures) ∙ sym c.is_call-call.ensures ∙ c.if-call.false)

pub write_call-requires : goal.write_call-requires
write_call-requires c =
    record {
      arrivals = c.requires.arrivals;
      v_bound = c.requires.v_bound;
      file_in_bounds = omega (arith, c.requires.v_in_bounds, ap length (call (goal.at.write_call-requires c).Then-call), call_length c.args.routine.now.bytes c.args.v);
    }

pub returns-then-call : goal.returns-then-call
returns-then-call c =
    record {
      value = omega (arith, ap length (call (goal.at.returns-then-call c).Then-call), call_length c.args.routine.now.bytes c.args.v, c.arrays.ensures);
      out_after = c.write_call.ensures ∙ sym (ap (wrote c.args.out.now) (call (goal.at.returns-then-call c).Then-call));
    }

pub write_plain-requires : goal.write_plain-requires
write_plain-requires c =
    record {
      v_bound = c.requires.v_bound;
      file_in_bounds = omega (arith, c.requires.v_in_bounds, ap length (other (goal.at.write_plain-requires c).Else-call), row_length c.args.routine.now.bytes (plain c.args.v));
    }

pub returns : goal.returns
returns c =
    record {
      value = omega (arith, ap length (other (goal.at.returns c).Else-call), row_length c.args.routine.now.bytes (plain c.args.v), c.arrays-2.ensures);
      out_after = c.write_plain.ensures ∙ sym (ap (wrote c.args.out.now) (other (goal.at.returns c).Else-call));
    }
