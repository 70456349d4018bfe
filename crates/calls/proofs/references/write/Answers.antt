-- `references::write` meets its contract: the file is copied, then its action bytes are replaced.
use mathlib.Core.Path.{◌≡◌, sym, ap, ap₂, ◌∙◌}
use mathlib.Core.List.{List, ◌++◌, append-nil}
use Prim.Native.Nat.{ℕ, ◌*◌}
use native.Mathlib.Omega.{arith}
use lib.ListN.{length, drop, drop_of_length-le}
use Rattle.routine.proofs.Form.{header_limits, few_actions}
use Rattle.calls.proofs.Referring.{replaced_is}
use Rattle.calls.proofs.references.write.Goals as goal
use Rattle.calls.proofs.references.write.Goals.{After-copy}

-- what `bytes::copy` leaves of as many bytes
copied : (s old : List ℕ) → length old ≡ length s → s ++ drop (length s) old ≡ s
copied s old sized = ap (λ (l : List ℕ). s ++ l) (drop_of_length-le old {i = length s} (omega arith)) ∙ append-nil s

-- so the file stands in `out`
copies : (c : After-copy) → c.copy.new.to ≡ c.args.routine.now.bytes
copies c = rw (c.copy.ensures.out_after, c.bytes-file.ensures) (copied c.args.routine.now.bytes c.args.out.now c.requires)

pub overflow_mul-h : goal.overflow_mul-h
overflow_mul-h c = omega (arith, few_actions (header_limits c.header-h.ensures.read.heads))

pub replace-requires : goal.replace-requires
replace-requires c =
    let is = c.header-h.ensures.read.heads in
    record {
      n_in_bounds = omega (arith, c.actions_at.ensures, ap₂ ◌*◌ is.vertices_are is.arrays_are, is.arrays_are, is.laid.ends, ap length c.bytes-file.ensures);
      out_len = ap length (copies (goal.at.replace-requires c).After-copy ∙ sym c.bytes-file.ensures);
    }

pub returns : goal.returns
returns c =
    let is = c.header-h.ensures.read.heads in
    rw (c.replace.ensures, copies (goal.at.returns c).After-copy, c.bytes-file.ensures, c.actions_at.ensures, is.vertices_are, is.arrays_are)
    (replaced_is c.args.routine.now.bytes is.laid)
