-- `writer::write_label` meets its contract: without a label no byte is written, else the twelve that the tables give.
use mathlib.Core.Path.{◌≡◌, sym, ap}
use mathlib.Core.Bool.{true}
use Prim.Native.Nat.{◌+◌, ◌*◌}
use native.Mathlib.Omega.{arith}
use lib.ListN.{length, get_or}
use Rattle.labels.specs.Events.{event, is_label, version_set}
use Rattle.planbytes.specs.Plan.{label_bytes, label_entry}
use Rattle.words.specs.Tables.{wrote}
use Rattle.planbytes.proofs.Cells.{labelled_bytes, unlabelled_bytes, no_version, some_version, made}
use Rattle.planbytes.proofs.writer.write_label.Goals as goal
use Rattle.planbytes.proofs.writer.write_label.Goals.{Else-version-eq0, Start}

holds-version : (s : Start) → get_or s.args.versions.now (8 * s.args.v + s.args.a) 0 ≡ version_set (event s.args.routine.now.bytes s.args.a s.args.v)
holds-version s = s.requires.tabled.versions_are.cells s.args.a s.args.v s.requires.a_bound s.requires.v_bound

has_label : (c : Else-version-eq0) → is_label c.args.routine.now.bytes c.args.a c.args.v ≡ true
has_label c = some_version c.args.routine.now.bytes c.args.a c.args.v (holds-version (goal.at.Else-version-eq0 c).Start) c.if-version-eq0.false

is_entry : (c : Else-version-eq0) → label_entry c.args.routine.now.bytes c.args.a c.args.v ≡ label_bytes c.args.routine.now.bytes c.args.a c.args.v
is_entry c = labelled_bytes _ _ _ (has_label c)

pub returns-then-version-eq0 : goal.returns-then-version-eq0
returns-then-version-eq0 c =
    let e = unlabelled_bytes c.args.routine.now.bytes c.args.a c.args.v (no_version c.args.routine.now.bytes c.args.a c.args.v (holds-version (goal.at.returns-then-version-eq0 c).Start) c.if-version-eq0.true) in
    record {
      value = sym (ap length e);
      out_after = sym (ap (wrote c.args.out.now) e);
    }

pub write-requires : goal.write-requires
unfolding label_bytes
write-requires c = omega (arith, ap length (is_entry (goal.at.write-requires c).Else-version-eq0))

pub returns : goal.returns
unfolding label_bytes
returns c =
    let e = is_entry (goal.at.returns c).Else-version-eq0 in
    record {
      value = sym (ap length e);
      out_after = rw e (made c.requires.a_bound c.requires.v_bound c.requires.tabled c.args.out.now (has_label (goal.at.returns c).Else-version-eq0) c.leaving.ensures c.write.ensures);
    }
