-- `contents::label_at` meets its contract.
use mathlib.Core.Path.{sym, ap, ap₂}
use mathlib.Core.Bool.{Bool, cond}
use Prim.Native.Nat.{ℕ}
use borrow.Author.Tests.{eq-eqb, ne_eqb}
use Rattle.planbytes.proofs.contents.label_at.Goals as goal

abbrev flag : Bool → Bool → ℕ
flag none counts = cond none 0 (cond counts 1 0)

pub returns-then-versions-at-eq0 : goal.returns-then-versions-at-eq0
returns-then-versions-at-eq0 c = ap (λ (b : Bool). flag b c.args.counts) (sym (eq-eqb _ _ c.if-versions-at-eq0.true))

pub returns-then-counts : goal.returns-then-counts
returns-then-counts c = ap₂ flag (sym (ne_eqb _ _ c.if-versions-at-eq0.false)) (sym c.if-counts.true)

pub returns : goal.returns
returns c = ap₂ flag (sym (ne_eqb _ _ c.if-versions-at-eq0.false)) (sym c.if-counts.false)
