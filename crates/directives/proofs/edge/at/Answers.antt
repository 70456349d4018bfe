-- `edge::at` meets its contract: the two numbers at the edge's place.
use mathlib.Core.Path.{ap, ap₂, ◌∙◌}
use Prim.Native.Nat.{ℕ, ◌+◌}
use Rattle.words.specs.Words.{word}
use Rattle.directives.proofs.edge.at.Goals as goal

pub returns : goal.returns
returns c =
    let file = c.args.laid.now.bytes in
    ap₂ (λ (x y : ℕ). record { from = x; to = y })
    (c.word_at.ensures.value ∙ ap (word file) c.place-at.ensures.value)
    (c.word_at-2.ensures.value ∙ ap (λ (at : ℕ). word file (at + 2)) c.place-at.ensures.value)
