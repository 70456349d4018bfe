-- What came lies behind what had come, and both are what was taken.
use Rattle.std.proofs.Common.{◌≡◌, ℕ, ◌+◌, ◌-◌, ◌≤◌, List, ◌++◌, Option, Some, None, rules, length, take, sym, ap, ap₂, ◌∙◌, subst, le_refl, drop_at, length-take-le}
use Rattle.std.proofs.lemmas.Slice.{take-put_mid_below}
use Rattle.std.specs.Io.KnownBytes.{Consumes}
use borrow.Rule.Slice.PartMut.{put_mid, post_of}
use mathlib.Core.List.{append_assoc}
use lib.Seq.{take-add, take-append-le}
use Rattle.streams.proofs.read_all.Goals as goal

-- the first bytes of a buffer whose part from `at` on was lent
take_lent : (at k n : ℕ) (xs ys : List ℕ) → at ≤ length xs → n ≤ length ys → take (at + n) (put_mid at k xs ys) ≡ take at xs ++ take n ys
take_lent at k n xs ys within fits =
    let after = post_of at k xs in
    take-add at n (put_mid at k xs ys)
    ∙ ap₂ (λ (front back : List ℕ). front ++ take n back) (take-put_mid_below at k xs ys at (le_refl at) within) (drop_at (take at xs) (ys ++ after) at (length-take-le at xs within))
    ∙ ap (λ (l : List ℕ). take at xs ++ l) (take-append-le n ys after fits)

-- one read after others
consumes_more : (first then last : Option (List ℕ)) (xs ys : List ℕ) → Consumes first then xs → Consumes then last ys → Consumes first last (xs ++ ys)
consumes_more None then last xs ys h k = search rules
consumes_more (Some a) None last xs ys h k = absurd h
consumes_more (Some a) (Some b) None xs ys h k = absurd k
consumes_more (Some a) (Some b) (Some c) xs ys h k = h ∙ ap (λ (l : List ℕ). xs ++ l) k ∙ sym (append_assoc xs ys c)

pub loop-done-preserved : goal.loop-done-preserved
loop-done-preserved g c =
    let room = length c.loop-done.buf - c.loop-done.done in
    let came = take_lent c.loop-done.done room c.read_once-more.result c.loop-done.buf c.read_once-more.new.buf c.loop-done.invariant.0 c.read_once-more.ensures.prefix_len.0 in (
      search rules,
      search rules,
      subst (Consumes _ _) (sym came) (consumes_more _ _ _ _ _ c.loop-done.invariant.2 c.read_once-more.ensures.taken),
    )
