-- Laws of writing from the front of a buffer.
-- Assumes nothing.
use mathlib.Core.Path.{◌≡◌, sym, ap, ap₂, ◌∙◌}
use mathlib.Core.List.{List, [], ◌∷◌, ◌++◌, append_assoc, append-nil}
use Prim.Native.Nat.{ℕ, suc, ◌+◌, ◌-◌, ◌≤◌, ◌<◌}
use native.Mathlib.Omega.{arith}
use lib.ListN.{length, get_or, set, take, drop, length-append, length-take, length-drop, drop_of_length-le}
use lib.Seq.{set_at, drop-cons, take_at, drop_at, drop-drop, take_all, length-take-le}
use Rattle.words.specs.Tables.{wrote}

-- a buffer keeps its length
pub wrote-length : (old done : List ℕ) {out : List ℕ} → out ≡ wrote old done → length done ≤ length old → length out ≡ length old
wrote-length old done e h =
    ap length e ∙ length-append done (drop (length done) old)
    ∙ (let e : length done + length (drop (length done) old) ≡ length old = omega (arith, length-drop (length done) old) in e)

-- one more byte behind what has been written
pub write_one : (old done : List ℕ) (b at : ℕ) → at ≡ length done → at < length old → set (wrote old done) at b ≡ wrote old (done ++ (b ∷ []))
write_one old done b at here room =
    ap (λ (l : List ℕ). set (done ++ l) at b) (drop-cons old (length done) 0 (omega arith))
    ∙ set_at done (get_or old (length done) 0) (drop (suc (length done)) old) b at (sym here)
    ∙ sym (append_assoc done (b ∷ []) (drop (suc (length done)) old))
    ∙ ap (λ (n : ℕ). (done ++ (b ∷ [])) ++ drop n old) (let e : suc (length done) ≡ length (done ++ (b ∷ [])) = omega (arith, length-append done (b ∷ [])) in e)

-- ---- a slice whose part behind what has been written is lent

-- what a callee sees of `&mut xs[at..]`
abbrev pub part_from : List ℕ → ℕ → List ℕ
part_from xs at = take (length xs - at) (drop at xs)

pub part_is : (xs : List ℕ) (at : ℕ) → part_from xs at ≡ drop at xs
part_is xs at = take_all (length xs - at) (drop at xs) (omega (arith, length-drop at xs))

pub part_length : (xs : List ℕ) (at : ℕ) → length (part_from xs at) ≡ length xs - at
part_length xs at = ap length (part_is xs at) ∙ length-drop at xs

-- what comes back of it is as long
pub lent_length : (xs ys : List ℕ) (at : ℕ) → at ≤ length xs → length ys ≡ length (part_from xs at)
    → length (take at xs ++ (ys ++ drop (length xs - at) (drop at xs))) ≡ length xs
lent_length xs ys at fits e =
    simp length-append (omega (arith, length-take at xs, length-drop at xs, length-drop (length xs - at) (drop at xs), part_length xs at))

-- what comes back of it, if its first bytes were written
lent_back : (xs r ys : List ℕ) (at : ℕ) → ys ≡ r ++ drop (length r) (part_from xs at) → ys ++ drop (length xs - at) (drop at xs) ≡ r ++ drop (length r) (drop at xs)
lent_back xs r ys at e =
    ap (λ (l : List ℕ). ys ++ l) (drop_of_length-le (drop at xs) {i = length xs - at} (omega (arith, length-drop at xs))) ∙ append-nil ys ∙ e
    ∙ ap (λ (l : List ℕ). r ++ drop (length r) l) (part_is xs at)

-- a callee that is lent the part behind what has been written, and writes r at its front
pub write_more :
    (old done out r ys : List ℕ) (at : ℕ) → at ≡ length done → out ≡ wrote old done
    → ys ≡ r ++ drop (length r) (part_from out at) → take at out ++ (ys ++ drop (length out - at) (drop at out)) ≡ wrote old (done ++ r)
write_more old done out r ys at e is wrote-r =
    ap₂ (λ (x y : List ℕ). x ++ y) front behind ∙ sym (append_assoc done r (drop (length (done ++ r)) old))
  where
    front : take at out ≡ done
    front = ap (λ (l : List ℕ). take at l) is ∙ take_at done (drop (length done) old) at (sym e)

    back : drop at out ≡ drop (length done) old
    back = ap (λ (l : List ℕ). drop at l) is ∙ drop_at done (drop (length done) old) at (sym e)

    past : drop (length r) (drop (length done) old) ≡ drop (length (done ++ r)) old
    past = drop-drop (length r) (length done) old ∙ ap (λ (n : ℕ). drop n old) (sym (length-append done r))

    behind : ys ++ drop (length out - at) (drop at out) ≡ r ++ drop (length (done ++ r)) old
    behind = lent_back out r ys at wrote-r ∙ ap (λ (l : List ℕ). r ++ drop (length r) l) back ∙ ap (λ (l : List ℕ). r ++ l) past

-- the part behind `front` is lent and written first, and then `front` itself
pub write_front : (old front r ys : List ℕ) (at : ℕ) → at ≡ length front → at ≤ length old → ys ≡ r ++ drop (length r) (part_from old at)
    → wrote (take at old ++ (ys ++ drop (length old - at) (drop at old))) front ≡ wrote old (front ++ r)
write_front old front r ys at e fits wrote-r =
    ap (λ (l : List ℕ). front ++ l) (drop_at (take at old) (ys ++ drop (length old - at) (drop at old)) (length front) (length-take-le at old fits ∙ e) ∙ lent_back old r ys at wrote-r)
    ∙ ap (λ (l : List ℕ). front ++ (r ++ l)) (drop-drop (length r) at old ∙ ap (λ (n : ℕ). drop n old) (ap (λ (n : ℕ). n + length r) e ∙ sym (length-append front r)))
    ∙ sym (append_assoc front r (drop (length (front ++ r)) old))
