-- Document 02, request 3: a call written as one vertex. 60+k passes the array in version k with intent in, A0+k out, C0+k inout, k below 32
-- (`is_call`, `called_version` of `routine/Actions`).
-- Assumes nothing.
use Rattle.std.specs.Prelude.{Bool, cond, List, ℕ, ◌+◌, ◌*◌, ltb, get_or}
use Rattle.routine.specs.Actions.{is_call, action_byte}
use Rattle.routine.specs.Layout.{arrays, vertices, actions_at}
use Rattle.words.specs.Sums.{any_below}

-- what a call's intent does with the array, as an action byte: in reads, out defines, inout modifies
abbrev pub intent_byte : ℕ → ℕ
intent_byte b = cond (ltb b 0x80) 0x10 (cond (ltb b 0xc0) 0x20 0x30)

-- vertex v of the file passes array a
abbrev pub passes : List ℕ → ℕ → ℕ → Bool
passes file a v = is_call (action_byte file a v)

-- a call row: it passes an array
unfoldable pub is_call_row : List ℕ → ℕ → Bool
unfolding any_below
is_call_row file v = any_below (λ a. passes file a v) (arrays file)

-- the file has calls: one of its action bytes is one
unfoldable pub has_calls : List ℕ → Bool
unfolding any_below
has_calls file = any_below (λ i. is_call (get_or file (actions_at file + i) 0)) (vertices file * arrays file)
