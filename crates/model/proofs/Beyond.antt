-- An accepted policy ends with its last row, so what a later role would have reads as 0: nobody watches it, in whichever policy.
use Prim.Native.Nat.{ℕ, zero, suc, ◌+◌, ◌<◌, ◌≤◌}
use native.Mathlib.Omega.{arith}
use native.Mathlib.Decide.{dec_lt}
use mathlib.Core.Path.{◌≡◌, refl, sym, ◌∙◌}
use mathlib.Core.List.{List}
use lib.ListN.{length, get_or-eq_default}
use Rattle.model.specs.Bytes.{word}
use Rattle.model.specs.Policy.{roles, row_at, viewers, trusters, Side, reading, trust, watchers, Accepted, SameFixed}
use Rattle.model.proofs.Accepted.{accepted_head}
use Rattle.model.proofs.Rows.{rows_end}
use Rattle.model.proofs.Fixed.{watchers_fixed}

word_beyond : (s : List ℕ) (at n : ℕ) → length s ≤ at → word s at n ≡ 0
unfolding word
word_beyond s at zero l = refl
word_beyond s at (suc n) l =
    let later : length s ≤ at + n = omega arith in
    rw (word_beyond s at n l, get_or-eq_default s 0 {n = at + n} later) (omega arith)

pub watchers_beyond : (side : Side) (s : List ℕ) → Accepted s → (j : ℕ) → roles s ≤ j → watchers side s j ≡ 0
unfolding watchers viewers trusters
watchers_beyond reading s ok j l = word_beyond s (row_at s j + 2) 4 (omega (arith, rows_end s (accepted_head s ok) j l))
watchers_beyond trust s ok j l = word_beyond s (row_at s j + 6) 4 (omega (arith, rows_end s (accepted_head s ok) j l))

-- so they are of the fixed part for every role
pub watchers_same : (a b : List ℕ) → Accepted a → Accepted b → SameFixed a b → (side : Side) (j : ℕ) → watchers side a j ≡ watchers side b j
watchers_same a b oka okb same side j = go (dec_lt j (roles a))
  where
    go : Dec (j < roles a) → watchers side a j ≡ watchers side b j
    go (yes l) = watchers_fixed same side j l
    go (no n) =
        let q : roles a ≤ j = omega arith in
        watchers_beyond side a oka j q ∙ sym (watchers_beyond side b okb j (rw same.same_roles at q))
