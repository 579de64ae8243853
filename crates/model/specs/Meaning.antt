-- The meaning of a role: the least sets where each role holds its members and all that the roles it takes hold.
use Rattle.std.specs.Prelude.{ℕ, zero, suc, ◌<◌, ◌≡◌, List, [], ◌∷◌, ◌++◌, true, cond, eqb, ltb, length, get_or, set}
use Rattle.std.specs.Int.Bits.{bit_or}
use Rattle.model.specs.Number.{accepted, no_such_role}
use Rattle.model.specs.Sets.{has}
use Rattle.model.specs.Policy.{roles, members, takes, policy_number}

-- sets are closed when each role holds its members and all that the roles it takes hold
pub record Closed (s : List ℕ) (Holds : ℕ → ℕ → Type 0) : Type 0 where
  pub own : (r p : ℕ) → r < roles s → has (members s r) p ≡ true → Holds r p
  pub taken : (r j p : ℕ) → r < roles s → j < roles s → has (takes s r) j ≡ true → Holds j p → Holds r p

-- the union of the sets in w of those of the first n roles that are in row
unfoldable pub gather : List ℕ → ℕ → ℕ → ℕ
gather w row zero = 0
gather w row (suc n) = cond (has row n) (bit_or (gather w row n) (get_or w n 0)) (gather w row n)

-- what role i holds once it has what its taken roles, by the rows' takes t, hold in w
unfoldable pub grown : List ℕ → List ℕ → ℕ → ℕ
grown t w i = bit_or (get_or w i 0) (gather w (get_or t i 0) (length t))

-- the first n rows grown in turn, in place; a round is all rows
unfoldable pub steps : List ℕ → List ℕ → ℕ → List ℕ
steps t w zero = w
steps t w (suc n) = set (steps t w n) n (grown t (steps t w n) n)

-- n rounds from the sets w
unfoldable pub rounds : List ℕ → List ℕ → ℕ → List ℕ
rounds t w zero = w
rounds t w (suc n) = steps t (rounds t w n) (length t)

-- f 0, f 1, .. f (n - 1)
unfoldable pub column : (ℕ → ℕ) → ℕ → List ℕ
column f zero = []
column f (suc n) = column f n ++ (f n ∷ [])

-- the meanings of all roles: from the members, after as many rounds as there are roles, nothing is left to add
unfoldable pub meanings : List ℕ → List ℕ
meanings s = rounds (column (takes s) (roles s)) (column (members s) (roles s)) (roles s)

-- the meaning of role r
unfoldable pub meaning : List ℕ → ℕ → ℕ
meaning s r = get_or (meanings s) r 0

-- what asking for a meaning gives: a number and the meaning's bits
pub data Answer : Type 0 where
  answer : ℕ → ℕ → Answer

-- the policy's number, then 7 for a role that there is not; the bits are 0 at any refusal
unfoldable pub meaning_of : List ℕ → ℕ → Answer
meaning_of s r =
    cond (eqb (policy_number s) accepted)
    (cond (ltb r (roles s)) (answer accepted (meaning s r)) (answer no_such_role 0))
    (answer (policy_number s) 0)
