-- The flow rules, once for both sides, and the verdict of a program under a policy.
use Rattle.std.specs.Prelude.{ℕ, zero, suc, ◌-◌, List, [], ◌∷◌, ◌++◌, Bool, true, false, cond, ◌&&◌, ◌||◌, eqb, get_or}
use Rattle.std.specs.Int.Bits.{bit_or}
use Rattle.model.specs.Limits.{role_limit, variable_limit}
use Rattle.model.specs.Number.{accepted, flow_transaction, flow_grant, flow_reading, flow_trust, Verdict, fine, refused, require, or_else}
use Rattle.model.specs.Sets.{has, with}
use Rattle.model.specs.Policy.{Side, reading, trust, principals, roles, policy_number}
use Rattle.model.specs.Mutation.{Mutation, allowed}
use Rattle.model.specs.Syntax.{of, everyone, Atom, role, fixed, Query, same_query, Expr, constant, variable, binary, Stmt, skip, assign, empty, block, if, while, query, update, transaction}
use Rattle.model.specs.Program.{Read, got, bad, label_byte, read_program}
use Rattle.model.specs.Order.{join_at_most}

-- a label byte as an atom: a role or everyone
unfoldable pub label_atom : ℕ → Atom
label_atom x = cond (eqb x 0xff) (fixed everyone) (role x)

-- the label of variable x on a side: who may read it, who trusts it
unfoldable pub label : List ℕ → Side → ℕ → Atom
label p side x = label_atom (label_byte p side x)

-- an expression's label joins its variables' labels; constants add nothing
unfoldable pub expr_label : List ℕ → Side → Expr → List Atom
expr_label p side (constant n) = []
expr_label p side (variable x) = label p side x ∷ []
expr_label p side (binary op a b) = expr_label p side a ++ expr_label p side b

-- the viewers (reading side) or trusters (trust side) of the role that an atom names; everyone names none
unfoldable pub atom_label : Side → Atom → List Atom
atom_label side (role j) = fixed (of side j) ∷ []
atom_label side (fixed (of _ j)) = fixed (of side j) ∷ []
atom_label side (fixed everyone) = []

-- a query's label joins those of its atoms
unfoldable pub query_label : Side → Query → List Atom
query_label side q = atom_label side q.first ++ atom_label side q.second

-- the labels of all listed queries
unfoldable pub list_label : Side → List Query → List Atom
list_label side [] = []
list_label side (q ∷ qs) = query_label side q ++ list_label side qs

-- the variables assigned anywhere in a statement
unfoldable pub assigned : Stmt → ℕ
assigned skip = 0
assigned (assign at x e) = with 0 x
assigned empty = 0
assigned (block a b) = bit_or (assigned a) (assigned b)
assigned (if e a b) = bit_or (assigned a) (assigned b)
assigned (while e a) = assigned a
assigned (query at q a b) = bit_or (assigned a) (assigned b)
assigned (update at ms) = 0
assigned (transaction at start end qs a) = assigned a

-- the roles that mutations name
unfoldable pub roles_of : List Mutation → ℕ
roles_of [] = 0
roles_of (m ∷ ms) = with (roles_of ms) m.role

-- the roles mutated anywhere in a statement
unfoldable pub mutated : Stmt → ℕ
mutated skip = 0
mutated (assign at x e) = 0
mutated empty = 0
mutated (block a b) = bit_or (mutated a) (mutated b)
mutated (if e a b) = bit_or (mutated a) (mutated b)
mutated (while e a) = mutated a
mutated (query at q a b) = bit_or (mutated a) (mutated b)
mutated (update at ms) = roles_of ms
mutated (transaction at start end qs a) = mutated a

-- what surrounds a statement: no transaction, or one with its listed queries and all that it assigns and mutates
pub data Around : Type 0 where
  outside : Around
  inside : (listed : List Query) → (variables mutatedRoles : ℕ) → Around

-- whether each number below n that is in a set passes a test
unfoldable pub each_of : ℕ → (ℕ → Bool) → ℕ → Bool
each_of set test zero = true
each_of set test (suc n) = each_of set test n && cond (has set n) (test n) true

-- whether a query is in a list
unfoldable pub listed_in : Query → List Query → Bool
listed_in q [] = false
listed_in q (k ∷ ks) = same_query q k || listed_in q ks

-- an update adds only what the policy file allows
unfoldable pub all_allowed : List ℕ → List Mutation → Bool
all_allowed s [] = true
all_allowed s (m ∷ ms) = allowed s m.kind m.role m.operand && all_allowed s ms

-- 17 unless the reading side is derivable, then 18 unless the trust side is
abbrev pub both_sides : (Side → Bool) → ℕ → Verdict
both_sides derivable at = require (derivable reading) flow_reading at (require (derivable trust) flow_trust at fine)

-- a context is a join on each side; in an if's branches and a while's body the expression's label is joined to it
abbrev pub under_expr : List ℕ → Expr → (Side → List Atom) → Side → List Atom
under_expr p e context side = expr_label p side e ++ context side

-- in a query's branches the query's label is joined to it
abbrev pub under_query : Query → (Side → List Atom) → Side → List Atom
under_query q context side = query_label side q ++ context side

-- what must be at most all that an update is checked against: the context and the labels of all listed queries
abbrev pub update_join : (Side → List Atom) → List Query → Side → List Atom
update_join context listed side = context side ++ list_label side listed

-- the policy s and the program p
module _ (s p : List ℕ) where
  -- assign: context and expression label are at most the variable's label
  unfoldable pub may_assign : List Query → (Side → List Atom) → ℕ → Expr → Side → Bool
  may_assign known context x e side = join_at_most s known (expr_label p side e ++ context side) (label p side x)

  -- update: context and listed queries' labels are at most the label of every variable assigned anywhere in the
  -- transaction, and at most the viewers (trusters) of every role mutated anywhere in it
  unfoldable pub may_update : List Query → (Side → List Atom) → List Query → ℕ → ℕ → Side → Bool
  may_update known context listed variables mutatedRoles side =
      each_of variables (λ x. join_at_most s known (update_join context listed side) (label p side x)) variable_limit
      && each_of mutatedRoles (λ r. join_at_most s known (update_join context listed side) (fixed (of side r))) role_limit

  -- 15 to 18 at the first statement in reading order, lowest number first; the first branch of a query also knows the query,
  -- and a transaction's body knows what is known around it
  unfoldable pub flow : Around → List Query → (Side → List Atom) → Stmt → Verdict
  flow around known context skip = fine
  flow around known context (assign at x e) = both_sides (may_assign known context x e) at
  flow around known context empty = fine
  flow around known context (block a b) = or_else (flow around known context a) (flow around known context b)
  flow around known context (if e a b) =
      or_else (flow around known (under_expr p e context) a) (flow around known (under_expr p e context) b)
  flow around known context (while e a) = flow around known (under_expr p e context) a
  flow outside known context (query at q a b) = refused flow_transaction at
  flow (inside listed xs rs) known context (query at q a b) =
      require (listed_in q listed) flow_transaction at
      (or_else (flow (inside listed xs rs) (q ∷ known) (under_query q context) a)
      (flow (inside listed xs rs) known (under_query q context) b))
  flow outside known context (update at ms) = refused flow_transaction at
  flow (inside listed xs rs) known context (update at ms) =
      require (all_allowed s ms) flow_grant at (both_sides (may_update known context listed xs rs) at)
  flow outside known context (transaction at start end qs a) = flow (inside qs (assigned a) (mutated a)) known context a
  flow (inside listed xs rs) known context (transaction at start end qs a) = refused flow_transaction at

  -- the flow verdict of a body that was read: no transaction around it, nothing known, empty contexts
  unfoldable pub body_verdict : Read Stmt → Verdict
  body_verdict (bad k place) = refused k place
  body_verdict (got body end) = flow outside [] (λ side. []) body

-- the verdict of a program under a policy: the policy's number, then 10 to 14, then 15 to 18
unfoldable pub program_verdict : List ℕ → List ℕ → Verdict
program_verdict s p =
    cond (eqb (policy_number s) accepted)
    (body_verdict s p (read_program p (principals s) (roles s)))
    (refused (policy_number s) 0)

-- a part of the program's bytes
pub data Part : Type 0 where
  part : (start size : ℕ) → Part

-- the bodies of the transactions in a statement, in reading order
unfoldable pub bodies : Stmt → List Part
bodies skip = []
bodies (assign at x e) = []
bodies empty = []
bodies (block a b) = bodies a ++ bodies b
bodies (if e a b) = bodies a ++ bodies b
bodies (while e a) = bodies a
bodies (query at q a b) = bodies a ++ bodies b
bodies (update at ms) = []
bodies (transaction at start end qs a) = part start (end - start) ∷ bodies a

-- the body of transaction k of what was read, the empty part where there is none
unfoldable pub body_at : Read Stmt → ℕ → Part
body_at (bad k place) n = part 0 0
body_at (got body end) n = get_or (bodies body) n (part 0 0)

-- the body of transaction k of an accepted program; the empty part where there is none or a file is refused
unfoldable pub transaction_part : List ℕ → List ℕ → ℕ → Part
transaction_part s p k = go (program_verdict s p)
  where
    go : Verdict → Part
    go fine = body_at (read_program p (principals s) (roles s)) k
    go (refused n place) = part 0 0
