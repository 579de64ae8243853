-- A refused program has a number from 1 to 18: the policy's checks know 1 to 6 only, reading 10 to 14, the flow rules 15 to 18.
use Prim.Native.Nat.{ℕ, zero, suc, ◌≤◌, ◌^◌}
use native.Mathlib.Omega.{arith}
use mathlib.Core.Path.{◌≡◌, refl}
use mathlib.Core.List.{List, []}
use mathlib.Core.Bool.{Bool, true, false, cond, not, ◌&&◌}
use lib.Dec.{eqb, ltb, leb}
use lib.ListN.{length}
use borrow.Author.Tests.{eqb-false}
use Rattle.model.specs.Limits.{head_bytes, principal_limit, role_limit}
use Rattle.model.specs.Number.{accepted, policy_length, row_grants, flow_transaction, flow_grant, flow_reading, flow_trust, unless, first, first_below, Verdict, fine, refused, require, or_else}
use Rattle.model.specs.Sets.{has, within}
use Rattle.model.specs.Policy.{has_mark, policy_bytes, owner, name, viewers, trusters, members, takes, may_take, Side, reading, trust, principals, roles, policy_number, head_number, row_number, principal_number, owner_number, pair_number, grants_number, takes_number, taken_number}
use Rattle.model.specs.Syntax.{Atom, Query, Stmt, skip, assign, empty, block, if, while, query, update, transaction}
use Rattle.model.specs.Program.{Read, got, bad, read_program}
use Rattle.model.specs.Flow.{Around, outside, inside, listed_in, all_allowed, both_sides, may_assign, may_update, flow, body_verdict, program_verdict}
use Rattle.model.proofs.Reading.{program_number}

-- a number of the policy's checks is chosen among numbers up to 6
abbrev Small : ℕ → Type 0
Small k = k ≤ row_grants

unless_small : (holds : Bool) (k later : ℕ) → Small k → Small later → Small (unless holds k later)
unless_small true k later h l = l
unless_small false k later h l = h

first_small : (a b : ℕ) → Small a → Small b → Small (first a b)
first_small a b h l = unless_small (eqb a 0) a b h l

below_small : (f : ℕ → ℕ) → ((i : ℕ) → Small (f i)) → (n : ℕ) → Small (first_below f n)
unfolding first_below
below_small f h zero = omega arith
below_small f h (suc n) = first_small (first_below f n) (f n) (below_small f h n) (h n)

head_small : (s : List ℕ) → Small (head_number s)
unfolding head_number
head_small s =
    unless_small (leb head_bytes (length s)) _ _ (omega arith)
    (unless_small (has_mark s) _ _ (omega arith)
    (unless_small (leb 1 (principals s)) _ _ (omega arith)
    (unless_small (leb (principals s) principal_limit) _ _ (omega arith)
    (unless_small (leb (roles s) role_limit) _ _ (omega arith)
    (unless_small (eqb (length s) (policy_bytes s)) _ _ (omega arith) (omega arith))))))

row_small : (s : List ℕ) (i : ℕ) → Small (row_number s i)
unfolding row_number principal_number owner_number pair_number
row_small s i = first_small _ _
    (unless_small (ltb (owner s i) (principals s)) _ _ (omega arith)
    (unless_small (ltb (viewers s i) (2 ^ principals s)) _ _ (omega arith)
    (unless_small (ltb (trusters s i) (2 ^ principals s)) _ _ (omega arith)
    (unless_small (ltb (members s i) (2 ^ principals s)) _ _ (omega arith) (omega arith)))))
    (first_small _ _
    (unless_small (has (viewers s i) (owner s i)) _ _ (omega arith)
    (unless_small (has (trusters s i) (owner s i)) _ _ (omega arith) (omega arith)))
    (below_small (pair_number s i) (λ j. unless_small (not (eqb (owner s i) (owner s j) && eqb (name s i) (name s j))) _ _ (omega arith) (omega arith)) i))

grants_small : (s : List ℕ) (i : ℕ) → Small (grants_number s i)
unfolding grants_number takes_number taken_number
grants_small s i =
    unless_small (within (members s i) (viewers s i)) _ _ (omega arith)
    (unless_small (within (members s i) (trusters s i)) _ _ (omega arith)
    (unless_small (ltb (takes s i) (2 ^ roles s)) _ _ (omega arith)
    (below_small (taken_number s i) (λ j. unless_small (cond (has (takes s i) j) (may_take s i j) true) _ _ (omega arith) (omega arith)) (roles s))))

pub policy_number_lem : (s : List ℕ) → policy_number s ≤ row_grants
unfolding policy_number
policy_number_lem s = first_small _ _ (head_small s)
    (first_small _ _ (below_small (row_number s) (row_small s) (roles s)) (below_small (grants_number s) (grants_small s) (roles s)))

-- a verdict that is a refusal has a number from 1 to 18
data Known : Verdict → Type 0 where
  nothing : Known fine
  number : {k place : ℕ} → (policy_length ≤ k) × (k ≤ flow_trust) → Known (refused k place)

require_known : (holds : Bool) (k place : ℕ) {later : Verdict} → (policy_length ≤ k) × (k ≤ flow_trust) → Known later → Known (require holds k place later)
require_known true k place h l = l
require_known false k place h l = number h

or_else_known : {v w : Verdict} → Known v → Known w → Known (or_else v w)
or_else_known nothing l = l
or_else_known (number h) l = number h

known_number : {k place : ℕ} → Known (refused k place) → (policy_length ≤ k) × (k ≤ flow_trust)
known_number (number h) = h

sides_known : (derivable : Side → Bool) (at : ℕ) → Known (both_sides derivable at)
sides_known derivable at = require_known (derivable reading) flow_reading at (omega arith) (require_known (derivable trust) flow_trust at (omega arith) nothing)

module _ (s p : List ℕ) where
  flow_known : (around : Around) (known : List Query) (context : Side → List Atom) (x : Stmt) → Known (flow s p around known context x)
  unfolding flow
  flow_known around known context skip = nothing
  flow_known around known context (assign at x e) = sides_known (may_assign s p known context x e) at
  flow_known around known context empty = nothing
  flow_known around known context (block a b) = or_else_known (flow_known around known context a) (flow_known around known context b)
  flow_known around known context (if e a b) = or_else_known (flow_known around known _ a) (flow_known around known _ b)
  flow_known around known context (while e a) = flow_known around known _ a
  flow_known outside known context (query at q a b) = number {k = flow_transaction} (omega arith)
  flow_known (inside listed xs rs) known context (query at q a b) =
      require_known (listed_in q listed) flow_transaction at (omega arith)
      (or_else_known (flow_known (inside listed xs rs) _ _ a) (flow_known (inside listed xs rs) _ _ b))
  flow_known outside known context (update at ms) = number {k = flow_transaction} (omega arith)
  flow_known (inside listed xs rs) known context (update at ms) =
      require_known (all_allowed s ms) flow_grant at (omega arith) (sides_known (may_update s p known context listed _ _) at)
  flow_known outside known context (transaction at start end qs a) = flow_known (inside qs _ _) _ context a
  flow_known (inside listed xs rs) known context (transaction at start end qs a) = number {k = flow_transaction} (omega arith)

  verdict_known : Known (program_verdict s p)
  unfolding program_verdict body_verdict
  verdict_known = go (eqb (policy_number s) accepted) refl (read_program p (principals s) (roles s)) refl
    where
      go : (b : Bool) → eqb (policy_number s) accepted ≡ b → (r : Read Stmt) → read_program p (principals s) (roles s) ≡ r
          → Known (cond b (body_verdict s p r) (refused (policy_number s) 0))
      go true e (got x end) i = flow_known outside [] (λ side. []) x
      go true e (bad k place) i = let n = program_number p (principals s) (roles s) i in number {k = k} (omega arith)
      go false e r i = number {k = policy_number s} (omega (arith, eqb-false, policy_number_lem s))

  pub refused_number : {k place : ℕ} → program_verdict s p ≡ refused k place → (policy_length ≤ k) × (k ≤ flow_trust)
  refused_number e = known_number (rw e at verdict_known)
