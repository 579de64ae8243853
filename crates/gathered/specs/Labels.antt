-- What the walk over an expression gives: where it ends, and the roles among its labels on both sides, added to those gathered before.
use Rattle.std.specs.Prelude.{◌≡◌, ℕ, zero, suc, ◌<◌, List}
use Rattle.std.specs.Int.Bits.{bit_or}
use Rattle.model.specs.Limits.{role_limit}
use Rattle.model.specs.Policy.{Side, reading, trust}
use Rattle.model.specs.Syntax.{sum, Expr, constant, variable, binary}
use Rattle.model.specs.Program.{got, read_expr}
use Rattle.shared.specs.Words.{single}
use Rattle.model.specs.Program.{label_byte}
use Rattle.gathered.specs.Words.{expr_roles}
use Rattle.gathered.specs.declared.labels.Labels.{Labels}

-- the labels of the variables are roles below R, or everyone; so they are in a program that was read
unfoldable pub LabelsBelow : ℕ → List ℕ → ℕ → Type 0
LabelsBelow R p vars = (side : Side) (x : ℕ) → x < vars → (label_byte p side x ≡ 0xff → ⊥) → label_byte p side x < R

-- the roles of one variable's labels, added to those before
abbrev pub variable_added : List ℕ → ℕ → Labels → Labels
variable_added p x before = record { readers = bit_or (single (label_byte p reading x)) before.readers; trusters = bit_or (single (label_byte p trust x)) before.trusters }

-- the roles among the labels of e, added to those before
abbrev pub labels_added : List ℕ → Expr → Labels → Labels
labels_added p e before = record { readers = bit_or (expr_roles p reading e) before.readers; trusters = bit_or (expr_roles p trust e) before.trusters }

-- an expression of all variables below n, whose labels are all of theirs
unfoldable pub all_below : ℕ → Expr
all_below zero = constant 0
all_below (suc n) = binary sum (all_below n) (variable n)

-- their labels are added, in any program whose labels are roles or everyone
unfoldable pub AllAdded : List ℕ → ℕ → Labels → Labels → Type 0
AllAdded p n before after = LabelsBelow role_limit p n → after ≡ labels_added p (all_below n) before

-- r is where the expression that stands at a position ends, and its labels are added, in any program whose labels are roles or
-- everyone
unfoldable pub LabelsAt : List ℕ → ℕ → ℕ → Labels → Labels → ℕ → Type 0
LabelsAt p depth at before after r =
    (vars : ℕ) → LabelsBelow role_limit p vars → (e : Expr) (end : ℕ) → read_expr p vars depth at ≡ got e end → (r ≡ end) × (after ≡ labels_added p e before)
