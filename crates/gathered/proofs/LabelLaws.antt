-- A law for each return of labels.rt: the words of the tree that was read.
use Rattle.std.proofs.Common.{Result, Ok, Err, add-one}
use mathlib.Core.Path.{◌≡◌, refl, sym, ap, ◌∙◌}
use Prim.Native.Nat.{ℕ, suc, ◌+◌, ◌-◌, ◌<◌}
use mathlib.Core.List.{List}
use mathlib.Core.Bool.{Bool, true, false}
use native.Mathlib.Omega.{arith}
use lib.Bits.{bit_or, or_zero_l, or_comm}
use lib.Dec.{eqb}
use borrow.Author.Tests.{eqb-true, eqb-false}
use Rattle.model.specs.Limits.{role_limit}
use Rattle.model.specs.Bytes.{byte}
use Rattle.model.specs.Policy.{reading, trust}
use Rattle.model.specs.Syntax.{atom_byte}
use Rattle.shared.specs.Words.{single}
use Rattle.shared.proofs.SetLaws.{single_high, single_is}
use Rattle.program.specs.declared.codes.Atom.{Atom}
use Rattle.program.specs.declared.codes.Atom.TheVariants.{Role, Viewers, Trusters, Everyone}
use Rattle.program.specs.declared.codes.Operator.{Operator}
use Rattle.program.specs.declared.codes.Expression.{Expression}
use Rattle.program.specs.declared.codes.Expression.TheVariants.{Constant, Variable, Binary}
use Rattle.program.specs.Codes.{atom_of, model_atom, expression_of, expression_byte, model_operator}
use Rattle.program.proofs.CodeLaws.{atom_byte_lem, none_high, expression_byte_lem, expression_none}
use Rattle.model.specs.Program.{label_byte}
use Rattle.gathered.specs.Words.{label_role, expr_roles}
use Rattle.gathered.specs.Positions.{ahead}
use Rattle.gathered.specs.Labels.{LabelsBelow, variable_added, labels_added, all_below, AllAdded, LabelsAt}
use Rattle.model.proofs.Standing.{expr_deep, expr_there, expr_known, constant_parts, variable_parts, binary_parts}
use Rattle.gathered.proofs.PositionLaws.{ahead_is, operator_code_lem}
use Rattle.gathered.specs.declared.labels.Labels.{Labels}
use Rattle.gathered.proofs.AddedLaws.{added_both}
use Rattle.program.specs.declared.codes.UnknownCode.{UnknownCode}

-- a label's role: that of its atom, if it names one alone
module _ (b : ℕ) (o : (Result Atom UnknownCode)) (i : o ≡ atom_of b) where
  pub role_unknown : o ≡ (Err (record {})) → 0 ≡ single b
  role_unknown k = single_high b (omega (arith, none_high b o i k))

  module _ (a : Atom) (h : o ≡ Ok a) where
    pub role_alone : (j w r : ℕ) → a ≡ Role j → w ≡ j → r ≡ single w → r ≡ single b
    role_alone j w r k e f = f ∙ ap single (e ∙ ap (λ a. atom_byte (model_atom a)) (sym k) ∙ atom_byte_lem b o i a h)

    pub role_viewers : (j : ℕ) → a ≡ Viewers j → 0 ≡ single b
    role_viewers j k = single_high b (omega (arith, ap (λ a. atom_byte (model_atom a)) (sym k) ∙ atom_byte_lem b o i a h))

    pub role_trusters : (j : ℕ) → a ≡ Trusters j → 0 ≡ single b
    role_trusters j k = single_high b (omega (arith, ap (λ a. atom_byte (model_atom a)) (sym k) ∙ atom_byte_lem b o i a h))

    pub role_everyone : a ≡ Everyone → 0 ≡ single b
    role_everyone k = single_high b (omega (arith, ap (λ a. atom_byte (model_atom a)) (sym k) ∙ atom_byte_lem b o i a h))

pub ruleset label_roles = (role_unknown, role_alone, role_viewers, role_trusters, role_everyone)

-- nothing added
none_added : (w : Labels) → w ≡ record { readers = bit_or 0 w.readers; trusters = bit_or 0 w.trusters }
none_added w = rw (or_zero_l w.readers, or_zero_l w.trusters)

-- a variable's labels
pub variable_words : (p : List ℕ) (x a b i j : ℕ) (w : Labels) → a ≡ label_byte p reading x → b ≡ label_byte p trust x → i ≡ single a → j ≡ single b
    → record { readers = bit_or w.readers i; trusters = bit_or w.trusters j } ≡ variable_added p x w
variable_words p x a b i j w f g h k = rw (h, k, f, g, or_comm w.readers (single (label_byte p reading x)), or_comm w.trusters (single (label_byte p trust x)))

-- a label that was read is a role or everyone, whose word is empty
right_label : (x : ℕ) → ((x ≡ 0xff → ⊥) → x < role_limit) → single x ≡ label_role x
right_label x f = go (eqb x 0xff) refl
  where
    go : (b : Bool) → eqb x 0xff ≡ b → single x ≡ label_role x
    go true e = let z : x ≡ 0xff = eqb-true _ _ e in rw z (sym (single_high 0xff (omega arith)))
    go false e = single_is x (f (eqb-false _ _ e)) ∙ simp e

-- all variables below one, and that one
all_next : (p : List ℕ) (w v : Labels) (x : ℕ) → AllAdded p x w v → AllAdded p (suc x) w (variable_added p x v)
unfolding AllAdded LabelsBelow all_below expr_roles
all_next p w v x f right =
    let a = right_label (label_byte p reading x) (right reading x (omega arith)) in
    let b = right_label (label_byte p trust x) (right trust x (omega arith)) in
    let g : v ≡ labels_added p (all_below x) w = f (λ side y m. right side y (omega arith)) in
    rw (a, b, g, added_both (expr_roles p reading (all_below x)) (label_role (label_byte p reading x)) w.readers, added_both (expr_roles p trust (all_below x)) (label_role (label_byte p trust x)) w.trusters)

pub all_none : (p : List ℕ) (w : Labels) → AllAdded p 0 w w
unfolding AllAdded all_below expr_roles
all_none p w right = none_added w

pub all_more : (p : List ℕ) (w v u : Labels) (x : ℕ) → AllAdded p x w v → u ≡ variable_added p x v → AllAdded p (x + 1) w u
all_more p w v u x f e = rw (add-one, e) (all_next p w v x f)

pub ruleset alls = (all_none, all_more)

-- an expression
module _ (p : List ℕ) (d at : ℕ) where
  pub labels_none : (w v : Labels) (r : ℕ) → d ≡ 0 → LabelsAt p d at w v r
  unfolding LabelsAt
  labels_none w v r z vars right e end h = absurd (expr_deep p vars d at h z)

  module _ (o : (Result Expression UnknownCode)) (i : o ≡ expression_of (byte p at)) where
    pub labels_unknown : (w v : Labels) (r : ℕ) → o ≡ (Err (record {})) → LabelsAt p d at w v r
    unfolding LabelsAt
    labels_unknown w v r k vars right e end h = absurd (omega (arith, expression_none (byte p at) o i k, expr_known p vars d at h))

    module _ (c : Expression) (j : o ≡ Ok c) where
      pub labels_constant : (w : Labels) (n : ℕ) → c ≡ Constant → n ≡ ahead p at 5 → LabelsAt p d at w w n
      unfolding LabelsAt expr_roles
      labels_constant w n k q vars right e end h =
          let u = constant_parts p vars d at h (expression_byte_lem (byte p at) o i c j ∙ ap expression_byte k) in
          (q ∙ ahead_is p at 5 u.inside ∙ sym u.ends, rw u.is (none_added w))

      pub labels_variable : (w v : Labels) (m x n : ℕ) → c ≡ Variable → m ≡ ahead p at 1 → x ≡ byte p m → v ≡ variable_added p x w → n ≡ ahead p at 2 → LabelsAt p d at w v n
      unfolding LabelsAt LabelsBelow expr_roles
      labels_variable w v m x n k q y s l vars right e end h =
          let u = variable_parts p vars d at h (expression_byte_lem (byte p at) o i c j ∙ ap expression_byte k) in
          let z : x ≡ byte p (at + 1) = y ∙ ap (byte p) (q ∙ ahead_is p at 1 (omega arith)) in
          let a = right_label (label_byte p reading (byte p (at + 1))) (right reading (byte p (at + 1)) u.fits) in
          let b = right_label (label_byte p trust (byte p (at + 1))) (right trust (byte p (at + 1)) u.fits) in
          (l ∙ ahead_is p at 2 u.inside ∙ sym u.ends, s ∙ rw (u.is, z, a, b))

      pub labels_binary : (op : Operator) (w t v : Labels) (n mid r : ℕ) → c ≡ Binary op → n ≡ ahead p at 1 → LabelsAt p (d - 1) n w t mid → LabelsAt p (d - 1) mid t v r → LabelsAt p d at w v r
      unfolding LabelsAt expr_roles
      labels_binary op w t v n mid r k q f g vars right e end h =
          let u = binary_parts p vars d at h (model_operator op) (expression_byte_lem (byte p at) o i c j ∙ ap expression_byte k ∙ operator_code_lem op) in
          let m : n ≡ at + 1 = q ∙ ahead_is p at 1 (omega (arith, expr_there p vars d at h)) in
          let x = f vars right u.left u.mid (rw m u.left_read) in
          let y = g vars right u.right end (rw x.0 u.right_read) in
          let z = added_both (expr_roles p reading u.left) (expr_roles p reading u.right) w.readers in
          let t = added_both (expr_roles p trust u.left) (expr_roles p trust u.right) w.trusters in
          (y.0, rw u.is (y.1 ∙ rw (x.1, z, t)))

pub ruleset labels = (labels_none, labels_unknown, labels_constant, labels_variable, labels_binary)
