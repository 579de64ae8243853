-- States that are alike to a group, policies near each other and open variables equal: expressions with open labels have one value in both, and an assignment keeps them alike where its variable is hidden or its value the same.
use Prim.Native.Nat.{ℕ, ◌*◌, ◌%◌, ◌^◌, ◌<◌}
use native.Mathlib.Omega.{arith}
use native.Mathlib.Decide.{dec_lt, ℕ_discrete}
use mathlib.Core.Path.{◌≡◌, refl, sym, ◌∙◌}
use mathlib.Core.Logic.{inl, inr}
use mathlib.Core.List.Memᴰ
use mathlib.Core.List.{List}
use mathlib.Core.Bool.{true, false}
use lib.ListN.{length}
use Rattle.model.specs.Bytes.{word, put}
use Rattle.model.specs.Syntax.{Atom, Expr, constant, variable, binary}
use Rattle.model.specs.Program.{variables}
use Rattle.model.specs.Flow.{label, expr_label}
use Rattle.model.specs.Value.{value_at, set_value, evaluate}
use Rattle.model.proofs.Bytes.{length_put, word_put_low, word_put_other}
use Rattle.model.specs.Fits.{ExprFits}
use Rattle.model.proofs.Openness.{Setting, is_open, Good, Near, near_refl, near_sym, near_trans, open_same, Open}
use Rattle.model.proofs.Sees.{clash}

abbrev pub label_of : Setting → ℕ → Atom
label_of S x = label S.program S.side x

abbrev pub Room : Setting → List ℕ → Type 0
Room S m = length m ≡ 4 * variables S.program

pub record Alike (S : Setting) (s m t n : List ℕ) : Type 0 where
  pub near : Near S s t
  pub room1 : Room S m
  pub room2 : Room S n
  pub values : (x : ℕ) → x < variables S.program → is_open S s (label_of S x) ≡ true → value_at m x ≡ value_at n x

pub alike_refl : {S : Setting} {s : List ℕ} {m : List ℕ} → Good S s → Room S m → Alike S s m s m
alike_refl g r = record { near = near_refl g; room1 = r; room2 = r; values = λ x l o. refl }

pub alike_sym : {S : Setting} {s m t n : List ℕ} → Alike S s m t n → Alike S t n s m
alike_sym {S} a = record {
  near = near_sym a.near;
  room1 = a.room2;
  room2 = a.room1;
  values = λ x l o. sym (a.values x l (open_same a.near (label_of S x) ∙ o));
}

pub alike_trans : {S : Setting} {s m t n u k : List ℕ} → Alike S s m t n → Alike S t n u k → Alike S s m u k
alike_trans {S} a b = record {
  near = near_trans a.near b.near;
  room1 = a.room1;
  room2 = b.room2;
  values = λ x l o. a.values x l o ∙ b.values x l (sym (open_same a.near (label_of S x)) ∙ o);
}

-- an expression whose label is open has one value, in a program of any version
pub evaluate_same : {S : Setting} {s m t n : List ℕ} → Alike S s m t n → (v : ℕ) (e : Expr) → ExprFits (variables S.program) e
    → Open S s (expr_label S.program S.side e) → evaluate v m e ≡ evaluate v n e
unfolding evaluate expr_label
evaluate_same a v (constant c) f o = refl
evaluate_same {S} a v (variable x) f o = a.values x f (o (label_of S x) (Memᴰ.head refl))
evaluate_same {S} a v (binary op c d) f o = rw (
  evaluate_same a v c f.0 (λ x i. o x (Memᴰ.append_left _ i)),
  evaluate_same a v d f.1 (λ x i. o x (Memᴰ.append_right (expr_label S.program S.side c) i)),
)

value_other : (m : List ℕ) (x v y : ℕ) → (y ≡ x → ⊥) → value_at (set_value m x v) y ≡ value_at m y
unfolding value_at set_value
value_other m x v y n = go (dec_lt y x)
  where
    go : Dec (y < x) → word (put m (4 * x) 4 v) (4 * y) 4 ≡ word m (4 * y) 4
    go (yes l) = word_put_other m (4 * x) 4 v (4 * y) 4 (inl (omega arith))
    go (no k) = word_put_other m (4 * x) 4 v (4 * y) 4 (inr (omega arith))

value_set : (S : Setting) (m : List ℕ) (x v : ℕ) → Room S m → x < variables S.program → value_at (set_value m x v) x ≡ v % 256 ^ 4
unfolding value_at set_value
value_set S m x v r l = word_put_low m (4 * x) 4 v (omega arith)

room_set : (S : Setting) (m : List ℕ) (x v : ℕ) → Room S m → Room S (set_value m x v)
unfolding set_value
room_set S m x v r = length_put m (4 * x) 4 v ∙ r

-- an assignment of a hidden variable is not seen
pub assign_hidden : {S : Setting} {s m : List ℕ} (x v : ℕ) → Good S s → Room S m → is_open S s (label_of S x) ≡ false → Alike S s m s (set_value m x v)
assign_hidden {S} {s} {m} x v g r h = record {
  near = near_refl g;
  room1 = r;
  room2 = room_set S m x v r;
  values = λ y l o. sym (value_other m x v y (λ e. clash o (rw e h)));
}

-- assignments of one value, if it is seen, keep states alike
pub assign_same : {S : Setting} {s m t n : List ℕ} (x v w : ℕ) → Alike S s m t n → (is_open S s (label_of S x) ≡ true → v ≡ w) → Alike S s (set_value m x v) t (set_value n x w)
assign_same {S} {s} {m} {t} {n} x v w a f = record {
  near = a.near;
  room1 = room_set S m x v a.room1;
  room2 = room_set S n x w a.room2;
  values = λ y l o. go y l o (ℕ_discrete y x);
}
  where
    go : (y : ℕ) → y < variables S.program → is_open S s (label_of S y) ≡ true → Dec (y ≡ x) → value_at (set_value m x v) y ≡ value_at (set_value n x w) y
    go y l o (yes e) =
        let k : x < variables S.program = rw e at l in
        let p : is_open S s (label_of S x) ≡ true = rw e at o in
        rw (e, value_set S m x v a.room1 k, value_set S n x w a.room2 k, f p)
    go y l o (no d) = value_other m x v y d ∙ a.values y l o ∙ sym (value_other n x w y d)
