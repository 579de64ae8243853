-- A law for each return of codes.rt, and for each enum one that relates a code to its byte: the tests are gone through in
-- turn, and where one holds the byte is that code's, where none holds it is none of them.
use Rattle.std.proofs.Common.{Result, Ok, Err}
use mathlib.Core.Path.{◌≡◌, refl, sym, ◌∙◌}
use Prim.Native.Nat.{ℕ, ◌+◌, ◌-◌, ◌<◌, ◌≤◌}
use mathlib.Core.Bool.{Bool, true, false, cond}
use native.Mathlib.Omega.{arith}
use lib.Dec.{eqb, ltb}
use borrow.Author.Tests.{lt-ltb, le-ltb, ne_eqb, eqb-true, eqb-false, ltb-true, ltb-false}
use Rattle.model.specs.Limits.{role_limit}
use Rattle.model.specs.Policy.{reading, trust}
use Rattle.model.specs.Syntax.{Atom as ModelAtom, role, fixed, of, everyone, atom_byte}
use Rattle.model.specs.Fits.{AtomFits}
use Rattle.program.specs.declared.codes.Atom.{Atom}
use Rattle.program.specs.declared.codes.Atom.TheVariants.{Role, Viewers, Trusters, Everyone}
use Rattle.program.specs.declared.codes.Kind.{Kind}
use Rattle.program.specs.declared.codes.Expression.{Expression}
use Rattle.program.specs.declared.codes.Statement.{Statement}
use Rattle.program.specs.Codes.{atom_of, model_atom, code_atom, kind_of, kind_byte, expression_of, expression_byte, statement_of, statement_byte}
use Rattle.program.specs.declared.codes.UnknownCode.{UnknownCode}

-- what is made of the answer to a test is what is made of each of its two answers
pub through : {A B : Type 0} (f : A → B) (t : Bool) (x : A) {rest : A} {others : B} → others ≡ f rest → cond t (f x) others ≡ f (cond t x rest)
through f true x e = refl
through f false x e = e

-- what a test of a byte leaves
module _ {A : Type 0} (Q : A → Type 0) (b k : ℕ) (x rest : A) where
  equal_or : (b ≡ k → Q x) → ((b ≡ k → ⊥) → Q rest) → Q (cond (eqb b k) x rest)
  equal_or f g = go (eqb b k) refl
    where
      go : (t : Bool) → eqb b k ≡ t → Q (cond t x rest)
      go true e = f (eqb-true b k e)
      go false e = g (eqb-false b k e)

  -- codes are tested from 00 on
  from_or : k ≤ b → (b ≡ k → Q x) → (k < b → Q rest) → Q (cond (eqb b k) x rest)
  from_or l f g = equal_or f (λ n. g (omega arith))

  below_or : (b < k → Q x) → (k ≤ b → Q rest) → Q (cond (ltb b k) x rest)
  below_or f g = go (ltb b k) refl
    where
      go : (t : Bool) → ltb b k ≡ t → Q (cond t x rest)
      go true e = f (ltb-true b k e)
      go false e = g (ltb-false b k e)

-- atoms
module _ (b : ℕ) where
  pub is_role : b < 0x40 → Ok (Role b) ≡ atom_of b
  unfolding atom_of
  is_role h = simp (lt-ltb _ _ h)

  pub is_viewers : 0x40 ≤ b → b < 0x80 → Ok (Viewers (b - 0x40)) ≡ atom_of b
  unfolding atom_of
  is_viewers g h = simp (le-ltb _ _ g, lt-ltb _ _ h)

  pub is_trusters : 0x80 ≤ b → b < 0xc0 → Ok (Trusters (b - 0x80)) ≡ atom_of b
  unfolding atom_of
  is_trusters g h = let k : 0x40 ≤ b = omega arith in simp (le-ltb _ _ k, le-ltb _ _ g, lt-ltb _ _ h)

  pub is_everyone : b ≡ 0xff → Ok Everyone ≡ atom_of b
  unfolding atom_of
  is_everyone e = rw e

  pub no_atom : 0xc0 ≤ b → (b ≡ 0xff → ⊥) → (Err (record {})) ≡ atom_of b
  unfolding atom_of
  no_atom g n =
      let k : 0x40 ≤ b = omega arith in
      let l : 0x80 ≤ b = omega arith in simp (le-ltb _ _ k, le-ltb _ _ l, le-ltb _ _ g, ne_eqb _ _ n)

pub ruleset atoms = (is_role, is_viewers, is_trusters, is_everyone, no_atom)

-- an atom's byte is the model's, and its role is one of those that there may be; a byte that is none is C0–FE
AtomCode : ℕ → (Result Atom UnknownCode) → Type 0
AtomCode b (Ok a) = (atom_byte (model_atom a) ≡ b) × AtomFits role_limit (model_atom a)
AtomCode b (Err _) = (0xc0 ≤ b) × (b ≡ 0xff → ⊥)

atom_code : (b : ℕ) → AtomCode b (atom_of b)
unfolding atom_of AtomCode
atom_code b =
    below_or (AtomCode b) b 0x40 _ _ (λ h. (refl, h))
    (λ g. below_or (AtomCode b) b 0x80 _ _ (λ h. (omega arith, omega arith))
    (λ g. below_or (AtomCode b) b 0xc0 _ _ (λ h. (omega arith, omega arith))
    (λ g. equal_or (AtomCode b) b 0xff _ _ (λ e. (sym e, tt))
    (λ n. (g, n)))))

module _ (b : ℕ) (o : (Result Atom UnknownCode)) (e : o ≡ atom_of b) where
  here_atom : AtomCode b o
  here_atom = rw e (atom_code b)

  module _ (a : Atom) (h : o ≡ Ok a) where
    pub atom_byte_lem : atom_byte (model_atom a) ≡ b
    unfolding AtomCode
    atom_byte_lem = (rw h at here_atom).0

    pub atom_fits : AtomFits role_limit (model_atom a)
    unfolding AtomCode
    atom_fits = (rw h at here_atom).1

  module _ (h : o ≡ (Err (record {}))) where
    pub none_high : 0xc0 ≤ b
    unfolding AtomCode
    none_high = (rw h at here_atom).0

    pub none_everyone : b ≡ 0xff → ⊥
    unfolding AtomCode
    none_everyone = (rw h at here_atom).1

-- and back: the byte of an atom of the model stands for that atom
pub model_code : (m : ModelAtom) → model_atom (code_atom m) ≡ m
model_code (role j) = refl
model_code (fixed (of reading j)) = refl
model_code (fixed (of trust j)) = refl
model_code (fixed everyone) = refl

pub byte_atom : (m : ModelAtom) → AtomFits role_limit m → atom_of (atom_byte m) ≡ Ok (code_atom m)
byte_atom (role j) f = sym (is_role j f)
byte_atom (fixed (of reading j)) f =
    let k : 0x40 + j - 0x40 ≡ j = omega arith in sym (is_viewers (0x40 + j) (omega arith) (omega arith)) ∙ rw k
byte_atom (fixed (of trust j)) f =
    let k : 0x80 + j - 0x80 ≡ j = omega arith in sym (is_trusters (0x80 + j) (omega arith) (omega arith)) ∙ rw k
byte_atom (fixed everyone) f = sym (is_everyone 0xff refl)

module _ (m : ModelAtom) (f : AtomFits role_limit m) (b : ℕ) (y : atom_byte m ≡ b) (o : (Result Atom UnknownCode)) (e : o ≡ atom_of b) where
  coded_atom : o ≡ Ok (code_atom m)
  coded_atom = e ∙ rw (← y) (byte_atom m f)

  pub atom_is : (a : Atom) → o ≡ Ok a → model_atom a ≡ m
  atom_is a h = let k : a ≡ code_atom m = cc coded_atom in rw k (model_code m)

  pub atom_some : o ≡ (Err (record {})) → ⊥
  atom_some h = let z : ◌≡◌ {A = ℕ} 0 1 = cc coded_atom in omega arith

-- kinds of mutations
module _ (b : ℕ) where
  KindCode : (Result Kind UnknownCode) → Type 0
  KindCode (Ok k) = b ≡ kind_byte k
  KindCode (Err _) = 3 < b

  kind_code : KindCode (kind_of b)
  unfolding kind_of KindCode
  kind_code =
      from_or KindCode b 0 _ _ (omega arith) (λ e. e)
      (λ l. from_or KindCode b 1 _ _ l (λ e. e)
      (λ l. from_or KindCode b 2 _ _ l (λ e. e)
      (λ l. from_or KindCode b 3 _ _ l (λ e. e) (λ l. l))))

  module _ (o : (Result Kind UnknownCode)) (e : o ≡ kind_of b) where
    pub kind_byte_lem : (k : Kind) → o ≡ Ok k → b ≡ kind_byte k
    unfolding KindCode
    kind_byte_lem k h = rw (← e, h) at kind_code

    pub kind_none : o ≡ (Err (record {})) → 3 < b
    unfolding KindCode
    kind_none h = rw (← e, h) at kind_code

-- codes of expressions and of statements
module _ (b : ℕ) where
  -- eight codes, 00 to 07
  module _ {A : Type 0} (Q : A → Type 0) where
    eight : (c0 c1 c2 c3 c4 c5 c6 c7 none : A) → (b ≡ 0 → Q c0) → (b ≡ 1 → Q c1) → (b ≡ 2 → Q c2) → (b ≡ 3 → Q c3)
        → (b ≡ 4 → Q c4) → (b ≡ 5 → Q c5) → (b ≡ 6 → Q c6) → (b ≡ 7 → Q c7) → (7 < b → Q none)
        → Q (cond (eqb b 0) c0 (cond (eqb b 1) c1 (cond (eqb b 2) c2 (cond (eqb b 3) c3
        (cond (eqb b 4) c4 (cond (eqb b 5) c5 (cond (eqb b 6) c6 (cond (eqb b 7) c7 none))))))))
    eight c0 c1 c2 c3 c4 c5 c6 c7 none q0 q1 q2 q3 q4 q5 q6 q7 q =
        from_or Q b 0 _ _ (omega arith) q0 (λ l. from_or Q b 1 _ _ l q1 (λ l. from_or Q b 2 _ _ l q2 (λ l. from_or Q b 3 _ _ l q3
        (λ l. from_or Q b 4 _ _ l q4 (λ l. from_or Q b 5 _ _ l q5 (λ l. from_or Q b 6 _ _ l q6 (λ l. from_or Q b 7 _ _ l q7 q)))))))

  ExpressionCode : (Result Expression UnknownCode) → Type 0
  ExpressionCode (Ok c) = b ≡ expression_byte c
  ExpressionCode (Err _) = 7 < b

  expression_code : ExpressionCode (expression_of b)
  unfolding expression_of ExpressionCode
  expression_code = eight ExpressionCode _ _ _ _ _ _ _ _ _ (λ e. e) (λ e. e) (λ e. e) (λ e. e) (λ e. e) (λ e. e) (λ e. e) (λ e. e) (λ e. e)

  module _ (o : (Result Expression UnknownCode)) (e : o ≡ expression_of b) where
    pub expression_byte_lem : (c : Expression) → o ≡ Ok c → b ≡ expression_byte c
    unfolding ExpressionCode
    expression_byte_lem c h = rw (← e, h) at expression_code

    pub expression_none : o ≡ (Err (record {})) → 7 < b
    unfolding ExpressionCode
    expression_none h = rw (← e, h) at expression_code

  StatementCode : (Result Statement UnknownCode) → Type 0
  StatementCode (Ok c) = b ≡ statement_byte c
  StatementCode (Err _) = 7 < b

  statement_code : StatementCode (statement_of b)
  unfolding statement_of StatementCode
  statement_code = eight StatementCode _ _ _ _ _ _ _ _ _ (λ e. e) (λ e. e) (λ e. e) (λ e. e) (λ e. e) (λ e. e) (λ e. e) (λ e. e) (λ e. e)

  module _ (o : (Result Statement UnknownCode)) (e : o ≡ statement_of b) where
    pub statement_byte_lem : (c : Statement) → o ≡ Ok c → b ≡ statement_byte c
    unfolding StatementCode
    statement_byte_lem c h = rw (← e, h) at statement_code

    pub statement_none : o ≡ (Err (record {})) → 7 < b
    unfolding StatementCode
    statement_none h = rw (← e, h) at statement_code
