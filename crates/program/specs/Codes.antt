-- What a byte stands for, in the enums of the code.
use Rattle.std.specs.Prelude.{ℕ, ◌-◌, Bool, true, cond, eqb, ltb, Result, Ok, Err}
use Rattle.model.specs.Policy.{reading, trust}
use Rattle.model.specs.Mutation.{Kind as ModelKind, addMember, deleteMember, addTaken, deleteTaken}
use Rattle.model.specs.Syntax.{Atom as ModelAtom, role, fixed, of, everyone, Operator as ModelOperator, sum, difference, product, quotient, less, equal}
use Rattle.program.specs.declared.codes.Atom.{Atom}
use Rattle.program.specs.declared.codes.Atom.TheVariants.{Role, Viewers, Trusters, Everyone}
use Rattle.program.specs.declared.codes.Kind.{Kind}
use Rattle.program.specs.declared.codes.Kind.TheVariants.{AddMember, DeleteMember, AddTaken, DeleteTaken}
use Rattle.program.specs.declared.codes.Operator.{Operator}
use Rattle.program.specs.declared.codes.Operator.TheVariants.{Sum, Difference, Product, Quotient, Less, Equal}
use Rattle.program.specs.declared.codes.Expression.{Expression}
use Rattle.program.specs.declared.codes.Expression.TheVariants.{Constant, Variable, Binary}
use Rattle.program.specs.declared.codes.Statement.{Statement}
use Rattle.program.specs.declared.codes.Statement.TheVariants.{Skip, Assign, Block, If, While, Query, Update, Transaction}
use Rattle.program.specs.declared.codes.UnknownCode.{UnknownCode}

-- 00–3F a role, 40–7F its viewers, 80–BF its trusters, FF everyone; C0–FE is none
unfoldable pub atom_of : ℕ → (Result Atom UnknownCode)
atom_of b =
    cond (ltb b 0x40) (Ok (Role b))
    (cond (ltb b 0x80) (Ok (Viewers (b - 0x40)))
    (cond (ltb b 0xc0) (Ok (Trusters (b - 0x80)))
    (cond (eqb b 0xff) (Ok Everyone) (Err (record {})))))

-- the model's atom, and back
abbrev pub model_atom : Atom → ModelAtom
model_atom (Role j) = role j
model_atom (Viewers j) = fixed (of reading j)
model_atom (Trusters j) = fixed (of trust j)
model_atom Everyone = fixed everyone

abbrev pub code_atom : ModelAtom → Atom
code_atom (role j) = Role j
code_atom (fixed (of reading j)) = Viewers j
code_atom (fixed (of trust j)) = Trusters j
code_atom (fixed everyone) = Everyone

-- the role that an atom names is below R; everyone names none
unfoldable pub role_below : ℕ → Atom → Bool
role_below R (Role j) = ltb j R
role_below R (Viewers j) = ltb j R
role_below R (Trusters j) = ltb j R
role_below R Everyone = true

-- 00 add and 01 delete a member, 02 add and 03 delete a taken role
unfoldable pub kind_of : ℕ → (Result Kind UnknownCode)
kind_of b =
    cond (eqb b 0) (Ok AddMember)
    (cond (eqb b 1) (Ok DeleteMember)
    (cond (eqb b 2) (Ok AddTaken)
    (cond (eqb b 3) (Ok DeleteTaken) (Err (record {})))))

-- a kind's byte
abbrev pub kind_byte : Kind → ℕ
kind_byte AddMember = 0
kind_byte DeleteMember = 1
kind_byte AddTaken = 2
kind_byte DeleteTaken = 3

-- the model's kind
abbrev pub model_kind : Kind → ModelKind
model_kind AddMember = addMember
model_kind DeleteMember = deleteMember
model_kind AddTaken = addTaken
model_kind DeleteTaken = deleteTaken

-- a member is a principal, what is taken is a role
unfoldable pub operand_bound : ℕ → ℕ → Kind → ℕ
operand_bound P R AddMember = P
operand_bound P R DeleteMember = P
operand_bound P R AddTaken = R
operand_bound P R DeleteTaken = R

-- 00 a constant, 01 a variable, 02 to 07 an operator of two expressions
unfoldable pub expression_of : ℕ → (Result Expression UnknownCode)
expression_of b =
    cond (eqb b 0) (Ok Constant)
    (cond (eqb b 1) (Ok Variable)
    (cond (eqb b 2) (Ok (Binary Sum))
    (cond (eqb b 3) (Ok (Binary Difference))
    (cond (eqb b 4) (Ok (Binary Product))
    (cond (eqb b 5) (Ok (Binary Quotient))
    (cond (eqb b 6) (Ok (Binary Less))
    (cond (eqb b 7) (Ok (Binary Equal)) (Err (record {})))))))))

-- an operator's byte
abbrev pub operator_byte : Operator → ℕ
operator_byte Sum = 2
operator_byte Difference = 3
operator_byte Product = 4
operator_byte Quotient = 5
operator_byte Less = 6
operator_byte Equal = 7

-- an expression's byte
abbrev pub expression_byte : Expression → ℕ
expression_byte Constant = 0
expression_byte Variable = 1
expression_byte (Binary o) = operator_byte o

-- the model's operator
abbrev pub model_operator : Operator → ModelOperator
model_operator Sum = sum
model_operator Difference = difference
model_operator Product = product
model_operator Quotient = quotient
model_operator Less = less
model_operator Equal = equal

-- 00 skip, 01 assign, 02 block, 03 if, 04 while, 05 query, 06 update, 07 transaction
unfoldable pub statement_of : ℕ → (Result Statement UnknownCode)
statement_of b =
    cond (eqb b 0) (Ok Skip)
    (cond (eqb b 1) (Ok Assign)
    (cond (eqb b 2) (Ok Block)
    (cond (eqb b 3) (Ok If)
    (cond (eqb b 4) (Ok While)
    (cond (eqb b 5) (Ok Query)
    (cond (eqb b 6) (Ok Update)
    (cond (eqb b 7) (Ok Transaction) (Err (record {})))))))))

-- a statement's byte
abbrev pub statement_byte : Statement → ℕ
statement_byte Skip = 0
statement_byte Assign = 1
statement_byte Block = 2
statement_byte If = 3
statement_byte While = 4
statement_byte Query = 5
statement_byte Update = 6
statement_byte Transaction = 7
