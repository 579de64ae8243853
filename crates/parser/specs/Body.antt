-- What stands in the body of a program, as the model reads it: with the bytes, the numbers of principals, roles and variables.
use Rattle.std.specs.Prelude.{ℕ, ◌-◌}
use Rattle.model.specs.Syntax.{Expr, Stmt}
use Rattle.model.specs.Program.{Read as Reading, read_expr, read_stmt, block_at, if_at, while_at, query_at, transaction_at}
use Rattle.parser.specs.declared.body.Body.{Body}

-- an expression at a position
abbrev pub expr_in : Body → ℕ → ℕ → Reading Expr
expr_in b depth at = read_expr b.reader.program.now b.variables depth at

-- a statement at a position
abbrev pub stmt_in : Body → ℕ → ℕ → Reading Stmt
stmt_in b depth at = read_stmt b.reader.program.now b.reader.principals b.reader.roles b.variables depth at

-- after its code: a block, an if, a while, a query, a transaction, that hold statements of a depth
abbrev pub block_in : Body → ℕ → ℕ → Reading Stmt
block_in b depth at = block_at b.reader.program.now b.reader.principals b.reader.roles b.variables (stmt_in b depth) at

abbrev pub if_in : Body → ℕ → ℕ → Reading Stmt
if_in b depth at = if_at b.reader.program.now b.reader.principals b.reader.roles b.variables (stmt_in b depth) at

abbrev pub while_in : Body → ℕ → ℕ → Reading Stmt
while_in b depth at = while_at b.reader.program.now b.reader.principals b.reader.roles b.variables (stmt_in b depth) at

abbrev pub query_in : Body → ℕ → ℕ → Reading Stmt
query_in b depth at = query_at b.reader.program.now b.reader.principals b.reader.roles b.variables (stmt_in b depth) (at - 1) at

abbrev pub transaction_in : Body → ℕ → ℕ → Reading Stmt
transaction_in b depth at =
    transaction_at b.reader.program.now b.reader.principals b.reader.roles b.variables (stmt_in b depth) (at - 1) at
