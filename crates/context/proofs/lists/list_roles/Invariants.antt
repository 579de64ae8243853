-- The roles found so far, with those of the queries that are left, are the roles of all.
use Rattle.std.proofs.Common.{◌-◌}
use Rattle.context.proofs.ListLaws.{Naming}
use Rattle.context.proofs.lists.list_roles.Given as goal

abbrev pub invariant-loop : goal.invariant-loop
invariant-loop l = Naming l.program l.n l.at l.found (l.n - l.counter) l.here
