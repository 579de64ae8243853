-- What surrounds a statement, and its context, as the code carries them.
use Rattle.std.specs.Prelude.{ℕ, List}
use Rattle.std.specs.Int.Bits.{bit_or}
use Rattle.model.specs.Policy.{Side, reading, trust}
use Rattle.model.specs.Syntax.{Atom}
use Rattle.order.specs.Table.{Joins, JoinBelow}
use Rattle.context.specs.declared.around.Join.{Join}
use Rattle.context.specs.declared.around.Meets.{Meets}
use Rattle.context.specs.declared.around.Around.{Around}
use Rattle.context.specs.declared.around.Context.{Context}

-- both
pub record Carried : Type 0 where
  pub around : Around
  pub context : Context

abbrev pub carried : Around → Context → Carried
carried a l = record { around = a; context = l }

-- the empty context, to which nothing has flowed
abbrev pub empty_context : Context
empty_context = record { labels = record { readers = 0; trusters = 0 }; asked = 0 }

-- a context with the roles among an expression's labels, and with the watchers of the roles named in queries
abbrev pub with_labels : Context → ℕ → ℕ → Context
with_labels l r t = record { labels = record { readers = bit_or r l.labels.readers; trusters = bit_or t l.labels.trusters }; asked = l.asked }

abbrev pub with_named : Context → ℕ → Context
with_named l named = record { labels = l.labels; asked = bit_or named l.asked }

-- the join on a side
abbrev pub join_of : Side → Context → Join
join_of reading l = record { roles = l.labels.readers; watchers = l.asked }
join_of trust l = record { roles = l.labels.trusters; watchers = l.asked }

-- what an update is held to on a side
abbrev pub meet_of : Side → Meets → Join
meet_of reading m = m.reading
meet_of trust m = m.trust

-- the context l stands for the contexts C of both sides, whose atoms are of a policy with n roles
pub record ContextIs (n : ℕ) (l : Context) (C : Side → List Atom) : Type 0 where
  pub joined : (side : Side) → Joins side (C side) (join_of side l).roles (join_of side l).watchers
  pub below : (side : Side) → JoinBelow n (C side)
