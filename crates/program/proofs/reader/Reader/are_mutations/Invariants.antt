-- The loop keeps this: the mutations so far were read, and reading those that are left comes to what reading all does.
use Rattle.program.proofs.EntryLaws.{Finding}
use Rattle.program.proofs.reader.Reader.are_mutations.Given as goal

abbrev pub invariant-loop-i : goal.invariant-loop-i
invariant-loop-i l = Finding l.self.program.now l.self.principals l.self.roles l.n l.at l.i
