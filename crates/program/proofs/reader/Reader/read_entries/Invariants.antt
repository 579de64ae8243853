-- The loop keeps this: reading what is left from where it stands comes to what reading all from the start comes to, and another
-- reading may begin there.
use Rattle.std.proofs.Common.{◌≡◌, ◌<◌, ◌-◌}
use Rattle.model.specs.Program.{read_many}
use Rattle.program.specs.Answer.{end_of}
use Rattle.program.specs.Entries.{read_entry}
use Rattle.program.specs.Answer.{place_limit}
use Rattle.program.proofs.reader.Reader.read_entries.Given as goal

abbrev pub invariant-loop : goal.invariant-loop
invariant-loop l = (end_of (read_many (read_entry l.self.program.now l.self.principals l.self.roles l.entry) (l.n - l.counter) l.next) ≡ end_of (read_many (read_entry l.self.program.now l.self.principals l.self.roles l.entry) l.n l.at)) × (l.next < place_limit)
