use Rattle.std.proofs.Common.{rules}
use Rattle.update.proofs.MutationLaws.{ones}
use Rattle.update.proofs.mutations.place_taken.Goals as goal

pub returns-then-note_taken : goal.returns-then-note_taken
returns-then-note_taken c = search (rules, ones)

pub returns-else-note_taken : goal.returns-else-note_taken
returns-else-note_taken c = search (rules, ones)
