use Rattle.std.proofs.Common.{rules}
use Rattle.update.proofs.MutationLaws.{ones}
use Rattle.update.proofs.mutations.place_member.Goals as goal

pub returns-then-note_member : goal.returns-then-note_member
returns-then-note_member c = search (rules, ones)

pub returns-else-note_member : goal.returns-else-note_member
returns-else-note_member c = search (rules, ones)
