-- What a read brings is what the file loses, and stands behind what was read before.
use Rattle.std.proofs.Common.{rules, subst}
use Rattle.std.proofs.KnownBytes.{Consumes-trans}
use Rattle.std.specs.Io.KnownBytes.{Consumes}
use Rattle.main.proofs.ReadingLaws.{read_behind}
use Rattle.main.proofs.read_all.Goals as goal

pub loop-done-preserved : goal.loop-done-preserved
loop-done-preserved g c =
    let before = c.loop-done.invariant in
    let bytes = Consumes-trans _ _ _ _ _ before.2 c.in-Ok.ensures.bytes.0 in
    (search rules, search rules, subst (Consumes _ _) (read_behind _ _ _ _ _ before.1 c.in-Ok.ensures.bound.0) bytes)
