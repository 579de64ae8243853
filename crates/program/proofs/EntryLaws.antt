-- A law for each return of read_entry: an entry is read as what its name says. The loop over entries goes by the laws of
-- RefusedLaws.
use mathlib.Core.Path.{◌≡◌}
use Prim.Native.Nat.{ℕ, ◌+◌, ◌-◌, ◌*◌, ◌<◌, ◌≤◌}
use mathlib.Core.List.{List}
use mathlib.Core.Bool.{Bool, true, false, false≢true}
use native.Mathlib.Omega.{arith}
use lib.ListN.{length}
use Rattle.std.proofs.Common.{Result, Ok}
use Rattle.model.specs.Limits.{role_limit}
use Rattle.model.specs.Program.{read_many, read_label, read_query, read_mutation}
use Rattle.program.specs.declared.entries.Entry.{Entry}
use Rattle.program.specs.declared.entries.Entry.TheVariants.{Label, Query, Mutation}
use Rattle.program.specs.Answer.{place_limit, end_of}
use Rattle.program.specs.Refused.{Answers}
use Rattle.program.specs.declared.refused.Refused.{Refused}
use Rattle.program.specs.Entries.{Room, read_entry, FindsMutation, FindsMutations}
use Rattle.program.proofs.AnswerLaws.{many_done, many_next}
use Rattle.program.proofs.RefusedLaws.{answer_at}

pub label_room : (entry : Entry) (R : ℕ) → Room entry R → entry ≡ Label → R ≤ role_limit
label_room entry R h e = rw e at h

module _ (s : List ℕ) (P R at : ℕ) (entry : Entry) (r : Result ℕ Refused) where
  pub entry_label : entry ≡ Label → Answers r (end_of (read_label s R at)) → Answers r (end_of (read_entry s P R entry at))
  entry_label e h = rw e h

  pub entry_query : entry ≡ Query → Answers r (end_of (read_query s R at)) → Answers r (end_of (read_entry s P R entry at))
  entry_query e h = rw e h

  pub entry_mutation : entry ≡ Mutation → Answers r (end_of (read_mutation s P R at)) → Answers r (end_of (read_entry s P R entry at))
  entry_mutation e h = rw e h

pub ruleset entries = (label_room, entry_label, entry_query, entry_mutation)

-- of n mutations i were found, and reading what is left behind them comes to what reading all does
unfoldable pub Finding : List ℕ → ℕ → ℕ → ℕ → ℕ → ℕ → Type 0
Finding s P R n at i =
    end_of (read_many (read_mutation s P R) (n - i) (at + 3 * i)) ≡ end_of (read_many (read_mutation s P R) n at)

module _ (s : List ℕ) (P R n at : ℕ) where
  pub finding_starts : Finding s P R n at 0
  unfolding Finding
  finding_starts = let j : n - 0 ≡ n = omega arith in let k : at + 3 * 0 ≡ at = omega arith in rw (j, k)

  pub finding_fails : FindsMutations s P R n at false
  unfolding FindsMutations
  finding_fails h = absurd (false≢true h)

  -- w and m are i and n as the code's wider numbers
  module _ (i : ℕ) (f : Finding s P R n at i) where
    pub finding_goes_on : (r : Bool) (w : ℕ) → i < n → w ≡ i → FindsMutation s P R (at + 3 * w) r → r ≡ true → Finding s P R n at (i + 1)
    unfolding Finding FindsMutation
    finding_goes_on r w l e g h =
        let j : n - (i + 1) ≡ n - i - 1 = omega arith in
        let k : at + 3 * (i + 1) ≡ at + 3 * i + 3 = omega arith in
        rw (j, k) (many_next (read_mutation s P R) (n - i) (at + 3 * i) (at + 3 * i + 3) _ f (omega arith) (rw e at (g h)))

    pub finding_ends : (m : ℕ) → n ≤ i → i ≤ n → m ≡ n → at + 3 * m ≤ length s → FindsMutations s P R n at true
    unfolding Finding FindsMutations
    finding_ends m none few e l h =
        let k : i ≡ n = omega arith in
        record { inside = rw (← e) l; read = rw k at (many_done (read_mutation s P R) (n - i) (at + 3 * i) _ f (omega arith)) }

  pub mutations_found : (r : Bool) (m : ℕ) → length s < place_limit → FindsMutations s P R n at r → r ≡ true → m ≡ n → Answers (Ok (at + 3 * m)) (end_of (read_many (read_mutation s P R) n at))
  unfolding FindsMutations
  mutations_found r m short f h e = let u = f h in rw e (answer_at (at + 3 * n) _ (omega (arith, u.inside)) u.read)

pub ruleset findings = (finding_starts, finding_fails, finding_goes_on, finding_ends, mutations_found)
