-- The text that is written of a run's end is what the program prints, since there is room for all of it.
use Prim.Native.Nat.{ℕ, ◌≤◌}
use native.Mathlib.Omega.{arith}
use mathlib.Core.Path.{◌≡◌, sym, ap, ◌∙◌}
use mathlib.Core.List.{List}
use lib.ListN.{length, take}
use lib.Seq.{length-take-le}
use mir.Syntax.{w8}
use mir.Val.{Fits}
use Rattle.std.specs.Counts.{IsPrefixLen}
use Rattle.model.specs.Limits.{fuel_limit}
use Rattle.model.specs.Bytes.{byte}
use Rattle.model.specs.Run.{run}
use Rattle.model.specs.Calls.{Ended, ended, end_of, run_answer}
use Rattle.model.specs.Text.{text_of, end_text, printed, text_bytes}
use Rattle.model.proofs.Text.{AllBytes, printed_length}
use Rattle.report.specs.Writing.{written, write}
use Rattle.report.proofs.WritingLaws.{write_within, write_whole}

pub counted : (n : ℕ) (s : List ℕ) → n ≤ length s → IsPrefixLen n s
counted n s l = (l, sym (length-take-le n s l))

module _ (s p m t : List ℕ) (number units : ℕ) (s' m' o : List ℕ) (r : ℕ) (room : text_bytes ≤ length t)
    (end : ended number units s' m' ≡ run_answer s p m fuel_limit) (w : written o r ≡ write t 0 (text_of number units m')) where
  pub text_counted : IsPrefixLen r o
  text_counted = counted r o (write_within t 0 (text_of number units m') o r (omega arith) w).1

  pub text_printed : ((i : ℕ) → Fits w8 (byte m' i)) → take r o ≡ printed s p m
  unfolding end_of end_text AllBytes
  text_printed small =
      let e : (run s p m fuel_limit).memory ≡ m' = sym (ap (λ (e : Ended). e.memory) end) in
      let text : text_of number units m' ≡ printed s p m = ap end_text end in
      let fits = printed_length s p m (rw e (λ i. omega (arith, small i))) in
      write_whole t 0 (text_of number units m') o r (rw text (omega arith)) w ∙ text
