-- A file need not be read to its end: cut one byte after the longest that is accepted, it has the number of the whole. A
-- longer policy or program is refused by bytes that the cut keeps, or by its length, and a longer memory by its length.
use Prim.Native.Nat.{ℕ, zero, suc, ◌+◌, ◌*◌, ◌≤◌, ◌<◌}
use native.Mathlib.Omega.{arith}
use native.Mathlib.Decide.{dec_lt}
use mathlib.Core.Path.{◌≡◌, refl, sym, ◌∙◌}
use mathlib.Core.Logic.{⊎_elim}
use mathlib.Core.List.{List, [], ◌∷◌}
use mathlib.Core.Bool.{true, false}
use lib.Dec.{leb}
use lib.ListN.{length, take}
use lib.Seq.{get_or-take, take_all, length-take-le}
use borrow.Author.Tests.{le-leb, lt-leb, leb-true, ne_eqb}
use Rattle.model.specs.Limits.{head_bytes, field_bytes, role_limit, program_bytes, fuel_limit}
use Rattle.model.specs.Number.{accepted, memory_length, program_length, Verdict, fine, refused}
use Rattle.model.specs.Bytes.{starts_with}
use Rattle.model.specs.Policy.{policy_head, has_mark, principals, roles, row_bytes, row_at, policy_bytes, head_number, policy_number}
use Rattle.model.specs.Program.{got, bad, variables, read_program}
use Rattle.model.specs.Flow.{body_verdict, program_verdict}
use Rattle.model.specs.Run.{Outcome, refusal, run}
use Rattle.model.specs.Calls.{end_of}
use Rattle.model.specs.Text.{rest_of, text_of, end_text, printed, policy_cut, program_cut, memory_cut}
use Rattle.model.proofs.Truth.{true_or_false}
use Rattle.model.proofs.Accepted.{head_zero, accepted_head}
use Rattle.model.proofs.FlowParts.{accepted_program}
use Rattle.model.proofs.RunLaws.{finished_begins}
use Rattle.model.proofs.Refusals.{refused_number}

-- two outcomes that print the same: one and the same, or refusals with one number
data Alike : Outcome → Outcome → Type 0 where
  same : {o : Outcome} → Alike o o
  both_refused : (k : ℕ) {s t m n : List ℕ} → 1 ≤ k → Alike (refusal k s m) (refusal k t n)

alike_number : {a b : Outcome} → Alike a b → a.number ≡ b.number
alike_number same = refl
alike_number (both_refused k l) = refl

alike_units : {a b : Outcome} → Alike a b → a.units ≡ b.units
alike_units same = refl
alike_units (both_refused k l) = refl

alike_text : {a b : Outcome} → Alike a b → end_text (end_of a) ≡ end_text (end_of b)
unfolding end_text end_of text_of rest_of
alike_text same = refl
alike_text (both_refused k l) = rw (ne_eqb k accepted (λ e. omega arith))

-- a refused program refuses the run, and policies and programs with the same refusal do so alike
verdict_refuses : (s p m : List ℕ) (f k place : ℕ) → program_verdict s p ≡ refused k place → run s p m f ≡ refusal k s m
unfolding run
verdict_refuses s p m f k place e = rw (e, run)

refused_alike : (s p m t q n : List ℕ) (f k place : ℕ) → program_verdict s p ≡ refused k place → program_verdict t q ≡ refused k place → Alike (run s p m f) (run t q n f)
refused_alike s p m t q n f k place d e =
    rw (verdict_refuses s p m f k place d, verdict_refuses t q n f k place e) (both_refused k (refused_number s p d).0)

-- a mark that the cut keeps
mark_cut : (n : ℕ) (s m : List ℕ) → length m ≤ n → starts_with (take n s) m ≡ starts_with s m
unfolding starts_with
mark_cut n s [] l = refl
mark_cut zero s (x ∷ m) l = absurd (omega arith)
mark_cut (suc n) [] (x ∷ m) l = refl
mark_cut (suc n) (y ∷ s) (x ∷ m) l = rw (mark_cut n s m (omega arith))

-- a policy that is cut is refused by its head, which the cut keeps
module _ (s : List ℕ) (long : policy_cut < length s) where
  head_cut : head_number (take policy_cut s) ≡ head_number s
  unfolding head_number has_mark policy_bytes row_at row_bytes
  head_cut = ⊎_elim few many (true_or_false (leb (roles s) role_limit))
    where
      cut_length : length (take policy_cut s) ≡ policy_cut
      cut_length = length-take-le policy_cut s (omega arith)

      few : leb (roles s) role_limit ≡ true → head_number (take policy_cut s) ≡ head_number s
      few e =
          let l = leb-true (roles s) role_limit e in
          rw (
            cut_length,
            le-leb head_bytes (length s) (omega arith),
            mark_cut policy_cut s policy_head (omega arith),
            get_or-take policy_cut s 5 0 (omega arith),
            get_or-take policy_cut s 6 0 (omega arith),
            e,
            ne_eqb policy_cut (head_bytes + field_bytes * roles s) (λ q. omega arith),
            ne_eqb (length s) (head_bytes + field_bytes * roles s) (λ q. omega arith),
          )

      many : leb (roles s) role_limit ≡ false → head_number (take policy_cut s) ≡ head_number s
      many e = rw (cut_length, le-leb head_bytes (length s) (omega arith), mark_cut policy_cut s policy_head (omega arith), get_or-take policy_cut s 5 0 (omega arith), get_or-take policy_cut s 6 0 (omega arith), e)

  head_long : head_number s ≡ accepted → ⊥
  unfolding policy_bytes row_at row_bytes
  head_long h = let z = head_zero s h in omega (arith, z.4, z.5)

  policy_cut_lem : policy_number (take policy_cut s) ≡ policy_number s
  unfolding policy_number
  policy_cut_lem = rw (head_cut, ne_eqb (head_number s) 0 head_long)

  pub policy_long : policy_number s ≡ accepted → ⊥
  unfolding policy_number
  policy_long h = head_long (rw (ne_eqb (head_number s) 0 head_long) at h)

-- a program that is cut is over-length, and so is what the cut leaves of it
module _ (p : List ℕ) (long : program_cut < length p) where
  read_long : (P R : ℕ) → read_program p P R ≡ bad program_length program_bytes
  unfolding read_program
  read_long P R = rw (lt-leb (length p) program_bytes (omega arith))

  read_cut : (P R : ℕ) → read_program (take program_cut p) P R ≡ bad program_length program_bytes
  unfolding read_program
  read_cut P R = rw (length-take-le program_cut p (omega arith))

  pub program_long : (s : List ℕ) → program_verdict s p ≡ fine → ⊥
  program_long s h = let a = accepted_program s p h in let z : bad program_length program_bytes ≡ got a.body a.end = sym (read_long (principals s) (roles s)) ∙ a.is_read in (let q : ◌≡◌ {A = ℕ} 0 1 = cc in omega arith)

  verdict_cut : (s : List ℕ) → program_verdict s (take program_cut p) ≡ program_verdict s p
  unfolding program_verdict body_verdict
  verdict_cut s = rw (read_long (principals s) (roles s), read_cut (principals s) (roles s))

-- one file cut at a time
refuses_alike : (s p m t q n : List ℕ) (f : ℕ) → program_verdict s p ≡ program_verdict t q → (program_verdict t q ≡ fine → ⊥) → Alike (run s p m f) (run t q n f)
refuses_alike s p m t q n f e never = go (program_verdict t q) refl
  where
    go : (v : Verdict) → program_verdict t q ≡ v → Alike (run s p m f) (run t q n f)
    go fine h = absurd (never h)
    go (refused k place) h = refused_alike s p m t q n f k place (e ∙ h) h

policy_refuses : (s p : List ℕ) (k : ℕ) → policy_number s ≡ k → (k ≡ accepted → ⊥) → program_verdict s p ≡ refused k 0
unfolding program_verdict
policy_refuses s p k e never = rw (e, ne_eqb k accepted never)

policy_alike : (s p m : List ℕ) (f : ℕ) → Alike (run (take policy_cut s) p m f) (run s p m f)
policy_alike s p m f = go (dec_lt policy_cut (length s))
  where
    go : Dec (policy_cut < length s) → Alike (run (take policy_cut s) p m f) (run s p m f)
    go (yes l) =
        refused_alike (take policy_cut s) p m s p m f (policy_number s) 0
        (policy_refuses (take policy_cut s) p (policy_number s) (policy_cut_lem s l) (policy_long s l))
        (policy_refuses s p (policy_number s) refl (policy_long s l))
    go (no n) = rw (take_all policy_cut s (omega arith)) same

program_alike : (s p m : List ℕ) (f : ℕ) → Alike (run s (take program_cut p) m f) (run s p m f)
program_alike s p m f = go (dec_lt program_cut (length p))
  where
    go : Dec (program_cut < length p) → Alike (run s (take program_cut p) m f) (run s p m f)
    go (yes l) = refuses_alike s (take program_cut p) m s p m f (verdict_cut p l s) (program_long p l s)
    go (no n) = rw (take_all program_cut p (omega arith)) same

-- an accepted program has at most 64 variables
memory_refuses : (s p m : List ℕ) (f : ℕ) → memory_cut ≤ length m → program_verdict s p ≡ fine → run s p m f ≡ refusal memory_length s m
unfolding run
memory_refuses s p m f l e =
    let few = (accepted_program s p e).few in
    rw (e, ne_eqb (length m) (4 * variables p) (λ q. omega arith), run)

memory_alike : (s p m : List ℕ) (f : ℕ) → Alike (run s p (take memory_cut m) f) (run s p m f)
memory_alike s p m f = go (dec_lt memory_cut (length m)) (program_verdict s p) refl
  where
    go : Dec (memory_cut < length m) → (v : Verdict) → program_verdict s p ≡ v → Alike (run s p (take memory_cut m) f) (run s p m f)
    go (yes l) fine e =
        let k = length-take-le memory_cut m (omega arith) in
        rw (memory_refuses s p (take memory_cut m) f (omega arith) e, memory_refuses s p m f (omega arith) e) (both_refused memory_length (omega arith))
    go (yes l) (refused k place) e = refused_alike s p (take memory_cut m) s p m f k place e e
    go (no n) v e = rw (take_all memory_cut m (omega arith)) same

-- all three cut
module _ (s p m : List ℕ) (f : ℕ) where
  abbrev run_cut : Outcome
  run_cut = run (take policy_cut s) (take program_cut p) (take memory_cut m) f

  pub cut_number : run_cut.number ≡ (run s p m f).number
  cut_number =
      alike_number (policy_alike s (take program_cut p) (take memory_cut m) f)
      ∙ alike_number (program_alike s p (take memory_cut m) f)
      ∙ alike_number (memory_alike s p m f)

  pub cut_units : run_cut.units ≡ (run s p m f).units
  cut_units =
      alike_units (policy_alike s (take program_cut p) (take memory_cut m) f)
      ∙ alike_units (program_alike s p (take memory_cut m) f)
      ∙ alike_units (memory_alike s p m f)

  pub cut_text : end_text (end_of run_cut) ≡ end_text (end_of (run s p m f))
  cut_text =
      alike_text (policy_alike s (take program_cut p) (take memory_cut m) f)
      ∙ alike_text (program_alike s p (take memory_cut m) f)
      ∙ alike_text (memory_alike s p m f)

  -- and a run that finishes had nothing cut off
  pub uncut : (run s p m f).number ≡ accepted → (length s ≤ policy_cut) × (length p ≤ program_cut) × (length m ≤ memory_cut)
  unfolding policy_bytes row_at row_bytes
  uncut h =
      let b = finished_begins s p m f h in
      let z = head_zero s (accepted_head s b.program.policy) in
      let few = b.program.few in
      let fits = b.memory_fits in
      (omega (arith, z.4, z.5), short (dec_lt program_cut (length p)) b.verdict, omega arith)
    where
      short : Dec (program_cut < length p) → program_verdict s p ≡ fine → length p ≤ program_cut
      short (yes l) v = absurd (program_long p l s v)
      short (no n) v = omega arith

-- so the program prints what it would of the whole files
pub cut_printed : (s p m : List ℕ) → printed (take policy_cut s) (take program_cut p) (take memory_cut m) ≡ printed s p m
cut_printed s p m = cut_text s p m fuel_limit
