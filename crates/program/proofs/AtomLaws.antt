-- A law for each return of atoms.rt: the tests that led there say which case of the definition holds.
use Rattle.std.proofs.Common.{Result, Ok, Err}
use Rattle.std.specs.Prelude.{IsErrAnd}
use mathlib.Core.Path.{◌≡◌, refl, sym, ◌∙◌}
use Prim.Native.Nat.{ℕ, ◌+◌, ◌-◌, ◌<◌, ◌≤◌}
use mathlib.Core.List.{List}
use mathlib.Core.Bool.{Bool, true, false, cond, false≢true}
use native.Mathlib.Omega.{arith}
use lib.Dec.{eqb, ltb}
use lib.ListN.{length}
use borrow.Author.Tests.{lt-ltb, le-ltb, eq-eqb, ne_eqb, ltb-true}
use Rattle.model.specs.Limits.{role_limit}
use Rattle.model.specs.Number.{program_code, program_range}
use Rattle.model.specs.Bytes.{byte}
use Rattle.model.specs.Mutation.{Mutation, addMember, deleteMember, addTaken, deleteTaken}
use Rattle.model.specs.Syntax.{Atom as ModelAtom, atom_byte}
use Rattle.model.specs.Fits.{AtomFits}
use Rattle.model.specs.Program.{Read as Reading, got, bad, read_below, atom_at, read_atom, read_label, read_query, mutation_at, read_mutation}
use Rattle.program.specs.declared.codes.Atom.{Atom}
use Rattle.program.specs.declared.codes.Atom.TheVariants.{Role, Viewers, Trusters, Everyone}
use Rattle.program.specs.declared.codes.Kind.{Kind}
use Rattle.program.specs.declared.codes.Kind.TheVariants.{AddMember, DeleteMember, AddTaken, DeleteTaken}
use Rattle.program.specs.Answer.{reached, stopped, end_of}
use Rattle.program.specs.Refused.{Answers}
use Rattle.program.specs.declared.refused.Refused.{Refused}
use Rattle.program.specs.Entries.{FindsMutation}
use Rattle.program.specs.Codes.{atom_of, model_atom, role_below, kind_of, model_kind, operand_bound}
use Rattle.program.proofs.CodeLaws.{through, atom_byte_lem, atom_fits, none_high, none_everyone}
use Rattle.program.proofs.AnswerLaws.{then_reached, then_last, byte_there, byte_missing}
use Rattle.program.proofs.RefusedLaws.{made, position_low, passed, goes_on, stops, answers_same}
use Rattle.program.specs.declared.codes.UnknownCode.{UnknownCode}

-- a byte below a bound
module _ (s : List ℕ) (bound at : ℕ) where
  pub below_missing : length s ≤ at → stopped 10 (length s) ≡ end_of (read_below s bound at)
  unfolding read_below
  below_missing h = byte_missing s at _ h

  pub below_large : at < length s → bound ≤ byte s at → stopped 13 at ≡ end_of (read_below s bound at)
  unfolding read_below end_of
  below_large l h = rw (byte_there s at _ l) (simp (le-ltb _ _ h))

  pub below_read : at < length s → byte s at < bound → read_below s bound at ≡ got (byte s at) (at + 1)
  unfolding read_below
  below_read l h = rw (byte_there s at _ l) (simp (lt-ltb _ _ h))

  pub below_small : at < length s → byte s at < bound → reached (at + 1) ≡ end_of (read_below s bound at)
  unfolding end_of
  below_small l h = rw (below_read l h)

pub ruleset belows = (below_missing, below_large, below_small, made)

-- a label: the byte of the atom that was read is a role below R, or everyone's, or neither
module _ (s : List ℕ) (R at : ℕ) where
  pub label_missing : length s ≤ at → stopped 10 (length s) ≡ end_of (read_label s R at)
  unfolding read_label
  label_missing h = byte_missing s at _ h

  module _ (l : at < length s) where
    other_label : R ≤ byte s at → (byte s at ≡ 0xff → ⊥) → stopped 13 at ≡ end_of (read_label s R at)
    unfolding read_label end_of
    other_label h n = rw (byte_there s at _ l) (simp (le-ltb _ _ h, ne_eqb _ _ n))

    module _ (few : R ≤ role_limit) (k : (Result Atom UnknownCode)) (e : k ≡ atom_of (byte s at)) where
      pub label_none : k ≡ (Err (record {})) → stopped 13 at ≡ end_of (read_label s R at)
      label_none h = other_label (omega (arith, none_high (byte s at) k e h)) (none_everyone (byte s at) k e h)

      module _ (a : Atom) (h : k ≡ Ok a) where
        here_byte : atom_byte (model_atom a) ≡ byte s at
        here_byte = atom_byte_lem (byte s at) k e a h

        here_fits : AtomFits role_limit (model_atom a)
        here_fits = atom_fits (byte s at) k e a h

        pub label_role : (j : ℕ) → a ≡ Role j → j < R → reached (at + 1) ≡ end_of (read_label s R at)
        unfolding read_label end_of
        label_role j g i =
            let x : j ≡ byte s at = rw g at here_byte in
            let y : byte s at < R = omega arith in rw (byte_there s at _ l) (simp (lt-ltb _ _ y))

        pub label_large : (j : ℕ) → a ≡ Role j → R ≤ j → stopped 13 at ≡ end_of (read_label s R at)
        label_large j g i =
            let x : j ≡ byte s at = rw g at here_byte in
            let y : j < role_limit = rw g at here_fits in other_label (omega arith) (λ z. omega arith)

        pub label_viewers : (j : ℕ) → a ≡ Viewers j → stopped 13 at ≡ end_of (read_label s R at)
        label_viewers j g =
            let x : 0x40 + j ≡ byte s at = rw g at here_byte in
            let y : j < role_limit = rw g at here_fits in other_label (omega arith) (λ z. omega arith)

        pub label_trusters : (j : ℕ) → a ≡ Trusters j → stopped 13 at ≡ end_of (read_label s R at)
        label_trusters j g =
            let x : 0x80 + j ≡ byte s at = rw g at here_byte in
            let y : j < role_limit = rw g at here_fits in other_label (omega arith) (λ z. omega arith)

        pub label_everyone : a ≡ Everyone → reached (at + 1) ≡ end_of (read_label s R at)
        unfolding read_label end_of
        label_everyone g =
            let x : 0xff ≡ byte s at = rw g at here_byte in
            let y : R ≤ byte s at = omega arith in rw (byte_there s at _ l) (simp (le-ltb _ _ y, eq-eqb _ _ (sym x)))

pub ruleset labels = (label_missing, label_none, label_role, label_large, label_viewers, label_trusters, label_everyone, made)

-- an atom: the definition goes by what the byte stands for
named : ℕ → ℕ → ℕ → (Result Atom UnknownCode) → Reading ModelAtom
named R at next (Ok a) = cond (role_below R a) (got (model_atom a) next) (bad program_range at)
named R at next (Err _) = bad program_code at

by_name : (R at x next : ℕ) → atom_at R at x next ≡ named R at next (atom_of x)
unfolding atom_at atom_of named role_below
by_name R at x next =
    let f = named R at next in
    through f (ltb x 0x40) (Ok (Role x)) (through f (ltb x 0x80) (Ok (Viewers (x - 0x40)))
    (through f (ltb x 0xc0) (Ok (Trusters (x - 0x80))) (through f (eqb x 0xff) (Ok Everyone) refl)))

module _ (s : List ℕ) (R at : ℕ) where
  pub atom_missing : length s ≤ at → stopped 10 (length s) ≡ end_of (read_atom s R at)
  unfolding read_atom
  atom_missing h = byte_missing s at _ h

  module _ (l : at < length s) (k : (Result Atom UnknownCode)) (e : k ≡ atom_of (byte s at)) where
    here : read_atom s R at ≡ named R at (at + 1) k
    unfolding read_atom
    here = byte_there s at (atom_at R at) l ∙ by_name R at (byte s at) (at + 1) ∙ rw e

    pub atom_none : k ≡ (Err (record {})) → stopped 12 at ≡ end_of (read_atom s R at)
    unfolding end_of named
    atom_none h = rw (here, h)

    module _ (a : Atom) (h : k ≡ Ok a) (b : Bool) (d : b ≡ role_below R a) where
      pub atom_read : b ≡ true → reached (at + 1) ≡ end_of (read_atom s R at)
      unfolding end_of named
      atom_read t = rw (here, h, ← d, t)

      pub atom_large : b ≡ false → stopped 13 at ≡ end_of (read_atom s R at)
      unfolding end_of named
      atom_large t = rw (here, h, ← d, t)

pub ruleset atoms = (atom_missing, atom_none, atom_read, atom_large, made)

-- a query
module _ (s : List ℕ) (R at : ℕ) (r : Result ℕ Refused) where
  pub query_first : (e : Refused) → Answers (Err e) (end_of (read_atom s R at)) → IsErrAnd r (λ y. y ≡ e) → Answers r (end_of (read_query s R at))
  unfolding read_query
  query_first e h q = stops (read_atom s R at) _ e r h q

  pub query_second : (a : ℕ) → Answers (Ok a) (end_of (read_atom s R at)) → Answers r (end_of (read_atom s R a)) → Answers r (end_of (read_query s R at))
  unfolding read_query
  query_second a h g = goes_on (read_atom s R at) _ a r h (λ x. answers_same r (then_last (read_atom s R a) _) g)

pub ruleset queries = (query_first, query_second, position_low)

-- a mutation: the definition goes by its kind
kinded : List ℕ → ℕ → ℕ → ℕ → ℕ → (Result Kind UnknownCode) → Reading Mutation
kinded s P R at next (Ok k) = mutation_at s R (model_kind k) (operand_bound P R k) next
kinded s P R at next (Err _) = bad program_code at

by_kind : (s : List ℕ) (P R at x next : ℕ)
    → cond (eqb x 0) (mutation_at s R addMember P next) (cond (eqb x 1) (mutation_at s R deleteMember P next)
    (cond (eqb x 2) (mutation_at s R addTaken R next) (cond (eqb x 3) (mutation_at s R deleteTaken R next) (bad program_code at))))
    ≡ kinded s P R at next (kind_of x)
unfolding kind_of kinded operand_bound
by_kind s P R at x next =
    let f = kinded s P R at next in
    through f (eqb x 0) (Ok AddMember) (through f (eqb x 1) (Ok DeleteMember)
    (through f (eqb x 2) (Ok AddTaken) (through f (eqb x 3) (Ok DeleteTaken) refl)))

module _ (s : List ℕ) (P R at : ℕ) where
  pub mutation_missing : length s ≤ at → stopped 10 (length s) ≡ end_of (read_mutation s P R at)
  unfolding read_mutation
  mutation_missing h = byte_missing s at _ h

  module _ (l : at < length s) (k : (Result Kind UnknownCode)) (e : k ≡ kind_of (byte s at)) where
    there : read_mutation s P R at ≡ kinded s P R at (at + 1) k
    unfolding read_mutation
    there = byte_there s at _ l ∙ by_kind s P R at (byte s at) (at + 1) ∙ rw e

    pub mutation_unknown : k ≡ (Err (record {})) → stopped 12 at ≡ end_of (read_mutation s P R at)
    unfolding end_of kinded
    mutation_unknown h = rw (there, h)

    module _ (m : Kind) (h : k ≡ Ok m) (r : Result ℕ Refused) where
      pub mutation_role : (e : Refused) → Answers (Err e) (end_of (read_below s R (at + 1))) → IsErrAnd r (λ y. y ≡ e) → Answers r (end_of (read_mutation s P R at))
      unfolding kinded mutation_at
      mutation_role e i q = rw (there, h) (stops (read_below s R (at + 1)) _ e r i q)

      pub mutation_operand : (a n : ℕ) → Answers (Ok a) (end_of (read_below s R (at + 1))) → n ≡ operand_bound P R m → Answers r (end_of (read_below s n a)) → Answers r (end_of (read_mutation s P R at))
      unfolding kinded mutation_at
      mutation_operand a n i o j =
          rw (there, h) (goes_on (read_below s R (at + 1)) _ a r i (λ x. answers_same r (then_last (read_below s (operand_bound P R m) a) _) (rw o at j)))

pub ruleset mutations = (mutation_missing, mutation_unknown, mutation_role, mutation_operand, position_low, made)

-- a mutation that is as it must be
module _ (s : List ℕ) (P R at : ℕ) where
  pub not_found : FindsMutation s P R at false
  unfolding FindsMutation
  not_found h = absurd (false≢true h)

  pub found : at + 3 ≤ length s → byte s (at + 1) < R → (k : (Result Kind UnknownCode)) → k ≡ kind_of (byte s at) → (m : Kind) → k ≡ Ok m
      → (bound : ℕ) → bound ≡ operand_bound P R m → FindsMutation s P R at (ltb (byte s (at + 2)) bound)
  unfolding FindsMutation kinded mutation_at
  found l role k e m h bound o t =
      let operand : byte s (at + 2) < bound = ltb-true _ _ t in
      let two : at + 2 ≡ at + 1 + 1 = omega arith in
      let three : at + 3 ≡ at + 1 + 1 + 1 = omega arith in
      rw (three, there s P R at (omega arith) k e, h, ← o)
      (then_reached (read_below s R (at + 1)) _ (below_small s R (at + 1) (omega arith) role)
      (λ x. below_small s bound (at + 1 + 1) (omega arith) (rw two at operand) ∙ then_last (read_below s bound (at + 1 + 1)) _))

pub ruleset founds = (not_found, found)
