-- A law for the return of enter.rt: what it writes stands for the transaction at the position. What the body writes is among the
-- program's variables and the policy's roles, since it names only what there is.
use mathlib.Core.Path.{◌≡◌, refl, sym, ap, ◌∙◌}
use mathlib.Core.Logic.{⊎_elim}
use Prim.Native.Nat.{ℕ, ◌+◌}
use native.Mathlib.Omega.{arith}
use mathlib.Core.List.Memᴰ
use mathlib.Core.List.{List, [], ◌∷◌}
use mathlib.Core.Bool.{Bool, true≢false}
use lib.Bits.{bit_or, or_zero_r}
use lib.Dec.{eqb}
use borrow.Author.Tests.{eqb-true}
use Rattle.model.specs.Bytes.{byte}
use Rattle.model.specs.Mutation.{Mutation}
use Rattle.model.specs.Syntax.{Stmt, skip, assign, empty, block, if, while, query, update, transaction}
use Rattle.model.specs.Program.{got, read_many, read_query}
use Rattle.model.specs.Fits.{Each, MutationFits, Fits}
use Rattle.model.specs.Flow.{assigned, roles_of, mutated}
use Rattle.model.proofs.Sets.{has_zero, or_has, with_has}
use Rattle.order.specs.Table.{Table}
use Rattle.gathered.specs.Positions.{ahead, after_list}
use Rattle.gathered.specs.declared.labels.Labels.{Labels}
use Rattle.gathered.specs.declared.writes.Writes.{Writes}
use Rattle.gathered.specs.Writes.{WritesAt}
use Rattle.gathered.proofs.PositionLaws.{ahead_is, list_is}
use Rattle.context.specs.declared.around.Meets.{Meets}
use Rattle.context.specs.declared.around.Transaction.{Transaction}
use Rattle.context.specs.declared.around.Around.TheVariants as around
use Rattle.context.specs.declared.around.Context.{Context}
use Rattle.context.specs.Lists.{ListRolesAt}
use Rattle.context.specs.Context.{with_labels, with_named}
use Rattle.context.specs.Judge.{SetBelow, MetBoth, held_number}
use Rattle.rules.specs.Check.{body_start, EnteredAt, Enters}
use Rattle.context.proofs.JudgeLaws.{held_none}

-- what a statement that fits writes
zero_below : (n : ℕ) → SetBelow 0 n
zero_below n i h = absurd (true≢false (sym h ∙ has_zero i))

or_below : (a b n : ℕ) → SetBelow a n → SetBelow b n → SetBelow (bit_or a b) n
or_below a b n f g i h = ⊎_elim (f i) (g i) (or_has a b i h)

module _ (P R vars : ℕ) where
  assigned_below : (x : Stmt) → Fits P R vars x → SetBelow (assigned x) vars
  unfolding assigned
  assigned_below skip f = zero_below vars
  assigned_below (assign at x e) f = λ i h. ⊎_elim (λ g. rw g f.0) (zero_below vars i) (with_has 0 x i h)
  assigned_below empty f = zero_below vars
  assigned_below (block a b) f = or_below (assigned a) (assigned b) vars (assigned_below a f.0) (assigned_below b f.1)
  assigned_below (if e a b) f = or_below (assigned a) (assigned b) vars (assigned_below a f.1) (assigned_below b f.2)
  assigned_below (while e a) f = assigned_below a f.1
  assigned_below (query at q a b) f = or_below (assigned a) (assigned b) vars (assigned_below a f.1) (assigned_below b f.2)
  assigned_below (update at ms) f = zero_below vars
  assigned_below (transaction at start end qs a) f = assigned_below a f.1

  roles_below : (ms : List Mutation) → Each (MutationFits P R) ms → SetBelow (roles_of ms) R
  unfolding roles_of
  roles_below [] f = zero_below R
  roles_below (m ∷ ms) f = λ i h.
      ⊎_elim (λ g. rw g (f m (Memᴰ.head refl)).0) (roles_below ms (λ y n. f y (Memᴰ.tail n)) i) (with_has (roles_of ms) m.role i h)

  mutated_below : (x : Stmt) → Fits P R vars x → SetBelow (mutated x) R
  unfolding mutated
  mutated_below skip f = zero_below R
  mutated_below (assign at x e) f = zero_below R
  mutated_below empty f = zero_below R
  mutated_below (block a b) f = or_below (mutated a) (mutated b) R (mutated_below a f.0) (mutated_below b f.1)
  mutated_below (if e a b) f = or_below (mutated a) (mutated b) R (mutated_below a f.1) (mutated_below b f.2)
  mutated_below (while e a) f = mutated_below a f.1
  mutated_below (query at q a b) f = or_below (mutated a) (mutated b) R (mutated_below a f.1) (mutated_below b f.2)
  mutated_below (update at ms) f = roles_below ms f
  mutated_below (transaction at start end qs a) f = mutated_below a f.1

-- entering a transaction
module _ (p : List ℕ) (d at q m n list end₀ named : ℕ) (w : Writes) (e₁ : q ≡ ahead p at 1) (e₂ : n ≡ byte p q) (e₃ : list ≡ ahead p at 2) (e₄ : m ≡ after_list p at 2)
    (f : WritesAt p d m (record { variables = 0; roles = 0 }) w end₀) (g : ListRolesAt p n list named) where
  abbrev entered : Meets → Bool → Transaction
  entered u free = record { list = list; count = n; named = named; variables = w.variables; roles = w.roles; meets = u; free = free }

  entered_is : (u : Meets) (free : Bool) → EnteredAt p d at (entered u free)
  unfolding EnteredAt WritesAt ListRolesAt
  entered_is u free P R vars listed body end few few' h i j k fit =
      let ne : n ≡ byte p (at + 1) = e₂ ∙ ap (byte p) (e₁ ∙ ahead_is p at 1 (omega arith)) in
      let le : list ≡ at + 2 = e₃ ∙ ahead_is p at 2 (omega arith) in
      let me : m ≡ body_start p at = e₄ ∙ list_is p at 2 h in
      let x = (f P R vars (few, few') body end (rw me k)).1 in
      let y : read_many (read_query p R) n list ≡ got listed (body_start p at) = rw (ne, le) i in
      record {
        end = body_start p at;
        listed_read = y;
        listed_below = j;
        named_are = g R listed (body_start p at) y;
        variables_are = ap (λ (l : Writes). l.variables) x ∙ or_zero_r (assigned body);
        variables_below = assigned_below P R vars body fit;
        roles_are = ap (λ (l : Writes). l.roles) x ∙ or_zero_r (mutated body);
        roles_below = mutated_below P R vars body fit;
      }

  pub enters : (t : Table) (a : Labels) (l : Context) (u : Meets) (z : ℕ) → MetBoth p t w.variables w.roles u
      → z ≡ held_number (with_named (with_labels l a.readers a.trusters) named) u → Enters p t a l d at (around.Inside (entered u (eqb z 0)))
  enters t a l u z h e = record {
    transaction = entered u (eqb z 0);
    is = refl;
    entered = entered_is u (eqb z 0);
    held = h;
    free = λ i. held_none _ u (sym e ∙ eqb-true z 0 i);
  }
