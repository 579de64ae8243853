-- In an accepted policy members watch their role and whoever watches a taken role watches the role too, so by leastness whoever a role means watches it; and its meaning depends only on rows that have its watchers among theirs.
use Prim.Native.Nat.{ℕ, ◌^◌, ◌<◌}
use mathlib.Core.Path.{◌≡◌}
use mathlib.Core.List.{List}
use mathlib.Core.Bool.{Bool, true}
use Rattle.model.specs.Sets.{has}
use Rattle.model.specs.Policy.{principals, roles, viewers, trusters, members, takes, Side, reading, trust, watchers, may_take, Accepted, SameFixed, Agree}
use Rattle.model.specs.Meaning.{meaning}
use Rattle.model.proofs.Sets.{within_has, same_sets}
use Rattle.model.proofs.Accepted.{accepted_facts}
use Rattle.model.proofs.Taking.{watches_taken, watches_taking}
use Rattle.model.proofs.Least.{meaning_closed, meaning_least}

module _ (s : List ℕ) (ok : Accepted s) (r : ℕ) (l : r < roles s) where
  taken_allowed : (j : ℕ) → j < roles s → has (takes s r) j ≡ true → may_take s r j ≡ true
  taken_allowed = ((accepted_facts s ok).row r l).takes_allowed

  -- a member watches
  member_watches : (side : Side) (p : ℕ) → has (members s r) p ≡ true → has (watchers side s r) p ≡ true
  unfolding watchers
  member_watches reading p h = within_has (members s r) (viewers s r) p ((accepted_facts s ok).row r l).members_view h
  member_watches trust p h = within_has (members s r) (trusters s r) p ((accepted_facts s ok).row r l).members_trust h

  pub watchers_below : (side : Side) → watchers side s r < 2 ^ principals s
  unfolding watchers
  watchers_below reading = ((accepted_facts s ok).row r l).viewers_below
  watchers_below trust = ((accepted_facts s ok).row r l).trusters_below

-- a way of seeing that sees more of a larger set
abbrev pub Monotone : (ℕ → Bool) → Type 0
Monotone see = (x y : ℕ) → ((p : ℕ) → has x p ≡ true → has y p ≡ true) → see x ≡ true → see y ≡ true

-- F1: whoever a role means watches it
pub meaning_watched : (side : Side) (s : List ℕ) → Accepted s → (r p : ℕ) → has (meaning s r) p ≡ true → has (watchers side s r) p ≡ true
meaning_watched side s ok = meaning_least s (λ r p. has (watchers side s r) p ≡ true) (record {
  own = λ r p l h. member_watches s ok r l side p h;
  taken = λ r j p l k t h. watches_taking s r j side (taken_allowed s ok r l j k t) p h;
})

-- where takes do not lead out of a part of the roles and two policies agree on that part, each means there what the other does
module _ (a b : List ℕ) (Part : ℕ → Type 0) (n : roles a ≡ roles b)
    (stays : (j k : ℕ) → j < roles a → k < roles a → has (takes a j) k ≡ true → Part j → Part k)
    (agree : (j : ℕ) → j < roles a → Part j → Agree a b j) where
  part_grows : (r p : ℕ) → has (meaning a r) p ≡ true → Part r → has (meaning b r) p ≡ true
  part_grows = meaning_least a (λ j p. Part j → has (meaning b j) p ≡ true) (record {
    own = λ j p l h q. (meaning_closed b).own j p (rw n at l) (rw (agree j l q).same_members at h);
    taken = λ j k p l m t f q. (meaning_closed b).taken j k p (rw n at l) (rw n at m) (rw (agree j l q).same_takes at t) (f (stays j k l m t q));
  })

  part_shrinks : (r p : ℕ) → has (meaning b r) p ≡ true → Part r → has (meaning a r) p ≡ true
  part_shrinks = meaning_least b (λ j p. Part j → has (meaning a j) p ≡ true) (record {
    own = λ j p l h q. (meaning_closed a).own j p (rw n l) (rw (agree j (rw n l) q).same_members h);
    taken = λ j k p l m t f q.
        let t' : has (takes a j) k ≡ true = rw (agree j (rw n l) q).same_takes t in
        (meaning_closed a).taken j k p (rw n l) (rw n m) t' (f (stays j k (rw n l) (rw n m) t' q));
  })

  part_same : (r : ℕ) → Part r → meaning a r ≡ meaning b r
  part_same r q = same_sets (meaning a r) (meaning b r) (λ p h. part_grows r p h q) (λ p h. part_shrinks r p h q)

-- F2: a meaning depends only on rows that whoever sees the role's row sees too
pub meaning_seen : (side : Side) (see : ℕ → Bool) → Monotone see → (a b : List ℕ) → Accepted a → SameFixed a b
    → ((j : ℕ) → j < roles a → see (watchers side a j) ≡ true → Agree a b j)
    → (r : ℕ) → see (watchers side a r) ≡ true → meaning a r ≡ meaning b r
meaning_seen side see grows a b ok same =
    part_same a b (λ j. see (watchers side a j) ≡ true) same.same_roles
    (λ j k l m t. grows (watchers side a j) (watchers side a k) (watches_taken a j k side (taken_allowed a ok j l k m t)))
