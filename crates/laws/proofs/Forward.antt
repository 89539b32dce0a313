-- The forward run. Each action taken adds a fact, so that F actions are enough, and none is taken twice. Where the run stops short
-- of the goals its state is closed: an action that applies there adds nothing. A closed state that holds the initial facts stays
-- above every relaxed run, so that then no list is a relaxed plan, and none is a plan under any other semantics.
use Prim.Native.Nat.{ℕ, zero, suc, ◌+◌, ◌≤◌, ◌<◌, pred}
use mathlib.Core.Path.{◌≡◌, refl, subst}
use mathlib.Core.Logic.{◌⊎◌, inl, inr, ◌≢◌}
use mathlib.Core.Bool.{Bool, true, false, not}
use mathlib.Core.List.{List, [], ◌∷◌}
use mathlib.Core.Option.{Option, none, some}
use lib.Dec.{T, T_not}
use lib.ListN.{length}
use native.Mathlib.Omega.{arith}
use Rattle.planning.specs.Basics.{tally, total}
use Rattle.planning.specs.Record.{Fact, Action, Task}
use Rattle.planning.specs.Runs.{State, has, holds, Mode, step, variables, actions, variable, act, count, relaxed, initial, goals, run, runs, is_plan, size, run_by, runs_by}
use Rattle.planning.specs.Relaxed.{adds, choice, forward, addable, forward_run, forward_end, reaches_goals}
use Rattle.laws.proofs.Tests.{and_l, and_r, and_i, T_cases}
use Rattle.laws.proofs.Below.{tally_le, tally_cases, tally_pos, tally_sub, total_le, total_lt, total_pred, total_one}
use Rattle.laws.proofs.Facts.{◌⊆◌, holds→sub, sub→holds, holds_missing}
use Rattle.laws.proofs.Steps.{step_eff, step_keep, step_cases, run_grows, All, all_map}
use Rattle.laws.proofs.Formed.{Formed, sorted_has, initial_holds}
use Rattle.laws.proofs.Choice.{Chosen, choice_chosen}
use Rattle.laws.proofs.Plans.{Plan, is_plan_elim, plan_mono}

-- the size of a state: at most all facts, and larger where a fact is added
pub size_le : (nv : ℕ) (count : ℕ → ℕ) (s : State) → size nv count s ≤ total nv count
unfolding size
size_le nv count s = total_le nv (λ v. tally (count v) (s v)) count (λ v _. tally_le (count v) (s v))

size_lt : (nv : ℕ) (count : ℕ → ℕ) (s t : State) → s ⊆ t → (v d : ℕ) → v < nv → d < count v → T (t v d) → (T (s v d) → ⊥) → size nv count s < size nv count t
unfolding size
size_lt nv count s t h v d b c p n =
    total_lt nv (λ v. tally (count v) (s v)) (λ v. tally (count v) (t v)) (λ v _. tally_sub (count v) (s v) (t v) (λ i _. h v i)) v b
    (elim (tally_cases (count v) (s v) (t v) (λ i _. h v i)) [ inl a ↦ absurd (n (a.0 d c p)) | inr l ↦ l ])

-- an action that applies in S adds nothing; then no relaxed run from within S leaves it
abbrev pub Closed : (ℕ → Action) → ℕ → State → Type 0
Closed act A S = (i : ℕ) → i < A → has (act i).pre ⊆ S → has (act i).eff ⊆ S

closed_run : (act : ℕ → Action) (A : ℕ) (S : State) → Closed act A S
    → (l : List ℕ) (X : State) → All (λ i. i < A) l → X ⊆ S → T (runs act relaxed l X) → run act relaxed l X ⊆ S
unfolding run_by runs_by
closed_run act A S C [] X b x r = x
closed_run act A S C (i ∷ l) X b x r =
    let p = holds→sub X (act i).pre (search and_l) in
    closed_run act A S C l (step relaxed (act i) X) b.1
    (λ v d h. elim (step_cases relaxed (act i) X v d h) [ inl e ↦ C i b.0 (λ u y g. x u y (p u y g)) v d e | inr k ↦ x v d k.0 ]) (search and_r)

-- what a forward run from s satisfies: it ends at the goals, or short of them in a closed state; and each action added a fact
pub record Ran (act : ℕ → Action) (A nv : ℕ) (count : ℕ → ℕ) (goal : List Fact) (s : State) (l : List ℕ) : Type 0 where
  pub below : All (λ i. i < A) l
  pub runs' : T (runs act relaxed l s)
  pub ends : (has goal ⊆ run act relaxed l s) ⊎ (Closed act A (run act relaxed l s) × T (not (holds (run act relaxed l s) goal)))
  pub grown : size nv count s + length l ≤ size nv count (run act relaxed l s)

module _ (act : ℕ → Action) (A nv : ℕ) (count : ℕ → ℕ) (goal : List Fact) (ranged : (i v e : ℕ) → i < A → T (has (act i).eff v e) → (v < nv) × (e < count v)) where
  abbrev next : State → ℕ → State
  next s i = step relaxed (act i) s

  -- k further actions are as many as can add a fact
  abbrev Enough : ℕ → State → Type 0
  Enough k s = total nv count ≤ size nv count s + k

  adds_grows : (s : State) (i : ℕ) → i < A → T (adds act s i) → size nv count s < size nv count (next s i)
  unfolding adds
  adds_grows s i b t =
      let r = holds_missing s (act i).eff (search and_r) in
      let z = ranged i r.0 r.1 b r.2 in
      size_lt nv count s (next s i) (λ v d h. step_keep relaxed (act i) s v d h (λ x _. x)) r.0 r.1 z.0 z.1 (step_eff relaxed (act i) s r.0 r.1 r.2) r.3

  none_adds_closed : (s : State) → ((i : ℕ) → i < A → T (adds act s i) → ⊥) → Closed act A s
  unfolding adds
  none_adds_closed s h i b p = go (T_cases (holds s (act i).eff))
    where
      go : T (holds s (act i).eff) ⊎ T (not (holds s (act i).eff)) → has (act i).eff ⊆ s
      go (inl t) = holds→sub s (act i).eff t
      go (inr t) = absurd (h i b (and_i (holds s (act i).pre) (not (holds s (act i).eff)) (sub→holds s (act i).pre p) t))

  pub forward_ran : (k : ℕ) (s : State) → Enough k s → Ran act A nv count goal s (forward act A goal k s)
  unfolding forward run_by runs_by adds
  forward_ran zero s f = record {
    below = tt;
    runs' = tt;
    grown = omega arith;
    ends = elim (T_cases (holds s goal)) [
      | inl t ↦ inl (holds→sub s goal t)
      | inr n ↦ inr (none_adds_closed s (λ i b t. omega (arith, adds_grows s i b t, size_le nv count (next s i))), n)
    ];
  }
  forward_ran (suc k) s f = go (holds s goal) refl (choice act A s) (choice_chosen act A s) (forward_ran k)
    where
      go : (b : Bool) → holds s goal ≡ b → (o : Option ℕ) → Chosen act A s o → ((s : State) → Enough k s → Ran act A nv count goal s (forward act A goal k s))
          → Ran act A nv count goal s (elim b [ true ↦ [] | false ↦ elim o [ none ↦ [] | some i ↦ i ∷ forward act A goal k (next s i) ] ])
      go true e o h rec = record { below = tt; runs' = tt; grown = omega arith; ends = inl (holds→sub s goal (rw e tt)) }
      go false e none h rec = record { below = tt; runs' = tt; grown = omega arith; ends = inr (none_adds_closed s h, rw e tt) }
      go false e (some i) h rec =
          let g = adds_grows s i h.0 h.1 in
          let R = rec (next s i) (omega arith) in
          let p = and_l (holds s (act i).pre) (not (holds s (act i).eff)) h.1 in
          record {
            below = (h.0, R.below);
            runs' = and_i (holds s (act i).pre) (runs act relaxed (forward act A goal k (next s i)) (next s i)) p R.runs';
            grown = omega (arith, R.grown);
            ends = R.ends;
          }

  -- for a loop that takes actions until the goals hold or none adds a fact: the fuel of the definition is never short
  pub forward_take : (k i : ℕ) (s : State) → Enough k s → holds s goal ≡ false → choice act A s ≡ some i
      → (forward act A goal k s ≡ i ∷ forward act A goal (pred k) (next s i)) × Enough (pred k) (next s i)
  unfolding forward
  forward_take k i s f h e = go k f
    where
      g : size nv count s < size nv count (next s i)
      g = let I = subst (Chosen act A s) e (choice_chosen act A s) in adds_grows s i I.0 I.1

      go : (k : ℕ) → Enough k s → (forward act A goal k s ≡ i ∷ forward act A goal (pred k) (next s i)) × Enough (pred k) (next s i)
      go zero f = absurd (omega (arith, g, size_le nv count (next s i)))
      go (suc k) f = (rw (h, e, forward) refl, omega (arith, g))

pub forward_goal : (act : ℕ → Action) (A : ℕ) (goal : List Fact) (k : ℕ) (s : State) → holds s goal ≡ true → forward act A goal k s ≡ []
unfolding forward
forward_goal act A goal zero s h = refl
forward_goal act A goal (suc k) s h = rw (h, forward) refl

pub forward_none : (act : ℕ → Action) (A : ℕ) (goal : List Fact) (k : ℕ) (s : State) → choice act A s ≡ none → forward act A goal k s ≡ []
unfolding forward
forward_none act A goal zero s e = refl
forward_none act A goal (suc k) s e = go (holds s goal)
  where
    go : (b : Bool) → ◌≡◌ {A = List ℕ} (elim b [ true ↦ [] | false ↦ elim (choice act A s) [ none ↦ [] | some i ↦ i ∷ forward act A goal k (step relaxed (act i) s) ] ]) []
    go true = refl
    go false = rw e refl

-- no number twice in a list
abbrev pub Once : List ℕ → Type 0
Once [] = Unit {0}
Once (i ∷ l) = All (λ j. i ≢ j) l × Once l

module _ (act : ℕ → Action) (A : ℕ) (goal : List Fact) where
  -- each action taken from the state s on has an effect that s lacks
  forward_new : (k : ℕ) (s : State) → All (λ j. has (act j).eff ⊆ s → ⊥) (forward act A goal k s)
  unfolding forward adds
  forward_new zero s = tt
  forward_new (suc k) s = go (holds s goal) (choice act A s) (choice_chosen act A s) (forward_new k)
    where
      go : (b : Bool) (o : Option ℕ) → Chosen act A s o → ((s : State) → All (λ j. has (act j).eff ⊆ s → ⊥) (forward act A goal k s))
          → All (λ j. has (act j).eff ⊆ s → ⊥) (elim b [ true ↦ [] | false ↦ elim o [ none ↦ [] | some i ↦ i ∷ forward act A goal k (step relaxed (act i) s) ] ])
      go true o f rec = tt
      go false none f rec = tt
      go false (some i) f rec =
          let s' : State = step relaxed (act i) s in (
            λ h. T_not (holds s (act i).eff) (and_r (holds s (act i).pre) (not (holds s (act i).eff)) f.1) (sub→holds s (act i).eff h),
            all_map (λ j. has (act j).eff ⊆ s' → ⊥) (λ j. has (act j).eff ⊆ s → ⊥) (λ j n h. n (λ v d t. step_keep relaxed (act i) s v d (h v d t) (λ x _. x))) (forward act A goal k s') (rec s'),
          )

  pub forward_once : (k : ℕ) (s : State) → Once (forward act A goal k s)
  unfolding forward
  forward_once zero s = tt
  forward_once (suc k) s = go (holds s goal) (choice act A s) (forward_once k)
    where
      go : (b : Bool) (o : Option ℕ) → ((s : State) → Once (forward act A goal k s))
          → Once (elim b [ true ↦ [] | false ↦ elim o [ none ↦ [] | some i ↦ i ∷ forward act A goal k (step relaxed (act i) s) ] ])
      go true o rec = tt
      go false none rec = tt
      go false (some i) rec =
          let s' : State = step relaxed (act i) s in (
            all_map (λ j. has (act j).eff ⊆ s' → ⊥) (λ j. i ≢ j) (λ j n e. n (subst (λ x. has (act x).eff ⊆ s') e (step_eff relaxed (act i) s))) (forward act A goal k s') (forward_new k s'),
            rec s',
          )

-- the forward run of a task
module _ (t : Task) (F : Formed t) where
  pub eff_ranged : (i v e : ℕ) → i < actions t → T (has (act t i).eff v e) → (v < variables t) × (e < count t v)
  eff_ranged i v e b h = let I = sorted_has (variables t) (count t) 0 (act t i).eff (F.eff_sorted i) v e h in (I.var_below, I.val_below)

  -- the initial state has a fact of each variable
  initial_size : variables t ≤ size (variables t) (count t) (initial t)
  unfolding size
  initial_size = omega (
    arith,
    total_one (variables t),
    total_le (variables t) (λ _. 1) (λ v. tally (count t v) (initial t v)) (λ v b. tally_pos (count t v) (initial t v) (variable t v).init (F.init_below v) (initial_holds t v b)),
  )

  facts_total : total (variables t) (count t) ≡ variables t + addable t
  unfolding addable
  facts_total = total_pred (variables t) (count t) F.count_min

  pub forward_run_ran : Ran (act t) (actions t) (variables t) (count t) (goals t) (initial t) (forward_run t)
  unfolding forward_run
  forward_run_ran = forward_ran (act t) (actions t) (variables t) (count t) (goals t) eff_ranged (addable t) (initial t) (omega (arith, initial_size, facts_total))

  pub forward_run_length : length (forward_run t) ≤ addable t
  unfolding forward_end
  forward_run_length = omega (arith, forward_run_ran.grown, initial_size, facts_total, size_le (variables t) (count t) (run (act t) relaxed (forward_run t) (initial t)))

  pub forward_run_once : Once (forward_run t)
  unfolding forward_run
  forward_run_once = forward_once (act t) (actions t) (goals t) (addable t) (initial t)

  -- no plan under any semantics
  pub unsolvable_none : reaches_goals t ≡ false → (m : Mode) (l : List ℕ) → is_plan t m l ≡ true → ⊥
  unfolding reaches_goals forward_end
  unsolvable_none e m l p = go forward_run_ran.ends
    where
      S : State
      S = run (act t) relaxed (forward_run t) (initial t)

      P : Plan t relaxed l
      P = plan_mono t m relaxed (λ v z. absurd z) l (is_plan_elim t m l p)

      go : (has (goals t) ⊆ S) ⊎ (Closed (act t) (actions t) S × T (not (holds S (goals t)))) → ⊥
      go (inl g) = subst T e (sub→holds S (goals t) g)
      go (inr c) =
          let within = closed_run (act t) (actions t) S c.0 l (initial t) P.below (run_grows (act t) (forward_run t) (initial t)) P.runs' in
          subst T e (sub→holds S (goals t) (λ v d h. within v d (P.meets v d h)))
