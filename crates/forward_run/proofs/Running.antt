-- The loop of the forward run: what is taken is the definition's run so far, and the rest of that run starts from the present state.
use mathlib.Core.Path.{◌≡◌, refl, sym, ap, ◌∙◌, subst}
use mathlib.Core.Logic.{◌≢◌}
use mathlib.Core.Bool.{true, false}
use mathlib.Core.List.{List, [], ◌∷◌, ◌++◌, append_assoc, append-nil}
use mathlib.Core.Option.{none, some}
use Prim.Native.Nat.{ℕ, ◌+◌, ◌-◌, ◌<◌, ◌≤◌, pred}
use native.Mathlib.Numerals.{add-one}
use native.Mathlib.Omega.{arith}
use lib.Dec.{T}
use lib.ListN.{length, get_or, set, take, length-set, length-append}
use lib.Seq.{take-suc-set, length-take-le, get_or-take}
use Rattle.planning.specs.Basics.{total, tally}
use Rattle.planning.specs.Record.{Task}
use Rattle.planning.specs.Runs.{State, holds, step, relaxed, run, variables, actions, act, count, variable, initial, goals, size, run_by}
use Rattle.planning.specs.Relaxed.{choice, forward, addable, forward_run, forward_end, reaches_goals}
use Rattle.laws.proofs.Tests.{T→true, F→false}
use Rattle.laws.proofs.Below.{total_le, total_pred, total_one, tally_pos}
use Rattle.laws.proofs.Steps.{All, run_append}
use Rattle.laws.proofs.Formed.{Formed, initial_holds}
use Rattle.laws.proofs.Forward.{Once, forward_take, forward_goal, forward_none, forward_run_ran, forward_run_once, eff_ranged}
use Rattle.task.specs.Task.{facts_of, States}
use Rattle.task.proofs.Slices.{part_facts}
use Rattle.state.specs.declared.Goals.{Goals}
use Rattle.state.specs.Goals.{GoalsOf}
use Rattle.waiting.specs.Waiting.{reaches, Each, Passing}
use Rattle.sets.specs.Sets.{sets_of}
use Rattle.forward_run.specs.declared.Ran.{Ran}
use Rattle.forward_run.specs.Running.{RanOf}
use Rattle.waiting.proofs.Places.{holds_each, each_holds}
use Rattle.waiting.proofs.Chains.{Distinct, distinct_length}

-- the run has at most 1,024 actions, since none is taken twice
all_each : (P Q : ℕ → Type 0) → ((i : ℕ) → P i → Q i) → (l : List ℕ) → All P l → Each Q l
all_each P Q f [] h = tt
all_each P Q f (i ∷ l) h = (f i h.0, all_each P Q f l h.1)

once_distinct : (l : List ℕ) → Once l → Distinct l
once_distinct [] o = tt
once_distinct (i ∷ l) o = (all_each (λ j. i ≢ j) (λ j. j ≢ i) (λ j n e. n (sym e)) l o.0, once_distinct l o.1)

forward_run_few : (t : Task) → Formed t → length (forward_run t) ≤ 1024
forward_run_few t F =
    let below = all_each (λ i. i < actions t) (λ i. i < actions t) (λ i h. h) (forward_run t) (forward_run_ran t F).below in
    omega (arith, F.actions_max, distinct_length (actions t) (forward_run t) below (once_distinct (forward_run t) (forward_run_once t F)))

-- F actions are enough from the initial state
forward_run_fuel : (t : Task) → Formed t → total (variables t) (count t) ≤ size (variables t) (count t) (initial t) + addable t
unfolding size addable
forward_run_fuel t F =
    omega (
      arith,
      total_pred (variables t) (count t) F.count_min,
      total_one (variables t),
      total_le (variables t) (λ _. 1) (λ v. tally (count t v) (initial t v)) (λ v b. tally_pos (count t v) (initial t v) (variable t v).init (F.init_below v) (initial_holds t v b)),
    )

-- the loop: n actions are taken, and the state is s; k more actions are enough
pub record Going (t : Task) (plan : List ℕ) (s : State) (n : ℕ) : Type 0 where
  pub k : ℕ
  pub fuel : total (variables t) (count t) ≤ size (variables t) (count t) s + k
  pub long : length plan ≡ 1024
  pub within : n ≤ 1024
  pub so_far : forward_run t ≡ take n plan ++ forward (act t) (actions t) (goals t) k s
  pub state : s ≡ run (act t) relaxed (take n plan) (initial t)

module _ {t : Task} (F : Formed t) where
  pub going_start : (plan : List ℕ) (s : State) → length plan ≡ 1024 → s ≡ initial t → Going t plan s 0
  unfolding forward_run run_by
  going_start plan s n q = record {
    k = addable t;
    fuel = rw q (forward_run_fuel t F);
    long = n;
    within = omega arith;
    so_far = rw q refl;
    state = q;
  }

  module _ {plan : List ℕ} {s : State} {n : ℕ} (G : Going t plan s n) where
    pub going_on : (i : ℕ) → holds s (goals t) ≡ false → choice (act t) (actions t) s ≡ some i → n < 1024
    going_on i h e =
        let T₁ = forward_take (act t) (actions t) (variables t) (count t) (goals t) (eff_ranged t F) G.k i s G.fuel h e in
        let r : List ℕ = forward (act t) (actions t) (goals t) (pred G.k) (step relaxed (act t i) s) in
        let e₂ : forward_run t ≡ take n plan ++ (i ∷ r) = G.so_far ∙ rw T₁.0 refl in
        omega (arith, forward_run_few t F, ap length e₂, length-append (take n plan) (i ∷ r), length-take-le n plan (omega (arith, G.long, G.within)))

    pub going_take : (i : ℕ) (s' : State) → holds s (goals t) ≡ false → choice (act t) (actions t) s ≡ some i → s' ≡ step relaxed (act t i) s
        → Going t (set plan n i) s' (n + 1)
    unfolding run_by
    going_take i s' h e es =
        let T₁ = forward_take (act t) (actions t) (variables t) (count t) (goals t) (eff_ranged t F) G.k i s G.fuel h e in
        let b = going_on i h e in
        let p : take (n + 1) (set plan n i) ≡ take n plan ++ (i ∷ []) = rw (add-one, take-suc-set plan n i (omega (arith, G.long))) refl in
        record {
          k = pred G.k;
          fuel = rw es T₁.1;
          long = simp length-set G.long;
          within = omega arith;
          so_far = G.so_far ∙ rw (T₁.0, p, append_assoc, es) refl;
          state = es ∙ rw (p, run_append (act t) relaxed (take n plan) (i ∷ []) (initial t), ← G.state) refl;
        }

    -- the run ends where the goals are reached or no action adds a fact
    module _ (z : forward (act t) (actions t) (goals t) G.k s ≡ []) where
      run_is : take n plan ≡ forward_run t
      run_is = sym (G.so_far ∙ rw (z, append-nil) refl)

      end_is : s ≡ forward_end t
      unfolding forward_end
      end_is = rw (← run_is) G.state

      ended : (a : Ran) → a.steps ≡ n → a.solved ≡ holds s (goals t) → sets_of a.state.sets ≡ s → RanOf t plan a
      unfolding reaches_goals
      ended a en eb es = record {
        list = rw en run_is;
        steps = en ∙ rw (← run_is, length-take-le n plan (omega (arith, G.long, G.within))) refl;
        few = omega (arith, G.within);
        long = G.long;
        solved = eb ∙ rw (← end_is) refl;
        state = es ∙ end_is;
      }

    pub ended_met : holds s (goals t) ≡ true → (a : Ran) → a.steps ≡ n → a.solved ≡ true → sets_of a.state.sets ≡ s → RanOf t plan a
    ended_met h a en eb es = ended (forward_goal (act t) (actions t) (goals t) G.k s h) a en (eb ∙ sym h) es

    pub ended_none : holds s (goals t) ≡ false → choice (act t) (actions t) s ≡ none → (a : Ran) → a.steps ≡ n → a.solved ≡ false → sets_of a.state.sets ≡ s → RanOf t plan a
    ended_none h e a en eb es = ended (forward_none (act t) (actions t) (goals t) G.k s e) a en (eb ∙ sym h) es

-- the goals as the loop tests them
pub goals_listed : (t : Task) (g : Goals) (list : List ℕ) → GoalsOf t g → length g.facts ≡ 64 → list ≡ take g.count g.facts → States list (goals t)
goals_listed t g list G n e =
    let z : g.count - 0 ≡ g.count = omega arith in
    let m : length (take g.count g.facts) ≡ g.count = length-take-le g.count g.facts (omega (arith, G.few)) in
    rw e (record {
      stated = (rw z at (part_facts g.facts 0 g.count (omega arith))) ∙ G.are;
      small = λ k h. rw (get_or-take g.count g.facts k 0 (omega arith)) (G.small k (omega arith));
    })

module _ (t : Task) {s : State} {list : List ℕ} {r : ℕ} (e : facts_of list ≡ goals t) (P : Passing s list 0 (length list) r) where
  pub goals_met : r ≡ length list → holds s (goals t) ≡ true
  goals_met z = rw (← e) (T→true (holds s (facts_of list)) (each_holds s list (λ x l. P.passed x (omega arith) (omega arith))))

  pub goals_open : r ≢ length list → reaches s (get_or list r 0) ≡ false → holds s (goals t) ≡ false
  goals_open z u = rw (← e) (F→false (holds s (facts_of list)) (λ h. subst T u (holds_each s list h r (omega (arith, P.to)))))
