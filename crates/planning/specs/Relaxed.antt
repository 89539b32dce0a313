-- Forward run and relaxed plan (4).
use Rattle.std.specs.Prelude.{ℕ, zero, suc, pred, Bool, true, false, not, ◌&&◌, ◌||◌, List, [], ◌∷◌, eqb, ltb}
use Rattle.std.proofs.Math.Option.{Option, none, some}
use Rattle.planning.specs.Basics.{some_below, first, total}
use Rattle.planning.specs.Record.{Fact, Action, Task}
use Rattle.planning.specs.Runs.{State, has, holds, step, relaxed, run, variables, actions, count, act, initial, goals, facts_in}

-- 4.1: action i adds a fact
unfoldable pub adds : (ℕ → Action) → State → ℕ → Bool
adds act s i = holds s (act i).pre && not (holds s (act i).eff)

-- 4.2: action i adds a fact, and none that adds one costs less
unfoldable pub cheapest : (ℕ → Action) → ℕ → State → ℕ → Bool
cheapest act A s i = adds act s i && not (some_below A (λ j. adds act s j && ltb (act j).cost (act i).cost))

-- 4.2: the action taken next, if one adds a fact
abbrev pub choice : (ℕ → Action) → ℕ → State → Option ℕ
choice act A s = first A (cheapest act A s)

-- 4.2: the forward run from the state s, cut after k actions
unfoldable pub forward : (ℕ → Action) → ℕ → List Fact → ℕ → State → List ℕ
forward act A goal zero s = []
forward act A goal (suc k) s =
    elim (holds s goal) [ true ↦ [] | false ↦ elim (choice act A s) [ none ↦ [] | some i ↦ i ∷ forward act A goal k (step relaxed (act i) s) ] ]

-- 1.7: F, the facts that a run can add
unfoldable pub addable : Task → ℕ
addable t = total (variables t) (λ v. pred (count t v))

-- 4.2: F actions are enough; the state at the end
unfoldable pub forward_run : Task → List ℕ
forward_run t = forward (act t) (actions t) (goals t) (addable t) (initial t)

unfoldable pub forward_end : Task → State
forward_end t = run (act t) relaxed (forward_run t) (initial t)

-- 4.4: the forward run ends with all goals held
unfoldable pub reaches_goals : Task → Bool
reaches_goals t = holds (forward_end t) (goals t)

-- 4.3: facts reached
unfoldable pub facts_reached : Task → ℕ
facts_reached t = facts_in t (forward_end t)

-- 4.5: the first achiever of v = d in the list, run from the state s
unfoldable pub first_achiever : (ℕ → Action) → List ℕ → State → ℕ → ℕ → Option ℕ
first_achiever act [] s v d = none
first_achiever act (i ∷ l) s v d = elim (has (act i).eff v d && not (s v d)) [ true ↦ some i | false ↦ first_achiever act l (step relaxed (act i) s) v d ]

-- action i is the one named, if one is
unfoldable pub is : ℕ → Option ℕ → Bool
is i none = false
is i (some j) = eqb i j

-- 4.6: action i is the first achiever of a needed fact among its effects fs
unfoldable pub reached_needed : (ℕ → ℕ → Option ℕ) → State → ℕ → List Fact → Bool
reached_needed by needed i [] = false
reached_needed by needed i (f ∷ fs) = (is i (by f.var f.val) && needed f.var f.val) || reached_needed by needed i fs

-- 4.6: what is kept of a list, and the facts that are needed before it; its last entry is decided first
pub record Kept : Type 0 where
  pub actions' : List ℕ
  pub needed : State

unfoldable pub keep : (ℕ → Action) → (ℕ → ℕ → Option ℕ) → List Fact → List ℕ → Kept
keep act by goal [] = record { actions' = []; needed = has goal }
keep act by goal (i ∷ l) =
    let r = keep act by goal l in
    elim (reached_needed by r.needed i (act i).eff) [
      | true ↦ record { actions' = i ∷ r.actions'; needed = λ v d. has (act i).pre v d || r.needed v d }
      | false ↦ r
    ]

-- 4.7: the relaxed plan
unfoldable pub relaxed_plan : Task → List ℕ
relaxed_plan t = (keep (act t) (first_achiever (act t) (forward_run t) (initial t)) (goals t) (forward_run t)).actions'
