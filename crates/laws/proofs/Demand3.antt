-- Demand 3, for the planner as it is called. With the record accepted and the painting passed, the call answers in one of three ways:
-- 10 where the forward run stops short of the goals, and then no list is a red-black plan; 11 where the repaired plan is longer than
-- the capacity; else the repaired plan, a red-black plan of at most F × P steps.
use Prim.Native.Nat.{ℕ}
use mathlib.Core.Path.{◌≡◌, refl}
use mathlib.Core.Bool.{Bool, true, false}
use mathlib.Core.List.{List}
use lib.Dec.{leb, le→leb}
use lib.ListN.{length}
use native.Mathlib.Omega.{arith}
use Rattle.planning.specs.Record.{Task, task_of}
use Rattle.planning.specs.Runs.{black}
use Rattle.planning.specs.Relaxed.{reaches_goals}
use Rattle.planning.specs.Calls.{capacity_of, plan_of, plan_call}
use Rattle.planning.specs.Existence.{RedBlackPlan, Complete, Demand3}
use Rattle.laws.proofs.Formed.{Formed, formed_of}
use Rattle.laws.proofs.Forward.{unsolvable_none}
use Rattle.laws.proofs.Calls.{plan_of_is_plan, plan_of_length, plan_call_none, plan_call_long, plan_call_done}

pub demand3 : (s : List ℕ) (n w m : ℕ) → Demand3 s n w m (plan_call s n w m) (plan_of (task_of s))
demand3 s n w m rec acy ret = go (reaches_goals t) refl (leb (length l) (capacity_of n w m)) refl
  where
    t : Task
    t = task_of s

    l : List ℕ
    l = plan_of t

    F : Formed t
    F = formed_of s rec

    no_list : reaches_goals t ≡ false → (k : List ℕ) → RedBlackPlan t k → ⊥
    no_list e k p = unsolvable_none t F e (black t) k p

    go : (b : Bool) → reaches_goals t ≡ b → (c : Bool) → leb (length l) (capacity_of n w m) ≡ c → Complete t n w m (plan_call s n w m) l
    go false e c f = rw (plan_call_none s n w m rec acy ret e) (record {
      no_plan = λ _. no_list e;
      says_so = λ _. refl;
      is_red_black_plan = λ z. absurd z;
      short = λ z. absurd z;
      finds = λ _ _ k p. no_list e k p;
    })
    go true e false f = rw (plan_call_long s n w m rec acy ret e f) (record {
      no_plan = λ z. absurd (omega arith);
      says_so = λ h. absurd (h l (plan_of_is_plan t F acy ret e));
      is_red_black_plan = λ z. absurd z;
      short = λ z. absurd z;
      finds = λ _ h _ _. rw f at (le→leb (length l) (capacity_of n w m) (omega (arith, plan_of_length t F acy ret e)));
    })
    go true e true f = rw (plan_call_done s n w m rec acy ret e f) (record {
      no_plan = λ z. absurd z;
      says_so = λ h. h l (plan_of_is_plan t F acy ret e);
      is_red_black_plan = λ _. plan_of_is_plan t F acy ret e;
      short = λ _. plan_of_length t F acy ret e;
      finds = λ _ _ _ _. tt;
    })
