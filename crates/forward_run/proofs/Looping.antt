-- One turn of the forward run. The ready action of lowest rank is taken out of the ready ones for good: if it adds a fact it is the
-- definition's next action, else it never will.
use mathlib.Core.Path.{◌≡◌, sym, subst}
use mathlib.Core.Logic.{◌⊎◌, inl, inr, ◌≢◌}
use mathlib.Core.Bool.{true, false, not}
use mathlib.Core.List.{List, []}
use mathlib.Core.Option.{some}
use Prim.Native.Nat.{ℕ, ◌+◌, ◌-◌, ◌*◌, ◌/◌, ◌%◌, ◌<◌}
use native.Mathlib.Omega.{arith}
use native.Mathlib.Decide.{dec_lt}
use Rattle.std.specs.Prelude.{Some, None}
use lib.Dec.{T, T_not, not_T, eqb, eqb_refl}
use lib.ListN.{length, get_or, set}
use Rattle.planning.specs.Basics.{tally}
use Rattle.planning.specs.Record.{Task}
use Rattle.planning.specs.Runs.{State, has, holds, step, relaxed, actions, act, initial, goals}
use Rattle.planning.specs.Relaxed.{choice}
use Rattle.laws.proofs.Tests.{and_l, and_r}
use Rattle.laws.proofs.Below.{tally_le}
use Rattle.laws.proofs.Facts.{◌⊆◌, holds→sub, sub→holds}
use Rattle.laws.proofs.Steps.{step_eff, step_keep, step_cases}
use Rattle.task.specs.Task.{facts_of, task_in, Loaded, States}
use Rattle.sets.specs.Sets.{sets_of}
use Rattle.forward_run.specs.declared.Ran.{Ran}
use Rattle.ready.specs.Ready.{member, Lowest, Without}
use Rattle.waiting.specs.Waiting.{reaches, Passing, Unmet, Settled, Headed, ByCost}
use Rattle.forward_run.specs.Running.{RanOf}
use Rattle.waiting.proofs.Places.{passing_more, effects_headed}
use Rattle.waiting.proofs.Chains.{tally_fewer, passing_up, sites_none, sites_first, sites_leave}
use Rattle.forward_run.proofs.Running.{Going, going_start, going_on, going_take, ended_met, ended_none, goals_met, goals_open}

-- what holds before each turn: the goals before place k are reached, and each action is where it belongs, but for those that wait for
-- the facts reached last, the effects of the action taken last
pub record Looping (task order list plan sets work ready : List ℕ) (n k : ℕ) (last : List ℕ) : Type 0 where
  pub loaded : Loaded task
  pub by_cost : ByCost task order
  pub goals_are : States list (goals (task_in task))
  pub met : Passing (sets_of sets) list 0 (length list) k
  pub going : Going (task_in task) plan (sets_of sets) n
  pub facts : Headed task last
  pub settled : Settled task order (sets_of sets) (has (facts_of last)) work ready

-- What falls with each turn: actions whose effects are not all reached, then whether facts are to be looked at, then ready actions.
unfoldable pub left : List ℕ → List ℕ → List ℕ → List ℕ → ℕ
left task sets ready last =
    2048 * tally (actions (task_in task)) (λ j. not (holds (sets_of sets) (act (task_in task) j).eff)) + 1024 * (1 - (1 - length last)) + tally 1024 (member ready)

pub looping_start : {task order list plan sets work ready : List ℕ} → Loaded task → ByCost task order → States list (goals (task_in task))
    → length plan ≡ 1024 → sets_of sets ≡ initial (task_in task) → Settled task order (sets_of sets) (has []) work ready
    → Looping task order list plan sets work ready 0 0 []
unfolding facts_of
looping_start {task} {order} {list} {plan} {sets} L R G p i S = record {
  loaded = L;
  by_cost = R;
  goals_are = G;
  met = record { from = omega arith; to = omega arith; passed = λ x a b. absurd (omega arith) };
  going = going_start L.formed plan (sets_of sets) p i;
  facts = λ x h. absurd (omega arith);
  settled = S;
}

-- the facts are looked at, and each action is where it belongs
module _ {task order list plan sets work₀ ready₀ work ready : List ℕ} {n k : ℕ} {last : List ℕ} (L : Looping task order list plan sets work₀ ready₀ n k last)
    (S : Settled task order (sets_of sets) (has []) work ready) where
  abbrev t : Task
  t = task_in task

  abbrev s : State
  s = sets_of sets

  free : (y : ℕ) → T (reaches (has []) y) → ⊥
  unfolding reaches has
  free y h = h

  module _ {r : ℕ} (U : Unmet s list k (length list) r) where
    upto : Passing s list 0 (length list) r
    upto = passing_more s list 0 (length list) k r L.met U.passing

    -- every goal is reached
    pub looping_solved : r ≡ length list → (q : Ran) → q.steps ≡ n → q.solved ≡ true → sets_of q.state.sets ≡ s → RanOf t plan q
    looping_solved e = ended_met L.loaded.formed L.going (goals_met t L.goals_are.stated upto e)

    module _ (open' : r ≢ length list) where
      unmet_goal : holds s (goals t) ≡ false
      unmet_goal = goals_open t L.goals_are.stated upto open' (U.open' (omega (arith, U.passing.to)))

      -- no action adds a fact
      pub looping_none : Lowest ready None → (q : Ran) → q.steps ≡ n → q.solved ≡ false → sets_of q.state.sets ≡ s → RanOf t plan q
      looping_none W = ended_none L.loaded.formed L.going unmet_goal (sites_none S free L.by_cost W)

      module _ {p : ℕ} (W : Lowest ready (Some p)) where
        rank_below : p < actions t
        rank_below = (S.sound p W.is).0

        module _ {i : ℕ} (is : i ≡ get_or order p 0) where
          pub chosen_below : i < actions t
          chosen_below = rw is (S.named p rank_below)

        module _ {i : ℕ} (is : i ≡ get_or order p 0) {ready' : List ℕ} (O : Without ready p ready') where
          fewer_ready : tally 1024 (member ready') < tally 1024 (member ready)
          fewer_ready =
              tally_fewer 1024 (member ready') (member ready) (λ j _ m. and_l (member ready j) (not (eqb j p)) (rw (O.are j) at m)) p W.few W.is
              (λ m. T_not (eqb p p) (and_r (member ready p) (not (eqb p p)) (rw (O.are p) at m)) (eqb_refl p))

          -- the action adds nothing, and is dropped
          module _ (h : holds s (act t i).eff ≡ true) where
            pub looping_drop : Looping task order list plan sets work ready' n r []
            unfolding facts_of
            looping_drop = record {
              loaded = L.loaded;
              by_cost = L.by_cost;
              goals_are = L.goals_are;
              met = upto;
              going = L.going;
              facts = λ x h. absurd (omega arith);
              settled = sites_leave s (has []) p ready' S (λ v d x. x) (rw (← is, h) tt) (λ y x. inl x) (λ y x. x) O;
            }

            pub drop_less : (length last ≡ 0 → ready ≡ ready₀) → left task sets ready' [] < left task sets ready₀ last
            unfolding left
            drop_less same = go (dec_lt 0 (length last))
              where
                go : Dec (0 < length last) → left task sets ready' [] < left task sets ready₀ last
                go (yes p) = omega (arith, fewer_ready, tally_le 1024 (member ready))
                go (no p) = rw (← same (omega arith)) (omega (arith, fewer_ready))

          -- the action adds a fact, and is taken
          module _ (h : holds s (act t i).eff ≡ false) where
            is_next : choice (act t) (actions t) s ≡ some i
            is_next = rw is (sites_first S free L.by_cost p W (rw (← is) h))

            pub take_room : n < 1024
            take_room = going_on L.loaded.formed L.going i unmet_goal is_next

            module _ (sets' : List ℕ) (stepped : sets_of sets' ≡ step relaxed (act t i) s) where
              grows : s ⊆ sets_of sets'
              grows v d x = subst (λ (z : State). T (z v d)) (sym stepped) (step_keep relaxed (act t i) s v d x (λ z _. z))

              has_all : T (holds (sets_of sets') (act t i).eff)
              has_all = sub→holds (sets_of sets') (act t i).eff (λ v d x. subst (λ (z : State). T (z v d)) (sym stepped) (step_eff relaxed (act t i) s v d x))

              comes : (y : ℕ) → T (reaches (sets_of sets') y) → T (reaches s y) ⊎ T (reaches (has (act t i).eff) y)
              unfolding reaches
              comes y x = elim (step_cases relaxed (act t i) s (y / 64) (y % 64) (subst (λ (z : State). T (z (y / 64) (y % 64))) stepped x)) [ inl p ↦ inr p | inr p ↦ inl p.0 ]

              taken : Settled task order (sets_of sets') (has (act t i).eff) work ready'
              taken = sites_leave (sets_of sets') (has (act t i).eff) p ready' S grows (rw (← is) has_all) comes (λ y x. absurd (free y x)) O

              module _ {last' : List ℕ} (E : States last' (act t i).eff) where
                pub looping_take : Looping task order list (set plan n i) sets' work ready' (n + 1) r last'
                looping_take = record {
                  loaded = L.loaded;
                  by_cost = L.by_cost;
                  goals_are = L.goals_are;
                  met = passing_up s (sets_of sets') list 0 (length list) r grows upto;
                  going = going_take L.loaded.formed L.going i (sets_of sets') unmet_goal is_next stepped;
                  facts = effects_headed task L.loaded i last' E.stated;
                  settled = rw E.stated taken;
                }

                still_new : (j : ℕ) → T (not (holds (sets_of sets') (act t j).eff)) → T (not (holds s (act t j).eff))
                still_new j x =
                    not_T (holds s (act t j).eff)
                    (λ y. T_not (holds (sets_of sets') (act t j).eff) x (sub→holds (sets_of sets') (act t j).eff (λ v d z. grows v d (holds→sub s (act t j).eff y v d z))))

                old : T (not (holds (sets_of sets') (act t i).eff)) → ⊥
                old x = T_not (holds (sets_of sets') (act t i).eff) x has_all

                pub take_less : left task sets' ready' last' < left task sets ready₀ last
                unfolding left
                take_less =
                    omega (
                      arith,
                      fewer_ready,
                      tally_le 1024 (member ready),
                      tally_fewer (actions t) (λ j. not (holds (sets_of sets') (act t j).eff)) (λ j. not (holds s (act t j).eff)) (λ j _. still_new j) i (chosen_below is) (rw h tt) old,
                    )
