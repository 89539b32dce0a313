-- The loops that fill the loaded task, its checks beside it. Facts of all actions follow each other in the record and in the list, so that what is
-- written at one action leaves the rows and the facts of earlier ones alone.
use mathlib.Core.Path.{◌≡◌, refl, sym, ap, ◌∙◌, subst}
use mathlib.Core.Logic.{inl, inr}
use mathlib.Core.Bool.{true, false}
use mathlib.Core.List.{List}
use mathlib.Core.Option.{none}
use Prim.Native.Nat.{ℕ, zero, suc, ◌+◌, ◌-◌, ◌*◌, ◌/◌, ◌%◌, ◌^◌, ◌<◌, ◌≤◌}
use native.Mathlib.Nat.{add-zero}
use native.Mathlib.Numerals.{add-one}
use native.Mathlib.Omega.{arith}
use native.Mathlib.Decide.{ℕ_discrete, dec_lt}
use lib.ListN.{length, get_or, set, length-set}
use lib.Seq.{slice-cons, slice_empty, get_or-set_same, get_or-set_other, ext_get_or}
use Rattle.std.specs.Prelude.{Result, Ok, Err, is_ok}
use Rattle.answers.specs.declared.Refusal.{Refusal}
use Rattle.answers.specs.Answers.{number_of, check_of}
use Rattle.planning.specs.Basics.{Check, refuse, in_order, bits_at}
use Rattle.planning.specs.Record.{variable_bit, Task, variables_in, actions_in, preconditions_in, effects_in, effects_from, variable_at, facts_at, action_at, action_end, actions_end, count_in, task_of}
use Rattle.planning.specs.Record.{actions_checks, record_check}
use Rattle.planning.specs.Runs.{no_variable, no_action, variables, actions, variable, act}
use Rattle.laws.proofs.Fields.{bits_at_below, task_of_variables, task_of_actions, task_of_variable, task_of_act, action_start}
use Rattle.laws.proofs.Formed.{formed_of}
use Rattle.bits.specs.Windows.{Leading}
use Rattle.bits.proofs.Window.{bits_at_add}
use Rattle.record.proofs.Laws.{false_not, leading_fact, Run, run_start}
use Rattle.task.specs.Task.{cell, heads_at, facts_in, variable_in, action_in, task_in, Row, Loaded, links_end, action_rows, end_at}
use Rattle.task_size.specs.Size.{facts_of, facts_from, task_size}
use Rattle.task.specs.Rows.{RowWritten}
use Rattle.loader.specs.Loading.{FactsLoaded, Placed, ActionLoaded, VariablePlaced, VariableLoaded, Headed}
use Rattle.loader.proofs.Cut.{fact_of_bits, variable_cut}
use Rattle.task_size.proofs.Size.{action_end_is, actions_end_more, actions_end_is, facts_from_more, facts_from_mono, facts_from_le}
use Rattle.task.proofs.Reading.{task_in_variables, task_in_actions, task_in_variable, task_in_act}

-- the first n of the four facts at the front of a window
module _ (s : List ℕ) (at n to w x y z u : ℕ) (task : List ℕ) (L : Leading s at w) (few : n ≤ 4) (there : at + 12 * n ≤ 8 * length s) (room : to + 4 ≤ length task) where
  abbrev four₁ : List ℕ
  four₁ = set task to x

  abbrev four₂ : List ℕ
  four₂ = set four₁ (to + 1) y

  abbrev four₃ : List ℕ
  four₃ = set four₂ (to + 2) z

  abbrev four : List ℕ
  four = set four₃ (to + 3) u

  pub facts_few : x ≡ w / 2 ^ 52 % 4096 → y ≡ w / 2 ^ 40 % 4096 → z ≡ w / 2 ^ 28 % 4096 → u ≡ w / 2 ^ 16 % 4096 → FactsLoaded s at n to task four
  facts_few ex ey ez eu =
      record {
        long = simp length-set;
        facts = fact;
        kept = λ k h. get_or-set_other four₃ (to + 3) k u 0 (λ q. omega arith)
            ∙ get_or-set_other four₂ (to + 2) k z 0 (λ q. omega arith)
            ∙ get_or-set_other four₁ (to + 1) k y 0 (λ q. omega arith)
            ∙ get_or-set_other task to k x 0 (λ q. omega arith);
      }
    where
      fact : (k : ℕ) → k < n → get_or four (to + k) 0 ≡ bits_at s (at + 12 * k) 12
      fact zero h =
          let p : to + 0 ≡ to = omega arith in
          rw p
          (get_or-set_other four₃ (to + 3) to u 0 (λ q. omega arith)
          ∙ get_or-set_other four₂ (to + 2) to z 0 (λ q. omega arith)
          ∙ get_or-set_other four₁ (to + 1) to y 0 (λ q. omega arith)
          ∙ get_or-set_same task to x 0 (omega arith)
          ∙ ex
          ∙ leading_fact s at w 0 L (omega arith) (omega arith))
      fact (suc zero) h =
          get_or-set_other four₃ (to + 3) (to + 1) u 0 (λ q. omega arith)
          ∙ get_or-set_other four₂ (to + 2) (to + 1) z 0 (λ q. omega arith)
          ∙ get_or-set_same four₁ (to + 1) y 0 (simp length-set (omega arith))
          ∙ ey ∙ leading_fact s at w 1 L (omega arith) (omega arith)
      fact (suc (suc zero)) h =
          get_or-set_other four₃ (to + 3) (to + 2) u 0 (λ q. omega arith)
          ∙ get_or-set_same four₂ (to + 2) z 0 (simp length-set (omega arith))
          ∙ ez ∙ leading_fact s at w 2 L (omega arith) (omega arith)
      fact (suc (suc (suc zero))) h = get_or-set_same four₃ (to + 3) u 0 (simp length-set (omega arith)) ∙ eu ∙ leading_fact s at w 3 L (omega arith) (omega arith)
      fact (suc (suc (suc (suc k)))) h = absurd (omega arith)

-- m facts behind k
pub facts_more : (s : List ℕ) (at k m n to : ℕ) (before task after : List ℕ) → FactsLoaded s at k to before task → FactsLoaded s (at + 12 * k) m (to + k) task after → n ≡ k + m
    → FactsLoaded s at n to before after
facts_more s at k m n to before task after L M e =
    record {
      long = M.long ∙ L.long;
      facts = λ j h. go j h (dec_lt j k);
      kept = λ j h. M.kept j (omega arith) ∙ L.kept j h;
    }
  where
    go : (j : ℕ) → j < n → Dec (j < k) → get_or after (to + j) 0 ≡ bits_at s (at + 12 * j) 12
    go j h (yes l) = M.kept (to + j) (omega arith) ∙ L.facts j l
    go j h (no g) =
        let p : to + j ≡ to + k + (j - k) = omega arith in
        let q : at + 12 * k + 12 * (j - k) ≡ at + 12 * j = omega arith in
        ap (λ (x : ℕ). get_or after x 0) p ∙ M.facts (j - k) (omega arith) ∙ ap (λ (x : ℕ). bits_at s x 12) q

-- the loop over the facts of a list: those before the last `left` passed and are loaded, and the next goes to place `to`
pub record Filling (s : List ℕ) (from count first : ℕ) (before task : List ℕ) (at low left to : ℕ) : Type 0 where
  pub run : Run s from count at low left
  pub place : to ≡ first + (count - left)
  pub loaded : FactsLoaded s from (count - left) first before task

pub filling_start : (s : List ℕ) (from count first : ℕ) (task : List ℕ) → Filling s from count first task task from 0 count first
filling_start s from count first task =
    let z : count - count ≡ 0 = omega arith in
    record {
      run = run_start s from count;
      place = omega arith;
      loaded = record { long = refl; facts = λ k h. absurd (omega arith); kept = λ k h. refl };
    }

module _ (s : List ℕ) (from count first : ℕ) (before task : List ℕ) (at low left to : ℕ) (F : Filling s from count first before task at low left to) where
  -- m more
  filling_more : (m : ℕ) (after : List ℕ) → m ≤ left → FactsLoaded s at m to task after → FactsLoaded s from (count - (left - m)) first before after
  filling_more m after h M =
      let W = F.run.within in
      let p : at ≡ from + 12 * (count - left) = omega (arith, F.run.place) in
      let M' = rw (p, F.place) at M in
      facts_more s from (count - left) m (count - (left - m)) first before task after F.loaded M' (omega arith)

  pub filling_turn : (after : List ℕ) (r : ℕ) → 4 < left → Run s from count (at + 48) r (left - 4) → FactsLoaded s at 4 to task after
      → Filling s from count first before after (at + 48) r (left - 4) (to + 4)
  filling_turn after r h R M = record { run = R; place = omega (arith, F.place, F.run.within); loaded = filling_more 4 after (omega arith) M }

  pub filling_last : (after : List ℕ) → FactsLoaded s at left to task after → FactsLoaded s from count first before after
  filling_last after M = let e : count - (left - left) ≡ count = omega arith in rw e at (filling_more left after (omega arith) M)

  pub filling_done : left ≡ 0 → FactsLoaded s from count first before task
  filling_done h = let e : count - left ≡ count = omega arith in rw e at F.loaded

-- a row, then facts behind it: the action is placed, the rest is kept
pub action_loaded : (s : List ℕ) (at r to : ℕ) (before row after : List ℕ) (c p n : ℕ) → 4 * r + 4 ≤ to → RowWritten r c to (to + p) (to + n) before row → FactsLoaded s (at + 24) n to row after
    → c ≡ bits_at s at 16 → p ≡ preconditions_in s at → n ≡ facts_of s at → ActionLoaded s at r to before after n
action_loaded s at r to before row after c p n R W L ec ep en =
    let kept : (d : ℕ) → d < 4 → cell after r d ≡ cell row r d = λ d l. L.kept (4 * r + d) (omega arith) in
    record {
      long = L.long ∙ W.long;
      count = en;
      placed = record {
        cost = kept 0 (omega arith) ∙ W.first ∙ ec;
        pre = kept 1 (omega arith) ∙ W.second;
        eff = kept 2 (omega arith) ∙ W.third ∙ ap (λ (x : ℕ). to + x) ep;
        end = kept 3 (omega arith) ∙ W.fourth ∙ ap (λ (x : ℕ). to + x) en;
        facts = λ k h. L.facts k (omega arith);
      };
      kept_rows = λ k h. L.kept k (omega arith) ∙ W.kept k (inl h);
      kept_facts = λ k h l. L.kept k l ∙ W.kept k (inr h);
    }

-- a variable's row
pub variable_loaded : (s : List ℕ) (v : ℕ) (before after : List ℕ) (b : ℕ) → b ≡ bits_at s (variable_bit v) 20
    → RowWritten (1 + v) (b / 16384 + 1) (b / 8192 % 2) (b / 128 % 64) (b % 128) before after → VariableLoaded s v before after
unfolding count_in
variable_loaded s v before after b e W =
    let f = variable_cut s (variable_bit v) b e in
    record {
      long = W.long;
      placed = record { count = W.first ∙ ap (λ (x : ℕ). x + 1) f.0; black = W.second ∙ f.1; init = W.third ∙ f.2; goal = W.fourth ∙ f.3 };
      kept = λ k h. W.kept k (inl h);
    }

-- rows 0 to 64: those of the variables below v are written
pub record Heading (s before task : List ℕ) (v : ℕ) : Type 0 where
  pub within : v ≤ variables_in s
  pub long : length task ≡ length before
  pub count : cell task 0 0 ≡ variables_in s
  pub actions' : cell task 0 1 ≡ actions_in s
  pub so_far : (w : ℕ) → w < v → VariablePlaced s w task

variable_as : (s before after : List ℕ) (w : ℕ) → ((d : ℕ) → d < 4 → cell after (1 + w) d ≡ cell before (1 + w) d) → VariablePlaced s w before → VariablePlaced s w after
variable_as s before after w kept P = record {
  count = kept 0 (omega arith) ∙ P.count;
  black = kept 1 (omega arith) ∙ P.black;
  init = kept 2 (omega arith) ∙ P.init;
  goal = kept 3 (omega arith) ∙ P.goal;
}

placed_kept : (s before after : List ℕ) (w n : ℕ) → ((k : ℕ) → k < n → get_or after k 0 ≡ get_or before k 0) → 4 * (1 + w) + 4 ≤ n → VariablePlaced s w before → VariablePlaced s w after
placed_kept s before after w n kept h P = variable_as s before after w (λ d l. kept (4 * (1 + w) + d) (omega arith)) P

pub heading_turn : (s before task : List ℕ) (v : ℕ) → Heading s before task v → v < variables_in s → (after : List ℕ) → VariableLoaded s v task after → Heading s before after (v + 1)
heading_turn s before task v H h after A = record {
  within = omega arith;
  long = A.long ∙ H.long;
  count = A.kept 0 (omega arith) ∙ H.count;
  actions' = A.kept 1 (omega arith) ∙ H.actions';
  so_far = λ w b. go w b (ℕ_discrete w v);
}
  where
    go : (w : ℕ) → w < v + 1 → Dec (w ≡ v) → VariablePlaced s w after
    go w b (yes q) = rw q A.placed
    go w b (no q) = placed_kept s task after w (4 * (1 + v)) A.kept (omega arith) (H.so_far w (omega arith))

pub heading_done : (s before task : List ℕ) (v : ℕ) → Heading s before task v → variables_in s ≤ v → Headed s task
heading_done s before task v H h = record { variables = H.count; actions = H.actions'; each = λ w b. H.so_far w (omega arith) }

-- what the check of the end says where it is only asked whether it passed
pub end_passes : (r : Result Unit Refusal) (k : Check) → check_of r ≡ k → true ≡ is_ok r → k ≡ none
end_passes (Ok u) k h e = sym h
end_passes (Err f) k h e = absurd (false_not (sym e))

pub end_stops : (r : Result Unit Refusal) (k : Check) → check_of r ≡ k → false ≡ is_ok r → k ≡ none → ⊥
end_stops (Ok u) k h e q = absurd (false_not e)
end_stops (Err f) k h e q = let z : refuse (number_of f.reason) f.place ≡ none = h ∙ q in cc

pub actions_as : (s : List ℕ) (n a : ℕ) → n ≡ variables_in s → a ≡ actions_in s → in_order (actions_checks s (variable_bit n) a) ≡ in_order (actions_checks s (variable_bit (variables_in s)) (actions_in s))
actions_as s n a en ea = rw (en, ea) refl

-- the place of the first fact of action i
unfoldable pub place_of : List ℕ → ℕ → ℕ
place_of s i = 4 * (action_rows + actions_in s) + facts_from s (variable_bit (variables_in s)) i

-- the loop over actions: those before i are in the list
pub record Loading (s before task : List ℕ) (at i to : ℕ) : Type 0 where
  pub within : i ≤ actions_in s
  pub bit : at ≡ action_start s i
  pub place : to ≡ place_of s i
  pub long : length task ≡ length before
  pub head : Headed s task
  pub rows : (j : ℕ) → j < i → Placed s (action_start s j) (action_rows + j) (place_of s j) task

pub loading_start : (s before task : List ℕ) (v n : ℕ) → v ≡ variables_in s → n ≡ actions_in s → Headed s task → length task ≡ length before
    → Loading s before task (variable_bit v) 0 (4 * (action_rows + n))
unfolding place_of facts_from actions_end
loading_start s before task v n ev en H l = record {
  within = omega arith;
  bit = omega arith;
  place = omega arith;
  long = l;
  head = H;
  rows = λ j h. absurd (omega arith);
}

module _ (s : List ℕ) where
  place_of_more : (i : ℕ) → place_of s (i + 1) ≡ place_of s i + facts_of s (action_start s i)
  unfolding place_of
  place_of_more i = rw add-one (omega (arith, facts_from_more s (variable_bit (variables_in s)) i))

  action_start_more : (i : ℕ) → action_start s (i + 1) ≡ action_start s i + 24 + 12 * facts_of s (action_start s i)
  action_start_more i = rw (add-one, actions_end_more s (variable_bit (variables_in s)) i) (action_end_is s (action_start s i))

  place_of_mono : (i j : ℕ) → i ≤ j → place_of s i ≤ place_of s j
  unfolding place_of
  place_of_mono i j h = omega (arith, facts_from_mono s (variable_bit (variables_in s)) i j h)

  -- behind action i the list has the places up to the next, and all lie behind the rows
  place_of_next : (i j : ℕ) → i < j → place_of s i + facts_of s (action_start s i) ≤ place_of s j
  place_of_next i j h = omega (arith, place_of_more i, place_of_mono (i + 1) j (omega arith))

  place_of_rows : (i : ℕ) → 4 * (action_rows + actions_in s) ≤ place_of s i
  unfolding place_of
  place_of_rows i = omega arith

  place_of_end : place_of s (actions_in s) + 64 * variables_in s ≡ task_size s
  unfolding place_of task_size
  place_of_end = refl

  pub loading_low : (before task : List ℕ) (at i to : ℕ) → Loading s before task at i to → actions_in s ≤ 1024 → to ≤ 36164
  unfolding place_of
  loading_low before task at i to L c = omega (arith, L.place, L.within, facts_from_le s (variable_bit (variables_in s)) i)

  module _ (before task : List ℕ) (at i to : ℕ) (L : Loading s before task at i to) (h : i < actions_in s) where
    pub loading_place : 1 ≤ variables_in s → variables_in s ≤ 64 → actions_in s ≤ 1024 → (42 ≤ at) × (at ≤ 400000) × (4 * (action_rows + i) + 4 ≤ to) × (to ≤ 65000)
    unfolding place_of
    loading_place a b c =
        let e = actions_end_is s (variable_bit (variables_in s)) i in
        let l = facts_from_le s (variable_bit (variables_in s)) i in
        (omega (arith, L.bit), omega (arith, L.bit), omega (arith, L.place), omega (arith, L.place))

    pub loading_room : 1 ≤ variables_in s → task_size s ≤ length before → to + facts_of s at + 4 ≤ length task
    loading_room v r = rw (L.bit, L.place) (omega (arith, place_of_next i (actions_in s) h, place_of_end, L.long))

    -- an action that is placed stays so
    stays : (after : List ℕ) (n : ℕ) → ActionLoaded s at (action_rows + i) to task after n → (j : ℕ) → j < i → Placed s (action_start s j) (action_rows + j) (place_of s j) after
    stays after n A j l =
        let P = L.rows j l in
        record {
          cost = A.kept_rows (4 * (action_rows + j) + 0) (omega arith) ∙ P.cost;
          pre = A.kept_rows (4 * (action_rows + j) + 1) (omega arith) ∙ P.pre;
          eff = A.kept_rows (4 * (action_rows + j) + 2) (omega arith) ∙ P.eff;
          end = A.kept_rows (4 * (action_rows + j) + 3) (omega arith) ∙ P.end;
          facts = λ k b. A.kept_facts (place_of s j + k) (omega (arith, place_of_rows j)) (omega (arith, L.place, place_of_next j i l)) ∙ P.facts k b;
        }

    pub loading_turn : variables_in s ≤ 64 → (after : List ℕ) (n : ℕ) → ActionLoaded s at (action_rows + i) to task after n → Loading s before after (at + (24 + 12 * n)) (i + 1) (to + n)
    loading_turn few after n A =
        let c : n ≡ facts_of s (action_start s i) = A.count ∙ ap (facts_of s) L.bit in
        record {
          within = omega arith;
          bit = omega (arith, action_start_more i, L.bit);
          place = omega (arith, place_of_more i, L.place);
          long = A.long ∙ L.long;
          head = record {
            variables = A.kept_rows 0 (omega arith) ∙ L.head.variables;
            actions = A.kept_rows 1 (omega arith) ∙ L.head.actions;
            each = λ w b. placed_kept s task after w (4 * (action_rows + i)) A.kept_rows (omega arith) (L.head.each w b);
          };
          rows = λ j b. go j b (ℕ_discrete j i);
        }
      where
        here : Placed s (action_start s i) (action_rows + i) (place_of s i) after
        here = subst (λ x. Placed s x (action_rows + i) (place_of s i) after) L.bit (subst (λ x. Placed s at (action_rows + i) x after) L.place A.placed)

        go : (j : ℕ) → j < i + 1 → Dec (j ≡ i) → Placed s (action_start s j) (action_rows + j) (place_of s j) after
        go j b (yes q) = rw q here
        go j b (no q) = stays after n A j (omega arith)

    pub action_ends : (after : List ℕ) (n : ℕ) → ActionLoaded s at (action_rows + i) to task after n → action_end s at ≡ at + (24 + 12 * n)
    action_ends after n A = omega (arith, A.count, action_end_is s at)

-- facts read back from their numbers
facts_in_read : (s task : List ℕ) (a p n : ℕ) → a + n ≤ length task → ((k : ℕ) → k < n → get_or task (a + k) 0 ≡ bits_at s (p + 12 * k) 12) → facts_in task a (a + n) ≡ facts_at s p n
unfolding facts_in facts_at
facts_in_read s task a p zero h f = rw (add-zero, slice_empty a task) refl
facts_in_read s task a p (suc n) h f =
    let e : get_or task a 0 ≡ bits_at s p 12 = subst (λ x. get_or task x 0 ≡ bits_at s p 12) (omega arith) (f 0 (omega arith) ∙ ap (λ (x : ℕ). bits_at s x 12) (omega arith)) in
    let m : a + suc n ≡ suc a + n = omega arith in
    let r = facts_in_read s task (suc a) (p + 12) n (omega arith)
    (λ k b. subst (λ x. get_or task x 0 ≡ bits_at s (p + 12 + 12 * k) 12) (omega arith) (f (suc k) (omega arith) ∙ ap (λ (x : ℕ). bits_at s x 12) (omega arith))) in
    rw (slice-cons a (a + suc n) task 0 (omega arith) h, e, fact_of_bits s p, m, r) refl

-- a placed action is what its row states
placed_action : (s task : List ℕ) (i to at : ℕ) → Placed s at (action_rows + i) to task → to + facts_of s at ≤ length task → action_in task i ≡ action_at s at
unfolding action_in action_at effects_from facts_of
placed_action s task i to at P room =
    let p = preconditions_in s at in
    let pre : facts_in task to (to + p) ≡ facts_at s (at + 24) p = facts_in_read s task to (at + 24) p (omega arith) (λ k b. P.facts k (omega arith)) in
    let eff : facts_in task (to + p) (to + p + effects_in s at) ≡ facts_at s (at + 24 + 12 * p) (effects_in s at) =
    facts_in_read s task (to + p) (at + 24 + 12 * p) (effects_in s at) (omega arith)
    (λ k b. subst (λ x. get_or task x 0 ≡ bits_at s (at + 24 + 12 * p + 12 * k) 12) (omega arith) (P.facts (p + k) (omega arith) ∙ ap (λ (x : ℕ). bits_at s x 12) (omega arith))) in
    let end : end_at task i ≡ to + p + effects_in s at = P.end ∙ omega arith in
    rw (P.cost, P.pre, P.eff, end, pre, eff) refl

placed_row : (s task : List ℕ) (r to at : ℕ) → Placed s at r to task → to + facts_of s at ≤ heads_at task → 4 * r + 4 ≤ to → links_end ≤ to → heads_at task ≤ length task → Row task r
unfolding facts_of
placed_row s task r to at P fits h b room = record {
  room = omega arith;
  behind = omega (arith, P.pre);
  pre_below = omega (arith, P.pre, P.eff);
  eff_below = omega (arith, P.eff, P.end);
  end_below = omega (arith, P.end);
  apart = (omega arith, omega (arith, P.end));
}

-- a placed variable is what its row states: seven bits are a goal
placed_variable : (s task : List ℕ) (v : ℕ) → VariablePlaced s v task → variable_in task v ≡ variable_at s (variable_bit v)
unfolding variable_in variable_at count_in
placed_variable s task v P =
    let p = variable_bit v in
    let q : p + 13 + 1 ≡ p + 14 = omega arith in
    let g : cell task (1 + v) 3 ≡ bits_at s (p + 13) 1 * 64 + bits_at s (p + 14) 6 = P.goal ∙ (rw q at (bits_at_add s (p + 13) 1 6)) in
    let l = bits_at_below s (p + 14) 6 in
    let x : cell task (1 + v) 3 / 64 ≡ bits_at s (p + 13) 1 = omega arith in
    let y : cell task (1 + v) 3 % 64 ≡ bits_at s (p + 14) 6 = omega arith in
    rw (P.count, P.black, P.init, x, y) refl

-- two tasks with the same variables and the same actions
task_ext : (t u : Task) → variables t ≡ variables u → actions t ≡ actions u → ((v : ℕ) → v < variables t → variable t v ≡ variable u v) → ((i : ℕ) → i < actions t → act t i ≡ act u i) → t ≡ u
unfolding variable act
task_ext t u ev ea hv ha = rw (ext_get_or no_variable t.vars u.vars ev hv, ext_get_or no_action t.acts u.acts ea ha) refl

-- the place of the heads is written last: it stands in row 0, and nothing that is loaded does
module _ (s before task : List ℕ) (at i to : ℕ) (L : Loading s before task at i to) where
  kept : (k : ℕ) → (k ≡ 3 → ⊥) → get_or (set task 3 to) k 0 ≡ get_or task k 0
  kept k h = get_or-set_other task 3 k to 0 h

  pub loading_headed : Loading s before (set task 3 to) at i to
  loading_headed = record {
    within = L.within;
    bit = L.bit;
    place = L.place;
    long = length-set task 3 to ∙ L.long;
    head = record {
      variables = kept 0 (λ q. omega arith) ∙ L.head.variables;
      actions = kept 1 (λ q. omega arith) ∙ L.head.actions;
      each = λ v b. variable_as s task (set task 3 to) v (λ d _. kept (4 * (1 + v) + d) (λ q. omega arith)) (L.head.each v b);
    };
    rows = λ j b. let P = L.rows j b in record {
      cost = kept (4 * (action_rows + j) + 0) (λ q. omega arith) ∙ P.cost;
      pre = kept (4 * (action_rows + j) + 1) (λ q. omega arith) ∙ P.pre;
      eff = kept (4 * (action_rows + j) + 2) (λ q. omega arith) ∙ P.eff;
      end = kept (4 * (action_rows + j) + 3) (λ q. omega arith) ∙ P.end;
      facts = λ k l. kept (place_of s j + k) (λ q. omega (arith, place_of_rows s j)) ∙ P.facts k l;
    };
  }

module _ (s before task : List ℕ) (at i to : ℕ) (h : actions_in s ≤ i) (L : Loading s before task at i to) where
  last : to ≡ place_of s (actions_in s)
  last = L.place ∙ ap (place_of s) (omega (arith, L.within))

  pub loading_size : to + 64 * variables_in s ≡ task_size s
  loading_size = omega (arith, last, place_of_end s)

  placed : (j : ℕ) → j < actions_in s → Placed s (action_start s j) (action_rows + j) (place_of s j) task
  placed j b = L.rows j (omega arith)

  fits : (j : ℕ) → j < actions_in s → place_of s j + facts_of s (action_start s j) ≤ to
  fits j b = omega (arith, place_of_next s j (actions_in s) b, last)

  module _ (e : record_check s ≡ none) (r : to + 64 * variables_in s ≤ length before) where
    pub loading_task : task_in task ≡ task_of s
    loading_task =
        let vs : variables (task_in task) ≡ variables_in s = task_in_variables task ∙ L.head.variables in
        let acs : actions (task_in task) ≡ actions_in s = task_in_actions task ∙ L.head.actions in
        task_ext (task_in task) (task_of s) (vs ∙ sym (task_of_variables s)) (acs ∙ sym (task_of_actions s))
        (λ v b. let b' : v < variables_in s = omega arith in task_in_variable task v b ∙ placed_variable s task v (L.head.each v b') ∙ sym (task_of_variable s v b'))
        (λ j b. let b' : j < actions_in s = omega arith in task_in_act task j b
        ∙ placed_action s task j (place_of s j) (action_start s j) (placed j b') (omega (arith, fits j b', L.long))
        ∙ sym (task_of_act s j b'))

    pub loading_done : heads_at task ≡ to → Loaded task
    loading_done q =
        let rows = place_of_rows s (actions_in s) in
        let l = L.long in
        let o = last in
        record {
          formed = rw loading_task (formed_of s e);
          head = omega arith;
          rows =
              λ j b. let b' : j < actions_in s = omega (arith, task_in_actions task, L.head.actions) in
              placed_row s task (action_rows + j) (place_of s j) (action_start s j) (placed j b') (omega (arith, fits j b'))
              (omega (arith, place_of_rows s j)) (omega (arith, place_of_rows s j)) (omega arith);
          heads = record { behind = omega arith; room = omega (arith, task_in_variables task, L.head.variables) };
        }
