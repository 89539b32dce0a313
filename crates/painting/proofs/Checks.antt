-- Check 8 of one action and of all in turn, and what both checks answer and leave.
use mathlib.Core.Path.{◌≡◌, refl, sym, ap, ◌∙◌}
use mathlib.Core.Bool.{Bool, true}
use mathlib.Core.List.{List, ◌++◌}
use mathlib.Core.Option as math
use Prim.Native.Nat.{ℕ, ◌+◌, ◌-◌, ◌*◌, ◌/◌, ◌%◌, ◌<◌, ◌≤◌}
use native.Mathlib.Omega.{arith}
use lib.Dec.{T}
use lib.ListN.{get_or, take, drop, length-take}
use lib.Seq.{take-add}
use Rattle.std.proofs.Common.{get_or-take, get_or-drop}
use Rattle.std.proofs.lemmas.List.{drop-drop, map-append}
use Rattle.std.specs.Prelude.{Option, None, Some, IfSome, Result}
use Rattle.planning.specs.Basics as basics
use Rattle.planning.specs.Basics.{Check, some_below, first, refuse_at, and_then}
use Rattle.planning.specs.Record.{Task}
use Rattle.planning.specs.Runs.{has, variables, actions, act, black, count}
use Rattle.planning.specs.Painting.{reduced_effects, black_arc, on_cycle, cyclic, lacks_return, unreturned, acyclic_check, return_check}
use Rattle.planning.specs.Repair.{order}
use Rattle.laws.proofs.Below.{First?, first_is}
use Rattle.laws.proofs.Checks.{refuse_at_none}
use Rattle.laws.proofs.Searches.{Searched, searched_start, searched_hit, searched_end}
use Rattle.laws.proofs.Arcs.{reduced_elim}
use Rattle.laws.proofs.Formed.{Formed}
use Rattle.answers.specs.declared.Refusal.{Refusal}
use Rattle.answers.specs.Answers.{check_of}
use Rattle.task.specs.Task.{fact_of, facts_of, pre_at, eff_at, end_at, task_in, Loaded}
use Rattle.task.specs.Goals.{option_of}
use Rattle.task.specs.Links.{Chained, Relinked}
use Rattle.task.proofs.Slices.{states_pre, states_eff}
use Rattle.sets.proofs.Facts.{all_inside}
use Rattle.task.proofs.Relinking.{relinked_task, relinked_none, relinked_trans}
use Rattle.sets.specs.Sets.{sets_of}
use Rattle.clients_first.specs.Order.{Ordered}
use Rattle.returns.specs.Returns.{mark_all, marked, Spans, Markable}
use Rattle.returns.proofs.Marks.{place_inside}
use Rattle.lacking.specs.declared.Allowing.{Allowing}
use Rattle.lacking.specs.Lacking.{Unmarked, lacks_by, Ready}
use Rattle.painting.specs.Chains.{Acyclic, Linked}
use Rattle.painting.specs.Answers.{lacks, Readied}
use Rattle.lacking.proofs.Marked.{unmarked_all, Allows, marks_allow, unmarked_more}
use Rattle.painting.proofs.Chains.{Move, acyclic_relinked, ordered_chained, ordered_relinked}
use Rattle.painting.proofs.Lacks.{has_right, facts_small, lacks_is}

-- the facts of an action, which stand one behind the other
module _ (task : List ℕ) (L : Loaded task) (i : ℕ) (h : i < actions (task_in task)) (a b : ℕ) (ea : a ≡ pre_at task i) (eb : b ≡ end_at task i) where
  pub all_stated : facts_of (take (b - a) (drop a task)) ≡ (act (task_in task) i).pre ++ (act (task_in task) i).eff
  unfolding facts_of
  all_stated =
      let R = L.rows i h in
      let q : b - a ≡ (m - a) + (b - m) = omega (arith, R.pre_below, R.eff_below) in
      let z : a + (m - a) ≡ m = omega (arith, R.pre_below) in
      ap (λ (n : ℕ). facts_of (take n (drop a task))) q
      ∙ ap facts_of (take-add (m - a) (b - m) (drop a task) ∙ ap (λ (l : List ℕ). take (m - a) (drop a task) ++ take (b - m) l) (drop-drop (m - a) a task ∙ ap (λ (n : ℕ). drop n task) z))
      ∙ map-append fact_of (take (m - a) (drop a task)) (take (b - m) (drop m task))
      ∙ rw ((states_pre task L i h a m ea refl).stated, (states_eff task L i h m b refl eb).stated) refl
    where
      m : ℕ
      m = eff_at task i

  pub all_markable : (marks : List ℕ) → Spans (task_in task) marks → (o : Option ℕ) → Markable (take (b - a) (drop a task)) o marks
  all_markable marks S o k l =
      let n : k < b - a = omega (arith, length-take {A = ℕ} (b - a) (drop a task)) in
      omega (arith, S, place_inside (variables (task_in task)) o (get_or (take (b - a) (drop a task)) k 0) (rw (get_or-take, get_or-drop) (all_inside task L i h (a + k) (omega arith) (omega arith))))

-- one action, which marks its facts with 2 × i
module _ (t : Task) (F : Formed t) (i : ℕ) (h : i < actions t) (marks : List ℕ) (U : Unmarked t (2 * i) marks) (f : ℕ) (K : Move (black t) (reduced_effects (act t i)) f) where
  small : 2 * i < 65535
  small = omega (arith, F.actions_max)

  module _ (facts marks' : List ℕ) (stated : facts_of facts ≡ (act t i).pre ++ (act t i).eff) (e : marks' ≡ mark_all (2 * i) (Some f) (facts_of facts) marks) where
    both : marks' ≡ mark_all (2 * i) (Some f) ((act t i).pre ++ (act t i).eff) marks
    both = e ∙ rw stated refl

    pub lacking_unmarked : Unmarked t (2 * i + 1) marks'
    lacking_unmarked = rw both (unmarked_all t (2 * i) (Some f) ((act t i).pre ++ (act t i).eff) marks (facts_small t F i) (unmarked_more t (2 * i) (2 * i + 1) marks U (omega arith)))

    pub lacking_move : cyclic t ≡ math.none → lacks_by t (marked (2 * i) marks') i (f / 64) (f % 64) ≡ lacks t i
    lacking_move Y = lacks_is t F i (f / 64) (f % 64) (marked (2 * i) marks') K.states allows h Y K.on
      where
        states : T (has ((act t i).pre ++ (act t i).eff) (f / 64) (f % 64))
        states = has_right (act t i).pre (act t i).eff (f / 64) (f % 64) (reduced_elim (act t i) (f / 64) (f % 64) K.states).0

        allows : Allows (variables t) (f / 64) (f % 64) ((act t i).pre ++ (act t i).eff) (marked (2 * i) marks')
        allows = rw both (marks_allow t (2 * i) ((act t i).pre ++ (act t i).eff) marks (facts_small t F i) small U f states)

-- all actions in turn
pub record Scanning (t : Task) (n : ℕ) (marks : List ℕ) (kept : List (Option Allowing)) (i : ℕ) : Type 0 where
  pub ready : Ready t (2 * i) marks kept
  pub searched : Searched n (lacks t) i

module _ (t : Task) (n : ℕ) (e : n ≡ actions t) where
  pub scanning_start : (marks : List ℕ) (kept : List (Option Allowing)) → Ready t 0 marks kept → Scanning t n marks kept 0
  scanning_start marks kept R = record { ready = R; searched = searched_start n (lacks t) }

  all_actions : first n (lacks t) ≡ unreturned t
  unfolding unreturned lacks
  all_actions = rw e refl

  module _ (marks : List ℕ) (kept : List (Option Allowing)) (i : ℕ) (S : Scanning t n marks kept i) (r : Bool) (answer : r ≡ lacks t i) (h : i < n) where
    pub scanning_hit : r ≡ true → math.some i ≡ unreturned t
    scanning_hit z = searched_hit n (lacks t) i S.searched h (sym answer ∙ z) ∙ all_actions

  pub scanning_end : (marks : List ℕ) (kept : List (Option Allowing)) (i : ℕ) → Scanning t n marks kept i → n ≤ i → math.none ≡ unreturned t
  scanning_end marks kept i S h = searched_end n (lacks t) i S.searched h ∙ all_actions

-- what was found is below the count
first_below : (n : ℕ) (p : ℕ → Bool) → n ≤ 65536 → (r : Option ℕ) → option_of r ≡ first n p → IfSome r (λ i. i < 65536)
first_below n p b None e = tt
first_below n p b (Some i) e = go (first n p) (first_is n p) e
  where
    go : (o : math.Option ℕ) → First? n p o → math.some i ≡ o → i < 65536
    go math.none f q = let z : ◌≡◌ {A = ℕ} 0 1 = cc in absurd (omega arith)
    go (math.some j) f q = let z : j ≡ i = cc in omega (arith, f.below)

pub cyclic_below : (t : Task) → Formed t → (r : Option ℕ) → option_of r ≡ cyclic t → IfSome r (λ p. p < 65536)
unfolding cyclic
cyclic_below t F = first_below (variables t) (on_cycle (variables t) (black_arc t)) (omega (arith, F.variables_max))

pub unreturned_below : (t : Task) → Formed t → (r : Option ℕ) → option_of r ≡ unreturned t → IfSome r (λ p. p < 65536)
unfolding unreturned
unreturned_below t F = first_below (actions t) (λ i. some_below (variables t) (λ v. some_below (count t v) (lacks_return t i v))) (omega (arith, F.actions_max))

-- the two checks
pub seven_passes : (t : Task) (c : Check) (o : math.Option ℕ) → c ≡ refuse_at 7 o → o ≡ cyclic t → c ≡ math.none → cyclic t ≡ math.none
seven_passes t c o e q z = sym q ∙ refuse_at_none 7 o (sym e ∙ z)

seven_refuses : (t : Task) (c : Check) (o : math.Option ℕ) (f : basics.Refusal) → c ≡ refuse_at 7 o → o ≡ cyclic t → c ≡ math.some f → c ≡ and_then (acyclic_check t) (return_check t)
unfolding acyclic_check and_then refuse_at
seven_refuses t c o f e q z =
    let a : refuse_at 7 (cyclic t) ≡ math.some f = ap (refuse_at 7) (sym q) ∙ sym e ∙ z in
    z ∙ rw a refl

eight_follows : (t : Task) (c : Check) (o : math.Option ℕ) → cyclic t ≡ math.none → c ≡ refuse_at 8 o → o ≡ unreturned t → c ≡ and_then (acyclic_check t) (return_check t)
unfolding acyclic_check return_check and_then refuse_at
eight_follows t c o y e q = e ∙ rw (q, y) refl

-- where 7 refuses, nothing is written
pub readied_seven : (task : List ℕ) (r : Result Unit Refusal) (f : basics.Refusal) (o : math.Option ℕ) → check_of r ≡ refuse_at 7 o → o ≡ cyclic (task_in task) → check_of r ≡ math.some f → Readied task r task
readied_seven task r f o e q z = record {
  answer = seven_refuses (task_in task) (check_of r) o f e q z;
  same = refl;
  relinked = relinked_none task;
  prepared = λ y. let c : ◌≡◌ {A = ℕ} 0 1 = cc in absurd (omega arith);
}

-- where 7 passes: the chains, then the order, then 8
module _ (before linked : List ℕ) (paint : ℕ) (A : Acyclic before paint) (L : Linked before linked) where
  pub linked_acyclic : Acyclic linked paint
  linked_acyclic = acyclic_relinked before linked paint A L.relinked

  pub linked_rows : (rows : List ℕ) → sets_of rows ≡ black_arc (task_in before) → sets_of rows ≡ black_arc (task_in linked)
  linked_rows rows e = e ∙ ap black_arc (sym (relinked_task before linked A.loaded L.relinked))

module _ (before linked after : List ℕ) (paint : ℕ) (A : Acyclic before paint) (L : Linked before linked) (O : Ordered linked after) where
  all : Relinked before after
  all = relinked_trans before linked after L.relinked (ordered_relinked linked after O)

  same : task_in after ≡ task_in before
  same = relinked_task before after A.loaded all

  pub readied_chained : Chained (task_in after) after
  readied_chained = rw same (ordered_chained (task_in before) linked after (linked_acyclic before linked paint A L).loaded.heads.behind O L.chained)

  pub readied_acyclic : Acyclic after paint
  readied_acyclic = acyclic_relinked before after paint A all

  pub readied_eight : (r : Result Unit Refusal) (o : math.Option ℕ) → check_of r ≡ refuse_at 8 o → o ≡ unreturned (task_in after) → Readied before r after
  readied_eight r o e q = record {
    answer = eight_follows (task_in before) (check_of r) o A.acyclic e (q ∙ ap unreturned same);
    same = same;
    relinked = all;
    prepared = λ z. record {
      loaded = readied_acyclic.loaded;
      acyclic = readied_acyclic.acyclic;
      returns = sym q ∙ refuse_at_none 8 o (sym e ∙ z);
      chained = readied_chained;
      few = O.few;
      ordered = O.ordered ∙ ap order (relinked_task before linked A.loaded L.relinked ∙ sym same);
    };
  }
