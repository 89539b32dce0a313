-- The loops of the way back: first achievers that join the set of wanted actions, and the run gone through. An action that first reached a
-- fact has it among its effects, so the first achievers of needed facts are the actions that first reached a needed effect of their own.
use mathlib.Core.Path.{◌≡◌, refl, sym, ap, ◌∙◌}
use mathlib.Core.Logic.{◌⊎◌, inl, inr}
use mathlib.Core.Bool.{Bool, true, false, not, ◌&&◌, ◌||◌, or_comm, or-false}
use mathlib.Core.List.{List, [], ◌∷◌}
use mathlib.Core.Option.{Option, none, some}
use Prim.Native.Nat.{ℕ, suc, ◌+◌, ◌-◌, ◌*◌, ◌/◌, ◌%◌, ◌^◌, ◌<◌, ◌≤◌}
use native.Mathlib.Omega.{arith}
use native.Mathlib.Decide.{ℕ_discrete}
use borrow.Author.Tests.{eq-eqb, ne_eqb}
use lib.Bits.{bit_or}
use lib.Dec.{T, eqb, eqb→eq, eqb_refl}
use lib.ListN.{length, get_or, set, take, drop, replicate, length-set}
use lib.Seq.{get_or-set_same, get_or-set_other, get_or-take, drop-cons, drop-length, drop-set-lt, take-set-le, take-take}
use Rattle.planning.specs.Record.{Fact, Action, Task}
use Rattle.planning.specs.Runs.{State, has, act, actions, step, relaxed, variables, count, initial, goals}
use Rattle.planning.specs.Relaxed.{forward_run, first_achiever, is, reached_needed, keep, relaxed_plan}
use Rattle.laws.proofs.Tests.{bool_same, or_l, or_r, or_cases, and_i, and_l, and_r}
use Rattle.laws.proofs.Lists.{get_d_zeros}
use Rattle.laws.proofs.Formed.{Formed, Sorted, sorted_has, goals_sorted}
use Rattle.laws.proofs.Achievers.{reached_needed_intro}
use Rattle.task.specs.Task.{fact_of, facts_of, task_in}
use Rattle.sets.specs.Sets.{in_set, listed}
use Rattle.sets.proofs.Members.{in_set_empty, in_set_added}
use Rattle.sets.proofs.Slices.{facts_of_drop, facts_of_end}
use Rattle.achievers.specs.Achievers.{achiever, AchievedFrom, Achieved, Replay}
use Rattle.achievers.proofs.Achievers.{run_long, run_at, entry_below, from_k}
use Rattle.extraction.specs.Keeping.{wants, by_of, Joined, Keeping}

-- one action joins the set, if it is one
module _ (ms : List ℕ) (a : ℕ) (n : length ms ≡ 16) where
  pub joined_one : (w : ℕ) → a < 1024 → w ≡ bit_or (get_or ms (a / 64) 0) (2 ^ (a % 64)) → Joined (λ i. eqb i a) ms (set ms (a / 64) w)
  unfolding listed
  joined_one w b e = record { long = simp length-set n; are = λ i _. go i (ℕ_discrete (i / 64) (a / 64)) }
    where
      same : (i : ℕ) → i / 64 ≡ a / 64 → Dec (i ≡ a) → eqb (i % 64) (a % 64) ≡ eqb i a
      same i q (yes p) = rw p (eq-eqb (a % 64) (a % 64) refl ∙ sym (eq-eqb a a refl))
      same i q (no p) = ne_eqb (i % 64) (a % 64) (λ r. p (omega arith)) ∙ sym (ne_eqb i a p)

      go : (i : ℕ) → Dec (i / 64 ≡ a / 64) → in_set (get_or (set ms (a / 64) w) (i / 64) 0) (i % 64) ≡ (eqb i a || in_set (get_or ms (i / 64) 0) (i % 64))
      go i (yes q) =
          let old = get_or ms (a / 64) 0 in
          rw (← same i q (ℕ_discrete i a), q, get_or-set_same ms (a / 64) w 0 (omega arith), e, in_set_added old (a % 64) (i % 64)) (or_comm (in_set old (i % 64)) (eqb (i % 64) (a % 64)))
      go i (no q) = rw (get_or-set_other ms (a / 64) (i / 64) w 0 q, ne_eqb i a (λ p. q (ap (λ x. x / 64) p))) refl

-- the first achievers of the facts from place k on are still to join the set
pub record Adding (fst facts ms₀ ms : List ℕ) (k : ℕ) : Type 0 where
  pub long : length ms ≡ 16
  pub so_far : (i : ℕ) → i < 1024 → (wants (by_of fst) (facts_of facts) i || listed ms₀ i) ≡ (wants (by_of fst) (facts_of (drop k facts)) i || listed ms i)

module _ (fst facts ms₀ ms : List ℕ) (k : ℕ) (A : Adding fst facts ms₀ ms k) where
  pub adding_turn : (x : ℕ) (ms' : List ℕ) → k < length facts → x ≡ get_or fst (get_or facts k 0) 0 → Joined (λ i. eqb i x) ms ms' → Adding fst facts ms₀ ms' (k + 1)
  unfolding wants reached_needed is by_of fact_of
  adding_turn x ms' h e J = record {
    long = J.long;
    so_far = λ i c.
        let f = get_or facts k 0 in
        let p : 64 * (f / 64) + f % 64 ≡ f = omega arith in
        A.so_far i c ∙ rw (facts_of_drop facts k h, J.are i c, p, e) (turn (eqb i (get_or fst f 0)) (wants (by_of fst) (facts_of (drop (k + 1) facts)) i) (listed ms i));
  }
    where
      turn : (x h s : Bool) → (((x && true) || h) || s) ≡ (h || (x || s))
      turn true true s = refl
      turn true false s = refl
      turn false true s = refl
      turn false false s = refl

  pub adding_end : length facts ≤ k → Joined (wants (by_of fst) (facts_of facts)) ms₀ ms
  unfolding wants reached_needed
  adding_end h = record { long = A.long; are = λ i c. sym (A.so_far i c ∙ rw (facts_of_end facts k h) refl) }

-- the test depends on the first achievers of the facts only
reached_needed_same : (by by' : ℕ → ℕ → Option ℕ) (N : State) (i : ℕ) (fs : List Fact) → ((v d : ℕ) → T (has fs v d) → is i (by v d) ≡ is i (by' v d))
    → reached_needed by N i fs ≡ reached_needed by' N i fs
unfolding reached_needed has
reached_needed_same by by' N i [] h = refl
reached_needed_same by by' N i (f ∷ fs) h =
    rw (
      h f.var f.val
          (or_l (eqb f.var f.var && eqb f.val f.val) (has fs f.var f.val) (and_i (eqb f.var f.var) (eqb f.val f.val) (eqb_refl f.var) (eqb_refl f.val))),
      reached_needed_same by by' N i fs (λ v d t. h v d (or_r (eqb v f.var && eqb d f.val) (has fs v d) t)),
    ) refl

is_achiever : (i : ℕ) (o : Option ℕ) → i < 65535 → is i (some (achiever o)) ≡ is i o
unfolding is achiever
is_achiever i none b = ne_eqb i 65535 (omega arith)
is_achiever i (some j) b = refl

module _ (by : ℕ → ℕ → Option ℕ) (i : ℕ) where
  -- of facts needed for two reasons
  reached_needed_or : (M N : State) (fs : List Fact) → reached_needed by (λ v d. M v d || N v d) i fs ≡ (reached_needed by M i fs || reached_needed by N i fs)
  unfolding reached_needed
  reached_needed_or M N [] = refl
  reached_needed_or M N (f ∷ fs) =
      rw (reached_needed_or M N fs) (split (is i (by f.var f.val)) (M f.var f.val) (N f.var f.val) (reached_needed by M i fs) (reached_needed by N i fs))
    where
      split : (x m n p q : Bool) → ((x && (m || n)) || (p || q)) ≡ (((x && m) || p) || ((x && n) || q))
      split false m n p q = refl
      split true true n p q = refl
      split true false n true q = or_comm n true
      split true false n false q = refl

  -- a needed fact that the action first reached
  record Reached (N : State) (fs : List Fact) : Type 0 where
    v : ℕ
    d : ℕ
    among : T (has fs v d)
    needed' : T (N v d)
    named : T (is i (by v d))

  reached_intro : (N : State) (fs : List Fact) → Reached N fs → T (reached_needed by N i fs)
  reached_intro N fs R = reached_needed_intro by N i fs R.v R.d R.among R.needed' R.named

  reached_elim : (N : State) (fs : List Fact) → T (reached_needed by N i fs) → Reached N fs
  unfolding reached_needed has
  reached_elim N [] t = absurd t
  reached_elim N (f ∷ fs) t = go (or_cases (name && N f.var f.val) (reached_needed by N i fs) t) (reached_elim N fs)
    where
      name : Bool
      name = is i (by f.var f.val)

      go : T (name && N f.var f.val) ⊎ T (reached_needed by N i fs) → (T (reached_needed by N i fs) → Reached N fs) → Reached N (f ∷ fs)
      go (inl x) g = record {
        v = f.var;
        d = f.val;
        among = or_l (eqb f.var f.var && eqb f.val f.val) (has fs f.var f.val) (and_i (eqb f.var f.var) (eqb f.val f.val) (eqb_refl f.var) (eqb_refl f.val));
        needed' = and_r name (N f.var f.val) x;
        named = and_l name (N f.var f.val) x;
      }
      go (inr x) g =
          let R = g x in
          record { v = R.v; d = R.d; among = or_r (eqb R.v f.var && eqb R.d f.val) (has fs R.v R.d) R.among; needed' = R.needed'; named = R.named }

  -- where it has each fact that it first reached among its effects gs
  reached_wants : (fs gs : List Fact) → ((v d : ℕ) → T (is i (by v d)) → T (has gs v d)) → reached_needed by (has fs) i gs ≡ wants by fs i
  unfolding wants
  reached_wants fs gs h =
      bool_same (reached_needed by (has fs) i gs) (reached_needed by (λ v d. true) i fs)
      (λ t. let R = reached_elim (has fs) gs t in reached_intro (λ v d. true) fs (record { v = R.v; d = R.d; among = R.needed'; needed' = tt; named = R.named }))
      (λ t. let R = reached_elim (λ v d. true) fs t in reached_intro (has fs) gs (record { v = R.v; d = R.d; among = h R.v R.d R.named; needed' = R.among; named = R.named }))

-- a first achiever has the fact among its effects
achiever_has : (act : ℕ → Action) (i : ℕ) (l : List ℕ) (s : State) (v d : ℕ) → T (is i (first_achiever act l s v d)) → T (has (act i).eff v d)
unfolding first_achiever is
achiever_has act i [] s v d t = absurd t
achiever_has act i (j ∷ l) s v d t = go (has (act j).eff v d && not (s v d)) refl t (achiever_has act i l (step relaxed (act j) s) v d)
  where
    rest : Option ℕ
    rest = first_achiever act l (step relaxed (act j) s) v d

    go : (b : Bool) → (has (act j).eff v d && not (s v d)) ≡ b → T (is i (elim b as (λ _. Option ℕ) [ true ↦ some j | false ↦ rest ])) → (T (is i rest) → T (has (act i).eff v d))
        → T (has (act i).eff v d)
    go true e t k = rw (eqb→eq i j t) (and_l (has (act j).eff v d) (not (s v d)) (rw e tt))
    go false e t k = k t

-- one step back over the run
module _ (act : ℕ → Action) (by : ℕ → ℕ → Option ℕ) (goal : List Fact) (i : ℕ) (l : List ℕ) where
  keep_yes : reached_needed by (keep act by goal l).needed i (act i).eff ≡ true
      → ((keep act by goal (i ∷ l)).actions' ≡ i ∷ (keep act by goal l).actions') × ((keep act by goal (i ∷ l)).needed ≡ (λ v d. has (act i).pre v d || (keep act by goal l).needed v d))
  unfolding keep
  keep_yes e = (rw (e, keep) refl, rw (e, keep) refl)

  keep_no : reached_needed by (keep act by goal l).needed i (act i).eff ≡ false → keep act by goal (i ∷ l) ≡ keep act by goal l
  unfolding keep
  keep_no e = rw (e, keep) refl

module _ {task run : List ℕ} {n : ℕ} (R : Replay task run n) where
  abbrev t : Task
  t = task_in task

  abbrev by : ℕ → ℕ → Option ℕ
  by = first_achiever (act t) (forward_run t) (initial t)

  formed : Formed t
  formed = R.loaded.formed

  module _ (fst : List ℕ) (S : Achieved t (forward_run t) fst) where
    -- the list of first achievers answers as the definition does
    wants_are : (fs : List Fact) → Sorted (variables t) (count t) 0 fs → (j : ℕ) → j < 1024 → wants (by_of fst) fs j ≡ reached_needed by (has fs) j (act t j).eff
    unfolding by_of AchievedFrom wants
    wants_are fs O j b = reached_needed_same (by_of fst) by (λ v d. true) j fs same ∙ sym (reached_wants by j fs (act t j).eff (achiever_has (act t) j (forward_run t) (initial t)))
      where
        same : (v d : ℕ) → T (has fs v d) → is j (by_of fst v d) ≡ is j (by v d)
        same v d h =
            let I = sorted_has (variables t) (count t) 0 fs O v d h in
            let m = formed.count_max v in
            let ev : (64 * v + d) / 64 ≡ v = omega (arith, I.val_below, m) in
            let ed : (64 * v + d) % 64 ≡ d = omega (arith, I.val_below, m) in
            let f : 64 * v + d < 4096 = omega (arith, I.var_below, I.val_below, formed.variables_max, m) in
            let a : get_or fst (64 * v + d) 0 ≡ achiever (by v d) = S (64 * v + d) f ∙ rw (ev, ed) refl in
            ap (λ x. is j (some x)) a ∙ is_achiever j (by v d) (omega arith)

    pub keeping_start : (fs : List Fact) → fs ≡ goals t → (before wanted : List ℕ) → Joined (wants (by_of fst) fs) before wanted → before ≡ replicate 16 0 → Keeping t run n wanted run n 1024
    unfolding keep listed
    keeping_start fs eg before wanted J e =
        let z : drop n (forward_run t) ≡ [] = rw (← run_long R) (drop-length (forward_run t)) in
        let y : drop 1024 run ≡ [] = rw (← R.long) (drop-length run) in
        record {
          within = omega arith;
          room = omega arith;
          end = omega arith;
          long = R.long;
          unread = refl;
          kept_are = rw (z, y) refl;
          wanted_are = rw z (record {
            long = J.long;
            are = λ j b. J.are j b ∙ rw (eg, e, get_d_zeros 16 (j / 64), in_set_empty (j % 64)) (or-false (wants (by_of fst) (goals t) j) ∙ wants_are (goals t) (goals_sorted t formed) j b);
          });
        }

  module _ (k : ℕ) (b : k < n) where
    abbrev i : ℕ
    i = get_or run k 0

    abbrev later : List ℕ
    later = drop (k + 1) (forward_run t)

    inside : k < length (forward_run t)
    inside = omega (arith, run_long R)

    pub entry_named : i < actions t
    entry_named = rw (← run_at R k b) (entry_below t formed k inside)

    pub entry_near : i < 1024
    entry_near = omega (arith, entry_named, formed.actions_max)

    from_here : drop k (forward_run t) ≡ i ∷ later
    from_here = from_k t formed k inside ∙ rw (run_at R k b) refl

    module _ {wanted kept : List ℕ} {m : ℕ} (K : Keeping t run n wanted kept (k + 1) m) where
      pub keeping_room : 0 < m
      keeping_room = omega (arith, K.room, R.few)

      pub keeping_entry : get_or kept k 0 ≡ i
      keeping_entry = sym (get_or-take (k + 1) kept k 0 (omega arith)) ∙ ap (λ (l : List ℕ). get_or l k 0) K.unread ∙ get_or-take (k + 1) run k 0 (omega arith)

      -- what is not read is not written, as place m lies behind it
      unread_less : take k kept ≡ take k run
      unread_less = sym (take-take k (k + 1) kept (omega arith)) ∙ ap (take k) K.unread ∙ take-take k (k + 1) run (omega arith)

      tested : (r : Bool) → r ≡ listed wanted i → reached_needed by (keep (act t) by (goals t) later).needed i (act t i).eff ≡ r
      tested r e = sym (e ∙ K.wanted_are.are i entry_near)

      pub keeping_no : false ≡ listed wanted i → Keeping t run n wanted kept k m
      keeping_no e =
          let z = keep_no (act t) by (goals t) i later (tested false e) in
          record {
            within = omega arith;
            room = omega (arith, K.room);
            end = K.end;
            long = K.long;
            unread = unread_less;
            kept_are = rw (from_here, z) K.kept_are;
            wanted_are = rw (from_here, z) K.wanted_are;
          }

      pub keeping_yes : (fst : List ℕ) → Achieved t (forward_run t) fst → true ≡ listed wanted i → (wanted' pre : List ℕ) → facts_of pre ≡ (act t i).pre
          → Joined (wants (by_of fst) (facts_of pre)) wanted wanted' → (j : ℕ) → j ≡ i → Keeping t run n wanted' (set kept (m - 1) j) k (m - 1)
      keeping_yes fst S e wanted' pre ep J j ej =
          let N = (keep (act t) by (goals t) later).needed in
          let z = keep_yes (act t) by (goals t) i later (tested true e) in
          let c : m - 1 < length kept = omega (arith, K.long, K.end, keeping_room) in
          let s : suc (m - 1) ≡ m = omega (arith, keeping_room) in
          let d : drop (m - 1) (set kept (m - 1) j) ≡ i ∷ drop m kept = rw (
            drop-cons (set kept (m - 1) j) (m - 1) 0 (rw length-set c),
            get_or-set_same kept (m - 1) j 0 c,
            s,
            drop-set-lt m kept (m - 1) j (omega (arith, keeping_room)),
            ej,
          ) refl in
          record {
            within = omega arith;
            room = omega (arith, K.room, keeping_room);
            end = omega (arith, K.end);
            long = simp length-set K.long;
            unread = take-set-le k kept (m - 1) j (omega (arith, K.room, R.few)) ∙ unread_less;
            kept_are = rw (from_here, z.0, d, K.kept_are) refl;
            wanted_are = rw (from_here, z.1) (record {
              long = J.long;
              are = λ x p. J.are x p ∙ rw (ep, wants_are fst S (act t i).pre (formed.pre_sorted i) x p, K.wanted_are.are x p)
                  (sym (reached_needed_or by x (has (act t i).pre) N (act t x).eff));
            });
          }

  pub keeping_end : (wanted kept : List ℕ) (m : ℕ) → Keeping t run n wanted kept 0 m → drop m kept ≡ relaxed_plan t
  unfolding relaxed_plan
  keeping_end wanted kept m K = sym K.kept_are
