-- The repair in the middle. Of the steps placed, the first ones are taken: state and counts are those behind them, and what is left is the
-- repair of the rest of the relaxed plan from the state behind the others. The code keeps the facts held ever and the newest values, which
-- show the red-black state; the facts held ever are those of R and B (`knows`): the definition's `ever` is whatever it is, and the code needs
-- only what is known of it. Searches are those of the stages placed, at most 64 for each of their steps, and 64 for the goals; marks are those
-- of their steps.
use mathlib.Core.Path.{◌≡◌, refl, sym, ap, ◌∙◌, subst, fun_ext}
use mathlib.Core.Bool.{Bool}
use mathlib.Core.List.{List, [], ◌∷◌, ◌++◌, append-nil, append_assoc}
use Prim.Native.Nat.{ℕ, zero, suc, ◌+◌, ◌-◌, ◌*◌, ◌<◌, ◌≤◌}
use native.Mathlib.Numerals.{add-one}
use native.Mathlib.Omega.{arith}
use native.Mathlib.Decide.{dec_lt}
use borrow.Author.Tests.{lt-ltb, le-ltb}
use lib.Dec.{T, ltb}
use lib.ListN.{length, get_or, take, drop, replicate, length-append, length-drop}
use lib.Seq.{slice, slice-cons, slice_empty, drop-cons, drop-length, drop_at, take_at, take-take, take-suc, take_all, split_at, get_or-take, get_or-drop, length-take-le}
use Rattle.planning.specs.Record.{Fact, Action, Task}
use Rattle.planning.specs.Runs.{State, Mode, holds, step, relaxed, run, runs, run_by, runs_by, initial, goals, actions, count, act, black}
use Rattle.planning.specs.Newest.{Values, initial_values, newer}
use Rattle.planning.specs.Repair.{known, ever_after, moves, order, Stage, stages_from, stages, repaired, move_searches, all_steps, all_searches, stage_steps, searches, stage_marks, all_marks, marks}
use Rattle.laws.proofs.Facts.{◌⊆◌}
use Rattle.laws.proofs.Known.{◌≈◌, known_start, known_run, ever_after_now}
use Rattle.laws.proofs.Tests.{bool_same, and_l, and_r}
use Rattle.laws.proofs.Prefixes.{run_by_behind}
use Rattle.laws.proofs.Formed.{Formed, eff_func}
use Rattle.sets.specs.Sets.{sets_of, red_black_of}
use Rattle.applying.proofs.RedBlackSteps.{red_black_step, red_black_initial}
use Rattle.paths.specs.Paths.{Memo}
use Rattle.std.specs.Prelude.{None, Some}
use Rattle.entries.specs.Entries.{Entries}
use Rattle.asking.specs.Asking.{Put}
use Rattle.counts.specs.declared.Counts.{Counts}
use Rattle.counts.specs.Counting.{no_counts, Onward, Small, Few}
use Rattle.counts.specs.Marks.{marks_for}
use Rattle.stages.specs.Stages.{filled, moved, stage_of, filled_searches, moved_searches, stage_searches}
use Rattle.stages.proofs.Below.{stage_entries, stage_searches_lem, append_entries}
use Rattle.counts.proofs.Counting.{Counted, counted_none, counted_few, counted_behind}

same_facts : (s t : State) → s ≈ t → s ≡ t
same_facts s t h = fun_ext (λ v. fun_ext (λ d. bool_same (s v d) (t v d) (h.0 v d) (h.1 v d)))

-- the stages for the rest l of the relaxed plan; those behind its first stage; those behind the first j stages
abbrev rest_of : Task → List ℕ → State → State → List Stage
rest_of t l s ever = stages_from (act t) (actions t) (black t) (count t) (order t) (goals t) l s ever

unfoldable pub behind : Task → List ℕ → State → State → List Stage
behind t [] s ever = []
behind t (i ∷ l) s ever = rest_of t l s ever

unfoldable pub left_of : Task → List ℕ → ℕ → State → State → List Stage
left_of t l zero s ever = rest_of t l s ever
left_of t l (suc j) s ever = behind t (drop j l) s ever

-- the same from the state behind the steps k
abbrev left_after : Task → List ℕ → ℕ → List ℕ → State → State → List Stage
left_after t l j k s ever = left_of t l j (run (act t) (black t) k s) (ever_after (act t) (black t) k s ever)

moves_is : (t : Task) (K s ever : State) (w : List Fact) → known (black t) s ever ≡ K → moves (act t) (actions t) (black t) (count t) (order t) s ever w ≡ moved t K s w
unfolding moves moved filled
moves_is t K s ever w e = rw (← e) refl

searches_is : (t : Task) (K s ever : State) (w : List Fact) → known (black t) s ever ≡ K
    → move_searches (act t) (actions t) (black t) (count t) (order t) s ever w ≡ moved_searches t K s w
unfolding move_searches moved_searches filled_searches
searches_is t K s ever w e = rw (← e) refl

-- the stage for the rest l of the relaxed plan; its steps, searches and marks
unfoldable stage_at : Task → State → State → List ℕ → Stage
stage_at t K s [] = record { inserted = moved t K s (goals t); entry = []; searched = moved_searches t K s (goals t) }
stage_at t K s (i ∷ l) = record { inserted = moved t K s (act t i).pre; entry = i ∷ []; searched = moved_searches t K s (act t i).pre }

module _ (t : Task) (K s : State) where
  stage_steps_lem : (l : List ℕ) → stage_steps (stage_at t K s l) ≡ stage_of t K s l
  unfolding stage_at stage_of stage_steps
  stage_steps_lem [] = append-nil (moved t K s (goals t))
  stage_steps_lem (i ∷ l) = refl

  stage_searched : (l : List ℕ) → (stage_at t K s l).searched ≡ stage_searches t K s l
  unfolding stage_at stage_searches
  stage_searched [] = refl
  stage_searched (i ∷ l) = refl

  stage_marks_lem : (l : List ℕ) → stage_marks (stage_at t K s l) ≡ marks_for (ltb 0 (length l)) (length (stage_of t K s l))
  unfolding stage_at stage_of stage_marks marks_for
  stage_marks_lem [] = append-nil (replicate (length (moved t K s (goals t))) 1)
  stage_marks_lem (i ∷ l) =
      let m : List ℕ = moved t K s (act t i).pre in
      let e : length (m ++ (i ∷ [])) - 1 ≡ length m = omega (arith, length-append m (i ∷ [])) in
      ap (λ (n : ℕ). replicate {A = ℕ} n 1 ++ (0 ∷ [])) (sym e) ∙ ap (λ (b : Bool). marks_for b (length (m ++ (i ∷ [])))) (sym (lt-ltb 0 (suc (length l)) (omega arith)))

-- the first stage and those behind it
module _ (t : Task) (K s ever : State) (e : known (black t) s ever ≡ K) where
  abbrev later : List ℕ → List Stage
  later l = let k : List ℕ = stage_of t K s l in behind t l (run (act t) (black t) k s) (ever_after (act t) (black t) k s ever)

  rest_stages : (l : List ℕ) → rest_of t l s ever ≡ stage_at t K s l ∷ later l
  unfolding stage_at stage_of behind stages_from stage_steps
  rest_stages [] = rw (moves_is t K s ever (goals t) e, searches_is t K s ever (goals t) e) refl
  rest_stages (i ∷ l) = rw (moves_is t K s ever (act t i).pre e, searches_is t K s ever (act t i).pre e) refl

  rest_steps : (l : List ℕ) → all_steps (rest_of t l s ever) ≡ stage_of t K s l ++ all_steps (later l)
  unfolding all_steps
  rest_steps l = ap all_steps (rest_stages l) ∙ ap (λ (k : List ℕ). k ++ all_steps (later l)) (stage_steps_lem t K s l)

  rest_searches : (l : List ℕ) → all_searches (rest_of t l s ever) ≡ stage_searches t K s l + all_searches (later l)
  unfolding all_searches
  rest_searches l = ap all_searches (rest_stages l) ∙ ap (λ (n : ℕ). n + all_searches (later l)) (stage_searched t K s l)

  rest_marks : (l : List ℕ) → all_marks (rest_of t l s ever) ≡ marks_for (ltb 0 (length l)) (length (stage_of t K s l)) ++ all_marks (later l)
  unfolding all_marks
  rest_marks l = ap all_marks (rest_stages l) ∙ ap (λ (k : List ℕ). k ++ all_marks (later l)) (stage_marks_lem t K s l)

module _ (t : Task) (l : List ℕ) (j : ℕ) (s ever : State) where
  left_here : j ≤ length l → left_of t l j s ever ≡ rest_of t (drop j l) s ever
  unfolding left_of behind
  left_here h = go j h
    where
      go : (j : ℕ) → j ≤ length l → left_of t l j s ever ≡ rest_of t (drop j l) s ever
      go zero h = refl
      go (suc k) h = rw (drop-cons l k 0 (omega arith)) refl

  left_next : left_of t l (j + 1) s ever ≡ behind t (drop j l) s ever
  unfolding left_of
  left_next = rw (add-one j) refl

  left_none : length l < j → j ≤ length l + 1 → left_of t l j s ever ≡ []
  unfolding left_of behind
  left_none h b =
      let e : j ≡ suc (length l) = omega arith in
      rw (e, drop-length l) refl

-- the red-black state that the code's lists show
abbrev shown : Task → List ℕ → Values → State
shown t sets f = red_black_of (black t) (sets_of sets) f

-- an entry of a list that runs applies behind those before it
applies_at : (act : ℕ → Action) (m : Mode) (l : List ℕ) (i : ℕ) (k : List ℕ) (s : State) → T (runs act m (l ++ (i ∷ k)) s) → T (holds (run act m l s) (act i).pre)
unfolding runs_by run_by
applies_at act m [] i k s r = and_l (holds s (act i).pre) (runs act m k (step m (act i) s)) r
applies_at act m (x ∷ l) i k s r = applies_at act m l i k (step m (act x) s) (and_r (holds s (act x).pre) (runs act m (l ++ (i ∷ k)) (step m (act x) s)) r)

pub record Repairing (t : Task) (l₀ plan₀ plan area memo sets : List ℕ) (f : Values) (c : Counts) (n a j : ℕ) : Type 0 where
  pub held : State
  pub within : a ≤ length plan₀
  pub long : length plan ≡ length plan₀
  pub even : length area ≡ length plan₀
  pub rows : Memo t (sets_of sets) memo
  pub place : j ≤ length l₀ + 1
  pub taken : c.steps ≤ a
  pub entries : Entries t (take a plan)
  pub now : shown t sets f ≡ run (act t) (black t) (take c.steps plan) (initial t)
  pub below : shown t sets f ⊆ held
  pub knows : known (black t) (shown t sets f) held ≡ sets_of sets
  pub counts : Counted t (take c.steps plan) f c
  pub so_far : repaired t l₀ ≡ take a plan ++ all_steps (left_after t l₀ j (slice c.steps a plan) (shown t sets f) held)
  pub searched : searches t l₀ ≡ n + all_searches (left_after t l₀ j (slice c.steps a plan) (shown t sets f) held)
  pub modest : n ≤ 64 * (a + (j - length l₀))
  pub marked : marks t l₀ ≡ take a area ++ all_marks (left_after t l₀ j (slice c.steps a plan) (shown t sets f) held)

pub repairing_start : (t : Task) (l₀ plan area memo sets : List ℕ) (f : Values) → Memo t (sets_of sets) memo → sets_of sets ≡ initial t → f ≡ initial_values t → length area ≡ length plan
    → Repairing t l₀ plan plan area memo sets f no_counts 0 0 0
unfolding repaired searches marks stages left_of run_by ever_after
repairing_start t l₀ plan area memo sets f M es ef ea =
    let e : shown t sets f ≡ initial t = rw (es, ef) (red_black_initial t) in
    record {
      held = initial t;
      within = omega arith;
      long = refl;
      even = ea;
      rows = M;
      place = omega arith;
      taken = omega arith;
      entries = λ k h. absurd (omega arith);
      now = e;
      below = rw e (λ v d h. h);
      knows = rw (e, es) (sym (same_facts (initial t) (known (black t) (initial t) (initial t)) (known_start (black t) (initial t))));
      counts = counted_none t f ef;
      so_far = rw e refl;
      searched = rw e (omega arith);
      modest = omega arith;
      marked = rw e refl;
    }

module _ {t : Task} {l₀ plan₀ plan area memo sets : List ℕ} {f : Values} {c : Counts} {n a j : ℕ} (G : Repairing t l₀ plan₀ plan area memo sets f c n a j) where
  pub repairing_within : a ≤ length plan
  repairing_within = omega (arith, G.within, G.long)

  pub repairing_few : Formed t → length plan₀ ≤ 32768 → Few c
  repairing_few F h = counted_few F G.counts (omega (arith, length-take-le c.steps plan (omega (arith, G.taken, G.within, G.long)), G.taken, G.within))

  pub repairing_searches : length plan₀ ≤ 32768 → n ≤ 64 * 32769
  repairing_searches h = omega (arith, G.modest, G.place, G.within)

  whole_length : (l : List ℕ) → repaired t l₀ ≡ take a plan ++ l → length (repaired t l₀) ≡ a + length l
  whole_length l e =
      let taken : length (take a plan) ≡ a = length-take-le a plan repairing_within in
      ap length e ∙ length-append (take a plan) l ∙ ap (λ (x : ℕ). x + length l) taken

  -- every step placed is taken
  module _ (k : c.steps ≡ a) where
    so_far' : repaired t l₀ ≡ take a plan ++ all_steps (left_of t l₀ j (shown t sets f) G.held)
    unfolding run_by ever_after
    so_far' = G.so_far ∙ rw (k, slice_empty a plan) refl

    searched' : searches t l₀ ≡ n + all_searches (left_of t l₀ j (shown t sets f) G.held)
    unfolding run_by ever_after
    searched' = G.searched ∙ rw (k, slice_empty a plan) refl

    marked' : marks t l₀ ≡ take a area ++ all_marks (left_of t l₀ j (shown t sets f) G.held)
    unfolding run_by ever_after
    marked' = G.marked ∙ rw (k, slice_empty a plan) refl

    -- and every stage placed
    pub repairing_whole : length l₀ < j → take a plan ≡ repaired t l₀
    unfolding all_steps
    repairing_whole h = sym (so_far' ∙ ap (λ (l : List Stage). take a plan ++ all_steps l) (left_none t l₀ j (shown t sets f) G.held h G.place) ∙ append-nil (take a plan))

    pub repairing_marked : length l₀ < j → take a area ≡ marks t l₀
    unfolding all_marks
    repairing_marked h = sym (marked' ∙ ap (λ (l : List Stage). take a area ++ all_marks l) (left_none t l₀ j (shown t sets f) G.held h G.place) ∙ append-nil (take a area))

    pub repairing_searched : length l₀ < j → n ≡ searches t l₀
    unfolding all_searches
    repairing_searched h = omega (arith, searched', ap all_searches (left_none t l₀ j (shown t sets f) G.held h G.place))

  -- a step is left: it is the action i
  module _ (k : c.steps < a) (i : ℕ) (ei : i ≡ get_or plan c.steps 0) where
    pub repairing_below : i < actions t
    repairing_below = rw (ei, ← get_or-take a plan c.steps 0 k) (G.entries c.steps (omega (arith, length-take-le a plan repairing_within)))

    pub repairing_small : Formed t → length plan₀ ≤ 32768 → Small c
    repairing_small F h = record { few = repairing_few F h; more = omega (arith, k, G.within) }

    -- where the whole list runs red-black, it applies
    pub repairing_applies : T (runs (act t) (black t) (repaired t l₀) (initial t)) → T (holds (shown t sets f) (act t i).pre)
    repairing_applies r =
        let front = take a plan in
        let s = c.steps in
        let long : length front ≡ a = length-take-le a plan repairing_within in
        let own : get_or front s 0 ≡ i = get_or-take a plan s 0 k ∙ sym ei in
        let cut : front ≡ take s plan ++ (i ∷ drop (suc s) front) = split_at front s 0 (omega (arith, long)) ∙ rw (take-take s a plan G.taken, own) refl in
        let rest = all_steps (left_after t l₀ j (slice s a plan) (shown t sets f) G.held) in
        let whole : repaired t l₀ ≡ take s plan ++ (i ∷ (drop (suc s) front ++ rest)) =
        G.so_far ∙ ap (λ (l : List ℕ). l ++ rest) cut ∙ append_assoc (take s plan) (i ∷ drop (suc s) front) rest in
        rw G.now (applies_at (act t) (black t) (take s plan) i (drop (suc s) front ++ rest) (initial t) (subst (λ (l : List ℕ). T (runs (act t) (black t) l (initial t))) whole r))

    pub repairing_step : Formed t → (memo' sets' : List ℕ) (f' : Values) (c' : Counts) → Memo t (sets_of sets') memo'
        → sets_of sets' ≡ step relaxed (act t i) (sets_of sets) → Onward (act t i) f c c' → f' ≡ newer (act t i) f → Repairing t l₀ plan₀ plan area memo' sets' f' c' n a j
    unfolding run_by ever_after
    repairing_step F memo' sets' f' c' rows' es O ef =
        let effects = eff_func t F i in
        let now : shown t sets' f' ≡ step (black t) (act t i) (shown t sets f) = rw (es, ef) (red_black_step (black t) (act t i) effects (sets_of sets) f) in
        let held' = ever_after (act t) (black t) (i ∷ []) (shown t sets f) G.held in
        let later = known_run (act t) (black t) (i ∷ []) (shown t sets f) G.held G.below in
        let same = same_facts (run (act t) relaxed (i ∷ []) (known (black t) (shown t sets f) G.held)) (known (black t) (run (act t) (black t) (i ∷ []) (shown t sets f)) held') later in
        let more : take (c.steps + 1) plan ≡ take c.steps plan ++ (i ∷ []) = rw (add-one c.steps, ei) (take-suc plan c.steps 0 (omega arith)) in
        let cut : slice c.steps a plan ≡ i ∷ slice (c.steps + 1) a plan = rw (add-one c.steps, ei) (slice-cons c.steps a plan 0 k repairing_within) in
        record {
          held = held';
          within = G.within;
          long = G.long;
          even = G.even;
          rows = rows';
          place = G.place;
          taken = omega (arith, O.steps, k);
          entries = G.entries;
          now =
              now ∙ ap (step (black t) (act t i)) G.now ∙ sym (run_by_behind (λ (i : ℕ). step (black t) (act t i)) (take c.steps plan) i (initial t))
              ∙ ap (λ (l : List ℕ). run (act t) (black t) l (initial t)) (sym (ap (λ (n : ℕ). take n plan) O.steps ∙ more));
          below = rw now (ever_after_now (act t) (black t) (i ∷ []) (shown t sets f) G.held G.below);
          knows = rw now (sym same ∙ rw G.knows (sym es));
          counts = subst (λ (l : List ℕ). Counted t l f' c') (sym (ap (λ (n : ℕ). take n plan) O.steps ∙ more)) (counted_behind F G.counts i c' f' O ef);
          so_far = G.so_far ∙ rw (O.steps, cut, now) refl;
          searched = G.searched ∙ rw (O.steps, cut, now) refl;
          modest = G.modest;
          marked = G.marked ∙ rw (O.steps, cut, now) refl;
        }

-- a stage with an action has a step
stage_action : (t : Task) (K s : State) (l : List ℕ) → 0 < length l → 0 < length (stage_of t K s l)
unfolding stage_of
stage_action t K s [] h = absurd (omega arith)
stage_action t K s (i ∷ l) h = omega (arith, length-append (moved t K s (act t i).pre) (i ∷ []))

-- something is left behind place j
ltb_left : (j n : ℕ) → ltb 0 (n - j) ≡ ltb j n
ltb_left j n = elim (dec_lt j n) [ yes h ↦ lt-ltb 0 (n - j) (omega arith) ∙ sym (lt-ltb j n h) | no h ↦ le-ltb 0 (n - j) (omega arith) ∙ sym (le-ltb j n (omega arith)) ]

-- the steps of stage j were written; of the relaxed plan the part `rest` was handed on
pub record Arranged (t : Task) (l₀ plan₀ plan area memo sets : List ℕ) (f : Values) (c : Counts) (n a j : ℕ) (rest plan' : List ℕ) : Type 0 where
  pub start : Repairing t l₀ plan₀ plan area memo sets f c n a j
  pub taken : c.steps ≡ a
  pub here : j ≤ length l₀
  pub part : rest ≡ drop j l₀
  pub long : length plan' ≡ length plan

module _ {t : Task} {l₀ plan₀ plan area memo sets : List ℕ} {f : Values} {c : Counts} {n a j : ℕ} {rest plan' : List ℕ}
    (R : Arranged t l₀ plan₀ plan area memo sets f c n a j rest plan') where
  abbrev G : Repairing t l₀ plan₀ plan area memo sets f c n a j
  G = R.start

  abbrev steps : List ℕ
  steps = stage_of t (sets_of sets) (shown t sets f) rest

  abbrev next : List Stage
  next = behind t rest (run (act t) (black t) steps (shown t sets f)) (ever_after (act t) (black t) steps (shown t sets f) G.held)

  here_is : left_of t l₀ j (shown t sets f) G.held ≡ rest_of t rest (shown t sets f) G.held
  here_is = left_here t l₀ j (shown t sets f) G.held R.here ∙ rw (← R.part) refl

  so_far'' : repaired t l₀ ≡ take a plan ++ (steps ++ all_steps next)
  so_far'' = so_far' G R.taken ∙ ap (λ (l : List ℕ). take a plan ++ l) (ap all_steps here_is ∙ rest_steps t (sets_of sets) (shown t sets f) G.held G.knows rest)

  pub repairing_long : Put plan plan' a steps None → length plan₀ < length (repaired t l₀)
  repairing_long z =
      omega (arith, z, G.long, whole_length G (steps ++ all_steps next) so_far'', length-append steps (all_steps next))

  module _ (x k : ℕ) (told : Put plan plan' a steps (Some x)) (searches_here : k ≡ stage_searches t (sets_of sets) (shown t sets f) rest) where
    bounds : (a ≤ x) × (x ≤ length plan')
    bounds = (omega (arith, told.0), omega (arith, told.1, R.long))

    front_long : length (take a plan) ≡ a
    front_long = length-take-le a plan (repairing_within G)

    part_is : slice a x plan' ≡ steps
    part_is = rw told.2 (drop_at (take a plan) steps a front_long)

    front_is : take a plan' ≡ take a plan
    front_is = sym (take-take a x plan' bounds.0) ∙ ap (take a) told.2 ∙ take_at (take a plan) steps a front_long

    front_same : take c.steps plan ≡ take c.steps plan'
    front_same = ap (λ (n : ℕ). take n plan) R.taken ∙ sym front_is ∙ ap (λ (n : ℕ). take n plan') (sym R.taken)

    abbrev left : List ℕ → List Stage
    left l = left_after t l₀ (j + 1) l (shown t sets f) G.held

    left_is : left (slice c.steps x plan') ≡ next
    left_is =
        let s = run (act t) (black t) steps (shown t sets f) in
        let e = ever_after (act t) (black t) steps (shown t sets f) G.held in
        ap left (ap (λ (n : ℕ). slice n x plan') R.taken ∙ part_is) ∙ left_next t l₀ j s e ∙ ap (λ (l : List ℕ). behind t l s e) (sym R.part)

    pub repairing_fits : x ≤ length plan₀
    repairing_fits = omega (arith, told.1, G.long)

    pub repairing_modest : Formed t → n + k ≤ 64 * (x + (j + 1 - length l₀))
    repairing_modest F =
        let few = stage_searches_lem t F (sets_of sets) (shown t sets f) rest in
        omega (arith, few, searches_here, told.0, G.modest, ap length R.part, length-drop j l₀, R.here)

    -- what marking the stage asks, and an action has a place
    pub repairing_places : (a ≤ x) × (x ≤ length area) × (j < length l₀ → a < x)
    repairing_places =
        let action = stage_action t (sets_of sets) (shown t sets f) rest in
        (bounds.0, omega (arith, told.1, G.long, G.even), λ h. omega (arith, told.0, action (omega (arith, h, ap length R.part, length-drop j l₀))))

    pub repairing_turn : Formed t → Entries t rest → (memo' area' : List ℕ) → Memo t (sets_of sets) memo' → length area' ≡ length area
        → take x area' ≡ take a area ++ marks_for (ltb j (length l₀)) (x - a) → Repairing t l₀ plan₀ plan' area' memo' sets f c (n + k) x (j + 1)
    repairing_turn F en memo' area' rows' ea em = record {
      held = G.held;
      within = repairing_fits;
      long = R.long ∙ G.long;
      even = ea ∙ G.even;
      rows = rows';
      place = omega (arith, R.here);
      taken = omega (arith, R.taken, bounds);
      entries = rw told.2 (append_entries t (take a plan) steps G.entries (stage_entries t (sets_of sets) (shown t sets f) rest en));
      now = G.now ∙ ap (λ (l : List ℕ). run (act t) (black t) l (initial t)) front_same;
      below = G.below;
      knows = G.knows;
      counts = subst (λ (l : List ℕ). Counted t l f c) front_same G.counts;
      so_far =
          so_far'' ∙ sym (append_assoc (take a plan) steps (all_steps next))
          ∙ sym (ap (λ (l : List ℕ). l ++ all_steps (left (slice c.steps x plan'))) told.2 ∙ ap (λ (l : List Stage). (take a plan ++ steps) ++ all_steps l) left_is);
      searched =
          let rest_is = searched' G R.taken ∙ ap (λ (l : List Stage). n + all_searches l) here_is in
          omega (arith, rest_is, rest_searches t (sets_of sets) (shown t sets f) G.held G.knows rest, searches_here, ap all_searches left_is);
      modest = repairing_modest F;
      marked =
          let rest_is = marked' G R.taken ∙ ap (λ (l : List Stage). take a area ++ all_marks l) here_is in
          let count : length steps ≡ x - a = omega (arith, told.0) in
          let more : ltb 0 (length rest) ≡ ltb j (length l₀) = rw (R.part, length-drop) (ltb_left j (length l₀)) in
          let here =
          rest_marks t (sets_of sets) (shown t sets f) G.held G.knows rest ∙ ap (λ (b : Bool). marks_for b (length steps) ++ all_marks next) more
          ∙ ap (λ (y : ℕ). marks_for (ltb j (length l₀)) y ++ all_marks next) count in
          rest_is ∙ ap (λ (l : List ℕ). take a area ++ l) here ∙ sym (append_assoc (take a area) (marks_for (ltb j (length l₀)) (x - a)) (all_marks next))
          ∙ sym (ap (λ (l : List ℕ). l ++ all_marks (left (slice c.steps x plan'))) em ∙ ap (λ (l : List Stage). (take a area ++ marks_for (ltb j (length l₀)) (x - a)) ++ all_marks l) left_is);
    }

-- the part of the relaxed plan that is left
module _ (l : List ℕ) (j : ℕ) (h : j ≤ length l) where
  pub rest_is : take (length l - j) (drop j l) ≡ drop j l
  rest_is = take_all (length l - j) (drop j l) (omega (arith, length-drop j l))

  pub rest_entries : (t : Task) → Entries t l → Entries t (take (length l - j) (drop j l))
  rest_entries t e = rw rest_is (λ k b. rw (get_or-drop j l k 0) (e (j + k) (omega (arith, length-drop j l))))
