-- One pass over a list. After k steps that ran red-black the state shown is that of this run, the newest values are the same under every
-- semantics, and the steps counted are those of the real run; there the newest values are the state, as long as it goes on. A step that
-- applies for real applies red-black.
use mathlib.Core.Path.{◌≡◌, refl, sym, ap, ◌∙◌}
use mathlib.Core.Bool.{Bool, true, false, ◌&&◌}
use mathlib.Core.List.{List, [], ◌∷◌, ◌++◌}
use Prim.Native.Nat.{ℕ, suc, ◌+◌, ◌<◌, ◌≤◌}
use native.Mathlib.Numerals.{add-one}
use native.Mathlib.Omega.{arith}
use native.Mathlib.Decide.{ℕ_discrete}
use borrow.Author.Tests.{eq-eqb, ne_eqb}
use lib.Dec.{eqb}
use lib.ListN.{length, get_or, take, drop, take-append-drop}
use lib.Seq.{drop-cons, take-suc, length-take-le, take_all}
use Rattle.planning.specs.Record.{Fact, Task}
use Rattle.planning.specs.Runs.{State, Mode, holds, step, variables, actions, act, count, relaxed, real, black, initial, goals, run, steps_run, judged, run_by, steps_by}
use Rattle.planning.specs.Newest.{Values, initial_values, newer, tracked, alone, red_black_steps, stops_in}
use Rattle.laws.proofs.Tests.{T→true, true→T}
use Rattle.laws.proofs.Facts.{holds→sub, sub→holds}
use Rattle.laws.proofs.Formed.{Formed, sorted_has, eff_func, goals_sorted}
use Rattle.laws.proofs.Steps.{run_mono}
use Rattle.laws.proofs.Prefixes.{run_by_behind, steps_by_on, steps_by_fails, steps_by_stopped, steps_by_le}
use Rattle.laws.proofs.Newest.{newest_after, track_sets, track_newest, real_applies, real_holds}
use Rattle.sets.specs.Sets.{further, red_black_of}
use Rattle.applying.proofs.Running.{further_fails, further_stopped, further_steps}
use Rattle.applying.proofs.RedBlackSteps.{red_black_step, red_black_initial, step_held}
use Rattle.execution.specs.Traces.{StopsAs, RunsAs}
use Rattle.callers.specs.Callers.{judged_at, Relaxes}
use Rattle.execution.proofs.Modes.{red_black_further, relaxed_further, judged_of_lem}

module _ (t : Task) (l : List ℕ) where
  pub record Tracing (s : State) (f : Values) (k runs : ℕ) : Type 0 where
    pub within : k ≤ length l
    pub painted : steps_run (act t) (black t) (take k l) (initial t) ≡ k
    pub sets : s ≡ run (act t) (black t) (take k l) (initial t)
    pub newest : f ≡ newest_after t (take k l)
    pub run_real : runs ≡ steps_run (act t) real (take k l) (initial t)

  pub tracing_start : (s : State) (f : Values) → s ≡ initial t → f ≡ initial_values t → Tracing s f 0 0
  unfolding run_by steps_by
  tracing_start s f es ef = record { within = omega arith; painted = refl; sets = es; newest = ef; run_real = refl }

  -- no more steps run for real than red-black
  pub tracing_few : (s : State) (f : Values) (k runs : ℕ) → Tracing s f k runs → runs ≤ k
  tracing_few s f k runs p =
      omega (arith, p.run_real, length-take-le k l p.within, steps_by_le (λ i s. holds s (act t i).pre) (λ i. step real (act t i)) (take k l) (initial t))

  module _ (F : Formed t) (s : State) (f : Values) (k runs : ℕ) (p : Tracing s f k runs) (h : k < length l) (i : ℕ) (ei : i ≡ get_or l k 0) where
    abbrev front : List ℕ
    front = take k l

    long : length front ≡ k
    long = length-take-le k l (omega arith)

    split : front ++ (i ∷ drop (suc k) l) ≡ l
    split = sym (ap (λ (r : List ℕ). front ++ r) (drop-cons l k 0 h ∙ ap (λ (j : ℕ). j ∷ drop (suc k) l) (sym ei))) ∙ take-append-drop k l

    one_more : take (k + 1) l ≡ front ++ (i ∷ [])
    one_more = rw add-one (take-suc l k 0 h ∙ ap (λ (j : ℕ). front ++ (j ∷ [])) (sym ei))

    abbrev at : Mode → State
    at m = run (act t) m front (initial t)

    -- the newest values as long as all steps ran for real
    is_real : holds (alone f) (act t i).pre ≡ holds (at real) (act t i).pre
    is_real = ap (λ (g : Values). holds (alone g) (act t i).pre) p.newest ∙ sym (real_applies t F front i)

    real_painted : holds (at real) (act t i).pre ≡ true → holds s (act t i).pre ≡ true
    real_painted e =
        let w = holds→sub (at real) (act t i).pre (true→T (holds (at real) (act t i).pre) e) in
        let m = run_mono (act t) real (black t) (λ v x. tt) front (initial t) (initial t) (λ v d x. x) in
        ap (λ (u : State). holds u (act t i).pre) p.sets ∙ T→true (holds (at (black t)) (act t i).pre) (sub→holds (at (black t)) (act t i).pre (λ v d x. m v d (w v d x)))

    -- what is counted applies red-black
    pub applied : (r : ℕ) → r ≡ further (holds (alone f) (act t i).pre) runs k → k < r → holds s (act t i).pre ≡ true
    applied r er q = go (ℕ_discrete runs k) (holds (alone f) (act t i).pre) refl
      where
        small : runs ≤ k
        small = tracing_few s f k runs p

        go : Dec (runs ≡ k) → (b : Bool) → holds (alone f) (act t i).pre ≡ b → holds s (act t i).pre ≡ true
        go (yes e) true w = real_painted (sym is_real ∙ w)
        go (yes e) false w = absurd (omega (arith, small, er, ap (λ (b : Bool). further b runs k) w, further_fails runs k false refl))
        go (no e) b w = absurd (omega (arith, small, er, ap (λ (b : Bool). further b runs k) w, further_stopped runs k b e))

    pub tracing_turn : (r : ℕ) (s' : State) (f' : Values) → r ≡ further (holds (alone f) (act t i).pre) runs k → holds s (act t i).pre ≡ true
        → s' ≡ step (black t) (act t i) s → f' ≡ newer (act t i) f → Tracing s' f' (k + 1) r
    unfolding run_by steps_by
    tracing_turn r s' f' er ha es ef = record {
      within = omega arith;
      painted =
          rw one_more
          (omega (
            arith,
            long,
            steps_by_on (λ i s. holds s (act t i).pre) (λ i. step (black t) (act t i)) front i [] (initial t) (p.painted ∙ sym long)
                (ap (λ (u : State). holds u (act t i).pre) (sym p.sets) ∙ ha),
          ));
      sets = rw (one_more, run_by_behind (λ i. step (black t) (act t i)) front i (initial t), ← p.sets) es;
      newest = rw (one_more, run_by_behind (λ i. newer (act t i)) front i (initial_values t), ← p.newest) ef;
      run_real = rw one_more (er ∙ further_steps t F front f runs k i p.newest p.run_real (sym long));
    }

    -- it stops before step k
    pub tracing_stop : (r : ℕ) → r ≡ further (holds (alone f) (act t i).pre) runs k → r ≤ k → holds s (act t i).pre ≡ false
        → (k ≡ red_black_steps t l) × (r ≡ steps_run (act t) real l (initial t))
    unfolding red_black_steps
    tracing_stop r er q ha =
        let a = steps_by_fails (λ i s. holds s (act t i).pre) (λ i. step (black t) (act t i)) front i (drop (suc k) l) (initial t) (p.painted ∙ sym long)
        (ap (λ (u : State). holds u (act t i).pre) (sym p.sets) ∙ ha) in
        let b : steps_run (act t) (black t) l (initial t) ≡ k = rw split at (a ∙ long) in
        (sym b, go (ℕ_discrete runs k))
      where
        no_real : holds (at real) (act t i).pre ≡ false
        no_real = none (holds (at real) (act t i).pre) refl
          where
            none : (b : Bool) → holds (at real) (act t i).pre ≡ b → b ≡ false
            none false e = refl
            none true e = sym (real_painted e) ∙ ha

        go : Dec (runs ≡ k) → r ≡ steps_run (act t) real l (initial t)
        go (yes e) =
            let c = steps_by_fails (λ i s. holds s (act t i).pre) (λ i. step real (act t i)) front i (drop (suc k) l) (initial t) (omega (arith, p.run_real, long)) no_real in
            let d : steps_run (act t) real l (initial t) ≡ k = rw split at (c ∙ long) in
            omega (arith, er, ap (λ (b : Bool). further b runs k) (is_real ∙ no_real), further_fails runs k false refl)
        go (no e) =
            let le = steps_by_le (λ i s. holds s (act t i).pre) (λ i. step real (act t i)) front (initial t) in
            let c = steps_by_stopped (λ i s. holds s (act t i).pre) (λ i. step real (act t i)) front (i ∷ drop (suc k) l) (initial t) (omega (arith, p.run_real, long, le, e)) in
            let d : steps_run (act t) real l (initial t) ≡ steps_run (act t) real front (initial t) = rw split at c in
            omega (arith, er, further_stopped runs k (holds (alone f) (act t i).pre) e, p.run_real)

  -- the pass went through the whole list
  module _ (s : State) (f : Values) (k r : ℕ) (p : Tracing s f k r) where
    pub tracing_end : length l ≤ k → (k ≡ red_black_steps t l) × (r ≡ steps_run (act t) real l (initial t))
    unfolding red_black_steps
    tracing_end h =
        let e = take_all k l h in
        (sym (rw e at p.painted), rw e at p.run_real)

    -- what the pass tells, once it has stopped at k
    pub traced_sets : k ≡ red_black_steps t l → s ≡ (stops_in t l).sets
    unfolding stops_in tracked
    traced_sets e = p.sets ∙ sym (track_sets (act t) (black t) (take (red_black_steps t l) l) (tracked t) ∙ rw (← e) refl)

    pub traced_newest : k ≡ red_black_steps t l → f ≡ (stops_in t l).newest
    unfolding stops_in tracked
    traced_newest e = p.newest ∙ sym (track_newest (act t) (black t) (take (red_black_steps t l) l) (tracked t) ∙ rw (← e) refl)

-- a test of the state that a set of variables shows is one of the state that the painting shows
pub painted_by : (s : State) (f : Values) (fs : List Fact) {m n : Mode} {b x : Bool} → m ≡ n → b ≡ holds (red_black_of m s f) fs → b ≡ x → holds (red_black_of n s f) fs ≡ x
painted_by s f fs e q h = rw (← e) (sym q ∙ h)

-- The pass keeps the values held, which are those of the relaxed run, and reads the red-black state off them and the newest values.
module _ (t : Task) (l : List ℕ) where
  abbrev shown : State → Values → State
  shown = red_black_of (black t)

  pub record Following (s : State) (f : Values) (k runs : ℕ) : Type 0 where
    pub traced : Tracing t l (shown s f) f k runs
    pub held : s ≡ run (act t) relaxed (take k l) (initial t)

  pub following_start : (s : State) (f : Values) → s ≡ initial t → f ≡ initial_values t → Following s f 0 0
  unfolding run_by
  following_start s f es ef = record { traced = tracing_start t l (shown s f) f (rw (es, ef) (red_black_initial t)) ef; held = es }

  module _ (F : Formed t) (s : State) (f : Values) (k runs : ℕ) (p : Following s f k runs) (h : k < length l) (i : ℕ) (ei : i ≡ get_or l k 0) where
    pub following_turn : (r : ℕ) (s' : State) (f' : Values) → r ≡ further (holds (alone f) (act t i).pre) runs k → holds (shown s f) (act t i).pre ≡ true
        → s' ≡ step relaxed (act t i) s → f' ≡ newer (act t i) f → Following s' f' (k + 1) r
    following_turn r s' f' er ha es ef = record {
      traced = tracing_turn t l F (shown s f) f k runs p.traced h i ei r (shown s' f') f' er ha
          (rw (es, ef) (red_black_step (black t) (act t i) (eff_func t F i) s f)) ef;
      held = rw (one_more t l F (shown s f) f k runs p.traced h i ei, run_by_behind (λ i. step relaxed (act t i)) (take k l) i (initial t), ← p.held) es;
    }

    -- where every effect of the action is held
    pub following_held : (r : ℕ) (f' : Values) → r ≡ further (holds (alone f) (act t i).pre) runs k → holds (shown s f) (act t i).pre ≡ true
        → holds s (act t i).eff ≡ true → f' ≡ newer (act t i) f → Following s f' (k + 1) r
    following_held r f' er ha he = following_turn r s f' er ha (step_held (act t i) s he)

  -- what the pass tells, once it has stopped at k
  module _ (s : State) (f : Values) (k r : ℕ) (p : Following s f k r) (e : k ≡ red_black_steps t l) where
    pub follows_painted : StopsAs t l s f k
    follows_painted = record { steps = e; state = traced_sets t l (shown s f) f k r p.traced e }

    pub follows_real : (n : ℕ) → n ≡ steps_run (act t) real l (initial t) → RunsAs t l f n
    follows_real n q = record { runs = q; newest = traced_newest t l (shown s f) f k r p.traced e }

    pub follows_relaxed : Relaxes t l s k
    unfolding red_black_steps
    follows_relaxed = record { runs = omega (arith, e, relaxed_further t l); held = p.held }

pub stops_few : (t : Task) (l : List ℕ) (s : State) (f : Values) (n : ℕ) → StopsAs t l s f n → n ≤ length l
unfolding red_black_steps
stops_few t l s f n p = omega (arith, p.steps, steps_by_le (λ i s. holds s (act t i).pre) (λ i. step (black t) (act t i)) l (initial t))

pub runs_few : (t : Task) (l : List ℕ) (f : Values) (n : ℕ) → RunsAs t l f n → n ≤ length l
runs_few t l f n p = omega (arith, p.runs, steps_by_le (λ i s. holds s (act t i).pre) (λ i. step real (act t i)) l (initial t))

-- the verdicts where the pass stops
module _ (t : Task) (F : Formed t) (l : List ℕ) (below : (j : ℕ) → j < length l → get_or l j 0 < actions t) where
  pub painted_judged : (s : State) (f : Values) (n : ℕ) → StopsAs t l s f n → judged_at t l (red_black_of (black t) s f) n ≡ judged t (black t) l
  unfolding judged_at red_black_steps stops_in tracked
  painted_judged s f n p =
      judged_of_lem t (black t) l below n p.steps (eqb n (length l) && holds (red_black_of (black t) s f) (goals t)) (λ x. whole x) (λ x. rw (ne_eqb n (length l) x) refl)
    where
      whole : n ≡ length l → (eqb n (length l) && holds (red_black_of (black t) s f) (goals t)) ≡ holds (run (act t) (black t) l (initial t)) (goals t)
      whole x =
          let e : take (red_black_steps t l) l ≡ l = take_all (red_black_steps t l) l (omega (arith, p.steps)) in
          let q : red_black_of (black t) s f ≡ run (act t) (black t) l (initial t) = p.state ∙ track_sets (act t) (black t) (take (red_black_steps t l) l) (tracked t) ∙ rw e refl in
          rw (eq-eqb n (length l) x, q) refl

  pub real_judged : (f : Values) (n : ℕ) → RunsAs t l f n → judged_at t l (alone f) n ≡ judged t real l
  unfolding judged_at red_black_steps stops_in tracked
  real_judged f n p = judged_of_lem t real l below n p.runs (eqb n (length l) && holds (alone f) (goals t)) (λ x. whole x) (λ x. rw (ne_eqb n (length l) x) refl)
    where
      whole : n ≡ length l → (eqb n (length l) && holds (alone f) (goals t)) ≡ holds (run (act t) real l (initial t)) (goals t)
      whole x =
          let e : take (red_black_steps t l) l ≡ l = take_all (red_black_steps t l) l (omega (arith, p.runs, red_black_further t l)) in
          let q : f ≡ newest_after t l = p.newest ∙ track_newest (act t) (black t) (take (red_black_steps t l) l) (tracked t) ∙ rw e refl in
          rw (eq-eqb n (length l) x, q) (sym (real_holds t F l (goals t) (λ v d x. (sorted_has (variables t) (count t) 0 (goals t) (goals_sorted t F) v d x).var_below)))
