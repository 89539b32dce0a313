-- How first achievers are noted: by an action, by the run from its end, and for the initial facts.
use mathlib.Core.Path.{◌≡◌, refl, sym, ap, ◌∙◌}
use mathlib.Core.Logic.{◌≢◌}
use mathlib.Core.Bool.{Bool, true, false, not, ◌&&◌, ◌||◌, and-false}
use mathlib.Core.List.{List, [], ◌∷◌}
use mathlib.Core.Option.{Option, some}
use Prim.Native.Nat.{ℕ, ◌+◌, ◌*◌, ◌/◌, ◌%◌, ◌<◌, ◌≤◌}
use native.Mathlib.Numerals.{add-one}
use native.Mathlib.Omega.{arith}
use native.Mathlib.Decide.{ℕ_discrete, dec_lt}
use borrow.Author.Tests.{eq-eqb}
use lib.Dec.{T, eqb, eqb→eq, ltb, lt→ltb, ltb→lt}
use lib.ListN.{length, get_or, set, drop, replicate, length-set, get_or-replicate, drop_of_length-le}
use lib.Seq.{get_or-set_same, get_or-set_other, get_or-take, drop-cons, length-take-le}
use Rattle.planning.specs.Record.{Fact, Action, Task}
use Rattle.planning.specs.Runs.{State, has, touches, step, relaxed, actions, act, variables, variable, initial}
use Rattle.planning.specs.Relaxed.{forward_run, first_achiever}
use Rattle.laws.proofs.Achievers.{first_achiever_held}
use Rattle.laws.proofs.Tests.{T→true, F→false, and_l, and_r}
use Rattle.laws.proofs.Formed.{Formed, initial_holds, initial_elim}
use Rattle.laws.proofs.Forward.{forward_run_ran}
use Rattle.laws.proofs.Lists.{all_at}
use Rattle.task.specs.Task.{fact_of, facts_of, task_in}
use Rattle.sets.specs.Sets.{choose}
use Rattle.sets.proofs.Slices.{facts_of_drop, facts_of_end}
use Rattle.achievers.specs.Achievers.{Noted, achiever, AchievedFrom, Achieved, Setters, Replay}

-- one action is noted: the facts from place k on are still to be written
pub record Noting (facts : List ℕ) (i : ℕ) (fst₀ fst : List ℕ) (k : ℕ) : Type 0 where
  pub long : length fst ≡ 4096
  pub so_far : (y : ℕ) → y < 4096 → choose (has (facts_of facts) (y / 64) (y % 64)) i (get_or fst₀ y 0) ≡ choose (has (facts_of (drop k facts)) (y / 64) (y % 64)) i (get_or fst y 0)

module _ (facts : List ℕ) (i : ℕ) (fst₀ fst : List ℕ) (k : ℕ) (N : Noting facts i fst₀ fst k) where
  pub noting_turn : (f : ℕ) → k < length facts → f ≡ get_or facts k 0 → f < 4096 → Noting facts i fst₀ (set fst f i) (k + 1)
  unfolding has fact_of choose
  noting_turn f h e g = record {
    long = simp length-set N.long;
    so_far = λ y c. N.so_far y c ∙ rw (facts_of_drop facts k h, ← e) (turn y (has (facts_of (drop (k + 1) facts)) (y / 64) (y % 64)) (ℕ_discrete y f));
  }
    where
      both : (r : Bool) → i ≡ choose r i i
      both true = refl
      both false = refl

      turn : (y : ℕ) (r : Bool) → Dec (y ≡ f) → choose ((eqb (y / 64) (f / 64) && eqb (y % 64) (f % 64)) || r) i (get_or fst y 0) ≡ choose r i (get_or (set fst f i) y 0)
      turn y r (yes u) = rw (u, eq-eqb (f / 64) (f / 64) refl, eq-eqb (f % 64) (f % 64) refl, get_or-set_same fst f i 0 (omega (arith, N.long))) (both r)
      turn y r (no u) =
          let x = eqb (y / 64) (f / 64) && eqb (y % 64) (f % 64) in
          let other : x ≡ false = F→false x (λ t. u (apart (and_l (eqb (y / 64) (f / 64)) (eqb (y % 64) (f % 64)) t) (and_r (eqb (y / 64) (f / 64)) (eqb (y % 64) (f % 64)) t))) in
          rw (other, get_or-set_other fst f y i 0 u) refl
        where
          apart : T (eqb (y / 64) (f / 64)) → T (eqb (y % 64) (f % 64)) → y ≡ f
          apart s t = omega (arith, eqb→eq (y / 64) (f / 64) s, eqb→eq (y % 64) (f % 64) t)

  pub noting_end : length facts ≤ k → (fs : List Fact) → facts_of facts ≡ fs → Noted (has fs) i fst₀ fst
  unfolding has choose
  noting_end h fs e = rw (← e) (record { long = N.long; are = λ y c. sym (N.so_far y c ∙ rw (facts_of_end facts k h) refl) })

-- first achievers depend on the state before them in the one fact only, and a fact that is held has none
module _ (act : ℕ → Action) (v d : ℕ) where
  first_achiever_same : (l : List ℕ) (s s' : State) → s v d ≡ s' v d → first_achiever act l s v d ≡ first_achiever act l s' v d
  unfolding first_achiever step
  first_achiever_same [] s s' e = refl
  first_achiever_same (i ∷ l) s s' e =
      go (has (act i).eff v d && not (s v d)) (ap (λ b. has (act i).eff v d && not b) e)
      (first_achiever_same l (step relaxed (act i) s) (step relaxed (act i) s') (ap (λ b. has (act i).eff v d || (b && not (relaxed v && touches (act i).eff v))) e))
    where
      go : (b : Bool) {b' : Bool} {x x' : Option ℕ} → b ≡ b' → x ≡ x' → ◌≡◌ {A = Option ℕ} (elim b [ true ↦ some i | false ↦ x ]) (elim b' [ true ↦ some i | false ↦ x' ])
      go true p q = rw (← p) refl
      go false p q = rw (← p) q

-- the run so far with one action in front of it
setters_more : (t : Task) (l : List ℕ) (i : ℕ) (fst fst' : List ℕ) → Setters t l fst → Noted (has (act t i).eff) i fst fst' → Setters t (i ∷ l) fst'
unfolding AchievedFrom choose achiever first_achiever has step
setters_more t l i fst fst' S N f b = N.are f b ∙ ap (λ x. choose (has (act t i).eff v d) i x) (S f b) ∙ go (has (act t i).eff v d) refl
  where
    v : ℕ
    v = f / 64

    d : ℕ
    d = f % 64

    s : State
    s = step relaxed (act t i) (has [])

    go : (h : Bool) → has (act t i).eff v d ≡ h
        → choose h i (achiever (first_achiever (act t) l (has []) v d)) ≡ achiever (elim (h && true) as (λ _. Option ℕ) [ true ↦ some i | false ↦ first_achiever (act t) l s v d ])
    go true e = refl
    go false e = ap achiever (first_achiever_same (act t) v d l (has []) s (sym (ap (λ b. b || false) e)))

-- an initial fact has no first achiever, and of any other it is the first action that sets it
pub achieved_of : (t : Task) (l fst fst' : List ℕ) → Setters t l fst → Noted (initial t) 65535 fst fst' → Achieved t l fst'
unfolding AchievedFrom choose achiever has
achieved_of t l fst fst' S N f b = N.are f b ∙ go (initial t (f / 64) (f % 64)) refl
  where
    go : (h : Bool) → initial t (f / 64) (f % 64) ≡ h → choose h 65535 (get_or fst f 0) ≡ achiever (first_achiever (act t) l (initial t) (f / 64) (f % 64))
    go true e = ap achiever (sym (first_achiever_held (act t) l (initial t) (f / 64) (f % 64) (rw e tt)))
    go false e = S f b ∙ ap achiever (first_achiever_same (act t) (f / 64) (f % 64) l (has []) (initial t) (sym e))

-- initial facts of variables before v are unset
pub record Unsetting (t : Task) (fst₀ fst : List ℕ) (v : ℕ) : Type 0 where
  pub to : v ≤ variables t
  pub long : length fst ≡ 4096
  pub so_far : (f : ℕ) → f < 4096 → get_or fst f 0 ≡ choose (ltb (f / 64) v && initial t (f / 64) (f % 64)) 65535 (get_or fst₀ f 0)

pub unsetting_start : (t : Task) (fst : List ℕ) → length fst ≡ 4096 → Unsetting t fst fst 0
unfolding choose
unsetting_start t fst n = record {
  to = omega arith;
  long = n;
  so_far = λ f c. rw (F→false (ltb (f / 64) 0) (λ h. omega (arith, ltb→lt (f / 64) 0 h))) refl;
}

module _ (t : Task) (F : Formed t) (fst₀ : List ℕ) where
  pub unsetting_turn : (fst : List ℕ) (v g : ℕ) → Unsetting t fst₀ fst v → v < variables t → g ≡ 64 * v + (variable t v).init → Unsetting t fst₀ (set fst g 65535) (v + 1)
  unfolding choose
  unsetting_turn fst v g U b e = record { to = omega arith; long = simp length-set U.long; so_far = λ f c. go f c (ℕ_discrete f g) }
    where
      below : (variable t v).init < 64
      below = omega (arith, F.init_below v, F.count_max v)

      -- of variables other than v nothing changes
      edge : (u : ℕ) → u ≢ v → ltb u v ≡ ltb u (v + 1)
      edge u n = elim (dec_lt u v) [
        | yes p ↦ T→true (ltb u v) (lt→ltb u v p) ∙ sym (T→true (ltb u (v + 1)) (lt→ltb u (v + 1) (omega arith)))
        | no p ↦ F→false (ltb u v) (λ h. p (ltb→lt u v h)) ∙ sym (F→false (ltb u (v + 1)) (λ h. p (omega (arith, ltb→lt u (v + 1) h))))
      ]

      same : (f : ℕ) → f ≢ g → (h : Bool) → initial t (f / 64) (f % 64) ≡ h → (ltb (f / 64) v && h) ≡ (ltb (f / 64) (v + 1) && h)
      same f n false q = and-false (ltb (f / 64) v) ∙ sym (and-false (ltb (f / 64) (v + 1)))
      same f n true q =
          let E = initial_elim t (f / 64) (f % 64) (rw q tt) in
          ap (λ x. x && true) (edge (f / 64) (λ z. n (let i : (variable t (f / 64)).init ≡ (variable t v).init = ap (λ u. (variable t u).init) z in omega (arith, E.1))))

      go : (f : ℕ) → f < 4096 → Dec (f ≡ g) → get_or (set fst g 65535) f 0 ≡ choose (ltb (f / 64) (v + 1) && initial t (f / 64) (f % 64)) 65535 (get_or fst₀ f 0)
      go f c (yes q) =
          let ev : f / 64 ≡ v = omega (arith, below) in
          let ed : f % 64 ≡ (variable t v).init = omega (arith, below) in
          let hit : (ltb (f / 64) (v + 1) && initial t (f / 64) (f % 64)) ≡ true = rw (
            ev,
            ed,
            T→true (ltb v (v + 1)) (lt→ltb v (v + 1) (omega arith)),
            T→true (initial t v (variable t v).init) (initial_holds t v b),
          ) refl in
          ap (λ x. get_or (set fst g 65535) x 0) q ∙ get_or-set_same fst g 65535 0 (omega (arith, U.long, below, F.variables_max)) ∙ ap (λ x. choose x 65535 (get_or fst₀ f 0)) (sym hit)
      go f c (no q) = get_or-set_other fst g f 65535 0 q ∙ U.so_far f c ∙ ap (λ x. choose x 65535 (get_or fst₀ f 0)) (same f q (initial t (f / 64) (f % 64)) refl)

  pub unsetting_end : (fst : List ℕ) (v : ℕ) → Unsetting t fst₀ fst v → variables t ≤ v → Noted (initial t) 65535 fst₀ fst
  unsetting_end fst v U b = record {
    long = U.long;
    are = λ f c. U.so_far f c ∙ ap (λ x. choose x 65535 (get_or fst₀ f 0)) (whole (f / 64) (f % 64) (initial t (f / 64) (f % 64)) refl);
  }
    where
      whole : (u d : ℕ) (h : Bool) → initial t u d ≡ h → (ltb u v && h) ≡ h
      whole u d false q = and-false (ltb u v)
      whole u d true q = let E = initial_elim t u d (rw q tt) in rw (T→true (ltb u v) (lt→ltb u v (omega (arith, E.0)))) refl

-- the run from its end
module _ (t : Task) (F : Formed t) where
  pub setters_start : (k : ℕ) → length (forward_run t) ≤ k → (fst : List ℕ) → fst ≡ replicate 4096 65535 → Setters t (drop k (forward_run t)) fst
  unfolding AchievedFrom first_achiever achiever
  setters_start k h fst e f b = rw (drop_of_length-le (forward_run t) h, e) (get_or-replicate {A = ℕ} 4096 f 65535 0 b)

  module _ (k : ℕ) (b : k < length (forward_run t)) where
    abbrev i : ℕ
    i = get_or (forward_run t) k 0

    pub entry_below : i < actions t
    entry_below = all_at (λ j. j < actions t) (forward_run t) (forward_run_ran t F).below k b

    pub from_k : drop k (forward_run t) ≡ i ∷ drop (k + 1) (forward_run t)
    from_k = rw (drop-cons (forward_run t) k 0 b, add-one) refl

    pub setters_turn : (fst fst' : List ℕ) → Setters t (drop (k + 1) (forward_run t)) fst → Noted (has (act t i).eff) i fst fst' → Setters t (drop k (forward_run t)) fst'
    setters_turn fst fst' S N = rw from_k (setters_more t (drop (k + 1) (forward_run t)) i fst fst' S N)

-- the run in the front of a list
module _ {task run : List ℕ} {n : ℕ} (R : Replay task run n) where
  pub run_long : length (forward_run (task_in task)) ≡ n
  run_long = rw (← R.list, length-take-le n run (omega (arith, R.long, R.few))) refl

  pub run_at : (k : ℕ) → k < n → get_or (forward_run (task_in task)) k 0 ≡ get_or run k 0
  run_at k b = rw (← R.list) (get_or-take n run k 0 b)
