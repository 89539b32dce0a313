-- The repair of a relaxed plan, over the functions that it needs of a task. `Accepted` is what the record's form and the painting's
-- two conditions give. Invariant after any number of steps: the facts of R and B hold all that the relaxed actions done so far reach,
-- and any two values that a black variable has had are joined by usable walks (`Inv` and `Conn`). So the facts wanted next were held
-- before and can be reached again; after the inserted moves the action applies, and the relaxed run goes on within R and B.
-- Length: moves for one need are fewer than P. The first action applies at the start and needs none, so that n actions have at most n
-- needs (before the second to the last, and at the end): n + n × (P − 1) steps.
use Prim.Native.Nat.{ℕ, ◌+◌, ◌*◌, ◌≤◌, ◌<◌}
use mathlib.Core.Path.{◌≡◌, refl, ap, ◌∙◌}
use mathlib.Core.Logic.{inl, inr}
use mathlib.Core.Bool.{Bool, true, false, not, ◌&&◌, ◌||◌}
use mathlib.Core.List.{List, [], ◌∷◌, ◌++◌, append-nil}
use mathlib.Core.Option.{Option, none, some}
use lib.Dec.{T, T_not}
use lib.ListN.{length, length-append}
use native.Mathlib.Omega.{arith}
use native.Mathlib.Nat.{mul-le-mul_left, mul-le-mul_right}
use Rattle.planning.specs.Basics.{first}
use Rattle.planning.specs.Record.{Fact, Action}
use Rattle.planning.specs.Runs.{State, has, holds, Mode, step, relaxed, run, runs, run_by, runs_by}
use Rattle.planning.specs.Painting.{or_zero}
use Rattle.planning.specs.Repair.{known, ever_after, best_path, fill, value, black_met, moves, stage_steps, all_steps, stages_from, fill_searches, move_searches, all_searches}
use Rattle.laws.proofs.Tests.{T→true, or_r, or_cases, and_l, and_r, and_i}
use Rattle.laws.proofs.Below.{First?, first_is}
use Rattle.laws.proofs.Facts.{◌⊆◌, holds→sub, sub→holds, Func}
use Rattle.laws.proofs.Steps.{step_mono, run_append, runs_append, run_grows, All, all_append, all_map}
use Rattle.laws.proofs.Walks.{Walk, Usable}
use Rattle.laws.proofs.Fill.{withs, Ordered, Sound, fill_meets, meets→runs, product, fill_short, fill_searches_lem}
use Rattle.laws.proofs.Best.{best_walk, best_short}
use Rattle.laws.proofs.Known.{ever_after_now, known_run}
use Rattle.laws.proofs.Conn.{Invertible, Inv, Conn, inv_same, conn_same, inv_step, conn_step}

-- the steps of the stages; at the end only the moves for the goals; the searches
abbrev pub repair_from : (ℕ → Action) → ℕ → Mode → (ℕ → ℕ) → List ℕ → List Fact → List ℕ → State → State → List ℕ
repair_from act A m count order goal l s ever = all_steps (stages_from act A m count order goal l s ever)

abbrev pub searches_from : (ℕ → Action) → ℕ → Mode → (ℕ → ℕ) → List ℕ → List Fact → List ℕ → State → State → ℕ
searches_from act A m count order goal l s ever = all_searches (stages_from act A m count order goal l s ever)

pub repair_from_nil : (act : ℕ → Action) (A : ℕ) (m : Mode) (count : ℕ → ℕ) (order : List ℕ) (goal : List Fact) (s ever : State)
    → repair_from act A m count order goal [] s ever ≡ moves act A m count order s ever goal
unfolding stage_steps all_steps stages_from
repair_from_nil act A m count order goal s ever =
    let l : List ℕ = moves act A m count order s ever goal in
    append-nil (l ++ []) ∙ append-nil l

-- a need whose red facts are held is met where its black facts are
black_met_holds : (m : Mode) (s : State) (w : List Fact) → black_met m s w ≡ holds (λ v d. not (m v) || s v d) w
unfolding black_met holds
black_met_holds m s [] = refl
black_met_holds m s (f ∷ fs) = ap (λ b. (not (m f.var) || s f.var f.val) && b) (black_met_holds m s fs)

black_met→sub : (m : Mode) (s : State) (w : List Fact) → T (black_met m s w) → ((v d : ℕ) → T (has w v d) → (T (m v) → ⊥) → T (s v d)) → has w ⊆ s
black_met→sub m s w t r v d h = elim (or_cases (not (m v)) (s v d) (holds→sub (λ v d. not (m v) || s v d) w (rw (black_met_holds m s w) at t) v d h)) [
  | inl n ↦ r v d h (T_not (m v) n)
  | inr x ↦ x
]

sub→black_met : (m : Mode) (s : State) (w : List Fact) → has w ⊆ s → T (black_met m s w)
sub→black_met m s w h = rw (black_met_holds m s w) (sub→holds (λ v d. not (m v) || s v d) w (λ v d t. or_r (not (m v)) (s v d) (h v d t)))

-- at the start the red variables are settled
abbrev pub Red : Mode → ℕ → Type 0
Red m u = T (m u) → ⊥

pub record Accepted (act : ℕ → Action) (A : ℕ) (m : Mode) (count : ℕ → ℕ) (order : List ℕ) : Type 0 where
  pub sound : Sound act A m
  pub range : (i v e : ℕ) → i < A → T (has (act i).eff v e) → e < count v
  pub pos : (v : ℕ) → 0 < count v
  pub invertible : Invertible act A m count
  pub ordered : Ordered act A m (Red m) order
  pub covers : (u : ℕ) → withs (Red m) order u

module _ (act : ℕ → Action) (A : ℕ) (m : Mode) (count : ℕ → ℕ) (order : List ℕ) (K : Accepted act A m count order) where
  -- the invariant along a run
  inv_run : (l : List ℕ) (s W : State) → All (λ i. i < A) l → T (runs act m l s) → Inv act A m count s W → Conn act A m count W
      → Inv act A m count (run act m l s) (run act relaxed l W) × Conn act A m count (run act relaxed l W)
  unfolding run_by runs_by
  inv_run [] s W b r I C = (I, C)
  inv_run (i ∷ l) s W b r I C =
      let h = holds→sub s (act i).pre (search and_l) in
      inv_run l (step m (act i) s) (step relaxed (act i) W) b.1 (search and_r)
      (inv_step act A m count K.sound K.range i b.0 s W h I)
      (conn_step act A m count K.sound K.range i b.0 s W h I K.invertible C)

  -- the present value of a black variable is held
  value_at : (s W : State) → Inv act A m count s W → (v : ℕ) → T (m v) → T (s v (value count s v))
  unfolding value or_zero
  value_at s W I v mv = go (first (count v) (s v)) (first_is (count v) (s v))
    where
      go : (o : Option ℕ) → First? (count v) (s v) o → T (s v (or_zero o))
      go none f = let c = I.val v mv in absurd (f c.0 (I.ranged v c.0 (I.ins v c.0 c.1)) c.1)
      go (some c) f = f.passes

  -- the list runs from s and meets w
  pub record Leads (s : State) (w : List Fact) (l : List ℕ) : Type 0 where
    pub below : All (λ i. i < A) l
    pub runs' : T (runs act m l s)
    pub meets : has w ⊆ run act m l s

  moves_leads : (s ever : State) (w : List Fact) → Func w → has w ⊆ known m s ever
      → Inv act A m count s (known m s ever) → Conn act A m count (known m s ever) → Leads s w (moves act A m count order s ever w)
  unfolding moves run_by runs_by
  moves_leads s ever w fw ww I C = go (black_met m s w) refl
    where
      W : State
      W = known m s ever

      path : ℕ → ℕ → ℕ → List ℕ
      path v = best_path act A W v (count v)

      paths : (v c d : ℕ) → T (m v) → T (W v c) → T (W v d) → Walk act (Usable act A W v) v c (path v c d) d
      paths v c d mv h g =
          let p = C v c d mv h g in
          best_walk act A W v (count v) K.sound.pres K.sound.effs (λ i e. K.range i v e) c d (I.ranged v c h) p.0 p.1

      go : (b : Bool) → black_met m s w ≡ b → Leads s w (elim b [ true ↦ [] | false ↦ fill act path (value count s) order [] w ])
      go true e = record { below = tt; runs' = tt; meets = black_met→sub m s w (rw e tt) (λ v d h r. I.reds v d r (ww v d h)) }
      go false e =
          let l : List ℕ = fill act path (value count s) order [] w in
          let r = fill_meets act A m K.sound W s path (value count s) paths I.reds I.ins (value_at s W I) w fw ww
          order (Red m) [] K.ordered tt (λ u x h q. I.reds u x q (ww u x h)) in
          let z = meets→runs act (withs (Red m) order) K.covers m w l s r.0 in
          record { below = all_map _ (λ i. i < A) (λ i o. o.below) l r.1; runs' = z.0; meets = z.1 }

  -- the repaired list runs and meets the goal: X is the state of the relaxed run of the relaxed actions done so far
  pub repair_from_leads : (goal : List Fact) → Func goal → (l : List ℕ) (s ever X : State) → s ⊆ ever → All (λ i. i < A) l
      → X ⊆ known m s ever → T (runs act relaxed l X) → has goal ⊆ run act relaxed l X
      → Inv act A m count s (known m s ever) → Conn act A m count (known m s ever) → Leads s goal (repair_from act A m count order goal l s ever)
  unfolding stage_steps all_steps stages_from run_by runs_by
  repair_from_leads goal fg [] s ever X e b x r g I C = rw (repair_from_nil act A m count order goal s ever) (moves_leads s ever goal fg (λ v d h. x v d (g v d h)) I C)
  repair_from_leads goal fg (i ∷ l) s ever X e b x r g I C =
      let W : State = known m s ever in
      let p = holds→sub X (act i).pre (search and_l) in
      let j : List ℕ = moves act A m count order s ever (act i).pre in
      let M = moves_leads s ever (act i).pre (K.sound.pres i b.0) (λ v d h. x v d (p v d h)) I C in
      let k : List ℕ = j ++ (i ∷ []) in
      let kb = all_append (λ i. i < A) j (i ∷ []) M.below (b.0, tt) in
      let s₁ : State = run act m j s in
      let kr = runs_append act m j (i ∷ []) s M.runs' (and_i (holds s₁ (act i).pre) true (sub→holds s₁ (act i).pre M.meets) tt) in
      let s' : State = run act m k s in
      let ever' : State = ever_after act m k s ever in
      let J = inv_run k s W kb kr I C in
      let n = known_run act m k s ever e in
      let I' = inv_same act A m count s' (run act relaxed k W) (known m s' ever') n J.0 in
      let C' = conn_same act A m count (run act relaxed k W) (known m s' ever') n J.1 in
      let rest : List ℕ = repair_from act A m count order goal l s' ever' in
      let X' : State = step relaxed (act i) X in
      let x₁ = step_mono relaxed relaxed (act i) X (run act relaxed j W) (λ v t. t) (λ v d h. run_grows act j W v d (x v d h)) in
      let x' : X' ⊆ known m s' ever' = λ v d h. n.0 v d (rw (run_append act relaxed j (i ∷ []) W) (x₁ v d h)) in
      let N = repair_from_leads goal fg l s' ever' X' (ever_after_now act m k s ever e) b.1 x' (search and_r) g I' C' in
      record {
        below = all_append (λ i. i < A) k rest kb N.below;
        runs' = runs_append act m k rest s kr N.runs';
        meets = λ v d h. rw (run_append act m k rest s) (N.meets v d h);
      }

  product_pos : (vs : List ℕ) → 0 < product count vs
  unfolding product
  product_pos [] = omega arith
  product_pos (v ∷ vs) = omega (arith, mul-le-mul_right (product count vs) (K.pos v), product_pos vs)

  moves_short : (s ever : State) (w : List Fact) → length (moves act A m count order s ever w) < product count order
  unfolding moves
  moves_short s ever w = go (black_met m s w)
    where
      W : State
      W = known m s ever

      path : ℕ → ℕ → ℕ → List ℕ
      path v = best_path act A W v (count v)

      go : (b : Bool) → length {A = ℕ} (elim b [ true ↦ [] | false ↦ fill act path (value count s) order [] w ]) < product count order
      go true = product_pos order
      go false = omega (arith, fill_short act path (value count s) count (λ v c d. best_short act A W v d (count v) (K.pos v) c) order [] w)

  repair_from_long : (goal : List Fact) (l : List ℕ) (s ever : State) → length (repair_from act A m count order goal l s ever) < (length l + 1) * product count order
  unfolding stage_steps all_steps stages_from
  repair_from_long goal [] s ever = rw (repair_from_nil act A m count order goal s ever) (omega (arith, moves_short s ever goal))
  repair_from_long goal (i ∷ l) s ever =
      let k : List ℕ = moves act A m count order s ever (act i).pre ++ (i ∷ []) in
      simp length-append (omega (arith, moves_short s ever (act i).pre, repair_from_long goal l (run act m k s) (ever_after act m k s ever)))

  -- a need that is met takes no moves; at the start that is so of the first action
  moves_none : (s ever : State) (w : List Fact) → has w ⊆ s → moves act A m count order s ever w ≡ []
  unfolding moves
  moves_none s ever w h =
      ap (λ (b : Bool). elim b as (λ _. List ℕ) [ true ↦ [] | false ↦ fill act (λ v. best_path act A (known m s ever) v (count v)) (value count s) order [] w ])
      (T→true (black_met m s w) (sub→black_met m s w h))

  pub repair_from_short : (goal : List Fact) (l : List ℕ) (s ever : State) → T (runs act relaxed l s) → has goal ⊆ run act relaxed l s
      → length (repair_from act A m count order goal l s ever) ≤ length l * product count order
  unfolding stage_steps all_steps stages_from run_by runs_by
  repair_from_short goal [] s ever r g = rw (repair_from_nil act A m count order goal s ever, moves_none s ever goal g) (omega arith)
  repair_from_short goal (i ∷ l) s ever r g =
      rw (moves_none s ever (act i).pre (holds→sub s (act i).pre (search and_l)))
      (omega (arith, repair_from_long goal l (step m (act i) s) (ever_after act m (i ∷ []) s ever)))

  -- searches for one need: one for each black variable and place of its list, of which there are at most P
  moves_searches : (s ever : State) (w : List Fact) → move_searches act A m count order s ever w ≤ length order * product count order
  unfolding move_searches
  moves_searches s ever w = go (black_met m s w)
    where
      W : State
      W = known m s ever

      path : ℕ → ℕ → ℕ → List ℕ
      path v = best_path act A W v (count v)

      go : (b : Bool) → elim b [ true ↦ 0 | false ↦ fill_searches act path (value count s) order [] w ] ≤ length order * product count order
      go true = omega arith
      go false =
          let few = fill_short act path (value count s) count (λ v c d. best_short act A W v d (count v) (K.pos v) c) order [] w in
          let less : length (fill act path (value count s) order [] w) + 1 ≤ product count order = omega (arith, few) in
          omega (arith, fill_searches_lem act path (value count s) order [] w, mul-le-mul_left (length order) less)

  searches_from_long : (goal : List Fact) (l : List ℕ) (s ever : State) → searches_from act A m count order goal l s ever ≤ (length l + 1) * (length order * product count order)
  unfolding all_searches stages_from stage_steps
  searches_from_long goal [] s ever = omega (arith, moves_searches s ever goal)
  searches_from_long goal (i ∷ l) s ever =
      let k : List ℕ = moves act A m count order s ever (act i).pre ++ (i ∷ []) in
      omega (arith, moves_searches s ever (act i).pre, searches_from_long goal l (run act m k s) (ever_after act m k s ever))

  searches_none : (s ever : State) (w : List Fact) → has w ⊆ s → move_searches act A m count order s ever w ≡ 0
  unfolding move_searches
  searches_none s ever w h = rw (T→true (black_met m s w) (sub→black_met m s w h), move_searches) refl

  pub searches_from_short : (goal : List Fact) (l : List ℕ) (s ever : State) → T (runs act relaxed l s) → has goal ⊆ run act relaxed l s
      → searches_from act A m count order goal l s ever ≤ length l * (length order * product count order)
  unfolding all_searches stages_from stage_steps run_by runs_by
  searches_from_short goal [] s ever r g = omega (arith, searches_none s ever goal g)
  searches_from_short goal (i ∷ l) s ever r g =
      let k : List ℕ = moves act A m count order s ever (act i).pre ++ (i ∷ []) in
      omega (arith, searches_none s ever (act i).pre (holds→sub s (act i).pre (search and_l)), searches_from_long goal l (run act m k s) (ever_after act m k s ever))
