-- Plain actions. Where an action needs black variables alone, the red-black state and the newest values agree on what it needs.
use mathlib.Core.Path.{◌≡◌, refl, sym, ap, ◌∙◌}
use mathlib.Core.Bool.{Bool, true, false, ◌&&◌}
use mathlib.Core.List.{List, [], ◌∷◌}
use mir.Val.{bool_byte}
use Prim.Native.Nat.{ℕ, zero, suc, ◌+◌, ◌-◌, ◌/◌, ◌<◌, ◌≤◌}
use native.Mathlib.Omega.{arith}
use lib.Dec.{T, eqb}
use lib.ListN.{length, get_or, take, drop, replicate}
use lib.Seq.{get_or-take, get_or-drop}
use Rattle.planning.specs.Record.{Fact, Action, Task}
use Rattle.planning.specs.Runs.{State, Mode, holds, step, relaxed, act}
use Rattle.planning.specs.Newest.{Values, newer, alone}
use Rattle.laws.proofs.Tests.{T→true, and_l, and_r}
use Rattle.task.specs.Task.{fact_of, facts_of}
use Rattle.sets.specs.Sets.{red_black_of, further, listed}
use Rattle.sets.proofs.Slices.{facts_of_drop, facts_of_end}
use Rattle.applying.proofs.Knowing.{known_none, known_step, known_held, listed_none}
use Rattle.applying.proofs.RedBlackSteps.{red_black_black}
use Rattle.counts.specs.declared.Counts.{Counts}
use Rattle.counts.specs.Counting.{Onward, Few}
use Rattle.counts.specs.Plain.{all_black, Plain, passed_by, Glide, Gliding}

-- at place k of a list of facts: what is left to look at are the facts from k on
module _ (m : Mode) (l : List ℕ) (k : ℕ) where
  all_cons : k < length l → (f : ℕ) → f ≡ get_or l k 0 → all_black m (facts_of (drop k l)) ≡ (m (f / 64) && all_black m (facts_of (drop (k + 1) l)))
  unfolding all_black fact_of
  all_cons h f ef = rw (facts_of_drop l k h, ← ef) refl

  pub all_fails : k < length l → (f : ℕ) → f ≡ get_or l k 0 → m (f / 64) ≡ false → all_black m (facts_of (drop k l)) ≡ false
  all_fails h f ef e = all_cons h f ef ∙ rw e refl

  pub all_passes : k < length l → (f : ℕ) → f ≡ get_or l k 0 → m (f / 64) ≡ true → all_black m (facts_of (drop k l)) ≡ all_black m (facts_of (drop (k + 1) l))
  all_passes h f ef e = all_cons h f ef ∙ rw e refl

  pub all_end : length l ≤ k → all_black m (facts_of (drop k l)) ≡ true
  unfolding all_black
  all_end h = rw (facts_of_end l k h) refl

-- what is held red-black is the newest value
module _ (m : Mode) (s : State) (f : Values) where
  pub plain_holds : (fs : List Fact) → T (all_black m fs) → T (holds (red_black_of m s f) fs) → T (holds (alone f) fs)
  unfolding all_black holds
  plain_holds [] b h = h
  plain_holds (x ∷ fs) b h =
      let v = x.var in
      let d = x.val in
      let own : red_black_of m s f v d ≡ alone f v d = red_black_black m s f v d (T→true (m v) (and_l (m v) (all_black m fs) b)) in
      let here : alone f v d ≡ true = sym own ∙ T→true (red_black_of m s f v d) (and_l (red_black_of m s f v d) (holds (red_black_of m s f) fs) h) in
      let rest = plain_holds fs (and_r (m v) (all_black m fs) b) (and_r (red_black_of m s f v d) (holds (red_black_of m s f) fs) h) in
      rw here rest

-- one step more of a glide
pub glide_more : (t : Task) (set plan : List ℕ) (m : ℕ) (f : Values) (c : Counts) (g : Values) (r : Counts) → Glide t set plan m f c g r
    → let i = get_or plan r.steps 0 in T (listed set i) → Glide t set plan (suc m) f c (newer (act t i) g) (passed_by (act t i) r)
unfolding Glide
glide_more t set plan zero f c g r G h = rw (G.0, G.1) (rw G.1 at h, (refl, refl))
glide_more t set plan (suc m) f c g r G h = (G.0, glide_more t set plan m _ _ g r G.1 h)

pub glide_none : (t : Task) (set plan : List ℕ) (f : Values) (c : Counts) → Glide t set plan 0 f c f c
unfolding Glide
glide_none t set plan f c = (refl, refl)

-- the counts behind it
module _ (a : Action) (c : Counts) where
  further_one : (x : Bool) → c.runs + bool_byte x ≡ elim (x && true) [ true ↦ suc c.runs | false ↦ c.runs ]
  further_one true = omega arith
  further_one false = omega arith

  pub passed_is : (r k : ℕ) → r ≡ bool_byte (eqb c.runs c.steps) → k ≡ a.cost → ◌≡◌ {A = Counts} (record { steps = c.steps + 1; runs = c.runs + r; cost = c.cost + k }) (passed_by a c)
  unfolding passed_by further
  passed_is r k e q = rw (e, q, further_one (eqb c.runs c.steps)) refl

  pub passed_steps : (passed_by a c).steps ≡ c.steps + 1
  unfolding passed_by
  passed_steps = refl

  pub passed_onward : (f : Values) → holds (alone f) a.pre ≡ true → Onward a f c (passed_by a c)
  unfolding passed_by
  passed_onward f e = record { steps = refl; runs = rw e refl; cost = refl }

module _ (t : Task) (set plan : List ℕ) (to : ℕ) (f : Values) (c : Counts) where
  pub gliding_start : c.steps ≤ to → Gliding t set plan to f c f c
  gliding_start b = record { count = 0; steps = omega arith; within = b; way = glide_none t set plan f c }

  pub gliding_more : (g : Values) (r : Counts) → Gliding t set plan to f c g r → r.steps < to → (i : ℕ) → i ≡ get_or plan r.steps 0 → T (listed set i)
      → (g' : Values) (r' : Counts) → g' ≡ newer (act t i) g → r' ≡ passed_by (act t i) r → Gliding t set plan to f c g' r'
  gliding_more g r G b i ei h g' r' eg er =
      let more : r'.steps ≡ r.steps + 1 = ap (λ (x : Counts). x.steps) er ∙ passed_steps (act t i) r in
      record {
        count = suc G.count;
        steps = omega (arith, more, G.steps);
        within = omega (arith, more);
        way = rw (eg, er, ei) (glide_more t set plan G.count f c g r G.way (rw (← ei) h));
      }

-- an entry of the part of a list from place s on
pub entry_behind : (l : List ℕ) (s k m i : ℕ) → m ≡ s + k → k < length l - s → i ≡ get_or (take (length l - s) (drop s l)) k 0 → i ≡ get_or l m 0
entry_behind l s k m i e h q = q ∙ get_or-take (length l - s) (drop s l) k 0 h ∙ get_or-drop s l k 0 ∙ ap (λ (j : ℕ). get_or l j 0) (sym e)

-- counts stay within their bounds
further_le : (b : Bool) (r s : ℕ) → r ≤ s → further b r s ≤ s + 1
unfolding further
further_le b r s h = go (eqb r s && b)
  where
    go : (x : Bool) → elim x [ true ↦ suc r | false ↦ r ] ≤ s + 1
    go true = omega arith
    go false = omega arith

module _ (a : Action) (c : Counts) (h : a.cost < 65536) (F : Few c) (b : c.steps < 32768) where
  pub onward_few : (f : Values) (r : Counts) → Onward a f c r → Few r
  onward_few f r O = record {
    steps = omega (arith, O.steps);
    runs = omega (arith, O.runs, O.steps, further_le (holds (alone f) a.pre) c.runs c.steps F.runs);
    cost = omega (arith, O.cost, O.steps, F.cost);
  }

  pub passed_few : Few (passed_by a c)
  unfolding passed_by
  passed_few = record { steps = omega arith; runs = further_le true c.runs c.steps F.runs; cost = omega (arith, F.cost) }

module _ (t : Task) (s : State) where
  pub plain_none : (set : List ℕ) → set ≡ replicate 16 0 → Plain t s set
  plain_none set e = record { known = known_none t s set e; black' = λ i b h. absurd (listed_none set e i b h) }

  module _ {set : List ℕ} (P : Plain t s set) (i : ℕ) where
    pub plain_step : Plain t (step relaxed (act t i) s) set
    plain_step = record { known = known_step t s P.known i; black' = P.black' }

-- where the effects are held already, the state behind the action is the same
pub plain_held : (t : Task) (s : State) (a : Action) (set : List ℕ) → holds s a.eff ≡ true → Plain t (step relaxed a s) set → Plain t s set
plain_held t s a set h P = record { known = known_held t s a set h P.known; black' = P.black' }
