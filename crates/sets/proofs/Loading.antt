-- The loops over the variables of a task: initial values, painting, goals.
use mathlib.Core.Path.{◌≡◌, refl, sym, ap, ◌∙◌, fun_ext}
use mathlib.Core.Logic.{◌≢◌}
use mathlib.Core.Bool.{Bool, true, false, ◌&&◌, ◌||◌, or-false, and-false}
use mathlib.Core.List.{List, ◌∷◌, ◌++◌, map-append, append_assoc, append-nil}
use mathlib.Core.Option.{none, some}
use Prim.Native.Nat.{ℕ, suc, ◌+◌, ◌*◌, ◌/◌, ◌%◌, ◌^◌, ◌<◌, ◌≤◌}
use native.Mathlib.Numerals.{add-one}
use native.Mathlib.Omega.{arith}
use native.Mathlib.Decide.{ℕ_discrete, dec_lt}
use borrow.Author.Tests.{eq-eqb, ne_eqb, lt-ltb, le-ltb}
use lib.Bits.{bit_or}
use lib.Dec.{eqb, ltb}
use lib.ListN.{length, get_or, set, drop, replicate, length-set}
use lib.Seq.{drop-cons, drop-length, take-suc-set, get_or-set_same, get_or-set_other}
use Rattle.planning.specs.Record.{Variable, Task}
use Rattle.planning.specs.Runs.{no_variable, variables, variable, black, initial, goals_from, goals}
use Rattle.laws.proofs.Fields.{variable_past}
use Rattle.laws.proofs.Formed.{Formed}
use Rattle.laws.proofs.Lists.{get_d_zeros}
use Rattle.task.specs.Task.{fact_of, facts_in}
use Rattle.sets.specs.Sets.{in_set, sets_of, mode_of}
use Rattle.sets.proofs.Members.{in_set_single, in_set_empty, in_set_or}

-- a loop over the n variables, at v
pub record Over (t : Task) (n v : ℕ) : Type 0 where
  pub formed : Formed t
  pub all : n ≡ variables t
  pub most : n ≤ 64
  pub within : v ≤ n

pub over_start : (t : Task) (n : ℕ) → Formed t → n ≡ variables t → Over t n 0
over_start t n F e = record { formed = F; all = e; most = omega (arith, F.variables_max); within = omega arith }

pub over_turn : (t : Task) (n v : ℕ) → Over t n v → v < n → Over t n (v + 1)
over_turn t n v o h = record { formed = o.formed; all = o.all; most = o.most; within = omega arith }

ltb_more : (w v : ℕ) → w ≢ v → ltb w (v + 1) ≡ ltb w v
ltb_more w v h = go (dec_lt w v)
  where
    go : Dec (w < v) → ltb w (v + 1) ≡ ltb w v
    go (yes l) = lt-ltb w (v + 1) (omega arith) ∙ sym (lt-ltb w v l)
    go (no l) = le-ltb w (v + 1) (omega arith) ∙ sym (le-ltb w v (omega arith))

-- initial values: the sets of the variables below v are filled
pub record Starting (t : Task) (n : ℕ) (ms : List ℕ) (v : ℕ) : Type 0 where
  pub over : Over t n v
  pub long : length ms ≡ 64
  pub filled : (w d : ℕ) → sets_of ms w d ≡ (ltb w v && eqb d (variable t w).init)

pub starting_start : (t : Task) (n : ℕ) → Formed t → n ≡ variables t → Starting t n (replicate 64 0) 0
unfolding sets_of
starting_start t n F e = record {
  over = over_start t n F e;
  long = refl;
  filled = λ w d. rw (get_d_zeros 64 w, in_set_empty d, le-ltb w 0 (omega arith)) refl;
}

module _ (t : Task) (n : ℕ) (ms : List ℕ) (v : ℕ) (p : Starting t n ms v) where
  pub starting_turn : v < n → (x w : ℕ) → x ≡ (variable t v).init → w ≡ 2 ^ x → Starting t n (set ms v w) (v + 1)
  unfolding sets_of
  starting_turn h x w ex ew = rw ew (record {
    over = over_turn t n v p.over h;
    long = length-set ms v (2 ^ x) ∙ p.long;
    filled = λ w d. go w d (ℕ_discrete w v);
  })
    where
      go : (w d : ℕ) → Dec (w ≡ v) → in_set (get_or (set ms v (2 ^ x)) w 0) d ≡ (ltb w (v + 1) && eqb d (variable t w).init)
      go w d (yes e) = rw (e, get_or-set_same ms v (2 ^ x) 0 (omega (arith, p.long, p.over.most)), in_set_single x d, lt-ltb v (v + 1) (omega arith), ex) refl
      go w d (no e) = rw (get_or-set_other ms v w (2 ^ x) 0 e, ltb_more w v e) (p.filled w d)

  pub starting_end : n ≤ v → sets_of ms ≡ initial t
  unfolding initial
  starting_end h =
      let e : v ≡ variables t = omega (arith, p.over.within, p.over.all) in
      fun_ext (λ w. fun_ext (λ d. p.filled w d ∙ rw e refl))

pub black_past : (t : Task) (w : ℕ) → variables t ≤ w → black t w ≡ false
unfolding black
black_past t w h = ap (λ (y : Variable). y.black) (variable_past t w h)

-- painting: the black variables below v are in the set
pub record Painting (t : Task) (n m v : ℕ) : Type 0 where
  pub over : Over t n v
  pub filled : (w : ℕ) → in_set m w ≡ (ltb w v && black t w)

pub painting_start : (t : Task) (n : ℕ) → Formed t → n ≡ variables t → Painting t n 0 0
painting_start t n F e = record { over = over_start t n F e; filled = λ w. rw (in_set_empty w, le-ltb w 0 (omega arith)) refl }

module _ (t : Task) (n m v : ℕ) (p : Painting t n m v) (h : v < n) where
  pub painting_black : (b : Bool) (o : ℕ) → b ≡ black t v → b ≡ true → o ≡ 2 ^ v → Painting t n (bit_or m o) (v + 1)
  painting_black b o eb et eo = record {
    over = over_turn t n v p.over h;
    filled = λ w. rw (eo, in_set_or m (2 ^ v) w, in_set_single v w, p.filled w) (go w (ℕ_discrete w v));
  }
    where
      go : (w : ℕ) → Dec (w ≡ v) → ((ltb w v && black t w) || eqb w v) ≡ (ltb w (v + 1) && black t w)
      go w (yes e) = rw (e, le-ltb v v (omega arith), eq-eqb v v refl, lt-ltb v (v + 1) (omega arith), ← eb, et) refl
      go w (no e) = rw (ne_eqb w v e, ltb_more w v e) (or-false (ltb w v && black t w))

  pub painting_red : (b : Bool) → b ≡ black t v → b ≡ false → Painting t n m (v + 1)
  painting_red b eb ef = record { over = over_turn t n v p.over h; filled = λ w. p.filled w ∙ go w (ℕ_discrete w v) }
    where
      go : (w : ℕ) → Dec (w ≡ v) → (ltb w v && black t w) ≡ (ltb w (v + 1) && black t w)
      go w (yes e) = rw (e, ← eb, ef, and-false (ltb v v), and-false (ltb v (v + 1))) refl
      go w (no e) = rw (ltb_more w v e) refl

pub painting_end : (t : Task) (n m v : ℕ) → Painting t n m v → n ≤ v → mode_of m ≡ black t
unfolding mode_of
painting_end t n m v p h = fun_ext (λ w. p.filled w ∙ go w (dec_lt w v))
  where
    go : (w : ℕ) → Dec (w < v) → (ltb w v && black t w) ≡ black t w
    go w (yes l) = rw (lt-ltb w v l) refl
    go w (no l) = rw (le-ltb w v (omega arith), black_past t w (omega (arith, p.over.within, p.over.all))) refl

-- goals: those of the variables below v stand in front
pub record Loading (t : Task) (n : ℕ) (l : List ℕ) (k v : ℕ) : Type 0 where
  pub over : Over t n v
  pub few : k ≤ v
  pub long : length l ≡ 64
  pub so_far : facts_in l 0 k ++ goals_from v (drop v t.vars) ≡ goals t

pub loading_start : (t : Task) (n : ℕ) → Formed t → n ≡ variables t → Loading t n (replicate 64 0) 0 0
unfolding facts_in goals
loading_start t n F e = record { over = over_start t n F e; few = omega arith; long = refl; so_far = refl }

goals_from_none : (v : ℕ) (x : Variable) (xs : List Variable) → x.goal ≡ none → goals_from v (x ∷ xs) ≡ goals_from (suc v) xs
unfolding goals_from
goals_from_none v x xs e = rw e refl

goals_from_some : (v g : ℕ) (x : Variable) (xs : List Variable) → x.goal ≡ some g → goals_from v (x ∷ xs) ≡ record { var = v; val = g } ∷ goals_from (suc v) xs
unfolding goals_from
goals_from_some v g x xs e = rw e refl

pub goal_small : (t : Task) (v g : ℕ) → Formed t → (variable t v).goal ≡ some g → g < 64
goal_small t v g F e = omega (arith, F.goal_below v g e, F.count_max v)

fact_of_goal : (v g w : ℕ) → g < 64 → w ≡ 64 * v + g → fact_of w ≡ record { var = v; val = g }
unfolding fact_of
fact_of_goal v g w h e =
    let a : w / 64 ≡ v = omega arith in
    let c : w % 64 ≡ g = omega arith in
    rw (a, c) refl

module _ (t : Task) (n : ℕ) (l : List ℕ) (k v : ℕ) (p : Loading t n l k v) where
  cons : v < n → drop v t.vars ≡ variable t v ∷ drop (suc v) t.vars
  unfolding variable
  cons h = drop-cons t.vars v no_variable (omega (arith, p.over.all))

  pub loading_skip : v < n → (variable t v).goal ≡ none → Loading t n l k (v + 1)
  loading_skip h e = record {
    over = over_turn t n v p.over h;
    few = omega (arith, p.few);
    long = p.long;
    so_far = rw (add-one, ← goals_from_none v (variable t v) (drop (suc v) t.vars) e, ← cons h) p.so_far;
  }

  pub loading_take : v < n → (g w : ℕ) → (variable t v).goal ≡ some g → w ≡ 64 * v + g → Loading t n (set l k w) (k + 1) (v + 1)
  unfolding facts_in
  loading_take h g w e ew = record {
    over = over_turn t n v p.over h;
    few = omega (arith, p.few);
    long = length-set l k w ∙ p.long;
    so_far = rw (add-one, add-one, take-suc-set l k w (omega (arith, p.few, p.long, p.over.most)), map-append, fact_of_goal v g w (goal_small t v g p.over.formed e) ew, append_assoc)
        (rw (cons h, goals_from_some v g (variable t v) (drop (suc v) t.vars) e) at p.so_far);
  }

  pub loading_end : n ≤ v → facts_in l 0 k ≡ goals t
  unfolding goals_from
  loading_end h =
      let e : v ≡ length t.vars = omega (arith, p.over.within, p.over.all) in
      sym (append-nil (facts_in l 0 k)) ∙ rw (sym (ap (goals_from v) (ap (λ (q : ℕ). drop q t.vars) e ∙ drop-length t.vars))) p.so_far
