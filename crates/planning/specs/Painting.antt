-- Paintings (5).
use Rattle.std.specs.Prelude.{ℕ, pred, Bool, true, false, not, ◌&&◌, ◌||◌, List, [], ◌∷◌, ◌++◌, eqb}
use Rattle.std.proofs.Math.Option.{Option, none, some}
use Rattle.planning.specs.Basics.{Check, refuse_at, some_below, first, reach}
use Rattle.planning.specs.Record.{Fact, Action, Task}
use Rattle.planning.specs.Runs.{has, touches, look, holds, variables, actions, count, act, black}

-- 2.7 and 5.1: the facts of a list that are not among those of pre; the reduced effects of an action, those that it does not need
unfoldable pub without : List Fact → List Fact → List Fact
without pre [] = []
without pre (f ∷ fs) = elim (has pre f.var f.val) [ true ↦ without pre fs | false ↦ f ∷ without pre fs ]

unfoldable pub reduced_effects : Action → List Fact
reduced_effects a = without a.pre a.eff

-- 5.1: an arc of the causal graph
unfoldable pub causal_arc : Task → ℕ → ℕ → Bool
causal_arc t u v =
    not (eqb u v) && some_below (actions t) (λ i. touches (reduced_effects (act t i)) v && (touches (act t i).pre u || touches (reduced_effects (act t i)) u))

-- 5.2: an arc of the black causal graph
unfoldable pub black_arc : Task → ℕ → ℕ → Bool
black_arc t u v = (black t u && black t v) && causal_arc t u v

-- 5.2: v is on a cycle of a graph of n nodes
unfoldable pub on_cycle : ℕ → (ℕ → ℕ → Bool) → ℕ → Bool
on_cycle n adj v = some_below n (λ u. adj v u && reach n adj (pred n) u v)

-- 5.3: the lowest variable on a cycle, if there is one
unfoldable pub cyclic : Task → Option ℕ
cyclic t = first (variables t) (on_cycle (variables t) (black_arc t))

-- 5.4: the value needed is d, or none is
unfoldable pub fits : Option ℕ → ℕ → Bool
fits none d = true
fits (some x) d = eqb x d

-- 5.4: a value is set, and it is not d
unfoldable pub leaves : Option ℕ → ℕ → Bool
leaves none d = false
leaves (some e) d = not (eqb d e)

-- the number, 0 where there is none
unfoldable pub or_zero : Option ℕ → ℕ
or_zero none = 0
or_zero (some e) = e

-- 5.4: the value e to which action i changes v, 0 if it does not
unfoldable pub target : (ℕ → Action) → ℕ → ℕ → ℕ
target act v i = or_zero (look (reduced_effects (act i)) v)

-- 5.4: action i gives an arc of v from d, to its target
unfoldable pub arc_from : (ℕ → Action) → ℕ → ℕ → ℕ → Bool
arc_from act v d i = fits (look (act i).pre v) d && leaves (look (reduced_effects (act i)) v) d

-- 5.5: the facts of a list on variables other than v
unfoldable pub outside : ℕ → List Fact → List Fact
outside v [] = []
outside v (f ∷ fs) = elim (eqb f.var v) [ true ↦ outside v fs | false ↦ f ∷ outside v fs ]

-- 5.6: action j gives a return of the arc of v from d that action i gives
unfoldable pub return_by : Task → ℕ → ℕ → ℕ → ℕ → Bool
return_by t v d i j =
    (arc_from (act t) v (target (act t) v i) j && eqb (target (act t) v j) d)
    && holds (has (outside v (act t i).pre ++ outside v (act t i).eff)) (outside v (act t j).pre)

-- 5.7: action i gives an arc of the black variable v from d, and it has no return
unfoldable pub lacks_return : Task → ℕ → ℕ → ℕ → Bool
lacks_return t i v d = (black t v && arc_from (act t) v d i) && not (some_below (actions t) (return_by t v d i))

-- 5.7: the lowest action that gives such an arc, if one does
unfoldable pub unreturned : Task → Option ℕ
unreturned t = first (actions t) (λ i. some_below (variables t) (λ v. some_below (count t v) (lacks_return t i v)))

-- 5.3 and 5.7 as checks
unfoldable pub acyclic_check : Task → Check
acyclic_check t = refuse_at 7 (cyclic t)

unfoldable pub return_check : Task → Check
return_check t = refuse_at 8 (unreturned t)
