-- Walks of one variable: moves by actions that each apply where the last one left it. In this file and in those above, W are the
-- facts that moves may count on, R and B of clause 6.3.
use Prim.Native.Nat.{ℕ, ◌<◌}
use mathlib.Core.Path.{◌≡◌}
use mathlib.Core.List.{List, [], ◌∷◌, ◌++◌}
use lib.Dec.{T}
use Rattle.planning.specs.Record.{Action}
use Rattle.planning.specs.Runs.{State, has, touches}
use Rattle.planning.specs.Painting.{reduced_effects}
use Rattle.laws.proofs.Facts.{◌⊆◌}
use Rattle.laws.proofs.Steps.{All}

-- moves of v, each by an action that U allows
pub data Walk (act : ℕ → Action) (U : ℕ → Type 0) (v : ℕ) : ℕ → List ℕ → ℕ → Type 0 where
  stop : {c : ℕ} → Walk act U v c [] c
  move : {c d e i : ℕ} {l : List ℕ} → U i → ((x : ℕ) → T (has (act i).pre v x) → x ≡ c) → T (has (act i).eff v d) → Walk act U v d l e → Walk act U v c (i ∷ l) e

pub walk_all : {act : ℕ → Action} {U : ℕ → Type 0} {v c d : ℕ} {p : List ℕ} → Walk act U v c p d → All U p
walk_all stop = tt
walk_all (move u pr ef k) = (u, walk_all k)

pub walk_map : {act : ℕ → Action} {U : ℕ → Type 0} (P : ℕ → Type 0) {v c d : ℕ} {p : List ℕ} → ((i : ℕ) → U i → P i) → Walk act U v c p d → Walk act P v c p d
walk_map P f stop = stop
walk_map P f (move {i = i} u pr ef k) = move (f i u) pr ef (walk_map P f k)

pub walk_append : {act : ℕ → Action} {U : ℕ → Type 0} {v b c d : ℕ} {p q : List ℕ} → Walk act U v b p c → Walk act U v c q d → Walk act U v b (p ++ q) d
walk_append stop k = k
walk_append (move u pr ef h) k = move u pr ef (walk_append h k)

-- an action that changes v and whose preconditions all lie in W
pub record Usable (act : ℕ → Action) (A : ℕ) (W : State) (v i : ℕ) : Type 0 where
  pub below : i < A
  pub met : has (act i).pre ⊆ W
  pub changes : T (touches (reduced_effects (act i)) v)
