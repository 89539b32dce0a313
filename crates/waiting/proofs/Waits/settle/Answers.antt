use mathlib.Core.Path.{◌≡◌, refl, ap, ◌∙◌}
use Prim.Native.Nat.{ℕ, ◌<◌, ◌≤◌}
use native.Mathlib.Omega.{arith}
use lib.ListN.{length, get_or, take, length-set}
use lib.Seq.{get_or-take, length-take-le}
use Rattle.task.specs.Task.{eff_at}
use Rattle.sets.specs.Sets.{sets_of}
use Rattle.sets.proofs.Listed.{Listed}
use Rattle.sets.proofs.Listing.{loaded_listed}
use Rattle.waiting.specs.Waiting.{Unmet, place_at, Looked, goes, waits}
use Rattle.waiting.proofs.Places.{passing_more, unmet_taken, Waits, unmet_waits, unmet_goes}
use Rattle.waiting.proofs.Waits.settle.Goals as goal
use Rattle.waiting.proofs.Waits.settle.Goals.{After-from-2}

-- the action of that rank
listed : (c : After-from-2) → let a = c.args in Listed a.task.now (get_or a.self.now.order.now a.j 0)
listed c = loaded_listed _ c.requires.loaded.0 _ c.requires.loaded.2

-- where the search starts and ends
from_is : (c : After-from-2) → let a = c.args in c.from-2.result ≡ place_at a.work.now a.j
from_is c = c.from-2.ensures ∙ ap (place_at c.args.work.now) c.from-r.ensures

to_is : (c : After-from-2) → let a = c.args in c.eff_start-to.result ≡ eff_at a.task.now (get_or a.self.now.order.now a.j 0)
to_is c = let a = c.args in c.eff_start-to.ensures ∙ ap (eff_at a.task.now) (c.from.ensures ∙ ap (λ r. get_or a.self.now.order.now r 0) c.from-r.ensures)

within : (c : After-from-2) → c.eff_start-to.result ≤ length c.args.task.now
within c = let L = listed c in omega (arith, to_is c, L.eff_below, L.end_below)

pub unmet-k-requires : goal.unmet-k-requires
unmet-k-requires c =
    let d = (goal.at.unmet-k-requires c).After-from-2 in
    let L = listed d in
    let P = c.requires.ready.1 in
    let e = length-take-le c.eff_start-to.result c.args.task.now (within d) in (
      omega (arith, P.to, from_is d, to_is d, e),
      λ k a b. rw (get_or-take c.eff_start-to.result c.args.task.now k 0 (omega (arith, e)))
          (L.small k (omega (arith, P.from, from_is d)) (omega (arith, L.eff_below, to_is d, e))),
    )

-- what the search finds
abbrev Searched : After-from-2 → ℕ → Type 0
Searched d k = let a = d.args in let l = take d.eff_start-to.result a.task.now in Unmet (sets_of a.sets.now) l d.from-2.result (length l) k

found : (d : After-from-2) (k : ℕ) → Searched d k → let a = d.args in Unmet (sets_of a.sets.now) a.task.now (place_at a.work.now a.j) (eff_at a.task.now (get_or a.self.now.order.now a.j 0)) k
found d k U = rw (← from_is d, ← to_is d) (unmet_taken _ _ _ _ _ (within d) U)

looked : (d : After-from-2) (k : ℕ) → Searched d k → let a = d.args in Looked (sets_of a.sets.now) a.task.now (get_or a.self.now.order.now a.j 0) k
looked d k U = passing_more _ _ _ _ _ _ d.requires.ready.1 (found d k U).passing

waiting : (d : After-from-2) (k : ℕ) (U : Searched d k) → k < d.eff_start-to.result → (f : ℕ) → f ≡ get_or d.args.task.now k 0 → let a = d.args in
    Waits (sets_of a.sets.now) a.task.now (get_or a.self.now.order.now a.j 0) k d.requires.loaded.0 (listed d) (looked d k U) f
waiting d k U h f e =
    unmet_waits _ _ _ _ d.requires.loaded.0 (listed d) (looked d k U) (omega (arith, to_is d)) f e ((found d k U).open' (omega (arith, to_is d)))

pub hang-requires : goal.hang-requires
hang-requires c =
    let d = (goal.at.hang-requires c).After-from-2 in
    let p = c.requires in
    let b = (waiting d _ c.unmet-k.ensures c.if-k-to.true _ c.from-then-k-to.ensures).small in
    (omega (arith, b, p.loaded.0.formed.variables_max), rw length-set (omega (arith, b, p.ready.2)), p.loaded.1)

pub returns-then-k-to-clause-settles : goal.returns-then-k-to-clause-settles
returns-then-k-to-clause-settles c =
    let d = (goal.at.returns-then-k-to-clause-settles c).After-from-2 in
    let U = c.unmet-k.ensures in
    let W = waiting d _ U c.if-k-to.true _ c.from-then-k-to.ensures in
    let e = c.from-r.ensures in
    waits _ (looked d _ U) _ W.small W.needs W.open' (rw e at c.hang.ensures) refl

pub returns-else-k-to-clause-settles : goal.returns-else-k-to-clause-settles
returns-else-k-to-clause-settles c =
    let d = (goal.at.returns-else-k-to-clause-settles c).After-from-2 in
    let U = c.unmet-k.ensures in
    let e = c.from-r.ensures in
    goes _ (looked d _ U) (unmet_goes _ _ _ _ c.requires.loaded.0 (listed d) (looked d _ U) (omega (arith, to_is d))) (rw e at c.mark.ensures) (rw e refl)
