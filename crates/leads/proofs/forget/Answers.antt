-- The front is zeros, and the marks are there.
use Rattle.std.proofs.Common.{◌≡◌, ◌++◌, List, ℕ, ◌<◌, get_or, replicate, arith, ◌∙◌}
use Rattle.std.proofs.Math.ListN.{get_or-append, get_or-replicate, length-replicate}
use Rattle.std.proofs.lemmas.List.{length-take-le}
use Rattle.leads.proofs.forget.Goals as goal

zeros : (new rest : List ℕ) (n : ℕ) → new ≡ replicate n 0 → n ≡ 64 → (k : ℕ) → k < 64 → get_or (new ++ rest) k 0 ≡ 0
zeros new rest n e q k h = rw e (get_or-append (replicate n 0) rest 0 k (omega (arith, length-replicate {A = ℕ} n 0)) ∙ get_or-replicate n k 0 0 (omega arith))

pub returns : goal.returns
returns c = zeros _ _ _ (c.fill.ensures.after (λ y e. e)) (length-take-le 64 c.args.memo.now c.requires)
