-- Who waits for which fact. Actions go by their rank, the place in the order by cost and number. Each action that does not apply yet
-- hangs on the chain of one of its preconditions that is not reached; when the fact is reached its chain is taken off, and each
-- action of it is settled anew: on another chain, or in the set of the ready. Facts reached stay reached, so an action is looked at
-- from the place on that it reached before. The cheapest action that adds a fact is the ready one of lowest rank that adds a fact.
use Rattle.std.specs.Prelude.{◌≡◌, ◌⊎◌, ◌≢◌, Bool, false, ◌||◌, List, [], ◌∷◌, ℕ, ◌+◌, ◌*◌, ◌/◌, ◌%◌, ◌<◌, ◌≤◌, T, eqb, length, get_or, set, replicate}
use Rattle.planning.specs.Record.{Action}
use Rattle.planning.specs.Runs.{State, has, holds, variables, actions, act}
use Rattle.task.specs.Task.{pre_at, eff_at, task_in}
use Rattle.ready.specs.Ready.{member, Ready, With}
use Rattle.ranking.specs.Ranked.{Ranked}

-- fact f, 64 × variable + value, is in the state
unfoldable pub reaches : State → ℕ → Bool
reaches s f = s (f / 64) (f % 64)

-- each fact from place a up to k is reached, and k is at most b
pub record Passing (s : State) (facts : List ℕ) (a b k : ℕ) : Type 0 where
  pub from : a ≤ k
  pub to : k ≤ b
  pub passed : (x : ℕ) → a ≤ x → x < k → T (reaches s (get_or facts x 0))

-- k is the first place from a on whose fact is not reached, b if each is
pub record Unmet (s : State) (facts : List ℕ) (a b k : ℕ) : Type 0 where
  pub passing : Passing s facts a b k
  pub open' : k < b → reaches s (get_or facts k 0) ≡ false

-- the action of rank j
abbrev pub ranked : List ℕ → List ℕ → ℕ → Action
ranked task order j = act (task_in task) (get_or order j 0)

-- the number behind those of the facts of a task
abbrev pub facts_end : List ℕ → ℕ
facts_end task = 64 * variables (task_in task)

-- One list of numbers says what waits: for each rank that of the next action on its chain, for each rank the place of the precondition
-- that the action waits for, and for each fact the rank of the first action of its chain.
abbrev pub link_at : List ℕ → ℕ → ℕ
link_at work j = get_or work j 0

abbrev pub place_at : List ℕ → ℕ → ℕ
place_at work j = get_or work (1024 + j) 0

abbrev pub head_at : List ℕ → ℕ → ℕ
head_at work f = get_or work (2048 + f) 0

-- each fact of the task has its place in the list
abbrev pub Room : List ℕ → List ℕ → Type 0
Room task work = 2048 + facts_end task ≤ length work

-- nothing waits
abbrev pub Free : List ℕ → List ℕ → Type 0
Free task work = Room task work × (work ≡ replicate (length work) 65535)

-- the facts are of the task, so that each has its chain
abbrev pub Headed : List ℕ → List ℕ → Type 0
Headed task facts = (k : ℕ) → k < length facts → get_or facts k 0 < facts_end task

-- rank j in front of the chain of fact f
unfoldable pub hung : List ℕ → ℕ → ℕ → List ℕ
hung work f j = set (set work j (get_or work (2048 + f) 0)) (2048 + f) j

-- the preconditions of action i before place k are reached
abbrev pub Looked : State → List ℕ → ℕ → ℕ → Type 0
Looked s task i k = Passing s task (pre_at task i) (eff_at task i) k

-- what settling the action of rank j does: it is ready, or hangs on the chain of a precondition f that is not reached; its place is noted
pub data Settles (s : State) (task order : List ℕ) (j : ℕ) (work ready work' ready' : List ℕ) : Type 0 where
  goes : (k : ℕ) → Looked s task (get_or order j 0) k → T (holds s (ranked task order j).pre) → With ready j ready' → work' ≡ set work (1024 + j) k
      → Settles s task order j work ready work' ready'
  waits : (k : ℕ) → Looked s task (get_or order j 0) k → (f : ℕ) → f < facts_end task → T (has (ranked task order j).pre (f / 64) (f % 64)) → reaches s f ≡ false
      → work' ≡ hung (set work (1024 + j) k) f j → ready' ≡ ready → Settles s task order j work ready work' ready'

unfoldable pub mem : ℕ → List ℕ → Bool
mem j [] = false
mem j (i ∷ l) = eqb j i || mem j l

-- each number of the list
abbrev pub Each : (ℕ → Type 0) → List ℕ → Type 0
Each P [] = Unit {0}
Each P (i ∷ l) = P i × Each P l

-- l is the chain from h on: a number of 1,024 or more ends it
abbrev pub Chain : List ℕ → ℕ → List ℕ → Type 0
Chain work h [] = 1024 ≤ h
Chain work h (j ∷ l) = (h ≡ j) × (j < 1024) × Each (λ i. i ≢ j) l × Chain work (link_at work j) l

-- Where each action of the first A ranks is, in the state s: w j < 4,096 says that the one of rank j hangs on the chain of that fact,
-- 4,096 that it is still to be settled, on the chain from h on, at most n long, and more that it is ready, or adds nothing any more. A
-- chain's fact is not reached, unless the chain is owed: it is to be taken off next.
pub record Sites (task order : List ℕ) (A : ℕ) (s owed : State) (work ready : List ℕ) (h n : ℕ) : Type 0 where
  pub few : A ≤ 1024
  pub named : (j : ℕ) → j < A → get_or order j 0 < actions (task_in task)
  pub long : Room task work
  pub wide : facts_end task ≤ 4096
  pub ready_sound : Ready ready
  pub w : ℕ → ℕ
  pub line : ℕ → List ℕ
  pub rest : List ℕ
  pub left : length rest ≤ n
  pub chained : (f : ℕ) → f < facts_end task → Chain work (head_at work f) (line f)
  pub chained_rest : Chain work h rest
  pub owns : (f : ℕ) → f < facts_end task → Each (λ j. (w j ≡ f) × (j < A)) (line f)
  pub owns_rest : Each (λ j. (w j ≡ 4096) × (j < A)) rest
  pub on_line : (j : ℕ) → j < A → w j < 4096 → T (mem j (line (w j)))
  pub on_rest : (j : ℕ) → j < A → w j ≡ 4096 → T (mem j rest)
  pub needs : (j : ℕ) → j < A → w j < 4096 → T (has (ranked task order j).pre (w j / 64) (w j % 64))
  pub unreached : (j : ℕ) → j < A → w j < 4096 → T (reaches s (w j)) → T (reaches owed (w j))
  pub out : (j : ℕ) → j < A → 4096 < w j → T (member ready j) ⊎ T (holds s (ranked task order j).eff)
  pub sound : (j : ℕ) → T (member ready j) → (j < A) × T (holds s (ranked task order j).pre)
  pub places : (j : ℕ) → j < A → Looked s task (get_or order j 0) (place_at work j)

-- each action of the task has its site, and none is left to settle
abbrev pub Settled : List ℕ → List ℕ → State → State → List ℕ → List ℕ → Type 0
Settled task order s owed work ready = Sites task order (actions (task_in task)) s owed work ready 65535 0

-- the order in which actions are looked at: by cost, equal ones by number
abbrev pub ByCost : List ℕ → List ℕ → Type 0
ByCost task order = Ranked (λ i. (act (task_in task) i).cost) (actions (task_in task)) order
