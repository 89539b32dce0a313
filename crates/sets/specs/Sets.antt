-- Sets of values as numbers, and the states that 64 of them, with 64 newest values, stand for.
use Rattle.std.specs.Prelude.{◌≡◌, ◌⊎◌, Bool, true, false, ◌&&◌, List, ℕ, suc, ◌/◌, ◌%◌, ◌^◌, ◌<◌, T, eqb, length, get_or, Option, None, Some}
use Rattle.std.proofs.Math.Option as math
use Rattle.planning.specs.Record.{Task}
use Rattle.planning.specs.Runs.{State, Mode, holds, act, variables, count}
use Rattle.planning.specs.Newest.{Values, alone}

-- value x is in the set m: binary digit x of m is 1
unfoldable pub in_set : ℕ → ℕ → Bool
in_set m x = eqb (m / 2 ^ x % 2) 1

-- one set a variable
unfoldable pub sets_of : List ℕ → State
sets_of ms v x = in_set (get_or ms v 0) x

-- newest values, one a variable
unfoldable pub values_of : List ℕ → Values
values_of ns v = get_or ns v 0

-- x if b, else y
unfoldable pub choose : Bool → ℕ → ℕ → ℕ
choose b x y = elim b [ true ↦ x | false ↦ y ]

-- new values over old ones, where 64 is none
unfoldable pub over : Values → Values → Values
over old new v = choose (eqb (new v) 64) (old v) (new v)

-- the steps of a list that run, with one more behind that applies or not: of `steps` steps `runs` do
unfoldable pub further : Bool → ℕ → ℕ → ℕ
further b runs steps = elim (eqb runs steps && b) [ true ↦ suc runs | false ↦ runs ]

-- a set of variables, those that act as black
unfoldable pub mode_of : ℕ → Mode
mode_of m v = in_set m v

-- the red-black state, where the variables of m are black: of these the newest value alone, of the others each value that they have had
unfoldable pub red_black_of : Mode → State → Values → State
red_black_of m s f v d = elim (m v) [ true ↦ alone f v d | false ↦ s v d ]

-- action i is in a set of actions, 16 sets of 64
unfoldable pub listed : List ℕ → ℕ → Bool
listed set i = in_set (get_or set (i / 64) 0) (i % 64)

-- a set of actions, each with its effects held in the state s
pub record Known (t : Task) (s : State) (known : List ℕ) : Type 0 where
  pub long : length known ≡ 16
  pub held : (i : ℕ) → i < 1024 → T (listed known i) → T (holds s (act t i).eff)

-- none but action i came to the set
abbrev pub WithOnly : ℕ → List ℕ → List ℕ → Type 0
WithOnly i before after = (j : ℕ) → j < 1024 → T (listed after j) → (j ≡ i) ⊎ T (listed before j)

-- values of the task's variables only
abbrev pub Within : Task → State → Type 0
Within t s = (v d : ℕ) → s v d ≡ true → (v < variables t) × (d < count t v)

-- r is the value asked, which is below 64, if one is
abbrev pub Asked : math.Option ℕ → Option ℕ → Type 0
Asked math.none r = r ≡ None
Asked (math.some d) r = (r ≡ Some d) × (d < 64)
