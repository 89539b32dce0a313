-- A pass in the middle: what is written in the front of the plan, up to e, and the pass over its entries from j on, from the present value,
-- are the whole pass.
use mathlib.Core.Path.{◌≡◌, refl, sym, ap, ◌∙◌, subst}
use mathlib.Core.List.{List, [], ◌∷◌, ◌++◌, append_assoc}
use Prim.Native.Nat.{ℕ, suc, ◌+◌, ◌<◌, ◌≤◌}
use native.Mathlib.Numerals.{add-one}
use native.Mathlib.Omega.{arith}
use lib.ListN.{length, get_or, set, take, drop, length-set, length-append, length-drop}
use lib.Seq.{take-take, take-append-le, take-suc-set, drop-cons, drop-length, drop-drop, drop-set-lt, drop-append-add, length-take-le, length_front}
use Rattle.planning.specs.Record.{Fact, Task}
use Rattle.planning.specs.Runs.{State, look, actions, count, act}
use Rattle.planning.specs.Repair.{toward, after, pass, asked_for, pass_searches}
use Rattle.laws.proofs.Fill.{pass_grows, asked_for_one}
use Rattle.laws.proofs.Formed.{Formed}
use Rattle.sets.specs.Sets.{Asked}
use Rattle.paths.specs.Paths.{paths_of, Memo}
use Rattle.std.specs.Prelude.{Option, None, Some}
use Rattle.entries.specs.Entries.{Entries}
use Rattle.asking.specs.Asking.{Put}
use Rattle.task.specs.Goals.{option_of}
use Rattle.passes.specs.Passes.{pass_of}
use Rattle.asking.proofs.Putting.{asked_is, pre_fitting, after_fits}

pub record Passing (t : Task) (K : State) (v : ℕ) (w : List Fact) (whole plan₀ plan memo : List ℕ) (c e j : ℕ) : Type 0 where
  pub within : e ≤ j
  pub at : j ≤ length plan₀
  pub long : length plan ≡ length plan₀
  pub inside : c < count t v
  pub entries : Entries t (drop j plan)
  pub so_far : whole ≡ take e plan ++ pass_of t K v c (drop j plan) w
  pub rows : Memo t K memo

-- the searches so far and those for the entries from j on are all
pub record Tally (t : Task) (v : ℕ) (w : List Fact) (total : ℕ) (plan : List ℕ) (k j : ℕ) : Type 0 where
  pub sum : total ≡ k + pass_searches (act t) v (drop j plan) w
  pub few : k ≤ j

module _ {t : Task} {K : State} {v : ℕ} {w : List Fact} {whole plan₀ plan memo : List ℕ} {c e j : ℕ} (P : Passing t K v w whole plan₀ plan memo c e j) where
  abbrev rest : List ℕ
  rest = pass_of t K v c (drop j plan) w

  whole_length : length whole ≡ e + length rest
  whole_length =
      let taken : length (take e plan) ≡ e = length-take-le e plan (omega (arith, P.long, P.within, P.at)) in
      ap length P.so_far ∙ length-append (take e plan) rest ∙ ap (λ (x : ℕ). x + length rest) taken

  entries_here : j < length plan → Entries t (get_or plan j 0 ∷ drop (suc j) plan)
  entries_here h = subst (Entries t) (drop-cons plan j 0 h) P.entries

  pub passing_entry : j < length plan → get_or plan j 0 < actions t
  passing_entry h = entries_here h 0 (omega arith)

  -- the end of the list, and the value that is wanted
  module _ (h : length plan ≤ j) (d : Option ℕ) (q : Asked (look w v) d) where
    rest_last : rest ≡ toward (paths_of t K v) c (option_of d)
    unfolding pass
    rest_last =
        let z : j ≡ length plan = omega (arith, P.at, P.long) in
        rw (z, drop-length plan, asked_is (look w v) d q) refl

    pub tally_end : (total k : ℕ) → Tally t v w total plan k j → (n : ℕ) → n ≡ asked_for (option_of d) → k + n ≡ total
    unfolding pass_searches
    tally_end total k S n en =
        let z : j ≡ length plan = omega (arith, P.at, P.long) in
        sym (S.sum ∙ rw (z, drop-length plan, en, asked_is (look w v) d q) refl)

    pub passing_end : (plan' : List ℕ) (r : Option ℕ) → Put plan plan' e (toward (paths_of t K v) c (option_of d)) r → Put plan₀ plan' 0 whole r
    passing_end plan' (Some y) p = (omega (arith, whole_length, ap length rest_last, p.0), omega (arith, p.1, P.long), p.2 ∙ sym (P.so_far ∙ rw rest_last refl))
    passing_end plan' None p = omega (arith, whole_length, ap length rest_last, p, P.long)

-- a path to the value that the entry at j needs is asked for in the part before j
pub record Led (t : Task) (K : State) (v : ℕ) (w : List Fact) (whole plan₀ plan memo : List ℕ) (c e j : ℕ) (d : Option ℕ) (ys : List ℕ) : Type 0 where
  pub start : Passing t K v w whole plan₀ plan memo c e j
  pub here : j < length plan
  pub asks : Asked (look (act t (get_or plan j 0)).pre v) d
  pub long : length ys ≡ length (take j plan)

module _ {t : Task} {K : State} {v : ℕ} {w : List Fact} {whole plan₀ plan memo : List ℕ} {c e j : ℕ} {d : Option ℕ} {ys : List ℕ}
    (L : Led t K v w whole plan₀ plan memo c e j d ys) where
  abbrev P : Passing t K v w whole plan₀ plan memo c e j
  P = L.start

  abbrev i : ℕ
  i = get_or plan j 0

  abbrev path : List ℕ
  path = toward (paths_of t K v) c (option_of d)

  abbrev next : List ℕ
  next = pass_of t K v (after c (option_of d)) (drop (j + 1) plan) w

  rest_next : pass_of t K v c (drop j plan) w ≡ path ++ (i ∷ next)
  unfolding pass
  rest_next = rw (drop-cons plan j 0 L.here, add-one j, asked_is (look (act t i).pre v) d L.asks) refl

  front_length : length (take j plan) ≡ j
  front_length = length-take-le j plan (omega (arith, L.here))

  pub led_length : length (ys ++ drop j plan) ≡ length plan₀
  led_length = length_front plan ys j L.long ∙ P.long

  pub led_long : Put (take j plan) ys e path None → length plan₀ < 0 + length whole
  led_long z =
      let grows = pass_grows (act t) (paths_of t K v) v (after c (option_of d)) (drop (j + 1) plan) w in
      omega (arith, z, front_length, whole_length P, ap length rest_next, length-append path (i ∷ next), grows, length-drop (j + 1) plan, P.long)

  module _ (x : ℕ) (told : Put (take j plan) ys e path (Some x)) where
    pub led_fits : x ≤ j
    led_fits = omega (arith, told.1, front_length)

    abbrev plan' : List ℕ
    plan' = set (ys ++ drop j plan) x i

    front : take (x + 1) plan' ≡ take e plan ++ (path ++ (i ∷ []))
    front =
        let s = take-suc-set (ys ++ drop j plan) x i (omega (arith, led_length, led_fits, L.here, P.long)) in
        let k = take-append-le x ys (drop j plan) (omega (arith, led_fits, L.long, front_length)) in
        rw (add-one x, s, k, told.2, take-take e j plan P.within, append_assoc) refl

    back : drop (j + 1) plan' ≡ drop (j + 1) plan
    back =
        let s = drop-set-lt (j + 1) (ys ++ drop j plan) x i (omega (arith, led_fits)) in
        let n : j + 1 ≡ length ys + 1 = omega (arith, L.long, front_length) in
        s ∙ ap (λ (k : ℕ). drop k (ys ++ drop j plan)) n ∙ drop-append-add ys (drop j plan) 1 ∙ drop-drop 1 j plan

    pub led_tally : (total k : ℕ) → Tally t v w total plan k j → (n : ℕ) → n ≡ asked_for (option_of d) → Tally t v w total plan' (k + n) (j + 1)
    unfolding pass_searches
    led_tally total k S n en =
        let asks = asked_is (look (act t i).pre v) d L.asks in
        let rest : pass_searches (act t) v (drop j plan) w ≡ n + pass_searches (act t) v (drop (j + 1) plan) w = rw (drop-cons plan j 0 L.here, add-one j, en, asks) refl in
        record {
          sum = rw back (omega (arith, S.sum, rest));
          few = omega (arith, S.few, en, asked_for_one (option_of d));
        }

    pub led_turn : Formed t → (memo' : List ℕ) (c' : ℕ) → Memo t K memo' → c' ≡ after c (option_of d) → Passing t K v w whole plan₀ plan' memo' c' (x + 1) (j + 1)
    led_turn F memo' c' M ec = record {
      within = omega (arith, led_fits);
      at = omega (arith, L.here, P.long);
      long = length-set (ys ++ drop j plan) x i ∙ led_length;
      inside = rw (ec, asked_is (look (act t i).pre v) d L.asks) (after_fits t (act t i).pre (pre_fitting t F i) v c P.inside);
      entries = rw (back, add-one j) (λ k h. entries_here P L.here (suc k) (omega arith));
      so_far = P.so_far ∙ rw (rest_next, front, back, ec) (simp append_assoc refl);
      rows = M;
    }
