-- The memo at the start, the room that is lent, and the answer from the front part of the plan list.
use mathlib.Core.Path.{◌≡◌, refl, sym, ap, ◌∙◌, subst}
use mathlib.Core.Bool.{true, false}
use mathlib.Core.List.{List, ◌++◌}
use Prim.Native.Nat.{ℕ, ◌<◌, ◌≤◌, min}
use native.Mathlib.Omega.{arith}
use lib.ListN.{length, take, replicate, length-replicate, get_or-replicate}
use lib.Seq.{length-take-le, take-append-le}
use Rattle.planning.specs.Basics.{answer, refused, done}
use Rattle.planning.specs.Record.{Task}
use Rattle.planning.specs.Runs.{State, holds, actions, goals}
use Rattle.planning.specs.Newest.{Values, alone}
use Rattle.planning.specs.Repair.{repaired, marks}
use Rattle.planning.specs.Calls.{capacity, capacity_of, planned}
use Rattle.laws.proofs.Formed.{Formed}
use Rattle.lists.proofs.Laying.{capacity_le, room_fits, room_short}
use Rattle.paths.specs.Paths.{few_values, memo_for, Memo}
use Rattle.paths.proofs.Memos.{memo_marks}
use Rattle.leads.proofs.Forgetting.{blank_memo}
use Rattle.std.specs.Prelude.{Result}
use Rattle.answers.specs.declared.Plan.{Plan}
use Rattle.answers.specs.declared.Refusal.{Refusal}
use Rattle.answers.specs.Plans.{answer_of}
use Rattle.repair.specs.Answers.{Held}
use Rattle.counts.specs.declared.Counts.{Counts}
use Rattle.counts.specs.Counting.{judged_by}
use Rattle.stages.proofs.Below.{entries_all}
use Rattle.counts.proofs.Counting.{Counted, counted_verdict}
use Rattle.repair.proofs.Repairing.{Repairing, repairing_whole, repairing_searched, repairing_marked}

-- an array of zeros is a memo without a lead, whatever is held
module _ (t : Task) (K : State) where
  zeros : (n : ℕ) → n ≡ memo_for t → Memo t K (replicate n 0)
  zeros n e = blank_memo t K (replicate n 0) (length-replicate {A = ℕ} n 0 ∙ e) (λ d h. get_or-replicate n d 0 0 (omega (arith, memo_marks t)))

  pub few_memo : few_values t ≡ true → Memo t K (replicate 1024 0)
  unfolding memo_for
  few_memo e = zeros 1024 (rw (memo_for, e) refl)

  pub whole_memo : few_values t ≡ false → Memo t K (replicate 4160 0)
  unfolding memo_for
  whole_memo e = zeros 4160 (rw (memo_for, e) refl)

-- the room that the two lists and the mark area lend
module _ (plan work area : List ℕ) (less all room : ℕ) (ea : less ≡ min (length plan) (length work)) (eb : all ≡ min less (length area)) (ec : room ≡ capacity all) where
  pub room_is : room ≡ capacity_of (length plan) (length work) (length area)
  unfolding capacity_of
  room_is = ec ∙ ap capacity (eb ∙ ap (λ (n : ℕ). min n (length area)) ea)

  pub room_bounds : (room ≤ length plan) × (room ≤ length area) × (room ≤ 32768)
  room_bounds = let c = capacity_le all in (omega (arith, c), omega (arith, c), omega (arith, c))

  pub front_length : length (take room plan) ≡ room
  front_length = length-take-le room plan room_bounds.0

  pub area_length : length (take room area) ≡ room
  area_length = length-take-le room area room_bounds.1

-- the repair of the list k in the front of the plan list d, its marks in that of the area z: the answer, or 11
module _ (t : Task) (k d z : List ℕ) (room : ℕ) (r : Result Plan Refusal) where
  abbrev l : List ℕ
  l = repaired t k

  pub held_whole : answer_of r ≡ done (planned t k) → (n : ℕ) → n ≤ room → n ≤ length d → take n d ≡ l → take n z ≡ marks t k → Held t k d z room r
  unfolding answer
  held_whole e n h b q u =
      let m : length l ≡ n = ap length (sym q) ∙ length-take-le n d b in
      record { says = e ∙ rw (room_fits (length l) room (omega (arith, m))) refl; fills = λ _. rw m q; marked = λ _. rw m u }

  pub held_long : answer_of r ≡ refused 11 room → room < length l → Held t k d z room r
  unfolding answer
  held_long e h = record { says = e ∙ rw (room_short (length l) room h) refl; fills = λ b. absurd (omega arith); marked = λ b. absurd (omega arith) }

-- the same of the front parts ys of the plan list and zs of the mark area
pub held_front : (t : Task) (k ys rest zs more : List ℕ) (n : ℕ) → n ≡ length ys → n ≡ length zs → (room : ℕ) → n ≡ room → (r : Result Plan Refusal)
    → Held t k ys zs n r → Held t k (ys ++ rest) (zs ++ more) room r
held_front t k ys rest zs more n en em room e r H = rw (← e) (record {
  says = H.says;
  fills = λ b. take-append-le (length (repaired t k)) ys rest (omega (arith, en)) ∙ H.fills b;
  marked = λ b. take-append-le (length (repaired t k)) zs more (omega (arith, em)) ∙ H.marked b;
})

-- the repair where every step is taken and every stage placed
pub repairing_held : {t : Task} {l₀ plan₀ plan area memo sets : List ℕ} {f : Values} {c : Counts} {n a j : ℕ}
    → Repairing t l₀ plan₀ plan area memo sets f c n a j → Formed t → c.steps ≡ a → length l₀ < j
    → (r : Result Plan Refusal) → answer_of r ≡ done (judged_by (holds (alone f) (goals t)) c n) → Held t l₀ plan area (length plan₀) r
repairing_held {t = t} {l₀ = l₀} {plan₀ = plan₀} {plan = plan} {area = area} {f = f} {c = c} {n = n} {a = a} G F k h r e =
    let whole = repairing_whole G k h in
    let counts : Counted t (take a plan) f c = subst (λ (n : ℕ). Counted t (take n plan) f c) k G.counts in
    let verdict = counted_verdict F counts l₀ whole n (repairing_searched G k h) (entries_all (actions t) (take a plan) G.entries) in
    held_whole t l₀ plan area (length plan₀) r (e ∙ ap done verdict) a G.within (omega (arith, G.within, G.long)) whole (repairing_marked G k h)
