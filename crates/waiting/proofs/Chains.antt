-- Where each action waits, by its rank: what settling an action, taking a chain off and a larger state do to it. A chain is a list that the links
-- follow; an action is on one chain at most, since each number of a chain has its place there (`owns`), so a link may be changed
-- where its action is on none.
use mathlib.Core.Path.{◌≡◌, refl, sym, ap, ◌∙◌, subst}
use mathlib.Core.Logic.{◌⊎◌, inl, inr, ◌≢◌}
use mathlib.Core.Bool.{Bool, true, false, not, ◌||◌}
use mathlib.Core.List.{List, [], ◌∷◌}
use mathlib.Core.Option.{none, some}
use Prim.Native.Nat.{ℕ, suc, ◌+◌, ◌-◌, ◌/◌, ◌%◌, ◌<◌, ◌≤◌}
use native.Mathlib.Omega.{arith}
use native.Mathlib.Decide.{ℕ_discrete, dec_lt}
use borrow.Author.Tests.{ne_eqb, eq-eqb}
use Rattle.std.specs.Prelude.{Some, None}
use lib.Dec.{T, T_not, not_T, eqb, eqb→eq, eqb_refl}
use lib.ListN.{length, get_or, set, length-set, replicate, get_or-replicate}
use lib.Seq.{get_or-set_same, get_or-set_other}
use Rattle.planning.specs.Basics.{tally}
use Rattle.planning.specs.Runs.{State, has, holds, actions, act}
use Rattle.planning.specs.Relaxed.{adds, choice}
use Rattle.laws.proofs.Tests.{and_l, and_r, and_i, or_l, or_r, or_cases}
use Rattle.laws.proofs.Below.{tally_le, tally_cases}
use Rattle.laws.proofs.Choice.{choice_some, choice_none}
use Rattle.laws.proofs.Facts.{◌⊆◌, holds→sub, sub→holds}
use Rattle.laws.proofs.Lists.{get_d_zeros}
use Rattle.task.specs.Task.{pre_at, eff_at, task_in}
use Rattle.sets.specs.Sets.{sets_of}
use Rattle.sets.proofs.Members.{in_set_empty}
use Rattle.ranking.specs.Ranked.{Before, Ranked}
use Rattle.ready.specs.Ready.{member, Lowest, With, Without}
use Rattle.ready.proofs.Bits.{ready_none}
use Rattle.waiting.specs.Waiting.{reaches, Passing, ranked, Looked, Settles, goes, waits, mem, Each, Chain, Sites}
use Rattle.waiting.specs.Waiting.{facts_end, link_at, place_at, head_at, Free, hung}

-- a function changed at one place
put : {B : Type 0} → (ℕ → B) → ℕ → B → ℕ → B
put g h v x = elim (eqb x h) [ true ↦ v | false ↦ g x ]

put_same : {B : Type 0} (g : ℕ → B) (h : ℕ) (v : B) → put g h v h ≡ v
unfolding put
put_same g h v = rw (eq-eqb h h refl, put) refl

put_other : {B : Type 0} (g : ℕ → B) (h : ℕ) (v : B) (x : ℕ) → x ≢ h → put g h v x ≡ g x
unfolding put
put_other g h v x n = rw (ne_eqb x h n, put) refl

put_cases : {B : Type 0} (P : ℕ → B → Type 0) (g : ℕ → B) (h : ℕ) (v : B) → P h v → ((x : ℕ) → x ≢ h → P x (g x)) → (x : ℕ) → P x (put g h v x)
put_cases P g h v p f x = go (ℕ_discrete x h)
  where
    go : Dec (x ≡ h) → P x (put g h v x)
    go (yes e) = rw (e, put_same g h v) p
    go (no n) = rw (put_other g h v x n) (f x n)

each_map : (P Q : ℕ → Type 0) → ((i : ℕ) → P i → Q i) → (l : List ℕ) → Each P l → Each Q l
each_map P Q f [] h = tt
each_map P Q f (i ∷ l) h = (f i h.0, each_map P Q f l h.1)

each_both : (P Q R : ℕ → Type 0) → ((i : ℕ) → P i → Q i → R i) → (l : List ℕ) → Each P l → Each Q l → Each R l
each_both P Q R f [] h g = tt
each_both P Q R f (i ∷ l) h g = (f i h.0 g.0, each_both P Q R f l h.1 g.1)

mem_each : (P : ℕ → Type 0) (l : List ℕ) → Each P l → (j : ℕ) → T (mem j l) → P j
unfolding mem
mem_each P [] h j t = absurd t
mem_each P (i ∷ l) h j t = go (or_cases (eqb j i) (mem j l) t) (mem_each P l h.1 j)
  where
    go : T (eqb j i) ⊎ T (mem j l) → (T (mem j l) → P j) → P j
    go (inl e) f = rw (eqb→eq j i e) h.0
    go (inr e) f = f e

-- Counting: numbers below n that are all different are at most n.
pub tally_fewer : (n : ℕ) (p q : ℕ → Bool) → ((i : ℕ) → i < n → T (p i) → T (q i)) → (x : ℕ) → x < n → T (q x) → (T (p x) → ⊥) → tally n p < tally n q
tally_fewer n p q h x b t f = elim (tally_cases n p q h) [ inl a ↦ absurd (f (a.0 x b t)) | inr l ↦ l ]

abbrev pub Distinct : List ℕ → Type 0
Distinct [] = Unit {0}
Distinct (i ∷ l) = Each (λ j. j ≢ i) l × Distinct l

distinct_tally : (n : ℕ) (l : List ℕ) → Each (λ i. i < n) l → Distinct l → length l + tally n (λ j. not (mem j l)) ≤ n
unfolding mem
distinct_tally n [] b d = omega (arith, tally_le n (λ j. not (mem j [])))
distinct_tally n (i ∷ l) b d = omega (arith, distinct_tally n l b.1 d.1, tally_fewer n (λ j. not (mem j (i ∷ l))) (λ j. not (mem j l)) sub i b.0 new old)
  where
    sub : (j : ℕ) → j < n → T (not (eqb j i || mem j l)) → T (not (mem j l))
    sub j c t = not_T (mem j l) (λ m. T_not (eqb j i || mem j l) t (or_r (eqb j i) (mem j l) m))

    new : T (not (mem i l))
    new = not_T (mem i l) (λ m. mem_each (λ j. j ≢ i) l d.0 i m refl)

    old : T (not (eqb i i || mem i l)) → ⊥
    old t = T_not (eqb i i || mem i l) t (or_l (eqb i i) (mem i l) (eqb_refl i))

pub distinct_length : (n : ℕ) (l : List ℕ) → Each (λ i. i < n) l → Distinct l → length l ≤ n
distinct_length n l b d = omega (arith, distinct_tally n l b d)

below_or : (x y : ℕ) → x ≢ y → (x < y) ⊎ (y < x)
below_or x y n = elim (dec_lt x y) [ yes l ↦ inl l | no l ↦ inr (omega arith) ]

-- chains
chain_distinct : (work : List ℕ) (l : List ℕ) (h : ℕ) → Chain work h l → Distinct l
chain_distinct work [] h c = tt
chain_distinct work (j ∷ l) h c = (c.2, chain_distinct work l (link_at work j) c.3)

-- links that are the same make the same chain
chain_same : (work new : List ℕ) (P : ℕ → Type 0) → ((i : ℕ) → P i → i < 1024 → link_at new i ≡ link_at work i) → (l : List ℕ) (h : ℕ) → Each P l → Chain work h l → Chain new h l
chain_same work new P f [] h p c = c
chain_same work new P f (i ∷ l) h p c = (c.0, c.1, c.2, rw (f i p.0 c.1) (chain_same work new P f l (link_at work i) p.1 c.3))

empty_by_end : (work : List ℕ) (l : List ℕ) (h : ℕ) → Chain work h l → 1024 ≤ h → l ≡ []
empty_by_end work [] h c e = refl
empty_by_end work (j ∷ l) h c e = absurd (omega (arith, c.0, c.1))

empty_by_length : (l : List ℕ) → length l ≤ 0 → l ≡ []
empty_by_length [] e = refl
empty_by_length (j ∷ l) e = absurd (omega arith)

-- rank h in front of the chain of f: what the list then says
module _ (work : List ℕ) (f h : ℕ) (n : 2048 + f < length work) (b : h < 1024) where
  abbrev linked : List ℕ
  linked = set work h (head_at work f)

  hung_long : length (hung work f h) ≡ length work
  unfolding hung
  hung_long = simp length-set refl

  hung_head : head_at (hung work f h) f ≡ h
  unfolding hung
  hung_head = get_or-set_same linked (2048 + f) h 0 (rw length-set n)

  hung_heads : (x : ℕ) → x ≢ f → head_at (hung work f h) x ≡ head_at work x
  unfolding hung
  hung_heads x q = get_or-set_other linked (2048 + f) (2048 + x) h 0 (omega arith) ∙ get_or-set_other work h (2048 + x) (head_at work f) 0 (omega arith)

  hung_link : link_at (hung work f h) h ≡ head_at work f
  unfolding hung
  hung_link = get_or-set_other linked (2048 + f) h h 0 (omega arith) ∙ get_or-set_same work h (head_at work f) 0 (omega arith)

  hung_links : (i : ℕ) → i ≢ h → i < 1024 → link_at (hung work f h) i ≡ link_at work i
  unfolding hung
  hung_links i q l = get_or-set_other linked (2048 + f) i h 0 (omega arith) ∙ get_or-set_other work h i (head_at work f) 0 q

  hung_places : (j : ℕ) → j < 1024 → place_at (hung work f h) j ≡ place_at work j
  unfolding hung
  hung_places j l = get_or-set_other linked (2048 + f) (1024 + j) h 0 (omega arith) ∙ get_or-set_other work h (1024 + j) (head_at work f) 0 (omega arith)

-- places that are passed stay passed in a larger state
pub passing_up : (s s' : State) (l : List ℕ) (a b k : ℕ) → s ⊆ s' → Passing s l a b k → Passing s' l a b k
unfolding reaches
passing_up s s' l a b k up P = record { from = P.from; to = P.to; passed = λ x p q. up (get_or l x 0 / 64) (get_or l x 0 % 64) (P.passed x p q) }

module _ {task order : List ℕ} {A : ℕ} {s owed : State} {work ready : List ℕ} where
  -- nothing is left to settle
  at_rest : {h n : ℕ} (S : Sites task order A s owed work ready h n) → S.rest ≡ [] → Sites task order A s owed work ready 65535 0
  at_rest S e = record {
    few = S.few;
    named = S.named;
    long = S.long;
    wide = S.wide;
    ready_sound = S.ready_sound;
    w = S.w;
    line = S.line;
    rest = [];
    left = omega arith;
    chained = S.chained;
    chained_rest = omega arith;
    owns = S.owns;
    owns_rest = tt;
    on_line = S.on_line;
    on_rest = λ j b q. rw e at (S.on_rest j b q);
    needs = S.needs;
    unreached = S.unreached;
    out = S.out;
    sound = S.sound;
    places = S.places;
  }

  pub sites_ended : {h n : ℕ} → Sites task order A s owed work ready h n → 1024 ≤ h → Sites task order A s owed work ready 65535 0
  sites_ended {h} S e = at_rest S (empty_by_end work S.rest h S.chained_rest e)

  pub sites_spent : {h n : ℕ} → Sites task order A s owed work ready h n → n ≤ 0 → Sites task order A s owed work ready 65535 0
  sites_spent S e = at_rest S (empty_by_length S.rest (omega (arith, S.left)))

  -- the place of rank x is noted
  module _ {h n : ℕ} (S : Sites task order A s owed work ready h n) (x p : ℕ) (b : x < 1024) (P : x < A → Looked s task (get_or order x 0) p) where
    abbrev noted : List ℕ
    noted = set work (1024 + x) p

    noted_link : (i : ℕ) → i < 1024 → link_at noted i ≡ link_at work i
    noted_link i l = get_or-set_other work (1024 + x) i p 0 (omega arith)

    sites_noted : Sites task order A s owed noted ready h n
    sites_noted = record {
      few = S.few;
      named = S.named;
      long = rw length-set S.long;
      wide = S.wide;
      ready_sound = S.ready_sound;
      w = S.w;
      line = S.line;
      rest = S.rest;
      left = S.left;
      chained = λ f l. rw (get_or-set_other work (1024 + x) (2048 + f) p 0 (omega arith))
          (chain_same work noted (λ j. (S.w j ≡ f) × (j < A)) (λ i _. noted_link i) (S.line f) (head_at work f) (S.owns f l) (S.chained f l));
      chained_rest = chain_same work noted (λ j. (S.w j ≡ 4096) × (j < A)) (λ i _. noted_link i) S.rest h S.owns_rest S.chained_rest;
      owns = S.owns;
      owns_rest = S.owns_rest;
      on_line = S.on_line;
      on_rest = S.on_rest;
      needs = S.needs;
      unreached = S.unreached;
      out = S.out;
      sound = S.sound;
      places = λ j l. go j l (ℕ_discrete j x);
    }
      where
        go : (j : ℕ) → j < A → Dec (j ≡ x) → Looked s task (get_or order j 0) (place_at noted j)
        go j l (yes e) = rw (e, get_or-set_same work (1024 + x) p 0 (omega (arith, S.long))) (P (omega arith))
        go j l (no q) = rw (get_or-set_other work (1024 + x) (1024 + j) p 0 (omega arith)) (S.places j l)

  -- the action in front of those that are left is settled
  pub record Front (h n : ℕ) (S : Sites task order A s owed work ready h n) : Type 0 where
    pub below : h < A
    pub place : S.w h ≡ 4096
    pub tail : List ℕ
    pub short : suc (length tail) ≤ n
    pub chain : Chain work (link_at work h) tail
    pub apart : Each (λ i. i ≢ h) tail
    pub own : Each (λ j. (S.w j ≡ 4096) × (j < A)) tail
    pub others : (j : ℕ) → j ≢ h → j < A → S.w j ≡ 4096 → T (mem j tail)

  pub front : {h n : ℕ} (S : Sites task order A s owed work ready h n) → h < 1024 → Front h n S
  unfolding mem
  front {h} {n} S b = go S.rest S.left S.chained_rest S.owns_rest S.on_rest
    where
      go : (r : List ℕ) → length r ≤ n → Chain work h r → Each (λ j. (S.w j ≡ 4096) × (j < A)) r → ((j : ℕ) → j < A → S.w j ≡ 4096 → T (mem j r)) → Front h n S
      go [] k c o f = absurd (omega arith)
      go (i ∷ r) k c o f =
          let e = c.0 in
          record {
            below = omega (arith, o.0.1);
            place = rw e o.0.0;
            tail = r;
            short = k;
            chain = rw e c.3;
            apart = rw e c.2;
            own = o.1;
            others = λ j q l p. elim (or_cases (eqb j i) (mem j r) (f j l p)) [ inl z ↦ absurd (q (eqb→eq j i z ∙ sym e)) | inr z ↦ z ];
          }

  module _ {h n : ℕ} (S : Sites task order A s owed work ready h n) (b : h < 1024) where
    F : Front h n S
    F = front S b

    not_h : (f : ℕ) → f < facts_end task → Each (λ i. i ≢ h) (S.line f)
    not_h f l =
        each_map (λ i. (S.w i ≡ f) × (i < A)) (λ i. i ≢ h)
        (λ i o e. let z : S.w h ≡ f = rw e at o.0 in omega (arith, F.place, S.wide)) (S.line f) (S.owns f l)

    still : (v f : ℕ) (l : List ℕ) → Each (λ i. i ≢ h) l → Each (λ j. (S.w j ≡ f) × (j < A)) l → Each (λ j. (put S.w h v j ≡ f) × (j < A)) l
    still v f l a o =
        each_both (λ i. i ≢ h) (λ j. (S.w j ≡ f) × (j < A)) (λ j. (put S.w h v j ≡ f) × (j < A)) (λ j q p. (put_other S.w h v j q ∙ p.0, p.1)) l a o

    settled_goes : (ready' : List ℕ) → T (holds s (ranked task order h).pre) → With ready h ready' → Sites task order A s owed work ready' (link_at work h) (n - 1)
    settled_goes ready' p W = record {
      few = S.few;
      named = S.named;
      long = S.long;
      wide = S.wide;
      ready_sound = W.sound;
      w = put S.w h 4097;
      line = S.line;
      rest = F.tail;
      left = omega (arith, F.short);
      chained = S.chained;
      chained_rest = F.chain;
      owns = λ f l. still 4097 f (S.line f) (not_h f l) (S.owns f l);
      owns_rest = still 4097 4096 F.tail F.apart F.own;
      on_line = put_cases (λ j y. j < A → y < 4096 → T (mem j (S.line y))) S.w h 4097 (λ _ l. absurd (omega arith)) (λ j _. S.on_line j);
      on_rest = put_cases (λ j y. j < A → y ≡ 4096 → T (mem j F.tail)) S.w h 4097 (λ _ l. absurd (omega arith)) (λ j q. F.others j q);
      needs = put_cases (λ j y. j < A → y < 4096 → T (has (ranked task order j).pre (y / 64) (y % 64))) S.w h 4097 (λ _ l. absurd (omega arith)) (λ j _. S.needs j);
      unreached = put_cases (λ j y. j < A → y < 4096 → T (reaches s y) → T (reaches owed y)) S.w h 4097 (λ _ l. absurd (omega arith)) (λ j _. S.unreached j);
      out = put_cases (λ j y. j < A → 4096 < y → T (member ready' j) ⊎ T (holds s (ranked task order j).eff)) S.w h 4097
          (λ _ _. inl (rw (W.are h) (or_l (eqb h h) (member ready h) (eqb_refl h))))
          (λ j _ l g. elim (S.out j l g) [ inl m ↦ inl (rw (W.are j) (or_r (eqb j h) (member ready j) m)) | inr e ↦ inr e ]);
      sound = λ j m. elim (or_cases (eqb j h) (member ready j) (rw (W.are j) at m)) [
        | inl e ↦ rw (eqb→eq j h e) (F.below, p)
        | inr k ↦ S.sound j k
      ];
      places = S.places;
    }

    module _ (f : ℕ) (g : f < facts_end task) where
      room : 2048 + f < length work
      room = omega (arith, S.long)

      abbrev new : List ℕ
      new = hung work f h

      abbrev line' : ℕ → List ℕ
      line' = put S.line f (h ∷ S.line f)

      relinked : (x : ℕ) (l : List ℕ) → Each (λ i. i ≢ h) l → Chain work x l → Chain new x l
      relinked x l a c = chain_same work new (λ i. i ≢ h) (hung_links work f h room b) l x a c

      lined : (j y : ℕ) → T (mem j (S.line y)) → T (mem j (line' y))
      unfolding mem
      lined j = put_cases (λ y l. T (mem j (S.line y)) → T (mem j l)) S.line f (h ∷ S.line f) (λ t. or_r (eqb j h) (mem j (S.line f)) t) (λ y _ t. t)

      settled_waits : T (has (ranked task order h).pre (f / 64) (f % 64)) → reaches s f ≡ false → Sites task order A s owed new ready (link_at work h) (n - 1)
      unfolding mem
      settled_waits p u = record {
        few = S.few;
        named = S.named;
        long = rw (hung_long work f h room b) S.long;
        wide = S.wide;
        ready_sound = S.ready_sound;
        w = put S.w h f;
        line = line';
        rest = F.tail;
        left = omega (arith, F.short);
        chained = put_cases (λ x l. x < facts_end task → Chain new (head_at new x) l) S.line f (h ∷ S.line f)
            (λ l. (
              hung_head work f h room b,
              b,
              not_h f l,
              rw (hung_link work f h room b) (relinked (head_at work f) (S.line f) (not_h f l) (S.chained f l)),
            ))
            (λ x q l. rw (hung_heads work f h room b x q) (relinked (head_at work x) (S.line x) (not_h x l) (S.chained x l)));
        chained_rest = relinked (link_at work h) F.tail F.apart F.chain;
        owns = put_cases (λ x l. x < facts_end task → Each (λ j. (put S.w h f j ≡ x) × (j < A)) l) S.line f (h ∷ S.line f)
            (λ l. ((put_same S.w h f, F.below), still f f (S.line f) (not_h f l) (S.owns f l)))
            (λ x q l. still f x (S.line x) (not_h x l) (S.owns x l));
        owns_rest = still f 4096 F.tail F.apart F.own;
        on_line = put_cases (λ j y. j < A → y < 4096 → T (mem j (line' y))) S.w h f
            (λ _ _. rw (put_same S.line f (h ∷ S.line f)) (or_l (eqb h h) (mem h (S.line f)) (eqb_refl h)))
            (λ j _ l k. lined j (S.w j) (S.on_line j l k));
        on_rest = put_cases (λ j y. j < A → y ≡ 4096 → T (mem j F.tail)) S.w h f (λ _ l. absurd (omega (arith, S.wide))) (λ j q. F.others j q);
        needs = put_cases (λ j y. j < A → y < 4096 → T (has (ranked task order j).pre (y / 64) (y % 64))) S.w h f (λ _ _. p) (λ j _. S.needs j);
        unreached = put_cases (λ j y. j < A → y < 4096 → T (reaches s y) → T (reaches owed y)) S.w h f (λ _ _ t. absurd (rw u at t)) (λ j _. S.unreached j);
        out = put_cases (λ j y. j < A → 4096 < y → T (member ready j) ⊎ T (holds s (ranked task order j).eff)) S.w h f (λ _ l. absurd (omega (arith, S.wide))) (λ j _. S.out j);
        sound = S.sound;
        places = λ j l. rw (hung_places work f h room b j (omega (arith, S.few))) (S.places j l);
      }

  -- the chain of fact f is taken off, to be settled
  module _ (S : Sites task order A s owed work ready 65535 0) (f : ℕ) (g : f < facts_end task) where
    abbrev taken : List ℕ
    taken = set work (2048 + f) 65535

    abbrev w' : ℕ → ℕ
    w' x = put (λ y. y) f 4096 (S.w x)

    w_f : (x : ℕ) → S.w x ≡ f → w' x ≡ 4096
    w_f x e = rw e (put_same (λ y. y) f 4096)

    w_other : (x : ℕ) → S.w x ≢ f → w' x ≡ S.w x
    w_other x n = put_other (λ y. y) f 4096 (S.w x) n

    -- an action that is not on the chain of f stays where it is
    stays : (P : ℕ → Type 0) (x : ℕ) → w' x ≢ 4096 → (S.w x ≢ f → P (S.w x)) → P (w' x)
    stays P x n k = elim (ℕ_discrete (S.w x) f) [ yes e ↦ absurd (n (w_f x e)) | no q ↦ rw (w_other x q) (k q) ]

    none_left : (x : ℕ) → x < A → S.w x ≡ 4096 → ⊥
    unfolding mem
    none_left x b e = rw (empty_by_length S.rest S.left) at (S.on_rest x b e)

    rechained : (x : ℕ) → x < facts_end task → Chain taken (head_at work x) (S.line x)
    rechained x l =
        chain_same work taken (λ j. (S.w j ≡ x) × (j < A)) (λ i _ l. get_or-set_other work (2048 + f) i 65535 0 (omega arith)) (S.line x) (head_at work x) (S.owns x l) (S.chained x l)

    pub sites_off : (owed' : State) → ((y : ℕ) → y ≢ f → T (reaches owed y) → T (reaches owed' y)) → Sites task order A s owed' taken ready (head_at work f) 1024
    sites_off owed' o = record {
      few = S.few;
      named = S.named;
      long = rw length-set S.long;
      wide = S.wide;
      ready_sound = S.ready_sound;
      w = w';
      line = put S.line f [];
      rest = S.line f;
      left = omega (
        arith,
        S.few,
        distinct_length A (S.line f) (each_map (λ j. (S.w j ≡ f) × (j < A)) (λ j. j < A) (λ j p. p.1) (S.line f) (S.owns f g)) (chain_distinct work (S.line f) (head_at work f) (S.chained f g)),
      );
      chained = put_cases (λ x l. x < facts_end task → Chain taken (head_at taken x) l) S.line f []
          (λ l. rw (get_or-set_same work (2048 + f) 65535 0 (omega (arith, S.long))) (omega arith))
          (λ x q l. rw (get_or-set_other work (2048 + f) (2048 + x) 65535 0 (omega arith)) (rechained x l));
      chained_rest = rechained f g;
      owns = put_cases (λ x l. x < facts_end task → Each (λ j. (w' j ≡ x) × (j < A)) l) S.line f [] (λ _. tt)
          (λ x q l. each_map (λ j. (S.w j ≡ x) × (j < A)) (λ j. (w' j ≡ x) × (j < A)) (λ j p. (w_other j (λ e. q (sym p.0 ∙ e)) ∙ p.0, p.1)) (S.line x) (S.owns x l));
      owns_rest = each_map (λ j. (S.w j ≡ f) × (j < A)) (λ j. (w' j ≡ 4096) × (j < A)) (λ j p. (w_f j p.0, p.1)) (S.line f) (S.owns f g);
      on_line = λ j b l. stays (λ y. y < 4096 → T (mem j (put S.line f [] y))) j (omega arith) (λ q k. rw (put_other S.line f [] (S.w j) q) (S.on_line j b k)) l;
      on_rest = λ j b e. elim (ℕ_discrete (S.w j) f) [
        | yes q ↦ subst (λ y. T (mem j (S.line y))) q (S.on_line j b (omega (arith, S.wide)))
        | no q ↦ absurd (none_left j b (sym (w_other j q) ∙ e))
      ];
      needs = λ j b l. stays (λ y. y < 4096 → T (has (ranked task order j).pre (y / 64) (y % 64))) j (omega arith) (λ _. S.needs j b) l;
      unreached = λ j b l. stays (λ y. y < 4096 → T (reaches s y) → T (reaches owed' y)) j (omega arith) (λ q k t. o (S.w j) q (S.unreached j b k t)) l;
      out = λ j b l. stays (λ y. 4096 < y → T (member ready j) ⊎ T (holds s (ranked task order j).eff)) j (omega arith) (λ _. S.out j b) l;
      sound = S.sound;
      places = λ j b. rw (get_or-set_other work (2048 + f) (1024 + j) 65535 0 (omega (arith, S.few))) (S.places j b);
    }

  -- the state grows, and i, whose effects it then has, leaves the ready ones
  pub sites_leave : (s' owed' : State) (i : ℕ) (ready' : List ℕ) → Sites task order A s owed work ready 65535 0 → s ⊆ s' → T (holds s' (ranked task order i).eff)
      → ((y : ℕ) → T (reaches s' y) → T (reaches s y) ⊎ T (reaches owed' y)) → ((y : ℕ) → T (reaches owed y) → T (reaches owed' y)) → Without ready i ready'
      → Sites task order A s' owed' work ready' 65535 0
  sites_leave s' owed' i ready' S up e more owes W = record {
    few = S.few;
    named = S.named;
    long = S.long;
    wide = S.wide;
    ready_sound = W.sound;
    w = S.w;
    line = S.line;
    rest = S.rest;
    left = S.left;
    chained = S.chained;
    chained_rest = S.chained_rest;
    owns = S.owns;
    owns_rest = S.owns_rest;
    on_line = S.on_line;
    on_rest = S.on_rest;
    needs = S.needs;
    unreached = λ j b l t. elim (more (S.w j) t) [ inl p ↦ owes (S.w j) (S.unreached j b l p) | inr p ↦ p ];
    out = λ j b l. leaves j b (S.out j b l) (ℕ_discrete j i);
    sound = λ j m. let k = S.sound j (and_l (member ready j) (not (eqb j i)) (rw (W.are j) at m)) in (k.0, grows (ranked task order j).pre k.1);
    places = λ j b. passing_up s s' task (pre_at task (get_or order j 0)) (eff_at task (get_or order j 0)) (place_at work j) up (S.places j b);
  }
    where
      grows : (fs : List _) → T (holds s fs) → T (holds s' fs)
      grows fs t = sub→holds s' fs (λ v d h. up v d (holds→sub s fs t v d h))

      leaves : (j : ℕ) → j < A → T (member ready j) ⊎ T (holds s (ranked task order j).eff) → Dec (j ≡ i) → T (member ready' j) ⊎ T (holds s' (ranked task order j).eff)
      leaves j b p (yes q) = inr (rw q e)
      leaves j b (inl p) (no q) = inl (rw (W.are j, ne_eqb j i q) (and_i (member ready j) true p tt))
      leaves j b (inr p) (no q) = inr (grows (ranked task order j).eff p)

  -- what adds a fact is ready
  module _ (S : Sites task order A s owed work ready 65535 0) (free : (y : ℕ) → T (reaches owed y) → ⊥) where
    adds_ready : (j : ℕ) → j < A → T (adds (ranked task order) s j) → T (member ready j)
    unfolding adds reaches mem
    adds_ready j b t = go (ℕ_discrete (S.w j) 4096)
      where
        pre : T (holds s (ranked task order j).pre)
        pre = and_l (holds s (ranked task order j).pre) (not (holds s (ranked task order j).eff)) t

        new : T (holds s (ranked task order j).eff) → ⊥
        new = T_not (holds s (ranked task order j).eff) (and_r (holds s (ranked task order j).pre) (not (holds s (ranked task order j).eff)) t)

        on : S.w j < 4096 → T (member ready j)
        on l = absurd (free (S.w j) (S.unreached j b l (holds→sub s (ranked task order j).pre pre (S.w j / 64) (S.w j % 64) (S.needs j b l))))

        off : 4096 < S.w j → T (member ready j)
        off l = elim (S.out j b l) [ inl m ↦ m | inr e ↦ absurd (new e) ]

        go : Dec (S.w j ≡ 4096) → T (member ready j)
        go (yes e) = absurd (rw (empty_by_length S.rest S.left) at (S.on_rest j b e))
        go (no n) = elim (below_or (S.w j) 4096 n) [ inl l ↦ on l | inr l ↦ off l ]

    module _ (R : Ranked (λ i. (act (task_in task) i).cost) A order) where
      -- an action that adds a fact has a rank, and is ready
      rank_ready : (i : ℕ) → i < A → T (adds (act (task_in task)) s i) → (q : ℕ) × (q < A) × (get_or order q 0 ≡ i) × T (member ready q)
      unfolding adds
      rank_ready i b t = let r = R.every i b in (r.0, r.1, r.2, adds_ready r.0 r.1 (rw r.2 t))

      pub sites_none : Lowest ready None → choice (act (task_in task)) A s ≡ none
      sites_none L = choice_none (act (task_in task)) A s (λ i b t. let r = rank_ready i b t in L r.0 (omega (arith, S.few, r.1)) r.3)

      pub sites_first : (p : ℕ) → Lowest ready (Some p) → holds s (ranked task order p).eff ≡ false → choice (act (task_in task)) A s ≡ some (get_or order p 0)
      unfolding adds
      sites_first p L e =
          let k = S.sound p L.is in
          choice_some (act (task_in task)) A s (get_or order p 0) (R.named p k.0)
          (and_i (holds s (ranked task order p).pre) (not (holds s (ranked task order p).eff)) k.1 (rw e tt))
          (λ j l t. let r = rank_ready j l t in subst Dearer r.2 (later r.0 r.1 r.3 (ℕ_discrete p r.0)))
        where
          Dearer : ℕ → Type 0
          Dearer j = ((ranked task order p).cost < (act (task_in task) j).cost) ⊎ (((ranked task order p).cost ≡ (act (task_in task) j).cost) × (get_or order p 0 ≤ j))

          weaken : (j : ℕ) → Before (λ i. (act (task_in task) i).cost) (get_or order p 0) j → Dearer j
          weaken j (inl l) = inl l
          weaken j (inr l) = inr (l.0, omega (arith, l.1))

          later : (q : ℕ) → q < A → T (member ready q) → Dec (p ≡ q) → Dearer (get_or order q 0)
          later q l m (yes z) = rw (← z) (inr (refl, omega arith))
          later q l m (no z) = elim (below_or p q z) [ inl u ↦ weaken (get_or order q 0) (R.rises p q u l) | inr u ↦ absurd (L.least q u m) ]

-- an action is settled: its place is noted, and it is ready or waits
pub sites_settled : {task order : List ℕ} {A : ℕ} {s owed : State} {work ready : List ℕ} {h n : ℕ} → Sites task order A s owed work ready h n → h < 1024
    → (work' ready' : List ℕ) → Settles s task order h work ready work' ready' → Sites task order A s owed work' ready' (link_at work h) (n - 1)
sites_settled {task} {order} {A} {s} {owed} {work} {ready} {h} {n} S b work' ready' (goes k P p W e) =
    rw (e, ← noted_link S h k b (λ _. P) h b) (settled_goes (sites_noted S h k b (λ _. P)) b ready' p W)
sites_settled {task} {order} {A} {s} {owed} {work} {ready} {h} {n} S b work' ready' (waits k P f g p u e er) =
    rw (e, er, ← noted_link S h k b (λ _. P) h b) (settled_waits (sites_noted S h k b (λ _. P)) b f g p u)

-- the actions of ranks below j are settled, and no link is set from rank j on
pub record Entered (task order : List ℕ) (s owed : State) (work ready : List ℕ) (j : ℕ) : Type 0 where
  pub sites : Sites task order j s owed work ready 65535 0
  pub unlinked : (x : ℕ) → j ≤ x → x < 1024 → link_at work x ≡ 65535

-- One action more: it is on no chain, and left to settle.
module _ {task order : List ℕ} {s owed : State} where
  sites_enter : {j : ℕ} {work ready : List ℕ} → Sites task order j s owed work ready 65535 0 → j < 1024 → 1024 ≤ link_at work j
      → get_or order j 0 < actions (task_in task) → Looked s task (get_or order j 0) (place_at work j) → Sites task order (j + 1) s owed work ready j 1
  unfolding mem
  sites_enter {j} {work} {ready} S b e m P = record {
    few = omega arith;
    named = λ i l. named i l (ℕ_discrete i j);
    long = S.long;
    wide = S.wide;
    ready_sound = S.ready_sound;
    w = put S.w j 4096;
    line = S.line;
    rest = j ∷ [];
    left = omega arith;
    chained = S.chained;
    chained_rest = (refl, b, tt, e);
    owns = λ f l. each_map (λ i. (S.w i ≡ f) × (i < j)) (λ i. (put S.w j 4096 i ≡ f) × (i < j + 1))
        (λ i p. (put_other S.w j 4096 i (omega (arith, p.1)) ∙ p.0, omega (arith, p.1))) (S.line f) (S.owns f l);
    owns_rest = ((put_same S.w j 4096, omega arith), tt);
    on_line = put_cases (λ i y. i < j + 1 → y < 4096 → T (mem i (S.line y))) S.w j 4096 (λ _ l. absurd (omega arith)) (λ i q l. S.on_line i (omega arith));
    on_rest = put_cases (λ i y. i < j + 1 → y ≡ 4096 → T (mem i (j ∷ []))) S.w j 4096 (λ _ _. or_l (eqb j j) (mem j []) (eqb_refl j))
        (λ i q l z. absurd (rw (empty_by_length S.rest S.left) at (S.on_rest i (omega arith) z)));
    needs = put_cases (λ i y. i < j + 1 → y < 4096 → T (has (ranked task order i).pre (y / 64) (y % 64))) S.w j 4096 (λ _ l. absurd (omega arith)) (λ i q l. S.needs i (omega arith));
    unreached = put_cases (λ i y. i < j + 1 → y < 4096 → T (reaches s y) → T (reaches owed y)) S.w j 4096 (λ _ l. absurd (omega arith)) (λ i q l. S.unreached i (omega arith));
    out = put_cases (λ i y. i < j + 1 → 4096 < y → T (member ready i) ⊎ T (holds s (ranked task order i).eff)) S.w j 4096 (λ _ l. absurd (omega arith)) (λ i q l. S.out i (omega arith));
    sound = λ i m. let k = S.sound i m in (omega (arith, k.0), k.1);
    places = λ i l. go i l (ℕ_discrete i j);
  }
    where
      named : (i : ℕ) → i < j + 1 → Dec (i ≡ j) → get_or order i 0 < actions (task_in task)
      named i l (yes q) = rw q m
      named i l (no q) = S.named i (omega arith)

      go : (i : ℕ) → i < j + 1 → Dec (i ≡ j) → Looked s task (get_or order i 0) (place_at work i)
      go i l (yes q) = rw q P
      go i l (no q) = S.places i (omega arith)

  pub entered_start : {work ready : List ℕ} → facts_end task ≤ 4096 → Free task work → ready ≡ replicate 17 0 → Entered task order s owed work ready 0
  unfolding member sets_of
  entered_start {work} {ready} small free er = rw er (record {
    sites = record {
      few = omega arith;
      named = λ j b. absurd (omega arith);
      long = free.0;
      wide = small;
      ready_sound = ready_none;
      w = λ _. 0;
      line = λ _. [];
      rest = [];
      left = omega arith;
      chained = λ f l. omega (arith, blank (2048 + f) (omega (arith, free.0)));
      chained_rest = omega arith;
      owns = λ f l. tt;
      owns_rest = tt;
      on_line = λ j b. absurd (omega arith);
      on_rest = λ j b. absurd (omega arith);
      needs = λ j b. absurd (omega arith);
      unreached = λ j b. absurd (omega arith);
      out = λ j b. absurd (omega arith);
      sound = λ j m. absurd (rw (get_d_zeros 17 (j / 64 + 1), in_set_empty (j % 64)) at m);
      places = λ j b. absurd (omega arith);
    };
    unlinked = λ x _ l. blank x (omega (arith, free.0));
  })
    where
      blank : (x : ℕ) → x < length work → get_or work x 0 ≡ 65535
      blank x l = ap (λ (d : List ℕ). get_or d x 0) free.1 ∙ get_or-replicate {A = ℕ} (length work) x 65535 0 l

  -- rank j enters, with the place of its action's first precondition, and is settled
  module _ {work ready : List ℕ} {j : ℕ} (E : Entered task order s owed work ready j) (b : j < 1024) (m : get_or order j 0 < actions (task_in task))
      (p : ℕ) (ep : p ≡ pre_at task (get_or order j 0)) (o : pre_at task (get_or order j 0) ≤ eff_at task (get_or order j 0)) where
    begun : Looked s task (get_or order j 0) p
    begun = record { from = omega arith; to = omega arith; passed = λ x l m. absurd (omega arith) }

    pub entered_place : Looked s task (get_or order j 0) (place_at (set work (1024 + j) p) j)
    entered_place = rw (get_or-set_same work (1024 + j) p 0 (omega (arith, E.sites.long))) begun

    pub entered_turn : (work' ready' : List ℕ) → Settles s task order j (set work (1024 + j) p) ready work' ready' → Entered task order s owed work' ready' (j + 1)
    entered_turn work' ready' Z =
        let link : (x : ℕ) → x < 1024 → link_at (set work (1024 + j) p) x ≡ link_at work x = noted_link E.sites j p b (λ _. begun) in
        let e : 1024 ≤ link_at (set work (1024 + j) p) j = omega (arith, link j b, E.unlinked j (omega arith) b) in
        record {
          sites = sites_ended (sites_settled (sites_enter (sites_noted E.sites j p b (λ _. begun)) b e m entered_place) b work' ready' Z) e;
          unlinked = λ x q l. links Z x (omega arith) l ∙ link x l ∙ E.unlinked x (omega arith) l;
        }
      where
        links : Settles s task order j (set work (1024 + j) p) ready work' ready' → (x : ℕ) → x ≢ j → x < 1024 → link_at work' x ≡ link_at (set work (1024 + j) p) x
        links (goes k P r W ew) x q l = rw ew (get_or-set_other (set work (1024 + j) p) (1024 + j) x k 0 (omega arith))
        links (waits k P f g r u ew er) x q l =
            let n : 2048 + f < length (set (set work (1024 + j) p) (1024 + j) k) = simp length-set (omega (arith, E.sites.long)) in
            rw ew (hung_links (set (set work (1024 + j) p) (1024 + j) k) f j n b x q l ∙ get_or-set_other (set work (1024 + j) p) (1024 + j) x k 0 (omega arith))
