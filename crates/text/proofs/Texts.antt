-- Text behind text: numbers after numbers, and the lines that they make.
use Prim.Native.Nat.{ℕ}
use mathlib.Core.Path.{◌≡◌, refl, sym, ap, ◌∙◌}
use mathlib.Core.Bool.{Bool, true, false}
use mathlib.Core.List.{List, [], ◌∷◌, ◌++◌, append_assoc, append-nil}
use native.Mathlib.Omega.{arith}
use lib.ListN.{length, take, length-append}
use Rattle.planning.specs.Listing.{decimal, numbers, line, real_word, unreal_word, verdict_word}
use Rattle.text.specs.Put.{Put}

pub put_none : (xs : List ℕ) (p : ℕ) → Put xs p [] xs p
put_none xs p = record { ends = omega arith; front = sym (append-nil (take p xs)) }

-- one text and then another, which are the text t
pub put_then : {xs ys zs a b t : List ℕ} {p e f : ℕ} → a ++ b ≡ t → Put xs p a ys e → Put ys e b zs f → Put xs p t zs f
put_then {xs} {ys} {zs} {a} {b} {t} {p} q P Q =
    record {
      ends = omega (arith, P.ends, Q.ends, length-append a b, ap length q);
      front = Q.front ∙ ap (λ x. x ++ b) P.front ∙ append_assoc (take p xs) a b ∙ ap (λ x. take p xs ++ x) q;
    }

pub numbers-++ : (a b : List ℕ) → numbers a ++ numbers b ≡ numbers (a ++ b)
unfolding numbers
numbers-++ [] b = refl
numbers-++ (n ∷ a) b = append_assoc (32 ∷ decimal n) (numbers a) (numbers b) ∙ ap (λ x. (32 ∷ decimal n) ++ x) (numbers-++ a b)

-- a space and the digits
pub spaced : (n : ℕ) (l : List ℕ) → l ≡ decimal n → (32 ∷ []) ++ l ≡ numbers (n ∷ [])
unfolding numbers
spaced n l e = ap (λ x. 32 ∷ x) e ∙ sym (append-nil (32 ∷ decimal n))

-- lines
pub line_one : (w : List ℕ) (n : ℕ) → (w ++ numbers (n ∷ [])) ++ (10 ∷ []) ≡ line w (n ∷ [])
unfolding line
line_one w n = append_assoc w (numbers (n ∷ [])) (10 ∷ [])

pub line_more : (w : List ℕ) (n : ℕ) (l : List ℕ) → (w ++ numbers (n ∷ [])) ++ (numbers l ++ (10 ∷ [])) ≡ line w (n ∷ l)
unfolding line
line_more w n l =
    append_assoc w (numbers (n ∷ [])) (numbers l ++ (10 ∷ [])) ∙ ap (λ x. w ++ x) (sym (append_assoc (numbers (n ∷ [])) (numbers l) (10 ∷ [])) ∙ ap (λ x. x ++ (10 ∷ [])) (numbers-++ (n ∷ []) l))

-- the same with two numbers in front
pub line_two : (w : List ℕ) (n m : ℕ) (l : List ℕ) → ((w ++ numbers (n ∷ [])) ++ numbers (m ∷ [])) ++ (numbers l ++ (10 ∷ [])) ≡ line w (n ∷ m ∷ l)
line_two w n m l =
    append_assoc (w ++ numbers (n ∷ [])) (numbers (m ∷ [])) (numbers l ++ (10 ∷ []))
    ∙ ap (λ x. (w ++ numbers (n ∷ [])) ++ x) (sym (append_assoc (numbers (m ∷ [])) (numbers l) (10 ∷ [])) ∙ ap (λ x. x ++ (10 ∷ [])) (numbers-++ (m ∷ []) l)) ∙ line_more w n (m ∷ l)

-- two numbers and nothing more
pub line_end : (w : List ℕ) (n m : ℕ) → ((w ++ numbers (n ∷ [])) ++ numbers (m ∷ [])) ++ (10 ∷ []) ≡ line w (n ∷ m ∷ [])
unfolding numbers
line_end w n m = line_two w n m []

pub verdict_real : {xs ys : List ℕ} (l : List ℕ) {p e : ℕ} {b : Bool} → b ≡ true → Put xs p (line real_word l) ys e → Put xs p (line (verdict_word b) l) ys e
unfolding verdict_word
verdict_real l q P = rw q P

pub verdict_unreal : {xs ys : List ℕ} (l : List ℕ) {p e : ℕ} {b : Bool} → b ≡ false → Put xs p (line unreal_word l) ys e → Put xs p (line (verdict_word b) l) ys e
unfolding verdict_word
verdict_unreal l q P = rw q P
