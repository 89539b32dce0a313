-- What was read, in room for one byte more than a record has, has the listing of the whole input.
use Rattle.std.proofs.Common.{◌≡◌, ℕ, ◌<◌, ◌≤◌, List, ◌++◌, arith, length, take, length-take-le, append-nil, length-append, sym, ap, ◌∙◌, subst, inl, inr}
use Rattle.std.proofs.lemmas.Bool.{cases_lt}
use Rattle.std.proofs.Math.Seq.{take-append_seam}
use Rattle.std.specs.Io.KnownBytes.{Appends, Consumes, IsAtEnd}
use Rattle.std.specs.Prelude.{Option, None, Some, IfSome, ◌⊎◌}
use Rattle.planning.specs.Listing.{listing_of}
use Rattle.laws.proofs.Listing.{listing_front}
use Rattle.listing.proofs.list.Goals as goal

-- bs stands in front of the input and ends it, or is as long as the room
listed : (a b : Option (List ℕ)) (bs : List ℕ) → Consumes a b bs → (length bs < 49316 → IsAtEnd b) → length bs ≤ 49316 → IfSome a (λ xs. listing_of bs ≡ listing_of xs)
listed None b bs taken whole few = tt
listed (Some xs) None bs taken whole few = absurd taken
listed (Some xs) (Some ys) bs taken whole few = go (cases_lt (length bs) 49316)
  where
    go : (length bs < 49316) ⊎ (49316 ≤ length bs) → listing_of bs ≡ listing_of xs
    go (inl h) = ap listing_of (sym (taken ∙ ap (λ l. bs ++ l) (whole h) ∙ append-nil bs))
    go (inr h) =
        let same : length bs ≡ 49316 = omega arith in
        let front : take 49316 xs ≡ bs = ap (take 49316) taken ∙ ap (λ n. take n (bs ++ ys)) (sym same) ∙ take-append_seam bs ys in
        ap listing_of (sym front) ∙ listing_front xs 49316 (omega arith) (omega (arith, ap length taken, length-append bs ys))

-- so what was written is the listing of the input
told : (a b c d : Option (List ℕ)) (bs : List ℕ) → Consumes a b bs → (length bs < 49316 → IsAtEnd b) → length bs ≤ 49316 → Appends c d (listing_of bs) → IfSome a (λ xs. Appends c d (listing_of xs))
told None b c d bs taken whole few put = tt
told (Some xs) b c d bs taken whole few put = subst (Appends c d) (listed (Some xs) b bs taken whole few) put

pub returns : goal.returns
returns g c =
    let read = c.in-Ok.ensures in
    let long : length (take c.in-Ok.n c.read.new.bytes) ≡ c.in-Ok.n = length-take-le _ _ read.front.0 in
    told _ _ _ _ _ read.taken (λ h. read.whole (omega arith)) (omega arith) c.in-Ok-print.ensures
