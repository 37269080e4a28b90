-- A store asks one segment after another.
use Rattle.std.proofs.Common.{◌≡◌, ℕ, zero, suc, ◌+◌, ◌<◌, ◌≤◌, true, false, List, [], ◌∷◌, ◌++◌, length, take, drop, set, Option, Some, None, refl, ap, sym, ◌∙◌, append_assoc, arith}
use Rattle.std.specs.Option.{option_map}
use Rattle.std.specs.Int.{byte_at, bytes_low_first}
use Rattle.std.proofs.lemmas.List.{drop-set, take-append-drop, take-set}
use Rattle.rv_model.specs.State.{LoadedSegment}
use Rattle.rv_model.specs.Memory.{overwritten, serves, stored, written}

pub stored-served : (address : ℕ) (xs : List ℕ) (g : LoadedSegment) (gs : List LoadedSegment) → serves written address (length xs) g ≡ true
    → stored address xs (g ∷ gs) ≡ Some (overwritten address xs g ∷ gs)
unfolding stored
stored-served address xs g gs is = rw is refl

pub stored-passed : (address : ℕ) (xs : List ℕ) (g : LoadedSegment) (gs : List LoadedSegment) → serves written address (length xs) g ≡ false
    → stored address xs (g ∷ gs) ≡ option_map (λ rest. g ∷ rest) (stored address xs gs)
unfolding stored
stored-passed address xs g gs is = rw is refl

pub stored-none : (address : ℕ) (xs : List ℕ) → stored address xs [] ≡ None
unfolding stored
stored-none address xs = refl

-- the segments in front stay, and the store goes into those after them
abbrev pub after_these : List LoadedSegment → Option (List LoadedSegment) → Option (List LoadedSegment)
after_these front o = option_map (λ rest. front ++ rest) o

-- of these segments the first i don't serve the store
abbrev pub PassedBy : ℕ → List ℕ → List LoadedSegment → ℕ → Type 0
PassedBy address xs gs i = stored address xs gs ≡ after_these (take i gs) (stored address xs (drop i gs))

after_these-none : (o : Option (List LoadedSegment)) → o ≡ after_these [] o
after_these-none None = refl
after_these-none (Some gs) = refl

pub passed-zero : (address : ℕ) (xs : List ℕ) (gs : List LoadedSegment) → PassedBy address xs gs 0
passed-zero address xs gs = after_these-none (stored address xs gs)

after_these-more : (front : List LoadedSegment) (g : LoadedSegment) (o : Option (List LoadedSegment))
    → after_these front (option_map (λ rest. g ∷ rest) o) ≡ after_these (front ++ g ∷ []) o
after_these-more front g None = refl
after_these-more front g (Some gs) = ap Some (sym (append_assoc front (g ∷ []) gs))

-- one segment more that doesn't serve it
pub passed-more : (address : ℕ) (xs : List ℕ) (gs : List LoadedSegment) (i : ℕ) (g : LoadedSegment) → drop i gs ≡ g ∷ drop (i + 1) gs
    → take (i + 1) gs ≡ take i gs ++ g ∷ [] → serves written address (length xs) g ≡ false → PassedBy address xs gs i → PassedBy address xs gs (i + 1)
passed-more address xs gs i g cut front is before =
    before
    ∙ ap (λ rest. after_these (take i gs) (stored address xs rest)) cut
    ∙ ap (after_these (take i gs)) (stored-passed address xs g (drop (i + 1) gs) is)
    ∙ after_these-more (take i gs) g (stored address xs (drop (i + 1) gs))
    ∙ ap (λ front. after_these front (stored address xs (drop (i + 1) gs))) (sym front)

set-cut : (gs : List LoadedSegment) (i : ℕ) (g : LoadedSegment) → i < length gs → set gs i g ≡ take i gs ++ g ∷ drop (i + 1) gs
set-cut gs i g lt =
    sym (take-append-drop i (set gs i g))
    ∙ ap (λ front. front ++ drop i (set gs i g)) (take-set gs i g)
    ∙ ap (λ rest. take i gs ++ rest) (drop-set gs i g lt)

-- the segment that serves it
pub passed-served : (address : ℕ) (xs : List ℕ) (gs : List LoadedSegment) (i : ℕ) (g : LoadedSegment) → i < length gs → drop i gs ≡ g ∷ drop (i + 1) gs
    → serves written address (length xs) g ≡ true → PassedBy address xs gs i → stored address xs gs ≡ Some (set gs i (overwritten address xs g))
passed-served address xs gs i g lt cut is before =
    before
    ∙ ap (λ rest. after_these (take i gs) (stored address xs rest)) cut
    ∙ ap (after_these (take i gs)) (stored-served address xs g (drop (i + 1) gs) is)
    ∙ ap Some (sym (set-cut gs i (overwritten address xs g) lt))

-- no segment serves it
pub passed-all : (address : ℕ) (xs : List ℕ) (gs : List LoadedSegment) (i : ℕ) → drop i gs ≡ [] → PassedBy address xs gs i → stored address xs gs ≡ None
passed-all address xs gs i none before =
    before
    ∙ ap (λ rest. after_these (take i gs) (stored address xs rest)) none
    ∙ ap (after_these (take i gs)) (stored-none address xs)

-- the lowest bytes of a number are those of a longer list
pub take-bytes_low_first : (i n m x : ℕ) → n ≤ m → take n (bytes_low_first i m x) ≡ bytes_low_first i n x
take-bytes_low_first i zero m x le = refl
take-bytes_low_first i (suc n) zero x le = absurd (omega arith)
take-bytes_low_first i (suc n) (suc m) x le = ap (λ rest. byte_at i x ∷ rest) (take-bytes_low_first (suc i) n m x (omega arith))
