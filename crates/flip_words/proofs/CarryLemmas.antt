-- Code that carries what is known: a word, one list after another, and less that is known.
use Rattle.std.proofs.Common.{◌≡◌, ℕ, ◌+◌, ◌*◌, ◌≤◌, List, [], ◌∷◌, ◌++◌, length, sym, ◌∙◌, ap, subst, arith, length-append}
use Rattle.rv_inst.specs.declared.instruction.Form.{Form}
use Rattle.rv_model.specs.State.{MachineState}
use Rattle.rv_model.specs.Text.{data_base}
use Rattle.rv_model.proofs.TextLemmas.{stands_front, stands_back}
use Rattle.rv_flips.specs.Cells.{Damage}
use Rattle.rv_flips.specs.Assertion.{Assertion, Meets, KnowsLess}
use Rattle.rv_flips.specs.Moves.{Covered, Does, Moves}
use Rattle.rv_flips.proofs.MoveLemmas.{one_word, moves_then, moves_weaker, moves_none, moves_within}
use Rattle.rv_flips.proofs.WordLaws.{meets_less}
use Rattle.flip_words.specs.Placed.{IsPlaced, Carries}

pub placed_front : (words : List ℕ) (p : ℕ) (xs ys : List Form) → IsPlaced words p (xs ++ ys) → IsPlaced words p xs
placed_front words p xs ys h =
    let room : p + 4 * length xs ≤ data_base = omega (arith, h.room, length-append xs ys) in
    record { stands = stands_front words p xs ys h.stands; room = room; short = h.short }

pub placed_back : (words : List ℕ) (p : ℕ) (xs ys : List Form) → IsPlaced words p (xs ++ ys) → IsPlaced words (p + 4 * length xs) ys
placed_back words p xs ys h =
    let room : p + 4 * length xs + 4 * length ys ≤ data_base = omega (arith, h.room, length-append xs ys) in
    record { stands = stands_back words p xs ys h.stands; room = room; short = h.short }

-- one word, from what it does in each case
pub carries_word : (words : List ℕ) (listed : ℕ → ℕ → Type 0) (form : Form) (c d : Assertion) → Covered listed c → d.pc ≡ c.pc + 4 →
    (IsPlaced words c.pc (form ∷ []) → (damage : Damage) (s : MachineState) → Meets words c damage s → Does words damage s d) → Carries words listed (form ∷ []) c d
carries_word words listed form c d covered ends does =
    record { moves = λ placed. one_word words listed c d covered (does placed); ends = ends }

-- a law of moves of one word
pub carries_moves : (words : List ℕ) (listed : ℕ → ℕ → Type 0) (form : Form) (c d : Assertion) → d.pc ≡ c.pc + 4 → (IsPlaced words c.pc (form ∷ []) → Moves words listed c 1 d) → Carries words listed (form ∷ []) c d
carries_moves words listed form c d ends moves = record { moves = moves; ends = ends }

pub carries_none : (words : List ℕ) (listed : ℕ → ℕ → Type 0) (c : Assertion) → Carries words listed [] c c
carries_none words listed c = let same : c.pc ≡ c.pc + 4 * 0 = omega arith in record { moves = λ placed. moves_none words listed c; ends = same }

pub joined : {words : List ℕ} {listed : ℕ → ℕ → Type 0} {xs ys : List Form} {c d e : Assertion} → Carries words listed xs c d → Carries words listed ys d e → Carries words listed (xs ++ ys) c e
joined {words = words} {listed = listed} {xs = xs} {ys = ys} {c = c} {d = d} {e = e} one two =
    let size = length-append xs ys in
    let there : d.pc ≡ c.pc + 4 * length xs = one.ends in
    let ends : e.pc ≡ c.pc + 4 * length (xs ++ ys) = omega (arith, two.ends) in
    let few : length xs + length ys ≤ length (xs ++ ys) = omega arith in
    let P : ℕ → Type 0 = λ p. IsPlaced words p ys in
    record {
      moves = λ placed.
          moves_within words listed c e (length xs + length ys) (length (xs ++ ys)) few
          (moves_then words listed c d e (length xs) (length ys) (one.moves (placed_front words c.pc xs ys placed)) (two.moves (subst P (sym there) (placed_back words c.pc xs ys placed))));
      ends = ends;
    }

-- from less that is known, and to less that is known
pub carries_less : {words : List ℕ} {listed : ℕ → ℕ → Type 0} {code : List Form} {c c' d' d : Assertion} → KnowsLess c c' → Carries words listed code c' d' → KnowsLess d' d → Carries words listed code c d
carries_less {words = words} {listed = listed} {code = code} {c = c} {c' = c'} {d' = d'} {d = d} front one back =
    let P : ℕ → Type 0 = λ p. IsPlaced words p code in
    let ends : d.pc ≡ c.pc + 4 * length code = back.pc ∙ one.ends ∙ ap (λ p. p + 4 * length code) front.pc in
    record {
      moves = λ placed.
          moves_weaker words listed c d' d (length code) (λ damage s. meets_less words d' d damage s back)
          (λ s f good. one.moves (subst P (sym front.pc) placed) s f (record { damage = good.damage; meets = meets_less words c c' good.damage s front good.meets; pending = good.pending }));
      ends = ends;
    }
