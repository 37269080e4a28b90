-- The versions of an operand come into registers.
use Rattle.std.proofs.Common.{◌≡◌, ℕ, suc, ◌+◌, ◌*◌, ◌<◌, inl, List, [], ◌∷◌, length, Option, Some, None, refl, ◌∙◌, subst, arith}
use Rattle.rv_inst.specs.declared.instruction.Form.{Form}
use Rattle.rv_inst.specs.declared.instruction.Form.TheVariants.{ADDI, ADDIW, SLLI}
use Rattle.rv_model.specs.Operations.{bits64, upper_value}
use Rattle.rv_flips.specs.Cells.{Tag, Sure, Cell, Free, Has, SaysLess}
use Rattle.rv_flips.specs.Assertion.{Assertion, KnowsLess, with_register, after_write}
use Rattle.rv_flips.specs.Computing.{IsUncoded}
use Rattle.rv_flips.specs.Moves.{Covered}
use Rattle.rv_flips.proofs.CellLemmas.{with_register-same, with_register-other, says_same, says_free}
use Rattle.rv_flips.proofs.KnownRegisters.{covered, sures_other}
use Rattle.flip_words.specs.Placed.{WindowPoints, Excepted, Carries}
use Rattle.flip_words.proofs.CarryLemmas.{joined, carries_none, carries_less}
use Rattle.flip_words.proofs.LessLemmas.{says_again, knows_same, knows_regs, written_says}
use Rattle.flip_words.proofs.ComputeLaws.{compute_carries, upper_carries, constant_carries, copy_carries}
use Rattle.flip_words.proofs.SlotLaws.{anything_carries}
use Rattle.flip_frames.specs.Views.{IsVersion, version}
use Rattle.flip_frames.proofs.RunLaws.{version_uncoded}
use Rattle.flip_frames.proofs.ViewLemmas.{not_sure_version}
use Rattle.flip_guards.specs.Slots.{IsFramed, used_up}
use Rattle.flip_guards.specs.Sources.{Part, Upper, Small, Plus, PlusWord, Shifted, part_word, part_words, part_value, made, Source, InSlot, InRegister, Constant, bring, Gives}
use Rattle.flip_guards.proofs.Lines.{forgets}
use Rattle.flip_guards.proofs.SlotWords.{used_regs, used_less, slots_come_in}

-- what is known while a constant is made in register d
abbrev pub making : Assertion → ℕ → Tag → Option ℕ → ℕ → Assertion
making c d tag o p = after_write c d (version tag o) p

-- a word that writes d once more
again : {words : List ℕ} {listed : ℕ → ℕ → Type 0} {code : List Form} (c : Assertion) (d : ℕ) (tag : Tag) (o o' : Option ℕ) (cell : Cell) (p q r : ℕ) → SaysLess cell (version tag o') → r ≡ q →
    Carries words listed code (making c d tag o p) (after_write (making c d tag o p) d cell q) → Carries words listed code (making c d tag o p) (making c d tag o' r)
again c d tag o o' cell p q r says at one =
    carries_less (knows_same (making c d tag o p)) one
    (knows_regs c q r (with_register (with_register c.regs d (version tag o)) d cell) (with_register c.regs d (version tag o')) at
    (written_says (with_register c.regs d (version tag o)) c.regs d cell (version tag o') says (λ k ne. says_same (with_register c.regs d (version tag o) k) (c.regs k) (with_register-other c.regs d k (version tag o) ne))))

-- one word of a constant
part_carries : (words : List ℕ) (listed : ℕ → ℕ → Type 0) (c : Assertion) (d p : ℕ) (tag : Tag) (x : Part) (o : Option ℕ) → c.regs 0 ≡ Has Sure 0 → 0 < d → IsUncoded tag → Covered listed (making c d tag o p) →
    Carries words listed (part_word d x ∷ []) (making c d tag o p) (making c d tag (part_value x o) (p + 4))
part_carries words listed c d p tag (Upper imm) o x0 nonzero uncoded covered =
    again c d tag o (Some (upper_value imm)) (Has tag (upper_value imm)) p (p + 4) (p + 4) (says_again (Has tag (upper_value imm))) refl (upper_carries words listed (making c d tag o p) d imm tag nonzero covered)
part_carries words listed c d p tag (Small imm) o x0 nonzero uncoded covered =
    let zero : with_register c.regs d (version tag o) 0 ≡ Has Sure 0 = with_register-other c.regs d 0 (version tag o) (omega arith) ∙ x0 in
    again c d tag o (Some (bits64 imm)) (Has tag (bits64 imm)) p (p + 4) (p + 4) (says_again (Has tag (bits64 imm))) refl (constant_carries words listed (making c d tag o p) d imm tag zero nonzero covered)
part_carries words listed c d p tag (Plus imm) None x0 nonzero uncoded covered =
    again c d tag None None Free p (p + 4) (p + 4) (says_free Free) refl (anything_carries words listed (making c d tag None p) (ADDI d d imm) refl nonzero covered)
part_carries words listed c d p tag (Plus imm) (Some v) x0 nonzero uncoded covered =
    let own : with_register c.regs d (Has tag v) d ≡ Has tag v = with_register-same c.regs d (Has tag v) in
    again c d tag (Some v) (part_value (Plus imm) (Some v)) (version tag (part_value (Plus imm) (Some v))) p (p + 4) (p + 4) (says_again (version tag (part_value (Plus imm) (Some v)))) refl
    (compute_carries words listed (making c d tag (Some v) p) (ADDI d d imm) tag v (bits64 imm) (inl own, refl) uncoded nonzero covered)
part_carries words listed c d p tag (PlusWord imm) None x0 nonzero uncoded covered =
    again c d tag None None Free p (p + 4) (p + 4) (says_free Free) refl (anything_carries words listed (making c d tag None p) (ADDIW d d imm) refl nonzero covered)
part_carries words listed c d p tag (PlusWord imm) (Some v) x0 nonzero uncoded covered =
    let own : with_register c.regs d (Has tag v) d ≡ Has tag v = with_register-same c.regs d (Has tag v) in
    again c d tag (Some v) (part_value (PlusWord imm) (Some v)) (version tag (part_value (PlusWord imm) (Some v))) p (p + 4) (p + 4) (says_again (version tag (part_value (PlusWord imm) (Some v)))) refl
    (compute_carries words listed (making c d tag (Some v) p) (ADDIW d d imm) tag v (bits64 imm) (inl own, refl) uncoded nonzero covered)
part_carries words listed c d p tag (Shifted amount) None x0 nonzero uncoded covered =
    again c d tag None None Free p (p + 4) (p + 4) (says_free Free) refl (anything_carries words listed (making c d tag None p) (SLLI d d amount) refl nonzero covered)
part_carries words listed c d p tag (Shifted amount) (Some v) x0 nonzero uncoded covered =
    let own : with_register c.regs d (Has tag v) d ≡ Has tag v = with_register-same c.regs d (Has tag v) in
    again c d tag (Some v) (part_value (Shifted amount) (Some v)) (version tag (part_value (Shifted amount) (Some v))) p (p + 4) (p + 4) (says_again (version tag (part_value (Shifted amount) (Some v)))) refl
    (compute_carries words listed (making c d tag (Some v) p) (SLLI d d amount) tag v (bits64 amount) (inl own, refl) uncoded nonzero covered)

-- all words of a constant
pub parts_carry : (words : List ℕ) (listed : ℕ → ℕ → Type 0) (c : Assertion) (d p : ℕ) (tag : Tag) (xs : List Part) (o : Option ℕ) → c.regs 0 ≡ Has Sure 0 → 0 < d → IsUncoded tag →
    ((q : ℕ) (x : Option ℕ) → Covered listed (making c d tag x q)) → Carries words listed (part_words d xs) (making c d tag o p) (making c d tag (made xs o) (p + 4 * length (part_words d xs)))
parts_carry words listed c d p tag [] o x0 nonzero uncoded covered =
    let here : p ≡ p + 4 * 0 = omega arith in
    let P : ℕ → Type 0 = λ q. Carries words listed [] (making c d tag o p) (making c d tag o q) in
    subst P here (carries_none words listed (making c d tag o p))
parts_carry words listed c d p tag (x ∷ xs) o x0 nonzero uncoded covered =
    let there : p + 4 + 4 * length (part_words d xs) ≡ p + 4 * suc (length (part_words d xs)) = omega arith in
    let P : ℕ → Type 0 = λ q. Carries words listed (part_words d (x ∷ xs)) (making c d tag o p) (making c d tag (made xs (part_value x o)) q) in
    subst P there (joined (part_carries words listed c d p tag x o x0 nonzero uncoded (covered p o)) (parts_carry words listed c d (p + 4) tag xs (part_value x o) x0 nonzero uncoded covered))

-- x28 and x29 may be used up besides
also_used : (c : Assertion) (d p q : ℕ) (cell : Cell) → q ≡ p → KnowsLess (after_write c d cell p) (after_write (used_up c q) d cell q)
also_used c d p q cell at =
    knows_regs c p q (with_register c.regs d cell) (with_register (used_regs c.regs) d cell) at (written_says c.regs (used_regs c.regs) d cell cell (says_again cell) (λ k ne. used_less c.regs k))

pub source_carries : (words : List ℕ) (c : Assertion) (base d : ℕ) (s : Source) (tag : Tag) (o : Option ℕ) → IsFramed c base → 4 < d → IsVersion tag → Gives c base s tag o →
    Carries words (Excepted WindowPoints words) (bring d s) c (after_write (used_up c (c.pc + 4 * length (bring d s))) d (version tag o) (c.pc + 4 * length (bring d s)))
source_carries words c base d (InSlot n) tag o framed above is gives = slots_come_in words c base d n tag o framed gives.0 gives.1 above
source_carries words c base d (InRegister r) tag o framed above is gives =
    let nonzero : 0 < d = omega arith in
    let P : Cell → Type 0 = λ cell. Carries words (Excepted WindowPoints words) (bring d (InRegister r)) c (after_write c d cell (c.pc + 4)) in
    carries_less (knows_same c) (subst P gives.1 (copy_carries words (Excepted WindowPoints words) c d r nonzero (covered (Excepted WindowPoints words) c [] framed.sures tt)))
    (also_used c d (c.pc + 4) (c.pc + 4) (version tag o) refl)
source_carries words c base d (Constant parts) tag o framed above is gives =
    let nonzero : 0 < d = omega arith in
    let free : Covered (Excepted WindowPoints words) c = covered (Excepted WindowPoints words) c [] framed.sures tt in
    let P : Option ℕ → Type 0 = λ x. Carries words (Excepted WindowPoints words) (part_words d parts) (making c d tag None c.pc) (making c d tag x (c.pc + 4 * length (part_words d parts))) in
    let all = subst P gives
    (parts_carry words (Excepted WindowPoints words) c d c.pc tag parts None framed.zero nonzero (version_uncoded tag is)
    (λ q x. covered (Excepted WindowPoints words) (making c d tag x q) [] (sures_other c.regs d (version tag x) [] (not_sure_version tag x is) framed.sures) tt)) in
    carries_less (knows_regs c c.pc c.pc c.regs (with_register c.regs d Free) refl (λ q. forgets c.regs d q)) all
    (also_used c d (c.pc + 4 * length (part_words d parts)) (c.pc + 4 * length (part_words d parts)) (version tag o) refl)
