-- Loads and stores of a word of the data, and words that compute of which nothing is known.
use Rattle.std.proofs.Common.{◌≡◌, ℕ, ◌+◌, ◌*◌, ◌<◌, ◌≤◌, ◌^◌, List, [], ◌∷◌, length, Some, refl, ◌∙◌, ap, subst, arith}
use Rattle.std.specs.Prelude.{ℤ, IsTrue, ◌||◌, slice_range}
use Rattle.byteorder.specs.Endian.{little_bytes}
use Rattle.rv_inst.specs.declared.instruction.Form.{Form}
use Rattle.rv_inst.specs.declared.instruction.Form.TheVariants.{LD, SD}
use Rattle.rv_inst.specs.declared.table.Group.{Group}
use Rattle.rv_inst.specs.declared.table.Group.TheVariants.{Constants, Addresses, Jumps, RegisterJumps, Branches, Loads, Stores, Immediates, Registers, Calls}
use Rattle.rv_inst.specs.Word.{Fits}
use Rattle.rv_inst.specs.Forms.{kind_of, operands_of}
use Rattle.rv_inst.specs.Groups.{group_of, is_same_group, HasRegisters}
use Rattle.rv_inst.proofs.GroupLemmas.{registers_fit, constant_fits}
use Rattle.rv_model.specs.State.{MachineState, register, plus64, next}
use Rattle.rv_model.specs.Operations.{bits64, upper_value, operation}
use Rattle.rv_model.specs.Memory.{read, bytes_at, stored}
use Rattle.rv_model.specs.Step.{Continues, put, loaded, kept, address, act, step}
use Rattle.rv_model.specs.Text.{layout}
use Rattle.rv_model.proofs.ActLemmas.{act-immediate, act-registers, upper_value_small}
use Rattle.rv_model.proofs.Widths.{operation_wide, immediate_wide}
use Rattle.rv_model.proofs.TextLemmas.{bytes_at-data, stored-data}
use Rattle.rv_flips.specs.Cells.{Damage, Cell, Free, Holds}
use Rattle.rv_flips.specs.Assertion.{Assertion, Meets, number_at, after_write}
use Rattle.rv_flips.specs.Moves.{Covered, Does}
use Rattle.rv_flips.proofs.CellLemmas.{holds_sure}
use Rattle.rv_flips.proofs.WordLaws.{does_put, step_here}
use Rattle.flip_words.specs.Memory.{after_store}
use Rattle.flip_words.specs.Placed.{IsPlaced, Carries}
use Rattle.flip_words.specs.Words.{only_computes, slot_address, IsSlotAddress}
use Rattle.flip_words.proofs.MemoryLemmas.{number_at-wide, stored_at, length-stored_at, small-stored_at, slots-stored, bytes-stored}
use Rattle.flip_words.proofs.CarryLemmas.{carries_word}
use Rattle.flip_words.proofs.ComputeLaws.{act-constant}

act-LD : (rd rs1 : ℕ) (imm : ℤ) (s : MachineState) → act (LD rd rs1 imm) s ≡ loaded (bytes_at read (address rs1 imm s) 8 s.segments) 8 (λ n. n) rd s
unfolding act
act-LD rd rs1 imm s = refl

act-SD : (rs1 rs2 : ℕ) (imm : ℤ) (s : MachineState) → act (SD rs1 rs2 imm) s ≡ kept (stored (address rs1 imm s) (little_bytes 8 (register s rs2)) s.segments) s
unfolding act
act-SD rs1 rs2 imm s = refl

-- the address is the word's in every state
leads_there : (words : List ℕ) (c : Assertion) (damage : Damage) (s : MachineState) (a k : ℕ) (imm : ℤ) → IsSlotAddress c a imm k → Meets words c damage s → address a imm s ≡ slot_address k
leads_there words c damage s a k imm is meets =
    let P : Cell → Type 0 = λ cell. Holds cell damage (register s a) in
    let base : register s a ≡ is.base = holds_sure is.base (register s a) damage (subst P is.right (meets.regs a)) in
    ap (λ x. plus64 x (bits64 imm)) base ∙ is.leads

pub load_carries : (words : List ℕ) (listed : ℕ → ℕ → Type 0) (c : Assertion) (d a : ℕ) (imm : ℤ) (k : ℕ) → IsSlotAddress c a imm k → 0 < d → Covered listed c → Carries words listed (LD d a imm ∷ []) c (after_write c d (c.slots k) (c.pc + 4))
load_carries words listed c d a imm k is nonzero covered = carries_word words listed (LD d a imm) c (after_write c d (c.slots k) (c.pc + 4)) covered refl does
  where
    does : IsPlaced words c.pc (LD d a imm ∷ []) → (damage : Damage) (s : MachineState) → Meets words c damage s → Does words damage s (after_write c d (c.slots k) (c.pc + 4))
    does placed damage s meets =
        let fits : Fits (LD d a imm) = placed.stands.0.is_word.0 in
        let within : 8 * k + 8 ≤ length meets.data_bytes = omega (arith, is.within, meets.size) in
        let some : 0 < 8 = omega arith in
        let there : bytes_at read (address a imm s) 8 s.segments ≡ Some (slice_range meets.data_bytes (8 * k) (8 * k + 8)) =
        ap (λ q. bytes_at read q 8 s.segments) (leads_there words c damage s a k imm is meets) ∙ ap (bytes_at read (slot_address k) 8) meets.segments
        ∙ bytes_at-data words meets.data_bytes (8 * k) 8 placed.short some within in
        let goes : step s ≡ put d (number_at (8 * k) meets.data_bytes) s =
        step_here words c damage s (LD d a imm) meets placed.stands.0 ∙ act-LD d a imm s ∙ ap (λ o. loaded o 8 (λ n. n) d s) there in
        let at : plus64 c.pc 4 ≡ c.pc + 4 = omega (arith, placed.room) in
        does_put words c damage s d (number_at (8 * k) meets.data_bytes) (c.pc + 4) (c.slots k) meets nonzero fits.0 (number_at-wide (8 * k) meets.data_bytes meets.small) (meets.slots k) at goes

pub store_carries : (words : List ℕ) (listed : ℕ → ℕ → Type 0) (c : Assertion) (a r : ℕ) (imm : ℤ) (k : ℕ) → IsSlotAddress c a imm k → Covered listed c → Carries words listed (SD a r imm ∷ []) c (after_store c k (c.regs r) (c.pc + 4))
store_carries words listed c a r imm k is covered = carries_word words listed (SD a r imm) c (after_store c k (c.regs r) (c.pc + 4)) covered refl does
  where
    does : IsPlaced words c.pc (SD a r imm ∷ []) → (damage : Damage) (s : MachineState) → Meets words c damage s → Does words damage s (after_store c k (c.regs r) (c.pc + 4))
    does placed damage s meets =
        let within : 8 * k + 8 ≤ length meets.data_bytes = omega (arith, is.within, meets.size) in
        let v = register s r in
        let there : stored (address a imm s) (little_bytes 8 v) s.segments ≡ Some (layout words (stored_at (8 * k) v meets.data_bytes)) =
        ap (λ q. stored q (little_bytes 8 v) s.segments) (leads_there words c damage s a k imm is meets) ∙ ap (stored (slot_address k) (little_bytes 8 v)) meets.segments
        ∙ stored-data words meets.data_bytes (little_bytes 8 v) (8 * k) within in
        let goes : step s ≡ Continues (next (record s { segments = layout words (stored_at (8 * k) v meets.data_bytes) })) =
        step_here words c damage s (SD a r imm) meets placed.stands.0 ∙ act-SD a r imm s ∙ ap (λ o. kept o s) there in
        let at : plus64 c.pc 4 ≡ c.pc + 4 = omega (arith, placed.room) in
        record {
          state = next (record s { segments = layout words (stored_at (8 * k) v meets.data_bytes) });
          goes = goes;
          meets = record {
            data_bytes = stored_at (8 * k) v meets.data_bytes;
            pc = ap (λ q. plus64 q 4) meets.pc ∙ at;
            regs = meets.regs;
            wide = meets.wide;
            count = meets.count;
            segments = refl;
            size = length-stored_at (8 * k) v meets.data_bytes within ∙ meets.size;
            small = small-stored_at (8 * k) v meets.data_bytes meets.small;
            slots = slots-stored c.slots (c.regs r) k v damage meets.data_bytes within (meets.wide r) (meets.regs r) meets.slots;
            bytes = bytes-stored c.bytes k v meets.data_bytes within meets.bytes;
            input = meets.input;
            out = meets.out;
          };
        }

-- a word that computes, of anything
pub anything_carries : (words : List ℕ) (listed : ℕ → ℕ → Type 0) (c : Assertion) (form : Form) → IsTrue (only_computes form) → 0 < (operands_of form).rd → Covered listed c → Carries words listed (form ∷ []) c (after_write c (operands_of form).rd Free (c.pc + 4))
anything_carries words listed c form only nonzero covered = carries_word words listed form c (after_write c (operands_of form).rd Free (c.pc + 4)) covered refl does
  where
    writes : IsPlaced words c.pc (form ∷ []) → (damage : Damage) (s : MachineState) (v : ℕ) → Meets words c damage s → v < 2 ^ 64 → act form s ≡ put (operands_of form).rd v s → Does words damage s (after_write c (operands_of form).rd Free (c.pc + 4))
    writes placed damage s v meets wide acts =
        let fits : HasRegisters (operands_of form) = registers_fit form placed.stands.0.is_word.0 in
        let at : plus64 c.pc 4 ≡ c.pc + 4 = omega (arith, placed.room) in
        does_put words c damage s (operands_of form).rd v (c.pc + 4) Free meets nonzero fits.rd wide tt at (step_here words c damage s form meets placed.stands.0 ∙ acts)

    by_group : (g : Group) → group_of (kind_of form) ≡ g → IsTrue (is_same_group Constants g || (is_same_group Immediates g || is_same_group Registers g)) → IsPlaced words c.pc (form ∷ []) → (damage : Damage) (s : MachineState) →
        Meets words c damage s → Does words damage s (after_write c (operands_of form).rd Free (c.pc + 4))
    by_group Constants e is placed damage s meets =
        writes placed damage s (upper_value (operands_of form).imm) meets (upper_value_small (operands_of form).imm (constant_fits form placed.stands.0.is_word.0 e)) (act-constant form s e)
    by_group Immediates e is placed damage s meets =
        writes placed damage s (operation (kind_of form) (register s (operands_of form).rs1) (bits64 (operands_of form).imm)) meets
        (operation_wide (kind_of form) (register s (operands_of form).rs1) (bits64 (operands_of form).imm) (meets.wide (operands_of form).rs1) (immediate_wide form placed.stands.0.is_word.0)) (act-immediate form s e)
    by_group Registers e is placed damage s meets =
        writes placed damage s (operation (kind_of form) (register s (operands_of form).rs1) (register s (operands_of form).rs2)) meets
        (operation_wide (kind_of form) (register s (operands_of form).rs1) (register s (operands_of form).rs2) (meets.wide (operands_of form).rs1) (meets.wide (operands_of form).rs2)) (act-registers form s e)
    by_group Addresses e is placed damage s meets = absurd (cc)
    by_group Jumps e is placed damage s meets = absurd (cc)
    by_group RegisterJumps e is placed damage s meets = absurd (cc)
    by_group Branches e is placed damage s meets = absurd (cc)
    by_group Loads e is placed damage s meets = absurd (cc)
    by_group Stores e is placed damage s meets = absurd (cc)
    by_group Calls e is placed damage s meets = absurd (cc)

    does : IsPlaced words c.pc (form ∷ []) → (damage : Damage) (s : MachineState) → Meets words c damage s → Does words damage s (after_write c (operands_of form).rd Free (c.pc + 4))
    does placed damage s meets = by_group (group_of (kind_of form)) refl only placed damage s meets
