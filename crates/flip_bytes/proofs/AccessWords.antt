-- Loads and stores of bytes.
use Rattle.std.proofs.Common.{◌≡◌, ℕ, ◌+◌, ◌-◌, ◌*◌, ◌<◌, ◌≤◌, ◌^◌, Bool, true, false, cond, List, [], ◌∷◌, length, Option, Some, None, refl, ◌∙◌, ap, subst, arith, lit<}
use Rattle.std.specs.Prelude.{ℤ, slice_range, nat_lt}
use Rattle.byteorder.specs.Endian.{little_number, little_bytes}
use borrow.Rule.Slice.PartMut.{put_mid}
use Rattle.rv_inst.specs.declared.instruction.Form.{Form}
use Rattle.rv_inst.specs.declared.table.Group.TheVariants.{Loads, Stores}
use Rattle.rv_inst.specs.declared.table.Kind.{Kind}
use Rattle.rv_inst.specs.declared.table.Kind.TheVariants.{OpLb, OpLh, OpLw, OpLd, OpLbu, OpLhu, OpLwu}
use Rattle.rv_inst.specs.Forms.{kind_of, operands_of}
use Rattle.rv_inst.specs.Groups.{group_of, HasRegisters}
use Rattle.rv_inst.proofs.GroupLemmas.{registers_fit}
use Rattle.rv_model.specs.State.{MachineState, register, plus64, next}
use Rattle.rv_model.specs.Memory.{read, bytes_at, stored}
use Rattle.rv_model.specs.Operations.{bits64, sign_extended, width, extended}
use Rattle.rv_model.specs.Step.{Continues, put, loaded, loads, stores, kept, address, act_by, act, step}
use Rattle.rv_model.specs.Text.{data_base, layout}
use Rattle.rv_model.proofs.ByteLemmas.{length-written}
use Rattle.rv_model.proofs.TextLemmas.{bytes_at-data, stored-data}
use Rattle.rv_flips.specs.Cells.{Damage, Tag, Sure, Cell, Has, Holds}
use Rattle.rv_flips.specs.Assertion.{Assertion, Meets, KnownByte, after_write}
use Rattle.rv_flips.specs.Moves.{Covered, Does}
use Rattle.rv_flips.proofs.CellLemmas.{right_kept, holds_sure}
use Rattle.rv_flips.proofs.WordLaws.{does_put, step_here}
use Rattle.flip_words.specs.Placed.{IsPlaced, Carries}
use Rattle.flip_words.proofs.CarryLemmas.{carries_word}
use Rattle.flip_words.proofs.MemoryLemmas.{small-low_first}
use Rattle.flip_frames.specs.Views.{version}
use Rattle.flip_guards.specs.Sources.{of_known}
use Rattle.flip_bytes.specs.Bytes.{known_number, after_bytes}
use Rattle.flip_bytes.specs.Accesses.{IsByteAddress}
use Rattle.flip_bytes.proofs.DataBytes.{number_in_range, number_small, number_known, small-written, length-low_first, bytes-written, slots-written, value_bytes}

act-loads : (i : Form) (s : MachineState) → group_of (kind_of i) ≡ Loads → act i s ≡ loads (kind_of i) (operands_of i).rd (address (operands_of i).rs1 (operands_of i).imm s) s
unfolding act
act-loads i s e = ap (λ g. act_by g (kind_of i) (operands_of i) s) e

act-stores : (i : Form) (s : MachineState) → group_of (kind_of i) ≡ Stores → act i s ≡ stores (kind_of i) (address (operands_of i).rs1 (operands_of i).imm s) (register s (operands_of i).rs2) s
unfolding act
act-stores i s e = ap (λ g. act_by g (kind_of i) (operands_of i) s) e

-- loads and stores move some bytes
some_loaded : (k : Kind) → group_of k ≡ Loads → 0 < width k
some_loaded OpLb e = lit< tt
some_loaded OpLh e = lit< tt
some_loaded OpLw e = lit< tt
some_loaded OpLd e = lit< tt
some_loaded OpLbu e = lit< tt
some_loaded OpLhu e = lit< tt
some_loaded OpLwu e = lit< tt
some_loaded _ e = absurd (cc)

extended_small : (half n : ℕ) → half ≤ 2 ^ 63 → n < 2 * half → sign_extended half n < 2 ^ 64
extended_small half n le small = by_sign (nat_lt n half)
  where
    by_sign : (b : Bool) → cond b n (n + 2 ^ 64 - 2 * half) < 2 ^ 64
    by_sign true = omega arith
    by_sign false = omega arith

-- what a load makes of its bytes is a number of 64 bits
loaded_small : (k : Kind) (n : ℕ) → group_of k ≡ Loads → n < 256 ^ width k → extended k n < 2 ^ 64
loaded_small OpLb n e small = extended_small (2 ^ 7) n (omega arith) (omega arith)
loaded_small OpLh n e small = extended_small (2 ^ 15) n (omega arith) (omega arith)
loaded_small OpLw n e small = extended_small (2 ^ 31) n (omega arith) (omega arith)
loaded_small OpLd n e small = omega arith
loaded_small OpLbu n e small = omega arith
loaded_small OpLhu n e small = omega arith
loaded_small OpLwu n e small = omega arith
loaded_small _ n e small = absurd (cc)

-- the address is that of the bytes in every state
pub leads_to_bytes : (words : List ℕ) (c : Assertion) (damage : Damage) (s : MachineState) (a o n : ℕ) (imm : ℤ) → IsByteAddress c a imm o n → Meets words c damage s → address a imm s ≡ data_base + o
leads_to_bytes words c damage s a o n imm is meets =
    let P : Cell → Type 0 = λ cell. Holds cell damage (register s a) in
    let base : register s a ≡ is.base = holds_sure is.base (register s a) damage (subst P is.right (meets.regs a)) in
    ap (λ x. plus64 x (bits64 imm)) base ∙ is.leads

-- a number is what is known of it
known_holds : (tag : Tag) (f : ℕ → ℕ) (bytes : ℕ → KnownByte) (o n number : ℕ) (damage : Damage) (known : Option ℕ) → known_number bytes o n ≡ known → ((x : ℕ) → known_number bytes o n ≡ Some x → number ≡ x) →
    Holds (version tag (of_known f known)) damage (f number)
known_holds tag f bytes o n number damage None e is = tt
known_holds tag f bytes o n number damage (Some x) e is = right_kept tag (f x) (f number) damage (ap f (is x e))

pub bytes_are_loaded : (words : List ℕ) (listed : ℕ → ℕ → Type 0) (c : Assertion) (form : Form) (o : ℕ) (tag : Tag) → group_of (kind_of form) ≡ Loads →
    IsByteAddress c (operands_of form).rs1 (operands_of form).imm o (width (kind_of form)) → 0 < (operands_of form).rd → Covered listed c →
    Carries words listed (form ∷ []) c (after_write c (operands_of form).rd (version tag (of_known (extended (kind_of form)) (known_number c.bytes o (width (kind_of form))))) (c.pc + 4))
bytes_are_loaded words listed c form o tag group is nonzero covered =
    carries_word words listed form c (after_write c (operands_of form).rd (version tag (of_known (extended (kind_of form)) (known_number c.bytes o (width (kind_of form))))) (c.pc + 4)) covered refl does
  where
    does : IsPlaced words c.pc (form ∷ []) → (damage : Damage) (s : MachineState) → Meets words c damage s →
        Does words damage s (after_write c (operands_of form).rd (version tag (of_known (extended (kind_of form)) (known_number c.bytes o (width (kind_of form))))) (c.pc + 4))
    does placed damage s meets =
        let k = kind_of form in
        let d = (operands_of form).rd in
        let n = width (kind_of form) in
        let bytes = slice_range meets.data_bytes o (o + width (kind_of form)) in
        let number = little_number (width (kind_of form)) (slice_range meets.data_bytes o (o + width (kind_of form))) in
        let fits : HasRegisters (operands_of form) = registers_fit form placed.stands.0.is_word.0 in
        let within : o + width (kind_of form) ≤ length meets.data_bytes = omega (arith, is.within, meets.size) in
        let there : bytes_at read (address (operands_of form).rs1 (operands_of form).imm s) n s.segments ≡ Some bytes =
        ap (λ q. bytes_at read q n s.segments) (leads_to_bytes words c damage s (operands_of form).rs1 o n (operands_of form).imm is meets) ∙ ap (bytes_at read (data_base + o) n) meets.segments
        ∙ bytes_at-data words meets.data_bytes o n placed.short (some_loaded k group) within in
        let goes : step s ≡ put d (extended k number) s = step_here words c damage s form meets placed.stands.0 ∙ act-loads form s group ∙ ap (λ b. loaded b n (extended k) d s) there in
        let at : plus64 c.pc 4 ≡ c.pc + 4 = omega (arith, placed.room) in
        let is_number : (x : ℕ) → known_number c.bytes o n ≡ Some x → number ≡ x = λ x e. number_in_range o n meets.data_bytes ∙ number_known c.bytes meets.data_bytes o n x meets.bytes e in
        does_put words c damage s d (extended k number) (c.pc + 4) (version tag (of_known (extended k) (known_number c.bytes o n))) meets nonzero fits.rd
        (loaded_small k number group (number_small o n meets.data_bytes meets.small))
        (known_holds tag (extended k) c.bytes o n number damage (known_number c.bytes o n) refl is_number) at goes

-- a value that is kept for sure is the register's
sure_value : (c : Assertion) (r x : ℕ) (value : Option ℕ) (damage : Damage) → c.regs r ≡ version Sure value → Holds (c.regs r) damage x → (y : ℕ) → value ≡ Some y → x ≡ y
sure_value c r x value damage is holds y e =
    let P : Cell → Type 0 = λ cell. Holds cell damage x in
    let sure : c.regs r ≡ Has Sure y = is ∙ ap (version Sure) e in
    holds_sure y x damage (subst P sure holds)

pub bytes_are_stored : (words : List ℕ) (listed : ℕ → ℕ → Type 0) (c : Assertion) (form : Form) (o : ℕ) (value : Option ℕ) → group_of (kind_of form) ≡ Stores →
    IsByteAddress c (operands_of form).rs1 (operands_of form).imm o (width (kind_of form)) → c.regs (operands_of form).rs2 ≡ version Sure value → Covered listed c →
    Carries words listed (form ∷ []) c (after_bytes c o (width (kind_of form)) value (c.pc + 4))
bytes_are_stored words listed c form o value group is sure covered = carries_word words listed form c (after_bytes c o (width (kind_of form)) value (c.pc + 4)) covered refl does
  where
    does : IsPlaced words c.pc (form ∷ []) → (damage : Damage) (s : MachineState) → Meets words c damage s → Does words damage s (after_bytes c o (width (kind_of form)) value (c.pc + 4))
    does placed damage s meets =
        let k = kind_of form in
        let n = width (kind_of form) in
        let v = register s (operands_of form).rs2 in
        let xs = little_bytes (width (kind_of form)) (register s (operands_of form).rs2) in
        let size : length (little_bytes (width (kind_of form)) (register s (operands_of form).rs2)) ≡ width (kind_of form) = length-low_first 0 (width (kind_of form)) (register s (operands_of form).rs2) in
        let within : o + width (kind_of form) ≤ length meets.data_bytes = omega (arith, is.within, meets.size) in
        let fits : o + length (little_bytes (width (kind_of form)) (register s (operands_of form).rs2)) ≤ length meets.data_bytes = omega arith in
        let after = put_mid o (length xs) meets.data_bytes xs in
        let there : stored (address (operands_of form).rs1 (operands_of form).imm s) xs s.segments ≡ Some (layout words after) =
        ap (λ q. stored q xs s.segments) (leads_to_bytes words c damage s (operands_of form).rs1 o n (operands_of form).imm is meets) ∙ ap (stored (data_base + o) xs) meets.segments
        ∙ stored-data words meets.data_bytes xs o fits in
        let goes : step s ≡ Continues (next (record s { segments = layout words after })) = step_here words c damage s form meets placed.stands.0 ∙ act-stores form s group ∙ ap (λ b. kept b s) there in
        let at : plus64 c.pc 4 ≡ c.pc + 4 = omega (arith, placed.room) in
        record {
          state = next (record s { segments = layout words after });
          goes = goes;
          meets = record {
            data_bytes = after;
            pc = ap (λ q. plus64 q 4) meets.pc ∙ at;
            regs = meets.regs;
            wide = meets.wide;
            count = meets.count;
            segments = refl;
            size = length-written o meets.data_bytes xs fits ∙ meets.size;
            small = small-written o meets.data_bytes xs meets.small (small-low_first 0 n v);
            slots = slots-written c.slots o n damage meets.data_bytes xs within size meets.slots;
            bytes = bytes-written c.bytes o n value meets.data_bytes xs within size (value_bytes n v value (sure_value c (operands_of form).rs2 v value damage sure (meets.regs (operands_of form).rs2))) meets.bytes;
            input = meets.input;
            out = meets.out;
          };
        }
