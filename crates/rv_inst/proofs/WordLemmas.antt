-- The word of an instruction and the instruction of a word are each other's.
use Rattle.std.proofs.Common.{◌≡◌, ℕ, ◌<◌, ◌^◌, ◌↔◌, Option, Some, None, refl, sym, ◌∙◌, ap, subst}
use Rattle.rv_inst.specs.declared.table.Kind.{Kind}
use Rattle.rv_inst.specs.declared.table.Fields.{Fields}
use Rattle.rv_inst.specs.declared.table.Format.{Format}
use Rattle.rv_inst.specs.declared.table.Format.TheVariants.{Upper}
use Rattle.rv_inst.specs.declared.instruction.Form.{Form}
use Rattle.rv_inst.specs.Table.{row}
use Rattle.rv_inst.specs.Forms.{kind_of, operands_of, form_of}
use Rattle.rv_inst.specs.Format.{IsCut, number, fields_at, fields_of, operands_in}
use Rattle.rv_inst.specs.Word.{Fits, Word, kind_at, form_in, form_at}
use Rattle.rv_inst.proofs.EachKind.{trim, kind_of-form_of, operands_of-form_of, form_of-trim, form_of-kind_of, row_fits, kind_at-fields_of}
use Rattle.rv_inst.proofs.EachFormat.{number-fields_at, cut-fields_at, number_fits, fields_at-number, operands_in-fields_of, fits-operands_in, cut-fields_of, fields_of-operands_in}
use Rattle.rv_inst.proofs.Lookup.{kind_at_matches, kind_by_opcode_is}
use Rattle.rv_inst.specs.Opcodes.{kind_by_opcode}

-- trimmed operands of the format stay as they are
trim-operands_in : (k : Kind) (f : Fields) → trim ((row k).format) (operands_in ((row k).format) f) ≡ operands_in ((row k).format) f
trim-operands_in k f = by_format ((row k).format)
  where
    by_format : (format : Format) → trim format (operands_in format f) ≡ operands_in format f
    by_format Upper = refl
    by_format _ = refl

-- the form that fields give has its ranges, and these operands
pub operands_of-made : (k : Kind) (f : Fields) → operands_of (form_of k (operands_in ((row k).format) f)) ≡ operands_in ((row k).format) f
operands_of-made k f = operands_of-form_of k (operands_in ((row k).format) f) ∙ trim-operands_in k f

pub made_fits : (k : Kind) (f : Fields) → IsCut f → Fits (form_of k (operands_in ((row k).format) f))
made_fits k f c =
    rw (kind_of-form_of k (operands_in ((row k).format) f), operands_of-made k f) (fits-operands_in ((row k).format) f c)

made_word : (k : Kind) (w : ℕ) → w < 2 ^ 32 → kind_at (fields_at w) ≡ Some k → Word w (form_of k (operands_in ((row k).format) (fields_at w)))
made_word k w small e =
    let f = fields_at w in
    let c = cut-fields_at w small in
    let same = fields_of-operands_in ((row k).format) (row k) f c (kind_at_matches f k e) in
    let word : w ≡ number (fields_of ((row k).format) (row k) (operands_in ((row k).format) f)) = sym (ap number same ∙ number-fields_at w small) in
    (made_fits k f c, rw (kind_of-form_of k (operands_in ((row k).format) f), operands_of-made k f) word)

-- a word's instruction has that word
pub word_of_form_at : (w : ℕ) (i : Form) → w < 2 ^ 32 → form_at w ≡ Some i → Word w i
unfolding form_at
word_of_form_at w i small e = by_kind (kind_at (fields_at w)) refl e
  where
    by_kind : (o : Option Kind) → kind_at (fields_at w) ≡ o → form_in o (fields_at w) ≡ Some i → Word w i
    by_kind None q r = absurd (cc)
    by_kind (Some k) q r =
        let same : form_of k (operands_in ((row k).format) (fields_at w)) ≡ i = cc in
        let P : Form → Type 0 = λ i. Word w i in
        subst P same (made_word k w small q)

-- the fields of an instruction's word
pub cut_fields : (i : Form) → Fits i → IsCut (fields_of ((row (kind_of i)).format) (row (kind_of i)) (operands_of i))
cut_fields i h = cut-fields_of ((row (kind_of i)).format) (row (kind_of i)) (operands_of i) (row_fits (kind_of i)) h

-- an instruction's word is below 2^32
pub word_small : (w : ℕ) (i : Form) → Word w i → w < 2 ^ 32
word_small w i h =
    let P : ℕ → Type 0 = λ v. v < 2 ^ 32 in
    subst P (sym h.1) (number_fits _ (cut_fields i h.0))

-- the instruction of an instruction's word is that instruction
pub form_at_word : (w : ℕ) (i : Form) → Word w i → form_at w ≡ Some i
unfolding form_at
form_at_word w i h =
    let k = kind_of i in
    let o = operands_of i in
    let fields : fields_at w ≡ fields_of ((row (kind_of i)).format) (row (kind_of i)) (operands_of i) = ap fields_at h.1 ∙ fields_at-number _ (cut_fields i h.0) in
    let found : kind_at (fields_at w) ≡ Some (kind_of i) = ap kind_at fields ∙ kind_at-fields_of (kind_of i) (operands_of i) in
    let kept : operands_in ((row (kind_of i)).format) (fields_at w) ≡ trim ((row (kind_of i)).format) (operands_of i) =
    ap (operands_in ((row (kind_of i)).format)) fields ∙ operands_in-fields_of ((row (kind_of i)).format) (row (kind_of i)) (operands_of i) h.0 in
    let made : form_of (kind_of i) (operands_in ((row (kind_of i)).format) (fields_at w)) ≡ i =
    ap (form_of (kind_of i)) kept ∙ form_of-trim (kind_of i) (operands_of i) ∙ form_of-kind_of i in
    ap (λ o. form_in o (fields_at w)) found ∙ ap Some made

pub word_iff : (w : ℕ) (i : Form) → w < 2 ^ 32 → (form_at w ≡ Some i) ↔ Word w i
word_iff w i small = (word_of_form_at w i small, form_at_word w i)

-- no word has two instructions
pub word_functional : (w : ℕ) (i j : Form) → Word w i → Word w j → i ≡ j
word_functional w i j a b = let e : Some i ≡ Some j = sym (form_at_word w i a) ∙ form_at_word w j b in cc

-- what the look-up by opcode says of a word
pub form_at_found : (w : ℕ) (k : Kind) → w < 2 ^ 32 → kind_by_opcode (fields_at w) ≡ Some k → form_at w ≡ Some (form_of k (operands_in ((row k).format) (fields_at w)))
unfolding form_at
form_at_found w k small e = ap (λ o. form_in o (fields_at w)) (sym (kind_by_opcode_is (fields_at w) (cut-fields_at w small)) ∙ e)

pub form_at_missing : (w : ℕ) → w < 2 ^ 32 → kind_by_opcode (fields_at w) ≡ None → form_at w ≡ None
unfolding form_at
form_at_missing w small e = ap (λ o. form_in o (fields_at w)) (sym (kind_by_opcode_is (fields_at w) (cut-fields_at w small)) ∙ e)

-- the instruction of a word is in its ranges
pub form_at_fits : (w : ℕ) (i : Form) → w < 2 ^ 32 → form_at w ≡ Some i → Fits i
form_at_fits w i small e = (word_of_form_at w i small e).0

-- an answer that is the look-up's says exactly which word it is
pub exact_answer : (w : ℕ) (o : Option Form) → w < 2 ^ 32 → o ≡ form_at w → (i : Form) → (o ≡ Some i) ↔ Word w i
exact_answer w o small e i = ((λ h. word_of_form_at w i small (sym e ∙ h)), (λ h. e ∙ form_at_word w i h))
