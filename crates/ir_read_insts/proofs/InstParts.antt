-- Three parts of an instruction that were read one after another.
use Rattle.std.proofs.Common.{◌≡◌, ℕ, Bool, true, ◌&&◌, List, length}
use Rattle.grammar.specs.Reader.{Got, Reader, run_seq}
use Rattle.ir_lex.specs.Symbols.{Symbol}
use Rattle.ir_tree.specs.NameTable.{Grows}
use Rattle.ir_tree.proofs.Table.{grows_on}
use Rattle.ir_tree.proofs.Grows.{and_both}
use Rattle.ir_read_consts.proofs.NamedItems.{Keeps}
use Rattle.ir_read_insts.proofs.ValueParts.{both_known, stays_one, seq_read}

-- the first two are known under the tables that they were read with, and the third under the last one
pub three_known : {A B V W : Type 0} {shape : List (List ℕ) → A → V} {known : ℕ → A → Bool} {second_shape : List (List ℕ) → B → W} {second_known : ℕ → B → Bool}
    → Keeps shape known → Keeps second_shape second_known → {one two new : List (List ℕ)} → Grows one two → Grows two new
    → (x : A) (y : B) → known (length one) x ≡ true → second_known (length two) y ≡ true → {third : Bool} → third ≡ true
    → (known (length new) x && second_known (length new) y && third) ≡ true
three_known keeps also g h x y k l m = and_both (both_known keeps (grows_on g h) x k (stays_one also h y l)) m

-- two parts, and then what is read under more names
pub three_read : {A B V W X : Type 0} {shape : List (List ℕ) → A → V} {known : ℕ → A → Bool} {second_shape : List (List ℕ) → B → W} {second_known : ℕ → B → Bool}
    → Keeps shape known → Keeps second_shape second_known → {one two new : List (List ℕ)} → Grows one two → Grows two new
    → (x : A) (y : B) → known (length one) x ≡ true → second_known (length two) y ≡ true → (a : Reader Symbol V) (b : Reader Symbol W) (r : Reader Symbol X)
    → (ts : List Symbol) {p q rest : List Symbol} {z : X} → a ts ≡ Got (shape one x) p → b p ≡ Got (second_shape two y) q → r q ≡ Got z rest
    → run_seq a (run_seq b r) ts ≡ Got (shape new x, (second_shape new y, z)) rest
three_read keeps also g h x y k l a b r ts e f i = seq_read keeps (grows_on g h) a (run_seq b r) ts x k e (seq_read also h b r _ y l f i)
