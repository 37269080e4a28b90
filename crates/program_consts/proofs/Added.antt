-- Bytes that are added to pieces.
use Rattle.std.proofs.Common.{◌≡◌, ◌≤◌, ℕ, zero, suc, List, [], ◌∷◌, ◌++◌, arith, refl, sym, ap, ap₂, subst, ◌∙◌, append_assoc, append-nil, replicate, take}
use Rattle.std.specs.Int.{byte_at, bytes_low_first}
use Rattle.std.proofs.lemmas.Grind.{flat_map-append}
use Rattle.ir_model.specs.Values.{Cell}
use Rattle.ir_program.specs.Bytes.{HasByte}
use Rattle.program_tables.specs.declared.program.Piece.{Piece}
use Rattle.program_tables.specs.Shapes.{piece_cells}
use Rattle.program_consts.specs.declared.pieces.Pieces.{Pieces}
use Rattle.program_consts.specs.Pieces.{AreBytes, HoldsCells, HasCells}

pub joined : (xs ys : List Cell) → AreBytes xs → AreBytes ys → AreBytes (xs ++ ys)
joined [] ys all more = more
joined (x ∷ xs) ys all more = (all.0, joined xs ys all.1 more)

pub replicated : (n : ℕ) (c : Cell) → HasByte c → AreBytes (replicate n c)
replicated zero c is = tt
replicated (suc n) c is = (is, replicated n c is)

-- a piece more
pub piece_more : (cells : List Cell) (pieces : List Piece) (x : Piece) → HoldsCells cells pieces → AreBytes (piece_cells x)
    → HoldsCells (cells ++ piece_cells x) (pieces ++ x ∷ [])
piece_more cells pieces x h bytes = record {
  holds = flat_map-append piece_cells pieces (x ∷ []) ∙ ap₂ (λ (a b : List Cell). a ++ b) h.holds (append-nil (piece_cells x));
  bytes = joined cells (piece_cells x) h.bytes bytes;
}

-- what is added so far: what is left makes it whole
pub record Adds (cells whole left : List Cell) (out : Pieces) : Type 0 where
  pub so_far : List Cell
  pub has : HasCells so_far out
  pub missing : so_far ++ left ≡ cells ++ whole

pub adds_all : (cells whole : List Cell) (out : Pieces) → HasCells cells out → Adds cells whole whole out
adds_all cells whole out has = record { so_far = cells; has = has; missing = refl }

pub adds_more : (cells whole left x rest : List Cell) (out more : Pieces) (a : Adds cells whole left out) → left ≡ x ++ rest → HasCells (a.so_far ++ x) more
    → Adds cells whole rest more
adds_more cells whole left x rest out more a is has = record {
  so_far = a.so_far ++ x;
  has = has;
  missing = append_assoc a.so_far x rest ∙ ap (λ (z : List Cell). a.so_far ++ z) (sym is) ∙ a.missing;
}

pub adds_none : (cells whole left : List Cell) (out : Pieces) → Adds cells whole left out → left ≡ [] → HasCells (cells ++ whole) out
adds_none cells whole left out a none =
    subst (λ (z : List Cell). HasCells z out) (sym (append-nil a.so_far) ∙ ap (λ (z : List Cell). a.so_far ++ z) (sym none) ∙ a.missing) a.has

-- the low bytes of a number
pub low_bytes : (i n k x : ℕ) → k ≤ n → take k (bytes_low_first i n x) ≡ bytes_low_first i k x
low_bytes i n zero x le = refl
low_bytes i zero (suc k) x le = absurd (omega (arith, le))
low_bytes i (suc n) (suc k) x le = ap (λ (z : List ℕ). byte_at i x ∷ z) (low_bytes (suc i) n k x (omega (arith, le)))
