-- Pieces that were appended one after another stand as one list after what was there before.
use Rattle.std.proofs.Common.{◌≡◌, ℕ, List, ◌++◌, append_assoc}

-- the eight fields of a program header
pub append-eight : (o b1 b2 b3 b4 b5 b6 b7 b8 : List ℕ)
    → o ++ b1 ++ b2 ++ b3 ++ b4 ++ b5 ++ b6 ++ b7 ++ b8 ≡ o ++ (b1 ++ b2 ++ b3 ++ b4 ++ b5 ++ b6 ++ b7 ++ b8)
append-eight o b1 b2 b3 b4 b5 b6 b7 b8 = simp append_assoc

-- the identification and the thirteen fields of a file header
pub append-fourteen : (o b1 b2 b3 b4 b5 b6 b7 b8 b9 b10 b11 b12 b13 b14 : List ℕ)
    → o ++ b1 ++ b2 ++ b3 ++ b4 ++ b5 ++ b6 ++ b7 ++ b8 ++ b9 ++ b10 ++ b11 ++ b12 ++ b13 ++ b14 ≡ o ++ (b1 ++ b2 ++ b3 ++ b4 ++ b5 ++ b6 ++ b7 ++ b8 ++ b9 ++ b10 ++ b11 ++ b12 ++ b13 ++ b14)
append-fourteen o b1 b2 b3 b4 b5 b6 b7 b8 b9 b10 b11 b12 b13 b14 = simp append_assoc
