-- Lists of points where a program stays vulnerable, and their text.
use Rattle.std.specs.Prelude.{◌≡◌, ℕ, List, [], ◌∷◌, ◌++◌, ◌-◌, ◌<◌, ◌^◌, ◌⊎◌, length, replicate, false, codes, decimal, AllPairs}
use Rattle.std.specs.List.{flat_map}
use Rattle.std.specs.Fmt.{digits}
use Rattle.point_list.specs.declared.list.Point.{Point}

-- at a lower address, or at the same one with a lower register
abbrev pub IsBefore : Point → Point → Type 0
IsBefore p q = (p.pc < q.pc) ⊎ ((p.pc ≡ q.pc) × (p.reg < q.reg))

-- by address and then register, each once
abbrev pub AreSorted : List Point → Type 0
AreSorted points = AllPairs IsBefore points

-- an address in lower-case hexadecimal, with zeros before it up to eight digits
abbrev pub address : ℕ → List ℕ
address pc = replicate (8 - length (digits 16 false pc)) 48 ++ digits 16 false pc

-- the line of a point: its address, and its register by number
abbrev pub point_line : Point → List ℕ
point_line point = address point.pc ++ (codes " x" ++ (decimal point.reg ++ 10 ∷ []))

-- the text of a list: a line with the number of points, and a line a point
abbrev pub points_text : List Point → List ℕ
points_text points = codes "points " ++ (decimal (length points) ++ (10 ∷ flat_map point_line points))

-- an address of 64 bits, and a register by number
pub record IsPoint (point : Point) : Type 0 where
  pub address : point.pc < 2 ^ 64
  pub register : point.reg < 32
