-- How many brackets are open, and where there are too many.
use Rattle.std.specs.Prelude.{◌≡◌, ℕ, ◌+◌, ◌-◌, ◌==◌, ◌||◌, ◌≤◌, Bool, List, [], ◌∷◌, ◌++◌, if◌then◌else◌}
use Rattle.grammar.specs.Language.{Lang}
use Rattle.grammar.specs.FirstWrong.{Begins}
use Rattle.ir_lex.specs.Symbols.{Symbol, MarkSymbol}

-- `(`, `[`, `{` and `<`
abbrev pub is_opening : ℕ → Bool
is_opening b = (b == 40) || (b == 91) || (b == 123) || (b == 60)

-- `)`, `]`, `}` and `>`
abbrev pub is_closing : ℕ → Bool
is_closing b = (b == 41) || (b == 93) || (b == 125) || (b == 62)

-- how many brackets are open after a symbol, where n are open before it
abbrev pub open_after : ℕ → Symbol → ℕ
open_after n (MarkSymbol b) = if is_opening b then n + 1 else (if is_closing b then n - 1 else n)
open_after n _ = n

-- how many brackets are open after these symbols, where n are open before them
unfoldable pub open_from : ℕ → List Symbol → ℕ
open_from n [] = n
open_from n (t ∷ ts) = open_from (open_after n t) ts

-- the last of these symbols is a bracket, which is the first one that is the 65th open one, where n are open before them
pub record IsTooDeep (n : ℕ) (front : List Symbol) : Type 0 where
  pub before : List Symbol
  pub bracket : Symbol
  pub cut : front ≡ before ++ bracket ∷ []
  pub count : open_from n front ≡ 65
  pub first : (p q : List Symbol) → before ≡ p ++ q → open_from n p ≤ 64

-- the symbols up to and with the first bracket that is the 65th open one begin a list that spells something
pub record IsDeep {V : Type 0} (L : Lang Symbol V) (front : List Symbol) : Type 0 where
  pub deep : IsTooDeep 0 front
  pub begins : Begins L front

-- no symbols that ts begins with do so
abbrev pub IsShallow : {V : Type 0} → Lang Symbol V → List Symbol → Type 0
IsShallow L ts = (front rest : List Symbol) → ts ≡ front ++ rest → IsDeep L front → ⊥
