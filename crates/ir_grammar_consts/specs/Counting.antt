-- Where the first bracket is that is the 65th open one, by counting from left to right.
use Rattle.std.specs.Prelude.{ℕ, suc, ◌==◌, List, [], ◌∷◌, Option, None, Some, if◌then◌else◌, option_map}
use Rattle.ir_lex.specs.Symbols.{Symbol}
use Rattle.ir_grammar_consts.specs.Depth.{open_after}

-- how many symbols there are up to and with it, where n brackets are open before them
unfoldable pub deep_len : ℕ → List Symbol → Option ℕ
deep_len n [] = None
deep_len n (t ∷ ts) = if open_after n t == 65 then Some 1 else option_map suc (deep_len (open_after n t) ts)
