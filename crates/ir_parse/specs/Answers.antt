-- What the reader of modules answers.
use Rattle.std.specs.Prelude.{◌≡◌, ℕ, ◌+◌, ◌<◌, ◌≤◌, List, ◌++◌, length, drop, take, Result, Ok, Err}
use Rattle.grammar.specs.Reader.{Wrong}
use Rattle.grammar.specs.FirstWrong.{ReadsAll}
use Rattle.grammar.specs.declared.Stop.{Stop}
use Rattle.grammar.specs.declared.Stop.TheVariants as stop
use Rattle.ir_tree.specs.ShapeOf.{module_shape}
use Rattle.ir_tree.specs.declared.parsed.Parsed.{Parsed}
use Rattle.ir_lex.specs.Symbols.{Symbol, symbols_of}
use Rattle.ir_lex.specs.declared.token.Token.{Token}
use Rattle.ir_grammar_consts.specs.Depth.{IsTooDeep}
use Rattle.ir_const.specs.Places.{place_of}
use Rattle.ir_grammar_modules.specs.Modules.{whole_module}
use Rattle.ir_parse.specs.declared.error.ParseError.{ParseError}
use Rattle.ir_parse.specs.declared.error.ParseError.TheVariants.{Deep, Syntax, OutOfMemory}

-- at most 64 brackets are open at once
abbrev pub AreShallow : List Symbol → Type 0
AreShallow ss = (front rest : List Symbol) → ss ≡ front ++ rest → IsTooDeep 0 front → ⊥

-- the error where the reader of the items stopped so
abbrev pub error_of : List ℕ → List Token → Stop → ParseError
error_of text toks (stop.WrongSymbol k) = Syntax (place_of text toks k)
error_of text toks stop.OutOfMemory = OutOfMemory

-- the place of the first wrong token, where the tokens spell no module
abbrev pub IsWrongAt : List ℕ → List Token → ℕ → Type 0
IsWrongAt text toks at =
    (k : ℕ) × (k ≤ length toks) × (at ≡ place_of text toks k) × ReadsAll whole_module (symbols_of text toks) (Wrong (drop k (symbols_of text toks)))

-- the place of the first bracket that is the 65th open one
abbrev pub IsDeepAt : List ℕ → List Token → ℕ → Type 0
IsDeepAt text toks at = (k : ℕ) × (k < length toks) × (at ≡ place_of text toks k) × IsTooDeep 0 (take (k + 1) (symbols_of text toks))

-- the module that the tokens spell, all of them, or the place of the first wrong one, however many brackets are open
abbrev pub ReadsWhole : List ℕ → List Token → Result Parsed ParseError → Type 0
ReadsWhole text toks (Ok parsed) = whole_module (symbols_of text toks) (module_shape parsed.«module»)
ReadsWhole text toks (Err (Syntax at)) = IsWrongAt text toks at
ReadsWhole text toks (Err (Deep at)) = ⊥
ReadsWhole text toks (Err OutOfMemory) = Unit {0}

-- `Ok`: the module that the tokens spell, and at most 64 brackets are open at once.
-- `Syntax`: the place of the first wrong token, where the tokens spell no module and at most 64 brackets are open at once.
-- `Deep`: the place of the first bracket that is the 65th open one.
abbrev pub Parses : List ℕ → List Token → Result Parsed ParseError → Type 0
Parses text toks (Ok parsed) = whole_module (symbols_of text toks) (module_shape parsed.«module») × AreShallow (symbols_of text toks)
Parses text toks (Err (Syntax at)) = IsWrongAt text toks at × AreShallow (symbols_of text toks)
Parses text toks (Err (Deep at)) = IsDeepAt text toks at
Parses text toks (Err OutOfMemory) = Unit {0}
