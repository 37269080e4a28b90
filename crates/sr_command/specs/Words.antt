-- The forms of words that the command takes.
use Rattle.std.specs.Prelude.{List, [], ◌∷◌, ℕ, ◌^◌, Bool, ◌&&◌, not, nat_lt, nat_le, Option, Some, None, codes, decimal, if◌then◌else◌}
use Rattle.std.specs.Str.{bytes_eq}
use Rattle.std.specs.Str.Parse.{digits_value}
use Rattle.rv_model.specs.declared.Flip.{Flip}

-- a form of words, with the names and the numbers that it gives; the input of a program is the empty one where it has no name
pub data Form : Type 0 where
  compile : (input output : List ℕ) → Form
  execute : (program : List ℕ) (input : Option (List ℕ)) (steps : ℕ) (flip : Option Flip) → Form
  evaluate : (text : List ℕ) (input : Option (List ℕ)) (steps : ℕ) → Form
  disasm : (program : List ℕ) → Form
  print : (input : List ℕ) → Form

-- a word that names a file: it is neither empty nor `-`
abbrev pub is_name : List ℕ → Bool
is_name word = not (bytes_eq word []) && not (bytes_eq word (codes "-"))

-- the number below 2 ^ 32 that the word is in decimal: digits without a sign, and without a zero before them
abbrev pub number_of : List ℕ → Option ℕ
number_of word =
    if nat_lt (digits_value 10 word) (2 ^ 32) && bytes_eq word (decimal (digits_value 10 word)) then Some (digits_value 10 word) else None

-- the number, where it is from low to high
abbrev pub within : ℕ → ℕ → Option ℕ → Option ℕ
within low high None = None
within low high (Some n) = if nat_le low n && nat_le n high then Some n else None

-- the flip of these three numbers
abbrev pub flip_with : Option ℕ → Option ℕ → Option ℕ → Option Flip
flip_with (Some at) (Some reg) (Some bit) = Some (record { at = at; reg = reg; bit = bit })
flip_with _ _ _ = None

-- the flip of three words: the number of an instruction, a register from 1 to 31, and a bit from 0 to 63
abbrev pub flip_of : List ℕ → List ℕ → List ℕ → Option Flip
flip_of at reg bit = flip_with (number_of at) (within 1 31 (number_of reg)) (within 0 63 (number_of bit))

-- the name of the input's file: `-` is the empty input, which has none
abbrev pub input_of : List ℕ → Option (List ℕ)
input_of word = if bytes_eq word (codes "-") then None else Some word

-- the form of EXE, INPUT and a number of steps, with a flip or with none
abbrev pub execution : List ℕ → List ℕ → Option ℕ → Option Flip → Option Form
execution program input None flip = None
execution program input (Some steps) flip =
    if is_name program && not (bytes_eq input []) then Some (execute program (input_of input) steps flip) else None

-- the same, where there is a flip
abbrev pub flipped_execution : List ℕ → List ℕ → Option ℕ → Option Flip → Option Form
flipped_execution program input steps None = None
flipped_execution program input steps (Some flip) = execution program input steps (Some flip)

-- the form of IN, INPUT and a number of steps
abbrev pub evaluation : List ℕ → List ℕ → Option ℕ → Option Form
evaluation text input None = None
evaluation text input (Some steps) =
    if is_name text && not (bytes_eq input []) then Some (evaluate text (input_of input) steps) else None

-- the form of a command's name and one more word: `disasm EXE` or `print IN`
abbrev pub two_words : List ℕ → List ℕ → Option Form
two_words command file =
    if bytes_eq command (codes "disasm") && is_name file then Some (disasm file)
    else (if bytes_eq command (codes "print") && is_name file then Some (print file) else None)

-- that of `compile IN OUT`
abbrev pub three_words : List ℕ → List ℕ → List ℕ → Option Form
three_words command first second =
    if bytes_eq command (codes "compile") && (is_name first && is_name second) then Some (compile first second) else None

-- that of `run EXE INPUT STEPS` or `eval IN INPUT STEPS`
abbrev pub four_words : List ℕ → List ℕ → List ℕ → List ℕ → Option Form
four_words command file input steps =
    if bytes_eq command (codes "run") then execution file input (number_of steps) None
    else (if bytes_eq command (codes "eval") then evaluation file input (number_of steps) else None)

-- that of `flip EXE INPUT STEPS N R B`
abbrev pub seven_words : List ℕ → List ℕ → List ℕ → List ℕ → Option Flip → Option Form
seven_words command program input steps flip =
    if bytes_eq command (codes "flip") then flipped_execution program input (number_of steps) flip else None

-- the form that the words have; any other words have none
abbrev pub form_of : List (List ℕ) → Option Form
form_of (command ∷ file ∷ []) = two_words command file
form_of (command ∷ first ∷ second ∷ []) = three_words command first second
form_of (command ∷ file ∷ input ∷ steps ∷ []) = four_words command file input steps
form_of (command ∷ program ∷ input ∷ steps ∷ at ∷ reg ∷ bit ∷ []) = seven_words command program input steps (flip_of at reg bit)
form_of _ = None
